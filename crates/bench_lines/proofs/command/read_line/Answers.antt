use Rattle.bench_lines.proofs.Limits.{limited_read}
use Rattle.texts.specs.Buffers.{gathered}
use Rattle.bench_lines.proofs.command.read_line.Goals as goal

pub returns-clause-limited : goal.returns-clause-limited
returns-clause-limited c =
    λ text is. limited_read c.read_command.result (gathered c.args.line.now) c.in-Some.bytes.now text
    c.read_command.ensures.answer c.in-Some.ensures is
