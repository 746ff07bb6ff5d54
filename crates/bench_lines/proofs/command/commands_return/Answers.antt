use Rattle.bench_lines.proofs.Limits.{limited_returns}
use Rattle.bench_lines.proofs.Ranges.{read_is_asked}
use Rattle.bench_lines.proofs.Returning.{command_returns}
use Rattle.bench_lines.proofs.command.commands_return.Goals as goal

pub returns : goal.returns
returns c = record { read = command_returns; within = limited_returns; any = read_is_asked }
