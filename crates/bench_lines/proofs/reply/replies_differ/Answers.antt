use Rattle.bench_lines.proofs.Replying.{replies_differ_lem}
use Rattle.bench_lines.proofs.reply.replies_differ.Goals as goal

pub returns : goal.returns
returns c = replies_differ_lem
