use Rattle.std.proofs.Common.{take}
use Rattle.std.specs.Fmt.{HasWritten, IsPlainFormatter}
use Rattle.bench_lines.proofs.Nodes.{nodes_text}
use Rattle.bench_lines.proofs.command.CommandDisplay.fmt.Given as goal

-- so far: the nodes up to here
abbrev pub invariant-loop-node : goal.invariant-loop-node
invariant-loop-node g l =
    IsPlainFormatter l.initial.f → HasWritten g.W.Write.write_str_gives l.initial.f (nodes_text (take l.node-index l.node-items)) l.f
