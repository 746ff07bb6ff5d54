use Rattle.std.proofs.Common.{refl, ap, vec_items}
use Rattle.std.proofs.lemmas.Grind.{put_two}
use Rattle.bench_lines.proofs.Nodes.{session_text}
use Rattle.bench_lines.specs.Commands.{asked}
use Rattle.bench_lines.proofs.command.CommandDisplay.fmt.Goals as goal

pub returns-after-loop-node-clause-writes : goal.returns-after-loop-node-clause-writes
returns-after-loop-node-clause-writes g c =
    λ plain ok.
    let first = c.in_ok-write-in-Make.ensures.writes plain refl in
    put_two _ _ _ _ _ _ _ first (c.loop-node.invariant first.plain)
    (session_text (asked c.args.self.now) c.in-Make.suites (vec_items c.in-Make.nodes) c.deref-node-items.result.now c.loop-node.node-index
    (ap asked c.in-Make.is) c.deref-node-items.ensures.value c.loop-node-test.false)
