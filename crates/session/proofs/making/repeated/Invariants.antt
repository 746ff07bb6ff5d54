use Rattle.std.proofs.Common.{◌≡◌, drop}
use Rattle.session.specs.Making.{repeated}
use Rattle.session.proofs.making.repeated.Given as goal

-- so far: none of the nodes up to here comes again
abbrev pub invariant-loop-i : goal.invariant-loop-i
invariant-loop-i l = repeated (drop l.i l.nodes) ≡ repeated l.nodes
