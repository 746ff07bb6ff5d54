use Rattle.std.proofs.Common.{◌≡◌, ◌++◌, drop, replicate}
use Rattle.session.proofs.making.fill.Given as goal

-- so far: the places up to here have the version
abbrev pub invariant-loop-i : goal.invariant-loop-i
invariant-loop-i g l = l.places ≡ replicate l.i l.version ++ drop l.i l.initial.places
