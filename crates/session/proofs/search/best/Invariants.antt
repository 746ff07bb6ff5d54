use Rattle.std.proofs.Common.{◌≡◌}
use Rattle.session.proofs.Searching.{found_from}
use Rattle.session.specs.Choosing.{within}
use Rattle.session.proofs.search.best.Given as goal

-- so far: the best of the places from here on
abbrev pub invariant-loop-i : goal.invariant-loop-i
invariant-loop-i g l = l.best ≡ found_from (within l.snapshot) l.versions l.i
