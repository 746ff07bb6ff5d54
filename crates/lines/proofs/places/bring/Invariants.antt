use Rattle.std.proofs.Common.{◌≤◌}
use Rattle.lines.specs.Places.{order, brought, Reordered}
use Rattle.lines.proofs.places.bring.Given as goal

-- so far: what stood at `from` has come to here
abbrev pub invariant-loop-i : goal.invariant-loop-i
invariant-loop-i l =
    (l.to ≤ l.i)
    × Reordered l.initial.bytes l.bytes (brought 0 l.i l.from (order l.initial.bytes))
