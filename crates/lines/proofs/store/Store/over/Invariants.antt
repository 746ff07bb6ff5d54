use Rattle.std.proofs.Common.{◌≡◌, ℕ, ◌<◌, length}
use Rattle.lines.specs.Places.{link_at, rest}
use Rattle.lines.proofs.store.Store.over.Given as goal

-- so far: every place up to here links to itself, and nothing else is another
abbrev pub invariant-loop-i : goal.invariant-loop-i
invariant-loop-i g l =
    (length l.bytes ≡ length l.initial.bytes)
    × (rest l.bytes ≡ rest l.initial.bytes)
    × ((k : ℕ) → k < l.i → link_at l.bytes k ≡ k)
