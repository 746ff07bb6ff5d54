use Rattle.std.proofs.Common.{◌≡◌, map}
use Rattle.session.proofs.Overwriting.{there}
use Rattle.session.specs.Choosing.{placed_all}
use Rattle.session.specs.Slotted.{slot_state}
use Rattle.messages.specs.Reading.{write_in}
use Rattle.session.proofs.taking.place_writes.Given as goal

-- so far: the first i writes are placed
abbrev pub invariant-loop-i : goal.invariant-loop-i
invariant-loop-i g l =
    l.places ≡ placed_all l.nodes (map slot_state l.slots) l.stamp l.initial.places (there (write_in g.S.Summary.kind g.T.Setting.kind l.message) 0 l.i)
