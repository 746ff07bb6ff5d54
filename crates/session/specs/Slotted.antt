-- What a slot of the code is, as the rules see it.
--
--   opened_by       the state of a slot that is open with a move
--   slot_state      the state of a slot
use Rattle.session.specs.States.{SlotState, idle, opened, sent, ruled}
use Rattle.session.specs.declared.open_move.Move.{Move}
use Rattle.session.specs.declared.slot.Slot.{Slot}
use Rattle.session.specs.declared.slot.Slot.TheVariants.{Idle, Open, Sent, Ruled}

-- the state of a slot that is open with a move
abbrev pub opened_by : Move → SlotState
opened_by m = opened m.snapshot m.reads.items m.writes

-- the state of a slot
abbrev pub slot_state : Slot → SlotState
slot_state Idle = idle
slot_state (Open m) = opened_by m
slot_state Sent = sent
slot_state (Ruled outcome) = ruled outcome
