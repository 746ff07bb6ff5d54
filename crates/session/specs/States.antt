-- What a session is, as the rules see it, and what a call is handed. The code's `Session` and `Suite` have these records as their models,
-- and its `Slot` has its state by `slot_state`.
--
--   SlotState       what a slot of a suite holds
--   SuiteState      a suite
--   SessionState    a session
--   World           what every call is handed: the session, both memories, and what the line means
--   unfit_sizes     whether memories of these sizes, or a line of this limit, are not what so many suites and nodes need
--   unfit           whether the memories or the line are not of the size that the session needs
--   after           what is there after a call: what an accepted one leaves, or what was there before
--   After           the same, where it is not only one thing that an accepted call may leave
use Rattle.std.specs.Prelude.{◌≡◌, ℕ, ◌*◌, Bool, not, ◌||◌, List, length, Ok, Err, Result, ◌==◌}
use Rattle.limits.specs.Limits.{places_each, slots_each, most_writes}
use Rattle.lines.specs.Lines.{LineState, unusable}
use Rattle.messages.specs.declared.parts.Write.{Write}
use Rattle.refusals.specs.declared.Refusal.{Refusal}
use Rattle.session.specs.declared.place.Place.{Place}
use Rattle.session.specs.declared.ruling.Outcome.{Outcome}

-- a slot: idle; opened by a move, which has this snapshot, has read these nodes, in order of first read, and has its writes in
-- so many of the slot's write places; sent, and not ruled on yet at its own suite; ruled on
pub data SlotState : Type 0 where
  idle : SlotState
  opened : (snapshot : ℕ) (reads : List ℕ) (written : ℕ) → SlotState
  sent : SlotState
  ruled : Outcome → SlotState

-- a suite (a replica): how many commits it has applied, how many messages it has taken, and its slots, the first of which is slot 1
pub record SuiteState : Type 0 where
  pub stamp : ℕ
  pub taken : ℕ
  pub slots : List SlotState

-- a session: its node numbers, in their order, and its suites, the first of which is suite 1
pub record SessionState : Type 0 where
  pub nodes : List ℕ
  pub suites : List SuiteState

-- what every call is handed. The setting places are those of suite 1, then those of suite 2 and so on, and of each suite those of
-- the first node, then those of the second; the write places are those of suite 1, and of each suite those of slot 1
pub record World (T : Type 0) : Type 0 where
  pub session : SessionState
  pub places : List (Place T)
  pub writes : List (Write T)
  pub line : LineState

-- whether the setting places are not 5 for each node of each suite, the write places not 64 for each suite, or the line has no
-- place or too many
abbrev pub unfit_sizes : ℕ → ℕ → ℕ → ℕ → ℕ → Bool
unfit_sizes suites nodes places writes limit =
    not (places == suites * nodes * places_each) || not (writes == suites * (slots_each * most_writes)) || unusable limit

-- the same of a world
abbrev pub unfit : {T : Type 0} → World T → Bool
unfit w = unfit_sizes (length w.session.suites) (length w.session.nodes) (length w.places) (length w.writes) w.line.limit

-- what is there after a call that was answered so: what an accepted call leaves or, after a refused one, what was there before
abbrev pub after : {A X : Type 0} → Result A Refusal → (A → X) → X → X
after (Ok a) leaves before = leaves a
after (Err _) leaves before = before

-- the same, where an accepted call has a choice of what it leaves
abbrev pub After : {A X : Type 0} → Result A Refusal → (A → X → Type 0) → X → X → Type 0
After (Ok a) Leaves before now = Leaves a now
After (Err _) Leaves before now = now ≡ before
