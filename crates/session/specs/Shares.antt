-- What a call at one suite sees and may change. The rules of such calls are defined on this alone, so that two suites have only the
-- line in common.
--
--   Share           a suite, its own part of both memories, and the line
--   nobody          what stands for a suite that is not there
--   share_of        the share of a suite
--   replaced        a list with a part of it replaced
--   with_share      the world with a suite's share put back
--   slot_of         the state of a slot
--   with_slot       the share with a slot in another state
--   check_suite     whether a call at a suite is refused before the rule of the call, and why
--   check_slot      whether a call at a slot is
--   at_share        what a call at a suite answers
--   at_slot         what a call at a slot answers
--   left_at         what a call at a suite leaves
use Rattle.std.specs.Prelude.{ℕ, ◌+◌, ◌-◌, ◌*◌, if◌then◌else◌, ◌||◌, List, [], ◌++◌, length, take, drop, Ok, Err, Result, slice_index_or, slice_set}
use Rattle.std.specs.List.{between}
use Rattle.limits.specs.Limits.{places_each, slots_each, most_writes, outside}
use Rattle.lines.specs.Lines.{LineState}
use Rattle.messages.specs.declared.parts.Write.{Write}
use Rattle.refusals.specs.declared.Refusal.{Refusal}
use Rattle.refusals.specs.declared.Refusal.TheVariants.{MemorySize, NoSuchSlot}
use Rattle.session.specs.States.{SlotState, idle, SuiteState, World, unfit, after}
use Rattle.session.specs.declared.place.Place.{Place}

-- a suite, its own part of both memories, and the line, which all suites have in common
pub record Share (T : Type 0) : Type 0 where
  pub suite : SuiteState
  pub places : List (Place T)
  pub writes : List (Write T)
  pub line : LineState

-- what stands for a suite that is not there
abbrev pub nobody : SuiteState
nobody = record { stamp = 0; taken = 0; slots = [] }

-- a list with a part of it replaced, from `at` on
abbrev pub replaced : {X : Type 0} → List X → ℕ → List X → List X
replaced xs at part = take at xs ++ (part ++ drop (at + length part) xs)

module _ {T : Type 0} where
  -- the share of suite u, which counts from 1
  abbrev pub share_of : World T → ℕ → Share T
  share_of w u =
      let each = length w.session.nodes * places_each in
      let room = slots_each * most_writes in
      record {
        suite = slice_index_or w.session.suites (u - 1) nobody;
        places = between ((u - 1) * each) ((u - 1) * each + each) w.places;
        writes = between ((u - 1) * room) ((u - 1) * room + room) w.writes;
        line = w.line;
      }

  -- the world with the share of suite u put back
  abbrev pub with_share : World T → ℕ → Share T → World T
  with_share w u share = record {
    session = record { nodes = w.session.nodes; suites = slice_set w.session.suites (u - 1) share.suite };
    places = replaced w.places ((u - 1) * (length w.session.nodes * places_each)) share.places;
    writes = replaced w.writes ((u - 1) * (slots_each * most_writes)) share.writes;
    line = share.line;
  }

  -- the state of slot s, which counts from 1
  abbrev pub slot_of : Share T → ℕ → SlotState
  slot_of share s = slice_index_or share.suite.slots (s - 1) idle

  -- the share with slot s in another state
  abbrev pub with_slot : Share T → ℕ → SlotState → Share T
  with_slot share s slot = record share { suite = record share.suite { slots = slice_set share.suite.slots (s - 1) slot } }

  -- ---- calls at a suite

  -- whether a call at suite u is refused before anything else is asked, and why: the memories, then the suite
  abbrev pub check_suite : World T → ℕ → Result (Unit {0}) Refusal
  check_suite w u =
      if unfit w then Err MemorySize else if outside (length w.session.suites) u then Err NoSuchSlot else Ok tt

  -- whether a call at slot s of suite u is: the memories, the suite, the slot
  abbrev pub check_slot : World T → ℕ → ℕ → Result (Unit {0}) Refusal
  check_slot w u s =
      if unfit w then Err MemorySize
      else if outside (length w.session.suites) u || outside slots_each s then Err NoSuchSlot
      else Ok tt

  -- what a call answers that is checked so, and whose rule on the share of suite u answers so
  abbrev pub at_share : {A : Type 0} → Result (Unit {0}) Refusal → World T → ℕ → (Share T → Result A Refusal) → Result A Refusal
  at_share (Ok _) w u rule = rule (share_of w u)
  at_share (Err why) w u rule = Err why

  -- what a call at slot s of suite u answers whose rule is this
  abbrev pub at_slot : {A : Type 0} → World T → ℕ → ℕ → (Share T → Result A Refusal) → Result A Refusal
  at_slot w u s rule = at_share (check_slot w u s) w u rule

  -- what a call at suite u leaves that was answered so, if an accepted one leaves such a share
  abbrev pub left_at : {A : Type 0} → Result A Refusal → World T → ℕ → (A → Share T → Share T) → World T
  left_at answer w u leaves = after answer (λ a. with_share w u (leaves a (share_of w u))) w
