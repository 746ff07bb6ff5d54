-- The calls at a slot as values: what they answer and leave, by the rules of each.
--
--   told            an answer of one call, as an answer of calls
--   share_with      a share of these parts
--   seen            what a call at a slot sees, as a share
--   step_in         what a call answers by the state of the slot
--   step_answer     what a call answers
--   step_leaves     what an accepted call leaves of the share
--   wrote           the slot after a write
--   slot_after      the slot after an accepted call
--   writes_after    the write places then
--   line_after      the line then
--   world           what a call is handed, of these parts
--   at_slot_answer  what a call at a slot answers, on the world
--   at_slot_leaves  what it leaves
--   UnlessStepSent  what holds unless a commit sent a message
--   NeverTooLong    a commit's message always has a length that a line takes
use Rattle.std.specs.Prelude.{◌≢◌, ℕ, ◌+◌, max, List, [], Ok, Err, Result, slice_set, ⊤}
use Rattle.std.specs.Result.{result_map_both}
use Rattle.lines.specs.Lines.{LineState}
use Rattle.messages.specs.declared.parts.Write.{Write}
use Rattle.refusals.specs.declared.Refusal.{Refusal}
use Rattle.refusals.specs.declared.Refusal.TheVariants.{MessageLength}
use Rattle.session.specs.Commits.{commit_in, with_message, UnlessSent}
use Rattle.session.specs.Shares.{Share, slot_of, with_slot, at_slot, left_at}
use Rattle.session.specs.Slots.{begin_in, read_in, read_into, write_in, write_at, first_write, abandon_in, collect_in}
use Rattle.session.specs.States.{SlotState, idle, opened, sent, SuiteState, SessionState, World}
use Rattle.session.specs.declared.place.Place.{Place}
use Rattle.session.specs.declared.ruling.CommitAnswer.TheVariants.{Sent}
use Rattle.session.specs.declared.slot_call.SlotAnswer.{SlotAnswer}
use Rattle.session.specs.declared.slot_call.SlotAnswer.TheVariants.{Began, Setting, Written, Committed, Abandoned, Collected}
use Rattle.session.specs.declared.slot_call.SlotCall.{SlotCall}
use Rattle.session.specs.declared.slot_call.SlotCall.TheVariants.{Begin, Read, Write as Writing, Commit, Abandon, Collect}
use Rattle.session.specs.declared.view.View.{View}
use Rattle.settings.specs.Kinds.{SettingKind}
use Rattle.summaries.specs.Kinds.{SummaryKind}

-- an answer of one call, as an answer of calls
abbrev pub told : {A B : Type 0} → (A → B) → Result A Refusal → Result B Refusal
told as_answer answer = result_map_both as_answer (λ why. why) answer

module _ {T : Type 0} where
  -- what a call is handed, of these parts
  abbrev pub world : SessionState → List (Place T) → List (Write T) → LineState → World T
  world session places writes line = record { session = session; places = places; writes = writes; line = line }

  -- a share of these parts
  abbrev pub share_with : SuiteState → List (Place T) → List (Write T) → LineState → Share T
  share_with suite places writes line = record { suite = suite; places = places; writes = writes; line = line }

  -- what a call at a slot sees, as a share; of the suite itself it is the stamp alone
  abbrev pub seen : View T → List (Write T) → LineState → Share T
  seen view writes line = record {
    suite = record { stamp = view.stamp; taken = 0; slots = [] };
    places = view.places.now;
    writes = writes;
    line = line;
  }

  -- an open slot after a write of the node n in slot s
  abbrev pub wrote : Share T → ℕ → ℕ → SlotState → SlotState
  wrote share s n (opened snapshot reads written) = opened snapshot reads (max written (write_at share s n written + 1))
  wrote share s n state = state

  -- the slot after an accepted call, which answered so
  abbrev pub slot_after : Share T → ℕ → SlotCall T → SlotAnswer T → SlotState → SlotState
  slot_after share s Begin answer state = opened share.suite.stamp [] 0
  slot_after share s (Read n) answer state = read_into share s n state
  slot_after share s (Writing n x) answer state = wrote share s n state
  slot_after share s Commit (Committed Sent) state = sent
  slot_after share s call answer state = idle

  -- the write places then: a write stands in its place
  abbrev pub writes_after : Share T → ℕ → SlotCall T → SlotState → List (Write T)
  writes_after share s (Writing n x) (opened snapshot reads written) =
      slice_set share.writes (first_write s + write_at share s n written) (record { node = n; setting = x })
  writes_after share s call state = share.writes

module _ {T : Type 0} (S : SummaryKind) (K : SettingKind T) where
  -- the line then: the message of a sent move waits in it
  abbrev pub line_after : Share T → ℕ → ℕ → SlotAnswer T → SlotState → LineState
  line_after share u s (Committed Sent) state = with_message S K share u s state
  line_after share u s answer state = share.line

  -- what a call answers by the state of the slot
  abbrev pub step_in : List ℕ → Share T → ℕ → ℕ → SlotCall T → SlotState → Result (SlotAnswer T) Refusal
  step_in nodes share u s Begin state = told Began (begin_in share.suite.stamp state)
  step_in nodes share u s (Read n) state = told Setting (read_in nodes share s n state)
  step_in nodes share u s (Writing n x) state = told (λ _. Written) (write_in nodes share s n state)
  step_in nodes share u s Commit state = told Committed (commit_in S K nodes share u s state)
  step_in nodes share u s Abandon state = told (λ _. Abandoned) (abandon_in state)
  step_in nodes share u s Collect state = told Collected (collect_in state)

  -- what a call in slot s of suite u answers
  abbrev pub step_answer : List ℕ → ℕ → ℕ → SlotCall T → Share T → Result (SlotAnswer T) Refusal
  step_answer nodes u s call share = step_in nodes share u s call (slot_of share s)

  -- what an accepted call leaves of the share, which answered so: the slot, the write places and the line are as above
  abbrev pub step_leaves : ℕ → ℕ → SlotCall T → SlotAnswer T → Share T → Share T
  step_leaves u s call answer share = record (with_slot share s (slot_after share s call answer (slot_of share s))) {
    writes = writes_after share s call (slot_of share s);
    line = line_after share u s answer (slot_of share s);
  }

  -- what a call in slot s of suite u answers, on the world
  abbrev pub at_slot_answer : World T → ℕ → ℕ → SlotCall T → Result (SlotAnswer T) Refusal
  at_slot_answer w u s call = at_slot w u s (step_answer w.session.nodes u s call)

  -- what it leaves
  abbrev pub at_slot_leaves : Result (SlotAnswer T) Refusal → World T → ℕ → ℕ → SlotCall T → World T
  at_slot_leaves answer w u s call = left_at answer w u (step_leaves u s call)

-- what holds unless a commit sent a message
abbrev pub UnlessStepSent : {T : Type 0} → Result (SlotAnswer T) Refusal → Type 0 → Type 0
UnlessStepSent (Ok (Committed a)) P = UnlessSent (Ok a) P
UnlessStepSent answer P = P

-- a commit is never refused because its message is too long or has no bytes
abbrev pub NeverTooLong : {T : Type 0} → SlotCall T → Result (SlotAnswer T) Refusal → Type 0
NeverTooLong Commit r = r ≢ Err MessageLength
NeverTooLong call r = ⊤
