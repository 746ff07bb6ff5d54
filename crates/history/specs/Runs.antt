-- Histories: a session just made over an empty line, and then one call after the other, each answered as the rules say, and each
-- getting the session, the memories and the line as the last one left them.
--
--   answer          what the rules answer to a call
--   left_by         what an accepted call at a slot leaves
--   Leaves          what an event leaves
--   Step            an event that the rules allow
--   Run             events that the rules allow, one after the other, the latest first
--   Made            a session just made over an empty line
use Rattle.std.specs.Prelude.{◌≡◌, ℕ, List, [], ◌∷◌, Ok, Result}
use Rattle.std.specs.List.{AllByRecursion}
use Rattle.number_bytes.specs.Bytes.{Number}
use Rattle.history.specs.Events.{Did, began, read, wrote, closed, abandoned, collected, Event, at, settled, took, declined, call_of, answer_of}
use Rattle.history.specs.declared.call.Answer.{Answer}
use Rattle.history.specs.declared.call.Answer.TheVariants.{Began, Setting, Written, Committed, Abandoned, Collected, Settled, Taken}
use Rattle.history.specs.declared.call.Call.{Call}
use Rattle.history.specs.declared.call.Call.TheVariants.{Begin, Read, Write, Commit, Abandon, Collect, Settle, Take}
use Rattle.lines.specs.Lines.{empty_line}
use Rattle.refusals.specs.declared.Refusal.{Refusal}
use Rattle.session.specs.Calls.{begin_call, after_begin, read_call, after_read, write_call, after_write, commit_call, after_commit, abandon_call, after_abandon, collect_call, after_collect, settle_call, AfterSettle, take_call, AfterTake, after_make}
use Rattle.session.specs.Making.{make_answer}
use Rattle.session.specs.States.{World}
use Rattle.session.specs.Steps.{told}
use Rattle.session.specs.declared.place.Place.{Place}
use Rattle.settings.specs.Kinds.{SettingKind}
use Rattle.summaries.specs.Kinds.{SummaryKind}

-- a session of so many suites that was just made over an empty line and some handed places; its node numbers are of 64 bits
pub record Made {T : Type 0} (K : SettingKind T) (start : World T) : Type 0 where
  pub suites : ℕ
  pub handed : List (Place T)
  pub accepted : make_answer suites start.session.nodes handed start.writes start.line ≡ Ok start.session
  pub numbers : AllByRecursion Number start.session.nodes
  pub places : start.places ≡ after_make K (Ok start.session) suites start.session.nodes handed
  pub line : start.line ≡ empty_line start.line.limit

module _ {T : Type 0} (S : SummaryKind) (K : SettingKind T) where
  -- what the rules answer to a call
  abbrev pub answer : World T → Call T → Result (Answer T) Refusal
  answer w (Begin slot) = told Began (begin_call w slot.suite slot.slot)
  answer w (Read slot n) = told Setting (read_call w slot.suite slot.slot n)
  answer w (Write slot n x) = told (λ _. Written) (write_call w slot.suite slot.slot n)
  answer w (Commit slot) = told Committed (commit_call S K w slot.suite slot.slot)
  answer w (Abandon slot) = told (λ _. Abandoned) (abandon_call w slot.suite slot.slot)
  answer w (Collect slot) = told Collected (collect_call w slot.suite slot.slot)
  answer w Settle = told (λ _. Settled) (settle_call w)
  answer w (Take u) = told Taken (take_call S K w u)

  -- what an accepted call at slot s of suite u leaves
  abbrev pub left_by : World T → ℕ → ℕ → Did T → World T
  left_by w u s (began snapshot) = after_begin (Ok snapshot) w u s
  left_by w u s (read n x) = after_read (Ok x) w u s n
  left_by w u s (wrote n x) = after_write (Ok tt) w u s n x
  left_by w u s (closed answer) = after_commit S K (Ok answer) w u s
  left_by w u s abandoned = after_abandon (Ok tt) w u s
  left_by w u s (collected outcome) = after_collect (Ok outcome) w u s

  -- what an event leaves: an accepted call what the rules say, a settle that served this suite and a take that ruled so what they allow,
  -- and a refused call everything as it was
  abbrev pub Leaves : World T → Event T → World T → Type 0
  Leaves w (at u s did) w' = w' ≡ left_by w u s did
  Leaves w (settled u) w' = AfterSettle (Ok tt) u w w'
  Leaves w (took u ruling) w' = AfterTake S K (Ok ruling) u w w'
  Leaves w (declined call why) w' = w' ≡ w

  -- an event that the rules allow: its call is answered so, and it leaves this
  pub record Step (w : World T) (e : Event T) (w' : World T) : Type 0 where
    pub answered : answer w (call_of e) ≡ answer_of e
    pub leaves : Leaves w e w'

  -- events that the rules allow, one after the other, the latest first
  abbrev pub Run : World T → List (Event T) → World T → Type 0
  Run start [] w = w ≡ start
  Run start (e ∷ es) w = (v : World T) × Run start es v × Step v e w
