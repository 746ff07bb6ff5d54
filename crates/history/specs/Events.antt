-- What happens in a history: calls with their answers.
--
--   Did             an accepted call at a slot, with its answer
--   Event           a call with its answer, and of a settle the suite that it served
--   slot_call       the call of an accepted call at a slot
--   slot_answer     its answer
--   call_of         the call that an event is
--   answer_of       its answer
--   suite_of        the suite at which a call is made, if it is made at one
use Rattle.std.specs.Prelude.{ℕ, Some, None, Ok, Err, Option, Result}
use Rattle.history.specs.declared.call.Answer.{Answer}
use Rattle.history.specs.declared.call.Answer.TheVariants.{Began, Setting, Written, Committed, Abandoned, Collected, Settled, Taken}
use Rattle.history.specs.declared.call.Call.{Call}
use Rattle.history.specs.declared.call.Call.TheVariants.{Begin, Read, Write, Commit, Abandon, Collect, Settle, Take}
use Rattle.session.specs.declared.suite_slot.SuiteSlot.{SuiteSlot}
use Rattle.refusals.specs.declared.Refusal.{Refusal}
use Rattle.session.specs.declared.ruling.CommitAnswer.{CommitAnswer}
use Rattle.session.specs.declared.ruling.Outcome.{Outcome}
use Rattle.session.specs.declared.ruling.Ruling.{Ruling}

-- an accepted call at a slot, with its answer: a begin and its snapshot; a read of a node and its setting; a write of a setting for a
-- node; a commit, which closes the move, and its answer; an abandon; a collect and the outcome
pub data Did (T : Type 0) : Type 0 where
  began : (snapshot : ℕ) → Did T
  read : (node : ℕ) (setting : T) → Did T
  wrote : (node : ℕ) (setting : T) → Did T
  closed : CommitAnswer → Did T
  abandoned : Did T
  collected : Outcome → Did T

-- an event: an accepted call at a slot of a suite; an accepted settle, and the suite that it served; an accepted take at a suite, and
-- its ruling; a call that was refused, and why
pub data Event (T : Type 0) : Type 0 where
  at : (suite slot : ℕ) → Did T → Event T
  settled : (suite : ℕ) → Event T
  took : (suite : ℕ) → Ruling → Event T
  declined : Call T → Refusal → Event T

module _ {T : Type 0} where
  -- the call of an accepted call at a slot, and its answer
  abbrev pub slot_call : SuiteSlot → Did T → Call T
  slot_call slot (began snapshot) = Begin slot
  slot_call slot (read n x) = Read slot n
  slot_call slot (wrote n x) = Write slot n x
  slot_call slot (closed answer) = Commit slot
  slot_call slot abandoned = Abandon slot
  slot_call slot (collected outcome) = Collect slot

  abbrev pub slot_answer : Did T → Answer T
  slot_answer (began snapshot) = Began snapshot
  slot_answer (read n x) = Setting x
  slot_answer (wrote n x) = Written
  slot_answer (closed answer) = Committed answer
  slot_answer abandoned = Abandoned
  slot_answer (collected outcome) = Collected outcome

  -- the call that an event is
  abbrev pub call_of : Event T → Call T
  call_of (at u s did) = slot_call (record { suite = u; slot = s }) did
  call_of (settled u) = Settle
  call_of (took u ruling) = Take u
  call_of (declined call why) = call

  -- its answer
  abbrev pub answer_of : Event T → Result (Answer T) Refusal
  answer_of (at u s did) = Ok (slot_answer did)
  answer_of (settled u) = Ok Settled
  answer_of (took u ruling) = Ok (Taken ruling)
  answer_of (declined call why) = Err why

  -- the suite at which a call is made; a settle is at none
  abbrev pub suite_of : Call T → Option ℕ
  suite_of (Begin slot) = Some slot.suite
  suite_of (Read slot n) = Some slot.suite
  suite_of (Write slot n x) = Some slot.suite
  suite_of (Commit slot) = Some slot.suite
  suite_of (Abandon slot) = Some slot.suite
  suite_of (Collect slot) = Some slot.suite
  suite_of Settle = None
  suite_of (Take u) = Some u
