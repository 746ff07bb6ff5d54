-- No call is stuck: whatever call comes next, there is an event of that call which the rules allow. A refused call changes nothing; an
-- accepted one at a slot has its effect, an accepted settle serves a suite for which a message waits, and an accepted take finds a spare
-- place for every node, where no suite has more than four slots.
use Rattle.std.proofs.Common.{◌≡◌, ℕ, ◌≤◌, Bool, true, false, cond, eqb, length, Ok, Err, Result, sym, refl, ap, ◌∙◌}
use Rattle.std.proofs.lemmas.Bool.{eq-eqb}
use Rattle.history.proofs.Accepting.{accepted_suite}
use Rattle.history.specs.Events.{Did, began, read, wrote, closed, abandoned, collected, Event, at, settled, took, declined, slot_call, slot_answer, call_of, answer_of}
use Rattle.history.specs.Laws.{There}
use Rattle.history.specs.Runs.{answer, left_by, Leaves, Step}
use Rattle.session.specs.Steps.{told}
use Rattle.history.specs.declared.call.Answer.{Answer}
use Rattle.history.specs.declared.call.Answer.TheVariants.{Began, Setting, Written, Committed, Abandoned, Collected, Settled, Taken}
use Rattle.history.specs.declared.call.Call.{Call}
use Rattle.history.specs.declared.call.Call.TheVariants.{Begin, Read, Write, Commit as CommitCall, Abandon, Collect, Settle, Take}
use Rattle.session.specs.declared.suite_slot.SuiteSlot.{SuiteSlot}
use Rattle.lines.specs.Lines.{waiting_count, unusable, settled as after_settle, Serves}
use Rattle.refusals.specs.declared.Refusal.{Refusal}
use Rattle.refusals.specs.declared.Refusal.TheVariants.{MemorySize, NothingWaiting}
use Rattle.session.proofs.LineFacts.{some_waits}
use Rattle.session.proofs.Spares.{spares_of}
use Rattle.session.specs.Choosing.{spare_of}
use Rattle.session.specs.Calls.{settle_call}
use Rattle.session.specs.Shares.{Share, share_of, with_share, check_suite, at_share}
use Rattle.session.specs.States.{World, unfit}
use Rattle.session.specs.Takes.{take_answer, take_leaves}
use Rattle.session.specs.declared.ruling.Ruling.{Ruling}
use Rattle.settings.specs.Kinds.{SettingKind}
use Rattle.summaries.specs.Kinds.{SummaryKind}

module _ {T : Type 0} (S : SummaryKind) (K : SettingKind T) (w : World T) where
  -- an event of the call that the rules allow, and what it leaves
  abbrev pub NextStep : Call T → Type 0
  NextStep call = (e : Event T) × (call_of e ≡ call) × (after : World T) × Step S K w e after

  -- a call has one, if the rules refuse it, or if what they answer to it is the answer of an event of it that leaves something
  step_by : {A : Type 0} (call : Call T) (f : A → Answer T) (r : Result A Refusal) → answer S K w call ≡ told f r →
      ((a : A) → r ≡ Ok a → (e : Event T) × (call_of e ≡ call) × (answer_of e ≡ Ok (f a)) × (after : World T) × Leaves S K w e after) →
      NextStep call
  step_by call f (Ok a) rules accepted =
      let (e, is_call, is_answer, after, left) = accepted a refl in
      (e, is_call, after, record { answered = ap (answer S K w) is_call ∙ rules ∙ sym is_answer; leaves = left })
  step_by call f (Err why) rules accepted = (declined call why, refl, w, record { answered = rules; leaves = refl })

  -- an accepted call at a slot leaves what the rules say
  step_at : {A : Type 0} (slot : SuiteSlot) (call : Call T) (f : A → Answer T) (r : Result A Refusal) → answer S K w call ≡ told f r →
      (did : A → Did T) → ((a : A) → slot_call slot (did a) ≡ call) → ((a : A) → slot_answer (did a) ≡ f a) → NextStep call
  step_at slot call f r rules did is_call is_answer =
      step_by call f r rules
      (λ a e. (
        at slot.suite slot.slot (did a),
        is_call a,
        ap Ok (is_answer a),
        left_by S K w slot.suite slot.slot (did a),
        refl,
      ))

  -- for some suite a message waits where a settle is accepted
  settle_serves : settle_call w ≡ Ok tt → (u : ℕ) × Serves w.line (after_settle w.line u) u
  settle_serves = by (unfit w) (unusable w.line.limit) (eqb (waiting_count w.line) 0) refl
    where
      by : (x y z : Bool) → eqb (waiting_count w.line) 0 ≡ z →
          ◌≡◌ {A = Result (Unit {0}) Refusal} (cond x (Err MemorySize) (cond y (Err MemorySize) (cond z (Err NothingWaiting) (Ok tt)))) (Ok tt) →
          (u : ℕ) × Serves w.line (after_settle w.line u) u
      by true y z e h = cc
      by false true z e h = cc
      by false false true e h = cc
      by false false false e h =
          let (u, low, high, waits) = some_waits w.line (λ none. let z = eq-eqb (waiting_count w.line) 0 none in cc) in
          (u, record { a_suite = (low, high); waits = waits; after_it = refl })

  pub next_step : ((u : ℕ) → There w u → length (share_of w u).suite.slots ≤ 4) → (call : Call T) → NextStep call
  next_step few (Begin slot) = step_at slot (Begin slot) Began _ refl began (λ a. refl) (λ a. refl)
  next_step few (Read slot n) = step_at slot (Read slot n) Setting _ refl (read n) (λ a. refl) (λ a. refl)
  next_step few (Write slot n x) = step_at slot (Write slot n x) (λ _. Written) _ refl (λ _. wrote n x) (λ a. refl) (λ a. refl)
  next_step few (CommitCall slot) = step_at slot (CommitCall slot) Committed _ refl closed (λ a. refl) (λ a. refl)
  next_step few (Abandon slot) = step_at slot (Abandon slot) (λ _. Abandoned) _ refl (λ _. abandoned) (λ a. refl) (λ a. refl)
  next_step few (Collect slot) = step_at slot (Collect slot) Collected _ refl collected (λ a. refl) (λ a. refl)
  next_step few Settle =
      step_by Settle (λ _. Settled) (settle_call w) refl
      (λ a e. let (u, serves) = settle_serves e in (settled u, refl, refl, record w { line = after_settle w.line u }, (serves, refl)))
  next_step few (Take u) =
      let rule : Share T → Result Ruling Refusal = take_answer S K (length w.session.suites) w.session.nodes in
      step_by (Take u) Taken (at_share (check_suite w u) w u rule) refl
      (λ r e.
      let as_told : told {B = Answer T} Taken (at_share (check_suite w u) w u rule) ≡ Ok (Taken r) = ap (told Taken) e in
      let slots = few u (accepted_suite Taken w u rule (Taken r) as_told).there in
      let chosen = spare_of w.session.nodes (share_of w u) in
      (took u r, refl, refl, with_share w u (take_leaves S K w.session.nodes u chosen r (share_of w u)), (chosen, spares_of S K w.session.nodes (share_of w u) slots r, refl)))
