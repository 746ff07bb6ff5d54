-- What a call at a slot answers is what the call of its name answers.
use Rattle.std.proofs.Common.{◌≡◌, ℕ, Ok, Err, Result, refl}
use Rattle.refusals.specs.declared.Refusal.{Refusal}
use Rattle.session.specs.Calls.{read_call, write_call, commit_call}
use Rattle.session.specs.Commits.{commit_answer}
use Rattle.session.specs.Shares.{at_share, check_slot}
use Rattle.session.specs.Slots.{read_answer, write_answer}
use Rattle.session.specs.States.{World}
use Rattle.session.specs.Steps.{told, at_slot_answer, step_answer}
use Rattle.session.specs.declared.slot_call.SlotAnswer.TheVariants.{Setting, Written, Committed}
use Rattle.session.specs.declared.slot_call.SlotCall.TheVariants.{Read, Write as Writing, Commit}
use Rattle.settings.specs.Kinds.{SettingKind}
use Rattle.summaries.specs.Kinds.{SummaryKind}

module _ {A B : Type 0} (f : A → B) where
  -- a refusal that was told is the refusal
  pub told_err : (r : Result A Refusal) (why : Refusal) → told f r ≡ Err why → r ≡ Err why
  told_err (Ok a) why is = cc
  told_err (Err why') why is = cc

  -- an answer that was told is the answer
  pub told_ok : (r : Result A Refusal) (b : B) → told f r ≡ Ok b → (a : A) × (b ≡ f a)
  told_ok (Ok a) b is = (a, cc)
  told_ok (Err why) b is = cc

module _ {T : Type 0} (S : SummaryKind) (K : SettingKind T) (w : World T) (u s : ℕ) where
  pub told_read : (n : ℕ) → at_slot_answer S K w u s (Read n) ≡ told Setting (read_call w u s n)
  told_read n = by (check_slot w u s)
    where
      by : (checked : Result (Unit {0}) Refusal) →
          at_share checked w u (step_answer S K w.session.nodes u s (Read n)) ≡ told Setting (at_share checked w u (read_answer w.session.nodes s n))
      by (Ok _) = refl
      by (Err why) = refl

  pub told_write : (n : ℕ) (x : T) → at_slot_answer S K w u s (Writing n x) ≡ told (λ _. Written) (write_call w u s n)
  told_write n x = by (check_slot w u s)
    where
      by : (checked : Result (Unit {0}) Refusal) →
          at_share checked w u (step_answer S K w.session.nodes u s (Writing n x)) ≡ told (λ _. Written) (at_share checked w u (write_answer w.session.nodes s n))
      by (Ok _) = refl
      by (Err why) = refl

  pub told_commit : at_slot_answer S K w u s Commit ≡ told Committed (commit_call S K w u s)
  told_commit = by (check_slot w u s)
    where
      by : (checked : Result (Unit {0}) Refusal) →
          at_share checked w u (step_answer S K w.session.nodes u s Commit) ≡ told Committed (at_share checked w u (commit_answer S K w.session.nodes u s))
      by (Ok _) = refl
      by (Err why) = refl
