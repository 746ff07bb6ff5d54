-- What follows where a call is accepted: the memories are right, the suite and the slot are there, and the rule of the call on the
-- suite's share accepts it.
use Rattle.std.proofs.Common.{◌≡◌, ℕ, ◌≤◌, false, length, Ok, Err, Result, refl}
use Rattle.session.specs.Shares.{at_slot}
use Rattle.session.specs.Steps.{told}
use Rattle.refusals.specs.declared.Refusal.{Refusal}
use Rattle.session.proofs.Shares.{checked_suite, checked_slot}
use Rattle.session.specs.Shares.{Share, share_of, check_suite, check_slot, at_share}
use Rattle.session.specs.States.{World, unfit}

module _ {T A B : Type 0} (f : A → B) (w : World T) (u : ℕ) (rule : Share T → Result A Refusal) (b : B) where
  pub record Accepted : Type 0 where
    pub fit : unfit w ≡ false
    pub there : (1 ≤ u) × (u ≤ length w.session.suites)
    pub value : A
    pub ruled : rule (share_of w u) ≡ Ok value
    pub is : f value ≡ b

  -- what the rule answered
  by_rule : (r : Result A Refusal) → rule (share_of w u) ≡ r → told f r ≡ Ok b → unfit w ≡ false → (1 ≤ u) × (u ≤ length w.session.suites) → Accepted
  by_rule (Ok a) e h fit there = record { fit = fit; there = there; value = a; ruled = e; is = cc }
  by_rule (Err why) e h fit there = cc

  -- the check of the call found nothing, and then its rule answered
  by_check : (check c : Result (Unit {0}) Refusal) → check ≡ c → told f (at_share c w u rule) ≡ Ok b → (check ≡ Ok tt → (unfit w ≡ false) × ((1 ≤ u) × (u ≤ length w.session.suites))) →
      (check ≡ Ok tt) × Accepted
  by_check check (Ok _) e h found = let (fit, there) = found e in (e, by_rule (rule (share_of w u)) refl h fit there)
  by_check check (Err why) e h found = cc

  pub accepted_suite : told f (at_share (check_suite w u) w u rule) ≡ Ok b → Accepted
  accepted_suite h = (by_check (check_suite w u) (check_suite w u) refl h (λ e. let found = checked_suite w u e in (found.0, found.1))).1

  pub accepted_slot : (s : ℕ) → told f (at_slot w u s rule) ≡ Ok b → Accepted × ((1 ≤ s) × (s ≤ 4))
  accepted_slot s h =
      let found = by_check (check_slot w u s) (check_slot w u s) refl h (λ e. let found = checked_slot w u s e in (found.0, found.1)) in
      (found.1, (checked_slot w u s found.0).2)
