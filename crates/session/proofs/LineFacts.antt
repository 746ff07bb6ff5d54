-- How many messages a line holds after an offer and after a settle, and for whom they wait.
use Rattle.std.specs.Prelude.{◌≢◌}
use Rattle.std.proofs.Common.{◌≡◌, ℕ, zero, suc, ◌+◌, ◌<◌, ◌≤◌, ◌⊎◌, List, [], ◌∷◌, ◌++◌, length, take, drop, inl, inr, refl, ap, ◌∙◌, arith}
use Rattle.lines.specs.Lines.{LineState, with_at, waiting_up_to, waiting_count, held, offered, settled}
use Rattle.std.proofs.lemmas.List.{length-append, length-take, length-drop, length_push}
use Rattle.std.proofs.lemmas.Bool.{cases_eq, eq-eqb, ne_eqb, cond-true, cond-false}

-- ---- a function with another value at one point

pub with_at_same : {X : Type 0} (f : ℕ → X) (u : ℕ) (x : X) → with_at f u x u ≡ x
unfolding with_at
with_at_same f u x = cond-true _ _ _ (eq-eqb u u refl)

pub with_at_other : {X : Type 0} (f : ℕ → X) (u : ℕ) (x : X) (v : ℕ) → (v ≢ u) → with_at f u x v ≡ f v
unfolding with_at
with_at_other f u x v other = cond-false _ _ _ (ne_eqb v u other)

-- ---- counting what waits for the suites 1 to n

module _ (f : ℕ → List (List ℕ)) where
  -- a change beyond them does not count
  count_before : (u : ℕ) (x : List (List ℕ)) (n : ℕ) → n < u → waiting_up_to n (with_at f u x) ≡ waiting_up_to n f
  unfolding waiting_up_to
  count_before u x zero h = refl
  count_before u x (suc n) h =
      omega (arith, count_before u x n (omega arith), ap length (with_at_other f u x (suc n) (λ e. omega arith)))

  -- a change at one of them counts once
  count_with : (u : ℕ) (x : List (List ℕ)) (n : ℕ) → 1 ≤ u → u ≤ n → waiting_up_to n (with_at f u x) + length (f u) ≡ waiting_up_to n f + length x
  unfolding waiting_up_to
  count_with u x zero low high = absurd (omega arith)
  count_with u x (suc n) low high = by (cases_eq (suc n) u) (count_with u x n low)
    where
      by : (suc n ≡ u) ⊎ (suc n ≡ u → ⊥) → (u ≤ n → waiting_up_to n (with_at f u x) + length (f u) ≡ waiting_up_to n f + length x) →
          waiting_up_to n (with_at f u x) + length (with_at f u x (suc n)) + length (f u) ≡ waiting_up_to n f + length (f (suc n)) + length x
      by (inl here) again =
          let new : length (with_at f u x (suc n)) ≡ length x = ap (λ v. length (with_at f u x v)) here ∙ ap length (with_at_same f u x) in
          let old : length (f (suc n)) ≡ length (f u) = ap (λ v. length (f v)) here in
          omega (arith, count_before u x n (omega arith))
      by (inr other) again = omega (arith, again (omega arith), ap length (with_at_other f u x (suc n) other))

  -- some of them has a message where any waits
  some_of : (n : ℕ) → (waiting_up_to n f ≡ 0 → ⊥) → (u : ℕ) × (1 ≤ u) × (u ≤ n) × (0 < length (f u))
  unfolding waiting_up_to
  some_of zero some = absurd (some refl)
  some_of (suc n) some = by (cases_eq (length (f (suc n))) 0) (some_of n)
    where
      by : (length (f (suc n)) ≡ 0) ⊎ (length (f (suc n)) ≡ 0 → ⊥) →
          ((waiting_up_to n f ≡ 0 → ⊥) → (u : ℕ) × (1 ≤ u) × (u ≤ n) × (0 < length (f u))) →
          (u : ℕ) × (1 ≤ u) × (u ≤ suc n) × (0 < length (f u))
      by (inl none) again =
          let before = again (λ e. some (omega arith)) in (before.0, before.1, omega (arith, before.2), before.3)
      by (inr one) again = (suc n, omega arith, omega arith, omega arith)

  none_of : (n : ℕ) → ((u : ℕ) → 1 ≤ u → u ≤ n → f u ≡ []) → waiting_up_to n f ≡ 0
  unfolding waiting_up_to
  none_of zero none = refl
  none_of (suc n) none = omega (arith, none_of n (λ u low high. none u low (omega arith)), ap length (none (suc n) (omega arith) (omega arith)))

-- ---- a line

module _ (m : LineState) where
  pub some_waits : (waiting_count m ≢ 0) → (u : ℕ) × (1 ≤ u) × (u ≤ 8) × (0 < length (m.waiting u))
  some_waits some = some_of m.waiting 8 some

  pub none_waits : ((u : ℕ) → 1 ≤ u → u ≤ 8 → m.waiting u ≡ []) → waiting_count m ≡ 0
  none_waits none = none_of m.waiting 8 none

  module _ (u : ℕ) (msg : List ℕ) where
    pub waiting_offered : (offered m u msg).waiting u ≡ m.waiting u ++ msg ∷ []
    waiting_offered = with_at_same m.waiting u (m.waiting u ++ msg ∷ [])

    pub waiting_offered_other : (v : ℕ) → (v ≢ u) → (offered m u msg).waiting v ≡ m.waiting v
    waiting_offered_other v other = with_at_other m.waiting u (m.waiting u ++ msg ∷ []) v other

    pub held_offered : 1 ≤ u → u ≤ 8 → held (offered m u msg) ≡ held m + 1
    held_offered low high =
        omega (arith, count_with m.waiting u (m.waiting u ++ msg ∷ []) 8 low high, length_push (m.waiting u) msg)

  module _ (u : ℕ) where
    pub waiting_settled : (settled m u).waiting u ≡ drop 1 (m.waiting u)
    waiting_settled = with_at_same m.waiting u (drop 1 (m.waiting u))

    pub waiting_settled_other : (v : ℕ) → (v ≢ u) → (settled m u).waiting v ≡ m.waiting v
    waiting_settled_other v other = with_at_other m.waiting u (drop 1 (m.waiting u)) v other

    pub held_settled : 1 ≤ u → u ≤ 8 → 0 < length (m.waiting u) → held (settled m u) ≡ held m
    held_settled low high waits =
        omega (
          arith,
          count_with m.waiting u (drop 1 (m.waiting u)) 8 low high,
          length-drop 1 (m.waiting u),
          length-append m.agreed (take 1 (m.waiting u)),
          length-take 1 (m.waiting u),
        )
