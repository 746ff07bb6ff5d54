-- An array that a closure filled, by index.
use Rattle.std.proofs.Common.{◌≡◌, ℕ, zero, suc, ◌+◌, ◌<◌, List, length, get_or, ap, sym, ◌∙◌, arith}
use Rattle.std.specs.Array.{IsFromFnResultFrom, IsFromFnResult}
use denote.Param.Members.{Mut, Called}

module _ {F : Type 0} {g : Mut F (ℕ × Unit {0}) ℕ} (h : ℕ → ℕ) (Same : F → Type 0)
    (step : (p q : F) (i y : ℕ) → Same p → Called g p (i, tt) y q → (y ≡ h i) × Same q) where
  filled_from : (f : F) (ys : List ℕ) (i n : ℕ) → Same f → IsFromFnResultFrom g f ys i n → (k : ℕ) → k < n →
      get_or ys (i + k) 0 ≡ h (i + k)
  filled_from f ys i zero same from k below = absurd (omega arith)
  filled_from f ys i (suc n) same from zero below =
      let here : i + 0 ≡ i = omega arith in
      ap (λ j. get_or ys j 0) here ∙ from.2.1 0 ∙ (step f from.0 i from.1 same from.3).0 ∙ ap h (sym here)
  filled_from f ys i (suc n) same from (suc k) below =
      let next : i + suc k ≡ i + 1 + k = omega arith in
      let rest = filled_from from.0 ys (i + 1) n (step f from.0 i from.1 same from.3).1 from.4 k (omega arith) in
      ap (λ j. get_or ys j 0) next ∙ rest ∙ ap h (sym next)

  -- where each call gives h of its index and leaves what it captured the same
  pub filled : (f : F) (ys : List ℕ) (n : ℕ) → Same f → IsFromFnResult g f ys n → (k : ℕ) → k < length ys → get_or ys k 0 ≡ h k
  filled f ys n same from k below =
      let there : 0 + k ≡ k = omega arith in
      ap (λ j. get_or ys j 0) (sym there) ∙ filled_from f ys 0 n same from.each k (omega (arith, from.long)) ∙ ap h there
