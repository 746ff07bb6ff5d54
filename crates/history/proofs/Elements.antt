-- Elements of a list by their numbers, counted from 0.
use Rattle.std.proofs.Common.{◌≡◌, ℕ, zero, suc, ◌<◌, ◌⊎◌, inl, inr, List, [], ◌∷◌, ◌++◌, length, take, slice_get, Some, refl, ap, arith}
use Rattle.std.proofs.lemmas.Option.{same_Some}

module _ {X : Type 0} where
  pub get_more : (xs more : List X) (k : ℕ) (x : X) → slice_get xs k ≡ Some x → slice_get (xs ++ more) k ≡ Some x
  get_more [] more k x is = absurd (cc)
  get_more (y ∷ xs) more zero x is = is
  get_more (y ∷ xs) more (suc k) x is = get_more xs more k x is

  pub get_last : (xs : List X) (x : X) → slice_get (xs ++ x ∷ []) (length xs) ≡ Some x
  get_last [] x = refl
  get_last (y ∷ xs) x = get_last xs x

  pub get_there : (xs : List X) (k : ℕ) → k < length xs → (x : X) × (slice_get xs k ≡ Some x)
  get_there [] k below = absurd (omega arith)
  get_there (y ∷ xs) zero below = (y, refl)
  get_there (y ∷ xs) (suc k) below = get_there xs k (omega arith)

  -- what stands at a place of a list with one more at its end
  pub get_push : (xs : List X) (x : X) (k : ℕ) (y : X) → slice_get (xs ++ x ∷ []) k ≡ Some y → (slice_get xs k ≡ Some y) ⊎ ((k ≡ length xs) × (x ≡ y))
  get_push [] x zero y h = inr (refl, cc)
  get_push [] x (suc k) y h = cc
  get_push (z ∷ xs) x zero y h = inl h
  get_push (z ∷ xs) x (suc k) y h = by (get_push xs x k y h)
    where
      by : (slice_get xs k ≡ Some y) ⊎ ((k ≡ length xs) × (x ≡ y)) → (slice_get xs k ≡ Some y) ⊎ ((suc k ≡ suc (length xs)) × (x ≡ y))
      by (inl e) = inl e
      by (inr e) = inr (ap suc e.0, e.1)

  -- one more of the first elements
  pub take_next : (xs : List X) (k : ℕ) (x : X) → slice_get xs k ≡ Some x → take (suc k) xs ≡ take k xs ++ x ∷ []
  take_next [] k x is = absurd (cc)
  take_next (y ∷ xs) zero x is = ap (λ z. z ∷ []) (same_Some y x is)
  take_next (y ∷ xs) (suc k) x is = ap (λ zs. y ∷ zs) (take_next xs k x is)
