-- Searching a list: what is found is the first that passes, and where nothing is found nothing passes.
use Rattle.std.proofs.Common.{◌≡◌, ℕ, zero, suc, ◌+◌, ◌<◌, Bool, true, false, cond, List, [], ◌∷◌, get_or, find, slice_get, Some, None, Option, refl, sym, ap, ◌∙◌, arith}
use Rattle.std.proofs.ByRecursion.{All-get_or}
use Rattle.std.specs.List.{AllByRecursion, ContainsAt}

-- where nothing is found, every element fails the test
pub none_passes : {X : Type 0} (p : X → Bool) (xs : List X) → find p xs ≡ None → AllByRecursion (λ x. p x ≡ false) xs
none_passes p [] none = tt
none_passes {X} p (x ∷ xs) none = go (p x) refl none (none_passes p xs)
  where
    go : (b : Bool) → p x ≡ b → cond b (Some x) (find p xs) ≡ None → (find p xs ≡ None → AllByRecursion (λ x. p x ≡ false) xs) →
        (p x ≡ false) × AllByRecursion (λ x. p x ≡ false) xs
    go true passes found rest = absurd (cc)
    go false fails found rest = (fails, rest found)

-- what is found stands somewhere in the list and passes, and nothing before it does
pub record Found {X : Type 0} (p : X → Bool) (xs : List X) (x : X) : Type 0 where
  pub place : ℕ
  pub is : slice_get xs place ≡ Some x
  pub passes : p x ≡ true
  pub first : (j : ℕ) (y : X) → j < place → slice_get xs j ≡ Some y → p y ≡ false

pub found_if : {X : Type 0} (p : X → Bool) (xs : List X) (x : X) → find p xs ≡ Some x → Found p xs x
found_if p [] x h = cc
found_if {X} p (y ∷ xs) x h = by (p y) refl h (found_if p xs x)
  where
    by : (b : Bool) → p y ≡ b → cond b (Some y) (find p xs) ≡ Some x → (find p xs ≡ Some x → Found p xs x) → Found p (y ∷ xs) x
    by true e h later = (let same : y ≡ x = cc in record {
      place = 0;
      is = h;
      passes = ap p (sym same) ∙ e;
      first = λ j z low i. absurd (omega arith);
    })
    by false e h later = (let f = later h in record {
      place = suc f.place;
      is = f.is;
      passes = f.passes;
      first = before f;
    })
      where
        before : (f : Found p xs x) (j : ℕ) (z : X) → j < suc f.place → slice_get (y ∷ xs) j ≡ Some z → p z ≡ false
        before f zero z low i = (let same : y ≡ z = cc in ap p (sym same) ∙ e)
        before f (suc j) z low i = f.first j z (omega arith) i

-- what is in the list and passes is found, or something else
pub found_some : {X : Type 0} (p : X → Bool) (xs : List X) (x : X) → ContainsAt xs x → p x ≡ true → (y : X) × (find p xs ≡ Some y)
found_some p xs x there passes = by (find p xs) refl
  where
    by : (o : Option _) → find p xs ≡ o → (y : _) × (find p xs ≡ Some y)
    by (Some y) e = (y, e)
    by None e =
        let none = All-get_or (λ z. p z ≡ false) xs there.0 x there.1 (none_passes p xs e) in
        let clash : true ≡ false = sym passes ∙ ap p (sym (there.2 x)) ∙ none in
        cc

-- two tests that agree on a list find the same in it
pub find_same : {X : Type 0} (p q : X → Bool) (xs : List X) → AllByRecursion (λ x. p x ≡ q x) xs → find p xs ≡ find q xs
find_same p q [] h = refl
find_same p q (x ∷ xs) h = ap (λ b. cond b (Some x) (find p xs)) h.0 ∙ ap (cond (q x) (Some x)) (find_same p q xs h.1)

-- what holds of everything in a list
pub all_in : {X : Type 0} (P : X → Type 0) (xs : List X) → ((x : X) → ContainsAt xs x → P x) → AllByRecursion P xs
all_in P [] h = tt
all_in P (x ∷ xs) h = (h x (0, omega arith, λ d. refl), all_in P xs (λ y k. h y (k.0 + 1, omega (arith, k.1), later x xs y k.0 k.2)))
  where
    later : {X : Type 0} (x : X) (xs : List X) (y : X) (i : ℕ) → ((d : X) → get_or xs i d ≡ y) → (d : X) → get_or (x ∷ xs) (i + 1) d ≡ y
    later x xs y i h d = (let next : i + 1 ≡ Prim.Native.Nat.suc i = omega arith in ap (λ j. get_or (x ∷ xs) j d) next) ∙ h d
