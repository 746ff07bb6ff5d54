-- What the checks of a message find, one after the other.
use Rattle.std.proofs.Common.{◌≡◌, ℕ, zero, suc, ◌+◌, ◌-◌, ◌*◌, ◌<◌, ◌≤◌, Bool, true, false, ◌||◌, cond, eqb, List, [], ◌∷◌, ◌++◌, length, Some, None, Ok, Err, Decides, Option, sym, refl, ap, ◌∙◌, add-zero, zero-add, mul-le-mul_right, arith}
use Rattle.messages.specs.Layout.{write_start}
use Rattle.messages.specs.Reading.{Check, node_in, known, given_before, first_fault, judged, ExactFault}
use Rattle.messages.specs.declared.fault.Fault.{Fault}
use Rattle.messages.specs.declared.parts.Header.{Header}
use Rattle.std.proofs.lemmas.Bool.{cond-true, cond-false}
use Rattle.std.proofs.lemmas.Bool.Decides.{Decides-eqb, Decides-below_or, Decides-by_or}
use Rattle.std.proofs.lemmas.List.Recursion.{same_from_clauses}
use Rattle.std.specs.Option.{option_or}
use Rattle.std.specs.List.{list_any, range_with_len, flat_map, HoldsAt, AllByRecursion}

-- ---- where writes begin

-- an earlier write begins no later
pub start_le : (W X i j : ℕ) → i ≤ j → write_start W X i ≤ write_start W X j
start_le W X i j h =
    let less : i * (8 + X) ≤ j * (8 + X) = mul-le-mul_right (8 + X) h in
    omega arith

-- ---- known nodes

pub known_decides : (nodes : List ℕ) (n : ℕ) → Decides (known nodes n) ((k : ℕ) × (k < length nodes) × HoldsAt (λ x. x ≡ n) nodes k)
known_decides nodes n = Decides-by_or (λ x. eqb x n) (λ x. x ≡ n) (λ xs. known xs n) (λ x. Decides-eqb x n) refl (λ _ _. refl) nodes

-- what the library's `contains` answers
pub known_is : (nodes : List ℕ) (n : ℕ) → list_any (λ x. eqb x n) nodes ≡ known nodes n
known_is nodes n = same_from_clauses (list_any (λ x. eqb x n)) (λ xs. known xs n) (λ x b. eqb x n || b) refl (λ _ _. refl) (λ _ _. refl) nodes

-- ---- nodes given before

pub given_decides : (W X : ℕ) (m : List ℕ) (n i : ℕ) → Decides (given_before W X m n i) ((k : ℕ) × (k < i) × (node_in W X m k ≡ n))
given_decides W X m n i =
    Decides-below_or (λ k. eqb (node_in W X m k) n) (λ k. node_in W X m k ≡ n) (given_before W X m n) (λ k. Decides-eqb (node_in W X m k) n) refl (λ _. refl) i

-- what the library's `any` answers, over the writes before
any_last : (p : ℕ → Bool) (a n : ℕ) → list_any p (range_with_len a (suc n)) ≡ (p (a + n) || list_any p (range_with_len a n))
any_last p a zero = ap (λ k. p k || false) (sym (add-zero a))
any_last p a (suc n) =
    let last : a + 1 + n ≡ a + suc n = omega arith in
    ap (λ b. p a || b) (any_last p (a + 1) n ∙ ap (λ k. p k || list_any p (range_with_len (a + 1) n)) last)
    ∙ by (p a) (p (a + suc n)) (list_any p (range_with_len (a + 1) n))
  where
    by : (x y z : Bool) → (x || (y || z)) ≡ (y || (x || z))
    by false y z = refl
    by true false z = refl
    by true true z = refl

pub given_is : (W X : ℕ) (m : List ℕ) (n i : ℕ) → list_any (λ k. eqb (node_in W X m k) n) (range_with_len 0 i) ≡ given_before W X m n i
given_is W X m n zero = refl
given_is W X m n (suc i) =
    let p : ℕ → Bool = λ k. eqb (node_in W X m k) n in
    any_last p 0 i ∙ ap (λ k. p k || list_any p (range_with_len 0 i)) (zero-add i) ∙ ap (λ b. p i || b) (given_is W X m n i)

-- ---- the first fault

pub first_joined : (xs ys : List Check) → first_fault (xs ++ ys) ≡ option_or (first_fault xs) (first_fault ys)
first_joined [] ys = refl
first_joined (c ∷ xs) ys =
    elim c.0 as (λ b. cond b (Some c.1) (first_fault (xs ++ ys)) ≡ option_or (cond b (Some c.1) (first_fault xs)) (first_fault ys)) [
      | true ↦ refl
      | false ↦ first_joined xs ys
    ]

-- without a fault no check finds anything
pub none_wrong : (cs : List Check) → first_fault cs ≡ None → AllByRecursion (λ c. c.0 ≡ false) cs
none_wrong [] h = tt
none_wrong (c ∷ cs) h = by (none_wrong cs) c.0 refl
  where
    by : (first_fault cs ≡ None → AllByRecursion (λ d. d.0 ≡ false) cs) → (b : Bool) → c.0 ≡ b → (c.0 ≡ false) × AllByRecursion (λ d. d.0 ≡ false) cs
    by again true e = let found : Some c.1 ≡ None = sym (cond-true c.0 (Some c.1) (first_fault cs) e) ∙ h in cc
    by again false e = (e, again (sym (cond-false c.0 (Some c.1) (first_fault cs) e) ∙ h))

-- where no check finds anything there is no fault
pub none_found : (cs : List Check) → AllByRecursion (λ c. c.0 ≡ false) cs → first_fault cs ≡ None
none_found [] h = refl
none_found (c ∷ cs) h = cond-false c.0 (Some c.1) (first_fault cs) h.0 ∙ none_found cs h.1

-- a fault is that of a check before which none finds anything
abbrev First : List Check → Fault → Type 0
First cs f = (k : ℕ) × (k < length cs) × HoldsAt (λ c. c ≡ (true, f)) cs k × ((j : ℕ) → j < k → HoldsAt (λ c. c.0 ≡ false) cs j)

fine_before : (c : Check) (cs : List Check) (k : ℕ) → c.0 ≡ false → ((j : ℕ) → j < k → HoldsAt (λ d. d.0 ≡ false) cs j) →
    (j : ℕ) → j < suc k → HoldsAt (λ d. d.0 ≡ false) (c ∷ cs) j
fine_before c cs k e before zero low = λ d. e
fine_before c cs k e before (suc j) low = before j (omega arith)

pub first_is : (cs : List Check) (f : Fault) → first_fault cs ≡ Some f → First cs f
first_is [] f h = cc
first_is (c ∷ cs) f h = by (first_is cs f) c.0 refl
  where
    by : (first_fault cs ≡ Some f → First cs f) → (b : Bool) → c.0 ≡ b → First (c ∷ cs) f
    by again true e =
        let found : Some c.1 ≡ Some f = sym (cond-true c.0 (Some c.1) (first_fault cs) e) ∙ h in
        let same : c.1 ≡ f = cc in
        (0, omega arith, λ d. λ i. (e i, same i), λ j low. absurd (omega arith))
    by again false e =
        let later = again (sym (cond-false c.0 (Some c.1) (first_fault cs) e) ∙ h) in
        (suc later.0, omega (arith, later.1), λ d. later.2 d, fine_before c cs later.0 e later.3)

pub judged_first : (cs : List Check) (h : Header) → ExactFault cs (judged (first_fault cs) h)
judged_first cs h = by (first_fault cs) refl
  where
    by : (o : Option Fault) → first_fault cs ≡ o → ExactFault cs (judged o h)
    by None e = none_wrong cs e
    by (Some f) e = first_is cs f e

-- ---- a loop over the writes

pub judged_ok : {A : Type 0} (o : Option Fault) (x y : A) → Ok y ≡ judged o x → o ≡ None
judged_ok None x y e = refl
judged_ok (Some f) x y e = cc

pub judged_err : {A : Type 0} (o : Option Fault) (x : A) (f : Fault) → Err f ≡ judged o x → o ≡ Some f
judged_err None x f e = cc
judged_err (Some g) x f e = cc

module _ (f : ℕ → List Check) (i n : ℕ) (inside : i < n) (whole : first_fault (flat_map f (range_with_len i (n - i))) ≡ first_fault (flat_map f (range_with_len 0 n))) where
  abbrev pub later : Option Fault
  later = first_fault (flat_map f (range_with_len (i + 1) (n - (i + 1))))

  -- the checks from i on are those of i, and those after
  left : first_fault (flat_map f (range_with_len 0 n)) ≡ option_or (first_fault (f i)) later
  left =
      let more : n - i ≡ suc (n - (i + 1)) = omega arith in
      sym whole ∙ ap (λ k. first_fault (flat_map f (range_with_len i k))) more ∙ first_joined (f i) _

  pub left_fine : first_fault (f i) ≡ None → later ≡ first_fault (flat_map f (range_with_len 0 n))
  left_fine fine = sym (left ∙ ap (λ o. option_or o later) fine)

  pub left_fault : (g : Fault) → first_fault (f i) ≡ Some g → first_fault (flat_map f (range_with_len 0 n)) ≡ Some g
  left_fault g found = left ∙ ap (λ o. option_or o later) found
