-- Decimal digits, read one after another.
use Rattle.std.proofs.Common.{◌≡◌, ℕ, ◌+◌, ◌-◌, ◌*◌, ◌^◌, ◌<◌, ◌≤◌, Bool, true, false, cond, ◌&&◌, ltb, leb, List, [], ◌∷◌, map, length, Some, None, Option, MatchOption, sym, refl, ap, ap₂, ◌∙◌, arith, lit<}
use Rattle.std.specs.List.{FoldsTo, list_all}
use Rattle.std.specs.Int.Digits as digits
use Rattle.std.proofs.lemmas.Int.Digits.{number_after_ge}
use Rattle.std.proofs.lemmas.List.{nil_from_length}
use Rattle.std.proofs.lemmas.Bool.{le-leb, lt-leb, ltb-true, ltb-false, and_right, cond-true, cond-false}
use Rattle.std.specs.Iterator.{Yields, TryFoldsItems}
use Rattle.std.specs.Slice.Iter.{iter_steps}
use Rattle.std.specs.ControlFlow.{continue_value}
use Rattle.std.specs.declared.slice.Iter.{Iter}
use denote.Param.Members.{Mut, Called}
use denote.Ref.{Bor}
use Rattle.texts.specs.Texts.{is_digit, digit_after, number_of}

-- the answer, where the bytes so far gave the first argument and the second is left to read
unfoldable pub read_on : Option ℕ → List ℕ → Option ℕ
read_on None bs = None
read_on (Some n) [] = Some n
read_on (Some n) (b ∷ bs) = read_on (digit_after n b) bs

pub read_on_more : (n b : ℕ) (bs all : List ℕ) (o : Option ℕ) → all ≡ b ∷ bs → o ≡ digit_after n b → read_on o bs ≡ read_on (Some n) all
unfolding read_on
read_on_more n b bs all o e is = ap (λ m. read_on m bs) is ∙ sym (ap (read_on (Some n)) e)

-- `try_fold` over a slice, where each call gives the number so far with one more digit behind it
module _ {F : Type 0} {g : Mut F (ℕ × (Bor ℕ × Unit {0})) (Option ℕ)}
    (gives : (f : F) (n : ℕ) (b : Bor ℕ) (o : Option ℕ) (f' : F) → Called g f (n, (b, tt)) o f' → o ≡ digit_after n b.now) where
  -- a call that goes on, from p to q
  abbrev Goes : F × ℕ → Bor ℕ → F × ℕ → Type 0
  Goes p b q = (o : Option ℕ) × Called g p.0 (p.1, (b, tt)) o q.0 × (o ≡ Some q.1)

  read_on_goes : (bs : List (Bor ℕ)) (s t : Iter ℕ) (p q : F × ℕ) → Yields iter_steps s bs t → FoldsTo Goes p bs q →
      read_on (Some q.1) t.rest.now ≡ read_on (Some p.1) s.rest.now
  read_on_goes [] s t p q yields goes = ap₂ (λ a l. read_on (Some a.1) l.rest.now) (sym goes) (sym yields)
  read_on_goes (b ∷ bs) s t p q yields goes =
      read_on_goes bs yields.0 t goes.0 q yields.2 goes.2 ∙ read_on_more p.1 b.now _ _ _ yields.1 (sym goes.1.2 ∙ gives _ _ b _ _ goes.1.1)

  -- the end at q, where nothing is left or a call gives none
  abbrev Ends : (E : Type 0) → F × ℕ → Option (Bor ℕ) → Option ℕ → Type 0
  Ends E q last r =
      MatchOption last (r ≡ Some q.1) (λ b. (o : Option ℕ) × (f : F) × (e : E) × Called g q.0 (q.1, (b, tt)) o f × (o ≡ None) × (r ≡ None))

  read_on_ends : (E : Type 0) (last : Option (Bor ℕ)) (t u : Iter ℕ) (q : F × ℕ) (r : Option ℕ) →
      iter_steps t last u → Ends E q last r → r ≡ read_on (Some q.1) t.rest.now
  unfolding read_on
  read_on_ends E None t u q r step ends = ends ∙ ap (read_on (Some q.1)) (sym (nil_from_length _ step.0))
  read_on_ends E (Some b) t u q r step ends =
      ends.5 ∙ read_on_more q.1 b.now u.rest.now _ None step (sym ends.4 ∙ gives _ _ b _ _ ends.3)

  pub read_on_try_fold : {E : Type 0} (s u : Iter ℕ) (f : F) (n : ℕ) (r : Option ℕ) →
      TryFoldsItems iter_steps g (λ o c. o ≡ continue_value c) (λ (_ : E) o. o ≡ None) s f n r u → r ≡ read_on (Some n) s.rest.now
  read_on_try_fold {E} s u f n r d =
      read_on_ends E d.1 d.4.0 u (d.2, d.3) r d.4.2 d.6 ∙ read_on_goes d.0 s d.4.0 (f, n) (d.2, d.3) d.4.1 d.5

-- the number, where digits that write n stand before bs
abbrev whole : ℕ → List ℕ → ℕ
whole n bs = digits.number_from_digits_after 10 n (map (λ b. b - 48) bs)

-- a number n that fits, where the test t passed
abbrev fitting : Bool → ℕ → Option ℕ
fitting t n = cond (t && leb n (2 ^ 64 - 1)) (Some n) None

-- a number only grows as more digits follow
fitting_large : (t : Bool) (n : ℕ) (bs : List ℕ) → 2 ^ 64 ≤ n → fitting t (whole n bs) ≡ None
fitting_large t n bs h =
    let grows = number_after_ge 10 n (map (λ b. b - 48) bs) (lit< tt) in
    cond-false _ _ _ (and_right t _ (lt-leb _ _ (omega arith)))

read_on_is : (n : ℕ) (bs : List ℕ) → n < 2 ^ 64 → read_on (Some n) bs ≡ fitting (list_all is_digit bs) (whole n bs)
unfolding read_on
read_on_is n [] h = sym (cond-true _ _ _ (le-leb n (2 ^ 64 - 1) (omega arith)))
read_on_is n (b ∷ bs) h = go (n * 10 + (b - 48)) (is_digit b) _ refl (read_on_is (n * 10 + (b - 48)) bs)
  where
    go : (m : ℕ) (is small : Bool) → ltb m (2 ^ 64) ≡ small →
        (m < 2 ^ 64 → read_on (Some m) bs ≡ fitting (list_all is_digit bs) (whole m bs)) →
        read_on (cond (is && small) (Some m) None) bs ≡ fitting (is && list_all is_digit bs) (whole m bs)
    go m false small e rest = refl
    go m true true e rest = rest (ltb-true _ _ e)
    go m true false e rest = sym (fitting_large (list_all is_digit bs) m bs (ltb-false _ _ e))

-- from the start on, it is the number of the whole
pub read_on_number : (bs : List ℕ) → 0 < length bs → read_on (Some 0) bs ≡ number_of bs
read_on_number [] h = absurd (omega arith)
read_on_number (b ∷ bs) h = read_on_is 0 (b ∷ bs) (lit< tt)
