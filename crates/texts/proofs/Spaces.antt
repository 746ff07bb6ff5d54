-- A line, cut at its first space.
use Rattle.std.proofs.Common.{◌≡◌, ℕ, suc, ◌+◌, ◌<◌, ◌≤◌, Bool, true, false, cond, not, eqb, ltb, List, [], ◌∷◌, length, take, drop, is_some, Some, None, Option, MatchOption, sym, refl, ap, ◌∙◌, ap₂, arith, Bor}
use Rattle.std.specs.List.{between, prefix_len, position}
use Rattle.std.proofs.lemmas.List.{take_rest}
use Rattle.std.specs.Iterator.{Yields, FindsPosition}
use Rattle.std.specs.Slice.Iter.{iter_steps}
use Rattle.std.specs.declared.slice.Iter.{Iter}
use Rattle.std.proofs.lemmas.Bool.{ltb-true, ltb-false}
use Rattle.std.proofs.lemmas.Option.{cond_some, none-some}
use denote.Param.Members.{Mut, Called}
use Rattle.texts.specs.Texts.{is_empty, before_first, fields_of, fields_left}

-- whether a byte is no space
abbrev not_space : ℕ → Bool
not_space b = not (eqb b 32)

-- how many bytes stand before the first space
abbrev pub first_length : List ℕ → ℕ
first_length line = prefix_len not_space line

-- the last field has no space behind it
fields_of_last : (line : List ℕ) → length line ≤ first_length line → fields_of line ≡ line ∷ []
fields_of_last [] h = refl
fields_of_last (b ∷ bs) h = go (eqb b 32) h (fields_of_last bs)
  where
    go : (t : Bool) → suc (length bs) ≤ cond (not t) (1 + first_length bs) 0 →
        (length bs ≤ first_length bs → fields_of bs ≡ bs ∷ []) →
        cond t ([] ∷ fields_of bs) (before_first b (fields_of bs)) ≡ (b ∷ bs) ∷ []
    go true long rest = absurd (omega arith)
    go false long rest = ap (before_first b) (rest (omega arith))

-- a line cut at the place n: what stands before it, and the fields of what stands behind it
abbrev cut_off : ℕ → List ℕ → List (List ℕ)
cut_off n line = take n line ∷ fields_of (drop (n + 1) line)

-- any other field ends at a space
fields_of_more : (line : List ℕ) → first_length line < length line → fields_of line ≡ cut_off (first_length line) line
fields_of_more [] h = absurd (omega arith)
fields_of_more (b ∷ bs) h = go (eqb b 32) h (fields_of_more bs)
  where
    go : (t : Bool) → cond (not t) (1 + first_length bs) 0 < suc (length bs) →
        (first_length bs < length bs → fields_of bs ≡ cut_off (first_length bs) bs) →
        cond t ([] ∷ fields_of bs) (before_first b (fields_of bs)) ≡ cut_off (cond (not t) (1 + first_length bs) 0) (b ∷ bs)
    go true short rest = refl
    go false short rest =
        let one : suc (first_length bs) ≡ 1 + first_length bs = omega arith in
        let two : suc (first_length bs + 1) ≡ 1 + first_length bs + 1 = omega arith in
        ap (before_first b) (rest (omega arith))
        ∙ ap₂ (λ i j. take i (b ∷ bs) ∷ fields_of (drop j (b ∷ bs))) one two

-- ---- a line with a space, and one with none

-- whether a byte is a space
abbrev pub is_space : ℕ → Bool
is_space b = eqb b 32

pub cut_at : (line : List ℕ) (i : ℕ) → position is_space line ≡ Some i →
    fields_of line ≡ take i line ∷ fields_of (between (i + 1) (length line) line)
cut_at line i e =
    let first = cond_some _ _ _ e in
    fields_of_more line (ltb-true _ _ first.0) ∙ ap (λ j. cut_off j line) first.1
    ∙ ap (λ rest. take i line ∷ fields_of rest) (sym (take_rest line (i + 1)))

pub cut_nowhere : (line : List ℕ) → position is_space line ≡ None → fields_of line ≡ line ∷ []
cut_nowhere line e = go (ltb (first_length line) (length line)) refl e
  where
    go : (t : Bool) → ltb (first_length line) (length line) ≡ t → cond t (Some (first_length line)) None ≡ None →
        fields_of line ≡ line ∷ []
    go true within none = absurd (none-some _ (sym none))
    go false past none = fields_of_last line (ltb-false _ _ past)

-- ---- whether a field is left

-- a line has a field, even if it is empty
fields_of_some : (line : List ℕ) → is_empty (fields_of line) ≡ false
fields_of_some [] = refl
fields_of_some (b ∷ bs) = go (eqb b 32) (fields_of bs)
  where
    go : (t : Bool) (fs : List (List ℕ)) → is_empty (cond t ([] ∷ fs) (before_first b fs)) ≡ false
    go true fs = refl
    go false [] = refl
    go false (f ∷ fs) = refl

pub none_left : (o : Option (Bor (List ℕ))) (r : Bool) → is_some o ≡ not r → r ≡ is_empty (fields_left o)
none_left None true e = refl
none_left None false e = e
none_left (Some line) true e = e ∙ sym (fields_of_some line.now)
none_left (Some line) false e = sym (fields_of_some line.now)

-- ---- what is left behind the place that `position` found

behind_after : (bs : List (Bor ℕ)) (b : Bor ℕ) (s t u : Iter ℕ) → Yields iter_steps s bs t → iter_steps t (Some b) u →
    u.rest.now ≡ drop (suc (length bs)) s.rest.now
behind_after [] b s t u yields step = ap (drop 1) (sym step ∙ ap (λ l. l.rest.now) (sym yields))
behind_after (c ∷ bs) b s t u yields step =
    behind_after bs b yields.0 t u yields.2 step ∙ ap (drop (suc (suc (length bs)))) (sym yields.1)

module _ {F : Type 0} {g : Mut F (Bor ℕ × Unit {0}) Bool} where
  pub behind_position : (s u : Iter ℕ) (f : F) (r : Option ℕ) (i : ℕ) → FindsPosition iter_steps g s f r u → r ≡ Some i →
      u.rest.now ≡ drop (i + 1) s.rest.now
  behind_position s u f r i d e = go d.0 d.1 d.2 d.3.0 d.3.1 d.3.2 d.5
    where
      go : (bs : List (Bor ℕ)) (o : Option (Bor ℕ)) (h : F) (t : Iter ℕ) → Yields iter_steps s bs t → iter_steps t o u →
          MatchOption o (r ≡ None) (λ b. (r ≡ Some (length bs)) × ((k : F) × Called g h (b, tt) true k)) → u.rest.now ≡ drop (i + 1) s.rest.now
      go bs None h t yields step end = absurd (none-some _ (sym end ∙ e))
      go bs (Some b) h t yields step end =
          let count : length bs ≡ i = cc (end.0, e) in
          let next : suc (length bs) ≡ i + 1 = omega arith in
          behind_after bs b s t u yields step ∙ ap (λ j. drop j s.rest.now) next
