-- How many moves of a slot are sent and agreed: a move is sent from its own slot only, and no more are agreed than are sent.
use Rattle.std.proofs.Common.{◌≡◌, ℕ, zero, suc, ◌+◌, ◌≤◌, ◌≢◌, ◌⊎◌, inl, inr, ◌&&◌, eqb, Bool, true, false, cond, List, [], ◌∷◌, ◌++◌, take, drop, count_by, Option, Some, None, sym, refl, ap, ◌∙◌, add-one, arith}
use Rattle.std.proofs.Math.Bool.{and-false}
use Rattle.std.proofs.Math.Seq.{take-add}
use Rattle.std.proofs.lemmas.Bool.{eqb-true, eqb-false, eq-eqb, ne_eqb}
use Rattle.std.proofs.lemmas.List.Sums.{sum_by-cons, sum_by-append, sum_by-take-le, sum_by-take-drop}
use Rattle.std.specs.Prelude.{option_to_list}
use Rattle.history.proofs.Standing.{open_origin}
use Rattle.history.specs.Events.{Did, began, read, wrote, closed, abandoned, collected, Event, at, settled, took, declined}
use Rattle.history.specs.Moves.{Move, open_move, sends, sent_by, served, agreed, from_slot}
use Rattle.session.specs.declared.ruling.CommitAnswer.TheVariants.{Sent, ReadOnly, Clash}

module _ {T : Type 0} where
  other_suite : (u s : ℕ) (m : Move T) → m.suite ≢ u → from_slot u s m ≡ false
  other_suite u s m d = ap (λ b. b && eqb m.slot s) (ne_eqb m.suite u d)

  other_slot : (u s : ℕ) (m : Move T) → m.slot ≢ s → from_slot u s m ≡ false
  other_slot u s m d = ap (λ b. eqb m.suite u && b) (ne_eqb m.slot s d) ∙ and-false (eqb m.suite u)

  -- a call that sends no move of the slot
  sends_none : (p : Move T → Bool) (d : Did T) (o : Option (Move T)) → ((m : Move T) → o ≡ Some m → p m ≡ false) → count_by p (sends d o) ≡ 0
  sends_none p (began t) o none = refl
  sends_none p (read n x) o none = refl
  sends_none p (wrote n x) o none = refl
  sends_none p (closed (ReadOnly t)) o none = refl
  sends_none p (closed (Clash n)) o none = refl
  sends_none p (closed Sent) None none = refl
  sends_none p (closed Sent) (Some m) none = ap (λ b. 0 + cond b 1 0) (none m refl)
  sends_none p abandoned o none = refl
  sends_none p (collected outcome) o none = refl

  -- what another suite sent
  pub sent_elsewhere : (u s v : ℕ) → v ≢ u → (es : List (Event T)) → count_by (from_slot u s) (sent_by es v) ≡ 0
  unfolding sent_by
  sent_elsewhere u s v d [] = refl
  sent_elsewhere u s v d (at x r did ∷ es) = by (eqb x v) refl (sent_elsewhere u s v d es)
    where
      by : (b : Bool) → eqb x v ≡ b → count_by (from_slot u s) (sent_by es v) ≡ 0 →
          count_by (from_slot u s) (cond b (sent_by es v ++ sends did (open_move es x r)) (sent_by es v)) ≡ 0
      by true e before =
          let same = eqb-true x v e in
          let none = sends_none (from_slot u s) did (open_move es x r)
          (λ m o. other_suite u s m (λ z. d (sym same ∙ sym (open_origin es x r m o).0 ∙ z))) in
          sum_by-append (λ m. cond (from_slot u s m) 1 0) (sent_by es v) (sends did (open_move es x r)) ∙ omega (arith, none, before)
      by false e before = before
  sent_elsewhere u s v d (settled x ∷ es) = sent_elsewhere u s v d es
  sent_elsewhere u s v d (took x ruling ∷ es) = sent_elsewhere u s v d es
  sent_elsewhere u s v d (declined call why ∷ es) = sent_elsewhere u s v d es

  -- a call at another slot sends no move of this one
  pub sent_same : (u s v r : ℕ) (did : Did T) (es : List (Event T)) → ((v ≢ u) ⊎ (r ≢ s)) →
      count_by (from_slot u s) (sent_by (at v r did ∷ es) u) ≡ count_by (from_slot u s) (sent_by es u)
  unfolding sent_by
  sent_same u s v r did es other = by (eqb v u)
    where
      none : count_by (from_slot u s) (sends did (open_move es v r)) ≡ 0
      none = sends_none (from_slot u s) did (open_move es v r) (λ m o. apart m (open_origin es v r m o) other)
        where
          apart : (m : Move T) → (m.suite ≡ v) × (m.slot ≡ r) → ((v ≢ u) ⊎ (r ≢ s)) → from_slot u s m ≡ false
          apart m made (inl d) = other_suite u s m (λ z. d (sym made.0 ∙ z))
          apart m made (inr d) = other_slot u s m (λ z. d (sym made.1 ∙ z))

      by : (b : Bool) → count_by (from_slot u s) (cond b (sent_by es u ++ sends did (open_move es v r)) (sent_by es u)) ≡ count_by (from_slot u s) (sent_by es u)
      by true = sum_by-append (λ m. cond (from_slot u s m) 1 0) (sent_by es u) (sends did (open_move es v r)) ∙ omega (arith, none)
      by false = refl

  module _ (u s : ℕ) (es : List (Event T)) where
    abbrev f : Move T → ℕ
    f m = cond (from_slot u s m) 1 0

    -- after a call at the slot it has sent as many as it had, and those that the call sends
    sent_here : (did : Did T) → count_by (from_slot u s) (sent_by (at u s did ∷ es) u) ≡ count_by (from_slot u s) (sent_by es u) + count_by (from_slot u s) (sends did (open_move es u s))
    unfolding sent_by
    sent_here did =
        ap (λ b. count_by (from_slot u s) (cond b (sent_by es u ++ sends did (open_move es u s)) (sent_by es u))) (eq-eqb u u refl)
        ∙ sum_by-append f (sent_by es u) (sends did (open_move es u s))

    pub sent_none : (did : Did T) → sends did (open_move es u s) ≡ [] → count_by (from_slot u s) (sent_by (at u s did ∷ es) u) ≡ count_by (from_slot u s) (sent_by es u)
    sent_none did none = sent_here did ∙ ap (λ l. count_by (from_slot u s) (sent_by es u) + count_by (from_slot u s) l) none ∙ omega arith

    pub sent_one : (m : Move T) → open_move es u s ≡ Some m → count_by (from_slot u s) (sent_by (at u s (closed Sent) ∷ es) u) ≡ suc (count_by (from_slot u s) (sent_by es u))
    sent_one m is =
        let made = open_origin es u s m is in
        let its : from_slot u s m ≡ true = ap (λ b. b && eqb m.slot s) (eq-eqb m.suite u made.0) ∙ eq-eqb m.slot s made.1 in
        sent_here (closed Sent)
        ∙ ap (λ o. count_by (from_slot u s) (sent_by es u) + count_by (from_slot u s) (option_to_list o)) is
        ∙ ap (λ b. count_by (from_slot u s) (sent_by es u) + (0 + cond b 1 0)) its
        ∙ add-one (count_by (from_slot u s) (sent_by es u))

  count_take_more : (p : Move T → Bool) (n : ℕ) (xs ys : List (Move T)) → count_by p (take n xs) ≤ count_by p (take n (xs ++ ys))
  count_take_more p zero xs ys = omega arith
  count_take_more p (suc n) [] ys = omega arith
  count_take_more p (suc n) (x ∷ xs) ys =
      omega (arith, count_take_more p n xs ys, sum_by-cons (λ m. cond (p m) 1 0) x (take n xs), sum_by-cons (λ m. cond (p m) 1 0) x (take n (xs ++ ys)))

  -- of the moves that a slot sent at most as many are agreed as its suite's settles served
  agreed_served : (u s : ℕ) (es : List (Event T)) → count_by (from_slot u s) (agreed es) ≤ count_by (from_slot u s) (take (served es u) (sent_by es u))
  unfolding sent_by agreed served
  agreed_served u s [] = omega arith
  agreed_served u s (at v r did ∷ es) = by (eqb v u) (agreed_served u s es)
    where
      by : (b : Bool) → count_by (from_slot u s) (agreed es) ≤ count_by (from_slot u s) (take (served es u) (sent_by es u)) →
          count_by (from_slot u s) (agreed es) ≤ count_by (from_slot u s) (take (served es u) (cond b (sent_by es u ++ sends did (open_move es v r)) (sent_by es u)))
      by true before = omega (arith, before, count_take_more (from_slot u s) (served es u) (sent_by es u) (sends did (open_move es v r)))
      by false before = before
  agreed_served u s (settled v ∷ es) = by (eqb v u) refl (agreed_served u s es)
    where
      f : Move T → ℕ
      f m = cond (from_slot u s m) 1 0

      next : List (Move T)
      next = take 1 (drop (served es v) (sent_by es v))

      by : (b : Bool) → eqb v u ≡ b → count_by (from_slot u s) (agreed es) ≤ count_by (from_slot u s) (take (served es u) (sent_by es u)) →
          count_by (from_slot u s) (agreed es ++ next) ≤ count_by (from_slot u s) (take (cond b (suc (served es u)) (served es u)) (sent_by es u))
      by true e before =
          let same = eqb-true v u e in
          let first : next ≡ take 1 (drop (served es u) (sent_by es u)) = ap (λ x. take 1 (drop (served es x) (sent_by es x))) same in
          let all : take (suc (served es u)) (sent_by es u) ≡ take (served es u) (sent_by es u) ++ next =
          ap (λ k. take k (sent_by es u)) (sym (add-one (served es u)))
          ∙ take-add (served es u) 1 (sent_by es u)
          ∙ ap (λ l. take (served es u) (sent_by es u) ++ l) (sym first) in
          omega (arith, before, sum_by-append f (agreed es) next, ap (count_by (from_slot u s)) all, sum_by-append f (take (served es u) (sent_by es u)) next)
      by false e before =
          let none = sent_elsewhere u s v (eqb-false v u e) es in
          let some = sum_by-take-drop f (sent_by es v) (served es v) in
          let one = sum_by-take-le f (drop (served es v) (sent_by es v)) 1 in
          omega (arith, before, sum_by-append f (agreed es) next)
  agreed_served u s (took v ruling ∷ es) = agreed_served u s es
  agreed_served u s (declined call why ∷ es) = agreed_served u s es

  pub agreed_sent : (u s : ℕ) (es : List (Event T)) → count_by (from_slot u s) (agreed es) ≤ count_by (from_slot u s) (sent_by es u)
  agreed_sent u s es =
      omega (arith, agreed_served u s es, sum_by-take-le (λ m. cond (from_slot u s m) 1 0) (sent_by es u) (served es u))
