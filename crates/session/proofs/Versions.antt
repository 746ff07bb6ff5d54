-- What the best of some places is, and how it changes when one of them is overwritten.
use Rattle.std.proofs.Common.{◌≡◌, ◌≢◌, ℕ, zero, suc, ◌+◌, ◌<◌, ◌≤◌, Bool, true, false, cond, leb, List, [], ◌∷◌, length, set, add-one, ap₂, subst, replicate, Option, Some, None, sym, refl, ap, ◌∙◌, arith}
use Rattle.std.specs.List.{AllByRecursion}
use Rattle.std.specs.Bool.{⊤}
use Rattle.std.proofs.lemmas.Bool.{false≢true, both_ways, leb-true, leb-false, le-leb, lt-leb, cond-true, cond-false, cond_both}
use Rattle.std.proofs.lemmas.List.Elements.{All-from_recursion, recursion_from_All, All-set, All-weaker}
use Rattle.std.proofs.lemmas.Option.{none-some, some_pair_parts}
use Rattle.session.specs.Versions.{better, best, visible, newest, newest_stamp}
use Rattle.session.specs.declared.place.Place.{Place}

module _ {T : Type 0} where
  -- where the option has a place, its stamp is at most t
  abbrev AtMost : ℕ → Option (ℕ × Place T) → Type 0
  AtMost t None = ⊤
  AtMost t (Some b) = b.1.stamp ≤ t

  -- ---- stamps up to a number

  pub stamps_weaken : (t t' : ℕ) (ps : List (Place T)) → AllByRecursion (λ p. p.stamp ≤ t) ps → t ≤ t' → AllByRecursion (λ p. p.stamp ≤ t') ps
  stamps_weaken t t' ps h le =
      recursion_from_All (λ p. p.stamp ≤ t') ps
      (All-weaker (λ p. p.stamp ≤ t) (λ p. p.stamp ≤ t') (λ p low. omega arith) ps (All-from_recursion (λ p. p.stamp ≤ t) ps h))

  pub stamps_set : (t : ℕ) (ps : List (Place T)) (j : ℕ) (new : Place T) → AllByRecursion (λ p. p.stamp ≤ t) ps → new.stamp ≤ t →
      AllByRecursion (λ p. p.stamp ≤ t) (set ps j new)
  stamps_set t ps j new h low =
      recursion_from_All (λ p. p.stamp ≤ t) (set ps j new)
      (All-set (λ p. p.stamp ≤ t) ps j new low (All-from_recursion (λ p. p.stamp ≤ t) ps h))

  -- ---- the best of a list, by its first place and the best of the others

  at_most_parts : (t : ℕ) (passing : Bool) (p : Place T) (o : Option (ℕ × Place T)) → AtMost t (better passing p o) →
      (passing ≡ true → p.stamp ≤ t) × AtMost t o
  at_most_parts t true p None h = (λ e. h, tt)
  at_most_parts t true p (Some b) h = by (leb b.1.stamp p.stamp) refl h
    where
      by : (u : Bool) → leb b.1.stamp p.stamp ≡ u → AtMost t (cond u (Some (0, p)) (Some (b.0 + 1, b.1))) → (true ≡ true → p.stamp ≤ t) × (b.1.stamp ≤ t)
      by true e h = let le = leb-true b.1.stamp p.stamp e in (λ same. h, omega arith)
      by false e h = let lt = leb-false b.1.stamp p.stamp e in (λ same. omega arith, h)
  at_most_parts t false p None h = (λ e. absurd (false≢true e), tt)
  at_most_parts t false p (Some b) h = (λ e. absurd (false≢true e), h)

  at_most_better : (t : ℕ) (passing : Bool) (p : Place T) (o : Option (ℕ × Place T)) → (passing ≡ true → p.stamp ≤ t) → AtMost t o →
      AtMost t (better passing p o)
  at_most_better t true p None h others = h refl
  at_most_better t true p (Some b) h others = cond_both (leb b.1.stamp p.stamp) (Some (0, p)) (Some (b.0 + 1, b.1)) (AtMost t) (λ e. h refl) (λ e. others)
  at_most_better t false p None h others = tt
  at_most_better t false p (Some b) h others = others

  -- a place that passes is the best if the others are no better
  better_first : (p : Place T) (o : Option (ℕ × Place T)) → AtMost p.stamp o → better true p o ≡ Some (0, p)
  better_first p None h = refl
  better_first p (Some b) h = cond-true (leb b.1.stamp p.stamp) (Some (0, p)) (Some (b.0 + 1, b.1)) (le-leb b.1.stamp p.stamp h)

  -- it is not if another is better
  better_later : (passing : Bool) (p : Place T) (b : ℕ × Place T) → (passing ≡ true → p.stamp < b.1.stamp) →
      better passing p (Some b) ≡ Some (b.0 + 1, b.1)
  better_later true p b h = cond-false (leb b.1.stamp p.stamp) (Some (0, p)) (Some (b.0 + 1, b.1)) (lt-leb b.1.stamp p.stamp (h refl))
  better_later false p b h = refl

  -- ---- the best of all

  best_at_most : (passes : ℕ → Bool) (t : ℕ) (ps : List (Place T)) → AllByRecursion (λ p. p.stamp ≤ t) ps → AtMost t (best passes ps)
  unfolding best
  best_at_most passes t [] h = tt
  best_at_most passes t (p ∷ ps) h = at_most_better t (passes p.stamp) p (best passes ps) (λ e. h.0) (best_at_most passes t ps h.1)

  -- the best gets no better if a place is overwritten by one that does not pass
  set_at_most : (passes : ℕ → Bool) (t : ℕ) (ps : List (Place T)) (j : ℕ) (new : Place T) → passes new.stamp ≡ false →
      AtMost t (best passes ps) → AtMost t (best passes (set ps j new))
  unfolding best
  set_at_most passes t [] j new fails h = h
  set_at_most passes t (p ∷ ps) zero new fails h =
      at_most_better t (passes new.stamp) new (best passes ps) (λ e. absurd (both_ways (passes new.stamp) fails e))
      (at_most_parts t (passes p.stamp) p (best passes ps) h).1
  set_at_most passes t (p ∷ ps) (suc j) new fails h =
      let parts = at_most_parts t (passes p.stamp) p (best passes ps) h in
      at_most_better t (passes p.stamp) p (best passes (set ps j new)) parts.0 (set_at_most passes t ps j new fails parts.1)

  -- a best that is not the first place stays if the first is overwritten by one that does not pass
  better_without : (passing : Bool) (q new : Place T) (o : Option (ℕ × Place T)) (i : ℕ) (p : Place T) → better passing q o ≡ Some (i, p) → i ≢ 0 →
      better false new o ≡ Some (i, p)
  better_without true q new None i p is later = absurd (later (sym (some_pair_parts 0 i q p is).0))
  better_without true q new (Some b) i p is later = by (leb b.1.stamp q.stamp) is
    where
      by : (u : Bool) → cond {A = Option (ℕ × Place T)} u (Some (0, q)) (Some (b.0 + 1, b.1)) ≡ Some (i, p) → better false new (Some b) ≡ Some (i, p)
      by true is = absurd (later (sym (some_pair_parts 0 i q p is).0))
      by false is = is
  better_without false q new None i p is later = is
  better_without false q new (Some b) i p is later = is

  -- the best stays if the best of the others o does or, where it may change, gets no better
  better_kept : (passing : Bool) (q : Place T) (o after : Option (ℕ × Place T)) (i j : ℕ) (p : Place T) → better passing q o ≡ Some (i, p) → i ≢ suc j →
      ((b : ℕ × Place T) → o ≡ Some b → b.0 ≢ j → after ≡ Some b) → ((t : ℕ) → AtMost t o → AtMost t after) → better passing q after ≡ Some (i, p)
  better_kept true q None after i j p is other same no_better = better_first q after (no_better q.stamp tt) ∙ is
  better_kept true q (Some b) after i j p is other same no_better = by (leb b.1.stamp q.stamp) refl is
    where
      by : (u : Bool) → leb b.1.stamp q.stamp ≡ u → cond {A = Option (ℕ × Place T)} u (Some (0, q)) (Some (b.0 + 1, b.1)) ≡ Some (i, p) → better true q after ≡ Some (i, p)
      by true e is = better_first q after (no_better q.stamp (leb-true b.1.stamp q.stamp e)) ∙ is
      by false e is =
          let at : b.0 + 1 ≡ i = (some_pair_parts (b.0 + 1) i b.1 p is).0 in
          ap (better true q) (same b refl (omega arith)) ∙ better_later true q b (λ _. leb-false b.1.stamp q.stamp e) ∙ is
  better_kept false q None after i j p is other same no_better = absurd (none-some (i, p) is)
  better_kept false q (Some b) after i j p is other same no_better =
      let at : b.0 + 1 ≡ i = (some_pair_parts (b.0 + 1) i b.1 p is).0 in
      ap (better false q) (same b refl (omega arith)) ∙ is

  -- the best stays if another place is overwritten by one that does not pass
  best_kept : (passes : ℕ → Bool) (ps : List (Place T)) (i j : ℕ) (p new : Place T) → best passes ps ≡ Some (i, p) → i ≢ j →
      passes new.stamp ≡ false → best passes (set ps j new) ≡ Some (i, p)
  unfolding best
  best_kept passes [] i j p new is other fails = is
  best_kept passes (q ∷ qs) i zero p new is other fails =
      ap (λ passing. better passing new (best passes qs)) fails ∙ better_without (passes q.stamp) q new (best passes qs) i p is other
  best_kept passes (q ∷ qs) i (suc j) p new is other fails =
      better_kept (passes q.stamp) q (best passes qs) (best passes (set qs j new)) i j p is other
      (λ b same away. best_kept passes qs b.0 j b.1 new same away fails)
      (λ t. set_at_most passes t qs j new fails)

  -- ---- the visible and the newest

  pub visible_kept : (s : ℕ) (ps : List (Place T)) (i j : ℕ) (p new : Place T) → visible s ps ≡ Some (i, p) → i ≢ j → s < new.stamp →
      visible s (set ps j new) ≡ Some (i, p)
  visible_kept s ps i j p new is other above = best_kept (λ stamp. leb stamp s) ps i j p new is other (lt-leb new.stamp s above)

  pub visible_is_newest : (s : ℕ) (ps : List (Place T)) → AllByRecursion (λ p. p.stamp ≤ s) ps → visible s ps ≡ newest ps
  unfolding best
  visible_is_newest s [] h = refl
  visible_is_newest s (p ∷ ps) h = ap₂ (λ passing o. better passing p o) (le-leb p.stamp s h.0) (visible_is_newest s ps h.1)

  pub newest_there : (ps : List (Place T)) → 1 ≤ length ps → (b : ℕ × Place T) × (newest ps ≡ Some b)
  unfolding best
  newest_there [] h = absurd (omega arith)
  newest_there (p ∷ ps) h = by (newest ps)
    where
      by : (o : Option (ℕ × Place T)) → (b : ℕ × Place T) × (better true p o ≡ Some b)
      by None = ((0, p), refl)
      by (Some b) =
          cond_both (leb b.1.stamp p.stamp) (Some (0, p)) (Some (b.0 + 1, b.1)) (λ o. (b : ℕ × Place T) × (o ≡ Some b))
          (λ _. ((0, p), refl)) (λ _. ((b.0 + 1, b.1), refl))

  -- a new place with a higher stamp than all is the newest
  pub newest_set : (t : ℕ) (ps : List (Place T)) (j : ℕ) (new : Place T) → AllByRecursion (λ p. p.stamp ≤ t) ps → t < new.stamp → j < length ps →
      newest (set ps j new) ≡ Some (j, new)
  unfolding best
  newest_set t [] j new h above there = absurd (omega arith)
  newest_set t (p ∷ ps) zero new h above there =
      better_first new (newest ps) (best_at_most (λ stamp. true) new.stamp ps (stamps_weaken t new.stamp ps h.1 (omega arith)))
  newest_set t (p ∷ ps) (suc j) new h above there =
      let low = h.0 in
      ap (better true p) (newest_set t ps j new h.1 above (omega arith)) ∙ better_later true p (j, new) (λ _. omega arith) ∙ ap (λ k. Some (k, new)) (add-one j)

  pub newest_stamp_le : (t : ℕ) (ps : List (Place T)) (b : ℕ × Place T) → AllByRecursion (λ p. p.stamp ≤ t) ps → newest ps ≡ Some b → b.1.stamp ≤ t
  newest_stamp_le t ps b h is = subst (AtMost t) is (best_at_most (λ stamp. true) t ps h)

  pub newest_stamp_is : (ps : List (Place T)) (b : ℕ × Place T) → newest ps ≡ Some b → newest_stamp ps ≡ b.1.stamp
  newest_stamp_is ps b is = rw is refl

  pub newest_replicate : (p : Place T) → newest (replicate 5 p) ≡ Some (0, p)
  unfolding best
  newest_replicate p = better_first p (newest (replicate 4 p)) (best_at_most (λ stamp. true) p.stamp (replicate 4 p) (omega arith))
