-- Searching a suite's places: where the five of a node begin, and the best of some places, found from the last to the first.
use Rattle.std.proofs.Common.{◌≡◌, ℕ, suc, ◌+◌, ◌*◌, ◌<◌, ◌≤◌, ◌⊎◌, inl, inr, Bool, true, false, cond, not, eqb, leb, ltb, List, [], ◌∷◌, ◌++◌, length, take, drop, set, get_or, Option, Some, None, option_map, sym, refl, ap, ◌∙◌, arith}
use Rattle.std.proofs.lemmas.Bool.{cases_lt, lt-ltb, le-ltb}
use Rattle.std.proofs.lemmas.List.{drop-drop, at_drop_more, drop_all, take-append-drop}
use Rattle.std.proofs.lemmas.List.{drop-set-add}
use Rattle.std.proofs.Math.Seq.{take-set-le}
use Rattle.std.specs.List.{position, position_or_len}
use Rattle.session.specs.Choosing.{preferred}
use Rattle.session.specs.Versions.{better, best, versions_of, with_version}
use Rattle.session.specs.declared.place.Place.{Place}

-- the first that passes is the first element, or one behind it
position_cons : {X : Type 0} (p : X → Bool) (x : X) (xs : List X) → position p (x ∷ xs) ≡ cond (p x) (Some 0) (option_map (λ k. 1 + k) (position p xs))
position_cons p x xs = by (p x) (cases_lt (position_or_len p xs) (length xs))
  where
    q : ℕ
    q = position_or_len p xs

    by : (b : Bool) → (q < length xs) ⊎ (length xs ≤ q) →
        ◌≡◌ {A = Option ℕ} (cond (ltb (cond (not b) (1 + q) 0) (suc (length xs))) (Some (cond (not b) (1 + q) 0)) None)
        (cond b (Some 0) (option_map (λ k. 1 + k) (cond (ltb q (length xs)) (Some q) None)))
    by true there = ap (λ b. cond b (Some 0) None) (lt-ltb 0 (suc (length xs)) (omega arith))
    by false (inl below) =
        ap (λ b. cond b (Some (1 + q)) None) (lt-ltb (1 + q) (suc (length xs)) (omega arith))
        ∙ sym (ap (λ b. option_map (λ k. 1 + k) (cond b (Some q) None)) (lt-ltb q (length xs) below))
    by false (inr above) =
        ap (λ b. cond b (Some (1 + q)) None) (le-ltb (1 + q) (suc (length xs)) (omega arith))
        ∙ sym (ap (λ b. option_map (λ k. 1 + k) (cond b (Some q) None)) (le-ltb q (length xs) above))

module _ {T : Type 0} where
  -- five places from an index of a node on
  abbrev pub five_at : List (Place T) → Option ℕ → List (Place T)
  five_at places None = []
  five_at places (Some i) = take 5 (drop (i * 5) places)

  five_later : (places : List (Place T)) (o : Option ℕ) → five_at places (option_map (λ k. 1 + k) o) ≡ five_at (drop 5 places) o
  five_later places None = refl
  five_later places (Some i) = ap (take 5) (ap (λ k. drop k places) (omega arith) ∙ sym (drop-drop (i * 5) 5 places))

  -- the five of a node are those with its index
  pub versions_at : (nodes : List ℕ) (places : List (Place T)) (n : ℕ) → five_at places (position (λ x. eqb x n) nodes) ≡ versions_of nodes places n
  unfolding versions_of
  versions_at [] places n = refl
  versions_at (x ∷ xs) places n = ap (five_at places) (position_cons (λ y. eqb y n) x xs) ∙ by (eqb x n) (versions_at xs (drop 5 places) n)
    where
      by : (b : Bool) → five_at (drop 5 places) (position (λ y. eqb y n) xs) ≡ versions_of xs (drop 5 places) n →
          five_at places (cond b (Some 0) (option_map (λ k. 1 + k) (position (λ y. eqb y n) xs))) ≡ cond b (take 5 places) (versions_of xs (drop 5 places) n)
      by true rest = refl
      by false rest = five_later places (position (λ y. eqb y n) xs) ∙ rest

  -- a place of five from an index on, put at j of them
  abbrev pub set_at : List (Place T) → Option ℕ → ℕ → Place T → List (Place T)
  set_at places None j p = places
  set_at places (Some i) j p = set places (i * 5 + j) p

  set_later : (places : List (Place T)) (o : Option ℕ) (j : ℕ) (p : Place T) →
      set_at places (option_map (λ k. 1 + k) o) j p ≡ take 5 places ++ set_at (drop 5 places) o j p
  set_later places None j p = sym (take-append-drop 5 places)
  set_later places (Some i) j p =
      let at : (1 + i) * 5 + j ≡ 5 + (i * 5 + j) = omega arith in
      ap (λ k. set places k p) at
      ∙ sym (take-append-drop 5 (set places (5 + (i * 5 + j)) p))
      ∙ ap (λ front. front ++ drop 5 (set places (5 + (i * 5 + j)) p)) (take-set-le 5 places (5 + (i * 5 + j)) p (omega arith))
      ∙ ap (λ rest. take 5 places ++ rest) (drop-set-add 5 places (i * 5 + j) p)

  -- putting a version into a place of a node puts it at its index
  pub version_at : (nodes : List ℕ) (places : List (Place T)) (n j : ℕ) (p : Place T) →
      set_at places (position (λ x. eqb x n) nodes) j p ≡ with_version nodes places n j p
  unfolding with_version
  version_at [] places n j p = refl
  version_at (x ∷ xs) places n j p =
      ap (λ o. set_at places o j p) (position_cons (λ y. eqb y n) x xs) ∙ by (eqb x n) (version_at xs (drop 5 places) n j p)
    where
      by : (b : Bool) → set_at (drop 5 places) (position (λ y. eqb y n) xs) j p ≡ with_version xs (drop 5 places) n j p →
          set_at places (cond b (Some 0) (option_map (λ k. 1 + k) (position (λ y. eqb y n) xs))) j p
          ≡ cond b (set places j p) (take 5 places ++ with_version xs (drop 5 places) n j p)
      by true rest = let first : 0 * 5 + j ≡ j = omega arith in ap (λ k. set places k p) first
      by false rest = set_later places (position (λ y. eqb y n) xs) j p ∙ ap (λ ps. take 5 places ++ ps) rest

  -- what was found, if the places searched begin at index i of others
  abbrev pub moved : ℕ → Option (ℕ × Place T) → Option (ℕ × Place T)
  moved i None = None
  moved i (Some b) = Some (b.0 + i, b.1)

  -- what is found from index i on
  abbrev pub found_from : (ℕ → Bool) → List (Place T) → ℕ → Option (ℕ × Place T)
  found_from passes ps i = moved i (best passes (drop i ps))

  pub found_none : (passes : ℕ → Bool) (ps : List (Place T)) → found_from passes ps (length ps) ≡ None
  unfolding best
  found_none passes ps = ap (λ qs. moved (length ps) (best passes qs)) (drop_all (length ps) ps (omega arith))

  pub found_all : (passes : ℕ → Bool) (ps : List (Place T)) → found_from passes ps 0 ≡ best passes ps
  found_all passes ps = by (best passes ps)
    where
      by : (o : Option (ℕ × Place T)) → moved 0 o ≡ o
      by None = refl
      by (Some b) = ap (λ k. Some (k, b.1)) (omega arith)

  -- one place more
  pub found_step : (passes : ℕ → Bool) (ps : List (Place T)) (i : ℕ) (d : Place T) → i < length ps →
      found_from passes ps i ≡ preferred (passes (get_or ps i d).stamp) i (get_or ps i d) (found_from passes ps (i + 1))
  unfolding best
  found_step passes ps i d there =
      at_drop_more (λ qs. moved i (best passes qs)) ps i d there
      ∙ by (passes (get_or ps i d).stamp) (get_or ps i d) (best passes (drop (i + 1) ps))
    where
      zero_more : 0 + i ≡ i
      zero_more = omega arith

      one_more : (k : ℕ) → k + 1 + i ≡ k + (i + 1)
      one_more k = omega arith

      by : (seen : Bool) (p : Place T) (o : Option (ℕ × Place T)) → moved i (better seen p o) ≡ preferred seen i p (moved (i + 1) o)
      by true p None = ap (λ k. Some (k, p)) zero_more
      by true p (Some b) = both (leb b.1.stamp p.stamp)
        where
          both : (c : Bool) → moved i (cond c (Some (0, p)) (Some (b.0 + 1, b.1))) ≡ cond c (Some (i, p)) (Some (b.0 + (i + 1), b.1))
          both true = ap (λ k. Some (k, p)) zero_more
          both false = ap (λ k. Some (k, b.1)) (one_more b.0)
      by false p None = refl
      by false p (Some b) = ap (λ k. Some (k, b.1)) (one_more b.0)
