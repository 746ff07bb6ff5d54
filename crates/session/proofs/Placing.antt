-- Of a suite's places the five of a node: how they change when a place is overwritten, of that node or of another, and after a commit.
use Rattle.std.proofs.Common.{◌≡◌, ◌≢◌, ℕ, zero, suc, ◌+◌, ◌-◌, ◌*◌, ◌<◌, Bool, true, false, cond, eqb, List, [], ◌∷◌, ◌++◌, length, take, drop, set, get_or, replicate, map, Option, Some, None, option_map, find, sym, refl, ap, ◌∙◌, arith}
use Rattle.std.specs.List.{AllByRecursion, ContainsAt}
use Rattle.std.proofs.lemmas.Bool.{eqb-true, eqb-false, ne_eqb}
use Rattle.std.proofs.lemmas.List.{length-set, length-take, length-drop, length-append, take_at, drop_at, take-append-drop, take-replicate, drop-replicate, drop-set-lt}
use Rattle.messages.specs.declared.parts.Write.{Write}
use Rattle.messages.specs.Returning.{Different}
use Rattle.session.specs.Slots.{own}
use Rattle.session.specs.Takes.{placed}
use Rattle.session.specs.Versions.{versions_of, with_version}
use Rattle.session.specs.declared.place.Place.{Place}
use Rattle.std.proofs.Math.Seq.{take-set-lt}

-- a number of the list that is not the first is one of the others
not_first : (x n : ℕ) (xs : List ℕ) → ContainsAt (x ∷ xs) n → eqb x n ≡ false → ContainsAt xs n
not_first x n xs (zero, there, is) other = absurd (eqb-false x n other (is n))
not_first x n xs (suc k, there, is) other = (k, omega arith, is)

module _ {T : Type 0} where
  -- ---- as many places as five for each node

  -- the places of the first node, and those of the others
  length_first : (x : ℕ) (xs : List ℕ) (places : List (Place T)) → length places ≡ length (x ∷ xs) * 5 → length (take 5 places) ≡ 5
  length_first x xs places size = length-take 5 places ∙ omega arith

  length_others : (x : ℕ) (xs : List ℕ) (places : List (Place T)) → length places ≡ length (x ∷ xs) * 5 → length (drop 5 places) ≡ length xs * 5
  length_others x xs places size = length-drop 5 places ∙ omega arith

  pub length_versions : (nodes : List ℕ) (places : List (Place T)) (n : ℕ) → ContainsAt nodes n → length places ≡ length nodes * 5 →
      length (versions_of nodes places n) ≡ 5
  unfolding versions_of
  length_versions [] places n (k, there, is) size = absurd (omega arith)
  length_versions (x ∷ xs) places n known size =
      by (eqb x n) refl (λ there. length_versions xs (drop 5 places) n there (length_others x xs places size))
    where
      by : (b : Bool) → eqb x n ≡ b → (ContainsAt xs n → length (versions_of xs (drop 5 places) n) ≡ 5) →
          length (cond b (take 5 places) (versions_of xs (drop 5 places) n)) ≡ 5
      by true e rest = length_first x xs places size
      by false e rest = rest (not_first x n xs known e)

  pub versions_filled : (nodes : List ℕ) (p : Place T) (n : ℕ) → ContainsAt nodes n →
      versions_of nodes (replicate (length nodes * 5) p) n ≡ replicate 5 p
  unfolding versions_of
  versions_filled [] p n (k, there, is) = absurd (omega arith)
  versions_filled (x ∷ xs) p n known = by (eqb x n) refl (λ there. versions_filled xs p n there)
    where
      all : List (Place T)
      all = replicate (suc (length xs) * 5) p

      by : (b : Bool) → eqb x n ≡ b → (ContainsAt xs n → versions_of xs (replicate (length xs * 5) p) n ≡ replicate 5 p) →
          cond b (take 5 all) (versions_of xs (drop 5 all) n) ≡ replicate 5 p
      by true e rest = take-replicate 5 (suc (length xs) * 5) p (omega arith)
      by false e rest =
          let less : suc (length xs) * 5 - 5 ≡ length xs * 5 = omega arith in
          ap (λ ps. versions_of xs ps n) (drop-replicate 5 (suc (length xs) * 5) p ∙ ap (λ k. replicate k p) less)
          ∙ rest (not_first x n xs known e)

  -- ---- one place of a node overwritten

  pub versions_same : (nodes : List ℕ) (places : List (Place T)) (n j : ℕ) (p : Place T) → ContainsAt nodes n → length places ≡ length nodes * 5 → j < 5 →
      versions_of nodes (with_version nodes places n j p) n ≡ set (versions_of nodes places n) j p
  unfolding versions_of with_version
  versions_same [] places n j p (k, there, is) size below = absurd (omega arith)
  versions_same (x ∷ xs) places n j p known size below =
      by (eqb x n) refl (λ there. versions_same xs (drop 5 places) n j p there (length_others x xs places size) below)
    where
      rest : List (Place T)
      rest = with_version xs (drop 5 places) n j p

      made : Bool → List (Place T)
      made b = cond b (set places j p) (take 5 places ++ rest)

      by : (b : Bool) → eqb x n ≡ b → (ContainsAt xs n → versions_of xs rest n ≡ set (versions_of xs (drop 5 places) n) j p) →
          cond b (take 5 (made b)) (versions_of xs (drop 5 (made b)) n) ≡ set (cond b (take 5 places) (versions_of xs (drop 5 places) n)) j p
      by true e same = take-set-lt 5 places j p below
      by false e same =
          ap (λ ps. versions_of xs ps n) (drop_at (take 5 places) rest 5 (length_first x xs places size))
          ∙ same (not_first x n xs known e)

  pub versions_other : (nodes : List ℕ) (places : List (Place T)) (m n j : ℕ) (p : Place T) → m ≢ n → j < 5 → length places ≡ length nodes * 5 →
      versions_of nodes (with_version nodes places n j p) m ≡ versions_of nodes places m
  unfolding versions_of with_version
  versions_other [] places m n j p other below size = refl
  versions_other (x ∷ xs) places m n j p other below size =
      by (eqb x n) (eqb x m) refl refl (versions_other xs (drop 5 places) m n j p other below (length_others x xs places size))
    where
      rest : List (Place T)
      rest = with_version xs (drop 5 places) n j p

      made : Bool → List (Place T)
      made b = cond b (set places j p) (take 5 places ++ rest)

      by : (b c : Bool) → eqb x n ≡ b → eqb x m ≡ c → versions_of xs rest m ≡ versions_of xs (drop 5 places) m →
          cond c (take 5 (made b)) (versions_of xs (drop 5 (made b)) m) ≡ cond c (take 5 places) (versions_of xs (drop 5 places) m)
      by true true e f same = absurd (other (sym (eqb-true x m f) ∙ eqb-true x n e))
      by true false e f same = ap (λ ps. versions_of xs ps m) (drop-set-lt 5 places j p below)
      by false true e f same = take_at (take 5 places) rest 5 (length_first x xs places size)
      by false false e f same =
          ap (λ ps. versions_of xs ps m) (drop_at (take 5 places) rest 5 (length_first x xs places size)) ∙ same

  pub length_with_version : (nodes : List ℕ) (places : List (Place T)) (n j : ℕ) (p : Place T) → length (with_version nodes places n j p) ≡ length places
  unfolding with_version
  length_with_version [] places n j p = refl
  length_with_version (x ∷ xs) places n j p = by (eqb x n) (length_with_version xs (drop 5 places) n j p)
    where
      rest : List (Place T)
      rest = with_version xs (drop 5 places) n j p

      by : (b : Bool) → length rest ≡ length (drop 5 places) → length (cond b (set places j p) (take 5 places ++ rest)) ≡ length places
      by true same = length-set places j p
      by false same =
          length-append (take 5 places) rest ∙ ap (λ k. length (take 5 places) + k) same ∙ sym (length-append (take 5 places) (drop 5 places))
          ∙ ap length (take-append-drop 5 places)

  -- ---- a commit's writes placed

  -- the places of a node after a commit under the stamp t that wrote this for it, or nothing
  abbrev pub placed_version : ℕ → ℕ → Option T → List (Place T) → List (Place T)
  placed_version t j None ps = ps
  placed_version t j (Some x) ps = set ps j (record { stamp = t; setting = x })

  -- a node that none of the writes is for has no setting of theirs
  pub unwritten : (n : ℕ) (ws : List (Write T)) → ((i : ℕ) → i < length (map (λ w. w.node) ws) → n ≢ get_or (map (λ w. w.node) ws) i 0) → own ws n ≡ None
  unwritten n [] others = refl
  unwritten n (w ∷ ws) others =
      ap (λ b. option_map (λ v. v.setting) (cond b (Some w) (find (λ v. eqb v.node n) ws))) (ne_eqb w.node n (λ e. others 0 (omega arith) (sym e)))
      ∙ unwritten n ws (λ i below. others (suc i) (omega arith))

  module _ (nodes : List ℕ) (chosen : ℕ → ℕ) (t : ℕ) where
    pub length_placed : (places : List (Place T)) (ws : List (Write T)) → length (placed nodes chosen t places ws) ≡ length places
    length_placed places [] = refl
    length_placed places (w ∷ ws) =
        let p : Place T = record { stamp = t; setting = w.setting } in
        length_placed (with_version nodes places w.node (chosen w.node) p) ws ∙ length_with_version nodes places w.node (chosen w.node) p

    pub versions_placed : (places : List (Place T)) (ws : List (Write T)) (n : ℕ) → length places ≡ length nodes * 5 →
        AllByRecursion (λ w. chosen w.node < 5) ws → Different (map (λ w. w.node) ws) → AllByRecursion (λ w. ContainsAt nodes w.node) ws →
        versions_of nodes (placed nodes chosen t places ws) n ≡ placed_version t (chosen n) (own ws n) (versions_of nodes places n)
    versions_placed places [] n size below different known = refl
    versions_placed places (w ∷ ws) n size below different known =
        versions_placed made ws n (length_with_version nodes places w.node (chosen w.node) p ∙ size) below.1
        (λ i j less there. different (suc i) (suc j) (omega arith) (omega arith)) known.1
        ∙ by (eqb w.node n) refl
      where
        p : Place T
        p = record { stamp = t; setting = w.setting }

        made : List (Place T)
        made = with_version nodes places w.node (chosen w.node) p

        by : (b : Bool) → eqb w.node n ≡ b →
            placed_version t (chosen n) (own ws n) (versions_of nodes made n)
            ≡ placed_version t (chosen n) (option_map (λ v. v.setting) (cond b (Some w) (find (λ v. eqb v.node n) ws))) (versions_of nodes places n)
        by true e =
            let is = eqb-true w.node n e in
            ap (λ o. placed_version t (chosen n) o (versions_of nodes made n)) (unwritten n ws (λ i there same. different 0 (suc i) (omega arith) (omega arith) (is ∙ same)))
            ∙ ap (λ k. versions_of nodes made k) (sym is)
            ∙ versions_same nodes places w.node (chosen w.node) p known.0 size below.0
            ∙ ap (λ k. set (versions_of nodes places k) (chosen k) p) is
        by false e =
            ap (placed_version t (chosen n) (own ws n))
            (versions_other nodes places n w.node (chosen w.node) p (λ same. eqb-false w.node n e (sym same)) below.0 size)
