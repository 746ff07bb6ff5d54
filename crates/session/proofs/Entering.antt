-- A node entered among the reads, and a setting among the writes: no node stands twice, and what was there stays, but for the node's
-- own setting.
use Rattle.std.proofs.Common.{◌≡◌, ◌≢◌, ◌⊎◌, ℕ, ◌+◌, ◌<◌, ◌≤◌, Bool, true, false, not, ◌&&◌, ◌||◌, cond, eqb, leb, List, [], ◌∷◌, ◌++◌, map, length, find, is_some, slice_index, Some, None, Option, option_map, inl, inr, true≢false, get_or, eqb-true, refl, sym, ap, ◌∙◌, arith}
use Rattle.limits.specs.Limits.{most_reads}
use Rattle.messages.proofs.Judging.{known_decides}
use Rattle.messages.specs.Reading.{known}
use Rattle.messages.specs.Returning.{Different}
use Rattle.messages.specs.declared.parts.Write.{Write}
use Rattle.session.specs.Slots.{with_write, own, entered}
use Rattle.std.proofs.ByRecursion.{All-push, has_push, has_append_left}
use Rattle.std.proofs.lemmas.Bool.{cases_eq, cond_both, eqb-false, leb-false}
use Rattle.std.proofs.lemmas.List.{get_or_append_left, get_or_default, get_or_push, length_push, length-map}
use Rattle.std.specs.List.{ContainsAt, AllByRecursion}

-- a number that is not in the list may stand behind it
pub Different_push : (ns : List ℕ) (n : ℕ) → Different ns → known ns n ≡ false → Different (ns ++ n ∷ [])
Different_push ns n different new i j below inside = go (cases_eq j (length ns))
  where
    go : (j ≡ length ns) ⊎ (j ≡ length ns → ⊥) → slice_index (ns ++ n ∷ []) i ≢ slice_index (ns ++ n ∷ []) j
    go (inl last) same =
        let size = length_push ns n in
        let low : i < length ns = omega arith in
        let is : get_or ns i 0 ≡ n = sym (get_or_append_left ns (n ∷ []) 0 i low) ∙ same ∙ get_or_push ns n 0 j (sym last) in
        true≢false (sym ((known_decides ns n).1 (i, low, λ d. get_or_default ns i d 0 low ∙ is)) ∙ new)
    go (inr before) same =
        let size = length_push ns n in
        let low : j < length ns = omega arith in
        different i j below low (sym (get_or_append_left ns (n ∷ []) 0 i (omega arith)) ∙ same ∙ get_or_append_left ns (n ∷ []) 0 j low)

-- ---- nodes entered among the reads

pub entered_has : (T : Type 0) (reads : List ℕ) (n : ℕ) → ContainsAt (entered {T = T} reads n None) n
entered_has T reads n =
    cond_both (known reads n) reads (reads ++ n ∷ []) (λ xs. ContainsAt xs n) (λ there. (known_decides reads n).0 there) (λ _. has_push reads n)

module _ {T : Type 0} where
  pub All-entered : (P : ℕ → Type 0) (reads : List ℕ) (n : ℕ) (o : Option T) → AllByRecursion P reads → P n → AllByRecursion P (entered reads n o)
  All-entered P reads n (Some x) all new = all
  All-entered P reads n None all new =
      cond_both (known reads n) reads (reads ++ n ∷ []) (AllByRecursion P) (λ _. all) (λ _. All-push P reads n all new)

  -- where the new read is not one too many
  pub length_entered : (reads : List ℕ) (n : ℕ) (o : Option T) →
      (not (known reads n) && leb most_reads (length reads)) ≡ false → length reads ≤ most_reads → length (entered reads n o) ≤ most_reads
  length_entered reads n (Some x) room few = few
  length_entered reads n None room few =
      cond_both (known reads n) reads (reads ++ n ∷ []) (λ xs. length xs ≤ most_reads) (λ _. few) (λ new.
      let free : leb most_reads (length reads) ≡ false = ap (λ b. not b && leb most_reads (length reads)) (sym new) ∙ room in
      let below = leb-false most_reads (length reads) free in
      omega (arith, below, length_push reads n))

  -- what was among the reads still is
  pub entered_keeps : (reads : List ℕ) (n m : ℕ) (o : Option T) → ContainsAt reads m → ContainsAt (entered reads n o) m
  entered_keeps reads n m (Some x) has = has
  entered_keeps reads n m None has =
      cond_both (known reads n) reads (reads ++ n ∷ []) (λ xs. ContainsAt xs m) (λ _. has) (λ _. has_append_left reads (n ∷ []) m has)

  pub Different_entered : (reads : List ℕ) (n : ℕ) (o : Option T) → Different reads → Different (entered reads n o)
  Different_entered reads n (Some x) different = different
  Different_entered reads n None different =
      cond_both (known reads n) reads (reads ++ n ∷ []) Different (λ _. different) (λ new. Different_push reads n different new)

  -- ---- one more write

  abbrev nodes_in : List (Write T) → List ℕ
  nodes_in ws = map (λ w. w.node) ws

  -- the first of the writes answers, if it is of the node
  own_first : (w : Write T) (ws : List (Write T)) (n : ℕ) → own (w ∷ ws) n ≡ cond (eqb w.node n) (Some w.setting) (own ws n)
  own_first w ws n = go (eqb w.node n)
    where
      go : (b : Bool) → option_map (λ w. w.setting) (cond b (Some w) (find (λ w. eqb w.node n) ws)) ≡ cond b (Some w.setting) (own ws n)
      go true = refl
      go false = refl

  pub own_with_write : (ws : List (Write T)) (m : ℕ) (x : T) (n : ℕ) → own (with_write ws m x) n ≡ cond (eqb m n) (Some x) (own ws n)
  unfolding with_write
  own_with_write [] m x n = own_first (record { node = m; setting = x }) [] n
  own_with_write (w ∷ ws) m x n = go (eqb w.node m) refl (own_with_write ws m x n)
    where
      again : (b : Bool) (y z o : Option T) → cond b y o ≡ cond b y (cond b z o)
      again true y z o = refl
      again false y z o = refl

      apart : (b c : Bool) → eqb w.node n ≡ b → eqb m n ≡ c → eqb w.node m ≡ false → (y z o : Option T) →
          cond b y (cond c z o) ≡ cond c z (cond b y o)
      apart true true at_w at_m other y z o =
          absurd (eqb-false w.node m other (eqb-true w.node n at_w ∙ sym (eqb-true m n at_m)))
      apart true false at_w at_m other y z o = refl
      apart false c at_w at_m other y z o = refl

      go : (b : Bool) → eqb w.node m ≡ b → own (with_write ws m x) n ≡ cond (eqb m n) (Some x) (own ws n) →
          own (cond b (record { node = m; setting = x } ∷ ws) (w ∷ with_write ws m x)) n ≡ cond (eqb m n) (Some x) (own (w ∷ ws) n)
      go true e ih =
          own_first (record { node = m; setting = x }) ws n
          ∙ again (eqb m n) (Some x) (Some w.setting) (own ws n)
          ∙ sym (ap (cond (eqb m n) (Some x)) (own_first w ws n ∙ ap (λ k. cond (eqb k n) (Some w.setting) (own ws n)) (eqb-true w.node m e)))
      go false e ih =
          own_first w (with_write ws m x) n
          ∙ ap (cond (eqb w.node n) (Some w.setting)) ih
          ∙ apart (eqb w.node n) (eqb m n) refl refl e (Some w.setting) (Some x) (own ws n)
          ∙ sym (ap (cond (eqb m n) (Some x)) (own_first w ws n))

  pub is_some-own : (ws : List (Write T)) (n : ℕ) → is_some (own ws n) ≡ known (nodes_in ws) n
  is_some-own [] n = refl
  is_some-own (w ∷ ws) n = ap is_some (own_first w ws n) ∙ go (eqb w.node n) (is_some-own ws n)
    where
      go : (b : Bool) → is_some (own ws n) ≡ known (nodes_in ws) n → is_some (cond b (Some w.setting) (own ws n)) ≡ (b || known (nodes_in ws) n)
      go true ih = refl
      go false ih = ih

  -- a node is written among the nodes as it is entered among the reads
  pub nodes_with_write : (ws : List (Write T)) (n : ℕ) (x : T) → nodes_in (with_write ws n x) ≡ entered {T = T} (nodes_in ws) n None
  unfolding with_write
  nodes_with_write [] n x = refl
  nodes_with_write (w ∷ ws) n x = go (eqb w.node n) refl (nodes_with_write ws n x)
    where
      behind : (b : Bool) (m : ℕ) (xs ys : List ℕ) → ◌≡◌ {A = List ℕ} (m ∷ cond b xs ys) (cond b (m ∷ xs) (m ∷ ys))
      behind true m xs ys = refl
      behind false m xs ys = refl

      go : (b : Bool) → eqb w.node n ≡ b → nodes_in (with_write ws n x) ≡ entered {T = T} (nodes_in ws) n None →
          nodes_in (cond b (record { node = n; setting = x } ∷ ws) (w ∷ with_write ws n x))
          ≡ cond (b || known (nodes_in ws) n) (w.node ∷ nodes_in ws) (w.node ∷ nodes_in ws ++ n ∷ [])
      go true same ih = ap (λ k. k ∷ nodes_in ws) (sym (eqb-true w.node n same))
      go false other ih = ap (λ xs. w.node ∷ xs) ih ∙ behind (known (nodes_in ws) n) w.node (nodes_in ws) (nodes_in ws ++ n ∷ [])

  pub all_with_write : (P : Write T → Type 0) (ws : List (Write T)) (n : ℕ) (x : T) →
      AllByRecursion P ws → P (record { node = n; setting = x }) → AllByRecursion P (with_write ws n x)
  unfolding with_write
  all_with_write P [] n x all new = (new, tt)
  all_with_write P (w ∷ ws) n x all new =
      cond_both (eqb w.node n) (record { node = n; setting = x } ∷ ws) (w ∷ with_write ws n x) (AllByRecursion P)
      (λ _. (new, all.1)) (λ _. (all.0, all_with_write P ws n x all.1 new))

  pub length_with_write : (ws : List (Write T)) (n : ℕ) (x : T) → length (with_write ws n x) ≡ cond (is_some (own ws n)) (length ws) (length ws + 1)
  length_with_write ws n x =
      sym (length-map (with_write ws n x) (λ w. w.node))
      ∙ ap length (nodes_with_write ws n x)
      ∙ go (known (nodes_in ws) n)
      ∙ ap (λ k. cond (known (nodes_in ws) n) k (k + 1)) (length-map ws (λ w. w.node))
      ∙ ap (λ b. cond b (length ws) (length ws + 1)) (sym (is_some-own ws n))
    where
      go : (b : Bool) → length (cond b (nodes_in ws) (nodes_in ws ++ n ∷ [])) ≡ cond b (length (nodes_in ws)) (length (nodes_in ws) + 1)
      go true = refl
      go false = length_push (nodes_in ws) n
