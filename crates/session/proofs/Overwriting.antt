-- A commit's writes placed one after the other: each spare place is the same whether it is looked for before the commit or after some
-- of its writes, since these are for other nodes.
use Rattle.std.proofs.Common.{◌≡◌, ℕ, zero, suc, ◌+◌, ◌*◌, ◌<◌, ◌≤◌, List, [], ◌∷◌, ◌++◌, length, map, get_or, Option, Some, None, option_to_list, sym, refl, ap, ◌∙◌, subst, arith}
use Rattle.limits.specs.Limits.{places_each}
use Rattle.messages.specs.Reading.{write_in, node_in, Faultless}
use Rattle.messages.specs.Returning.{Different}
use Rattle.messages.specs.declared.parts.Write.{Write}
use Rattle.session.proofs.Placing.{versions_placed, length_placed, placed_version, unwritten}
use Rattle.session.proofs.Spares.{spare_within}
use Rattle.session.specs.Choosing.{first_spare, placed_all, Placeable}
use Rattle.session.specs.Slots.{own}
use Rattle.session.specs.States.{SlotState}
use Rattle.session.specs.Takes.{placed}
use Rattle.session.specs.Versions.{versions_of, with_version}
use Rattle.session.specs.declared.place.Place.{Place}
use Rattle.settings.specs.Kinds.{SettingKind}
use Rattle.summaries.specs.Kinds.{SummaryKind}
use Rattle.std.proofs.lemmas.Grind.{flat_map-append}
use Rattle.std.proofs.lemmas.List.{append-nil, get_or-map, length-map}
use Rattle.std.proofs.lemmas.List.Sums.{fold-append}
use Rattle.std.specs.List.{range_with_len, flat_map, AllByRecursion, ContainsAt}

-- one number more
range_more : (a n : ℕ) → range_with_len a (suc n) ≡ range_with_len a n ++ (a + n) ∷ []
range_more a zero = let first : a ≡ a + 0 = omega arith in ap (λ k. k ∷ []) first
range_more a (suc n) = let last : a + 1 + n ≡ a + suc n = omega arith in ap (λ ks. a ∷ ks) (range_more (a + 1) n ∙ ap (λ k. range_with_len (a + 1) n ++ k ∷ []) last)

-- what holds of all and of one more
all_push : {X : Type 0} (P : X → Type 0) (xs : List X) (x : X) → AllByRecursion P xs → P x → AllByRecursion P (xs ++ x ∷ [])
all_push P [] x all last = (last, tt)
all_push P (y ∷ ys) x all last = (all.0, all_push P ys x all.1 last)

module _ {X : Type 0} (f : ℕ → Option X) where
  -- those that are there of n from a on, one after the other
  abbrev pub there : ℕ → ℕ → List X
  there a n = flat_map (λ i. option_to_list (f i)) (range_with_len a n)

  -- all of n from a on are there
  abbrev pub Each : ℕ → ℕ → Type 0
  Each a n = (i : ℕ) → i < n → (x : X) × (f (a + i) ≡ Some x)

  each_later : (a n : ℕ) → Each a (suc n) → Each (a + 1) n
  each_later a n each i below = let (x, is) = each (suc i) (omega arith) in let next : a + 1 + i ≡ a + suc i = omega arith in (x, ap f next ∙ is)

  each_first : (a n : ℕ) → Each a (suc n) → (x : X) × (f a ≡ Some x)
  each_first a n each = let (x, is) = each 0 (omega arith) in let first : a ≡ a + 0 = omega arith in (x, ap f first ∙ is)

  there_first : (a n : ℕ) (x : X) → f a ≡ Some x → there a (suc n) ≡ x ∷ there (a + 1) n
  there_first a n x is = ap (λ o. option_to_list o ++ there (a + 1) n) is

  pub length_there : (a n : ℕ) → Each a n → length (there a n) ≡ n
  length_there a zero each = refl
  length_there a (suc n) each =
      let (x, is) = each_first a n each in
      ap length (there_first a n x is) ∙ ap suc (length_there (a + 1) n (each_later a n each))

  pub at_there : (a n i : ℕ) (x d : X) → Each a n → i < n → f (a + i) ≡ Some x → get_or (there a n) i d ≡ x
  at_there a zero i x d each below is = absurd (omega arith)
  at_there a (suc n) zero x d each below is =
      let (y, first) = each_first a n each in
      let same : a ≡ a + 0 = omega arith in
      let equal : y ≡ x = cc (first, ap f same, is) in
      ap (λ l. get_or l 0 d) (there_first a n y first) ∙ equal
  at_there a (suc n) (suc i) x d each below is =
      let (y, first) = each_first a n each in
      let next : a + 1 + i ≡ a + suc i = omega arith in
      ap (λ l. get_or l (suc i) d) (there_first a n y first)
      ∙ at_there (a + 1) n i x d (each_later a n each) (omega arith) (ap f next ∙ is)

  pub there_more : (a n : ℕ) (x : X) → f (a + n) ≡ Some x → there a (suc n) ≡ there a n ++ x ∷ []
  there_more a n x is =
      ap (flat_map (λ i. option_to_list (f i))) (range_more a n)
      ∙ flat_map-append (λ i. option_to_list (f i)) (range_with_len a n) ((a + n) ∷ [])
      ∙ ap (λ l. there a n ++ l) (append-nil (option_to_list (f (a + n))) ∙ ap option_to_list is)

module _ {T : Type 0} (S : SummaryKind) (K : SettingKind T) (nodes m : List ℕ) (fine : Placeable S K nodes m) where
  abbrev pub f : ℕ → Option (Write T)
  f = write_in S K m

  abbrev pub count : ℕ
  count = get_or m 5 0

  abbrev pub first : ℕ → List (Write T)
  first n = there f 0 n

  each : (n : ℕ) → n ≤ count → Each f 0 n
  each n most i below =
      let (w, is, known) = fine.each i (omega arith) in let same : 0 + i ≡ i = omega arith in (w, ap f same ∙ is)

  at_first : (n i : ℕ) (w d : Write T) → n ≤ count → i < n → f i ≡ Some w → get_or (first n) i d ≡ w
  at_first n i w d most below is = let same : 0 + i ≡ i = omega arith in at_there f 0 n i w d (each n most) below (ap f same ∙ is)

  length_first : (n : ℕ) → n ≤ count → length (first n) ≡ n
  length_first n most = length_there f 0 n (each n most)

  -- their nodes
  node_at : (n i : ℕ) (w : Write T) → n ≤ count → i < n → f i ≡ Some w → get_or (map (λ v. v.node) (first n)) i 0 ≡ w.node
  node_at n i w most below is =
      get_or-map (λ v. v.node) (first n) i w 0 (omega (arith, length_first n most)) ∙ ap (λ v. v.node) (at_first n i w w most below is)

  different : (n : ℕ) → n ≤ count → Different (map (λ w. w.node) (first n))
  different n most i j less below same =
      let long = length-map (first n) (λ w. w.node) ∙ length_first n most in
      let (v, v_is, v_known) = fine.each i (omega (arith, long)) in
      let (w, w_is, w_known) = fine.each j (omega (arith, long)) in
      fine.different i j v w less (omega (arith, long)) v_is w_is
      (sym (node_at n i v most (omega (arith, long)) v_is) ∙ same ∙ node_at n j w most (omega (arith, long)) w_is)

  all_first : (P : Write T → Type 0) → ((i : ℕ) (w : Write T) → i < count → f i ≡ Some w → P w) → (n : ℕ) → n ≤ count → AllByRecursion P (first n)
  all_first P holds zero most = tt
  all_first P holds (suc n) most =
      let (w, is, known) = fine.each n (omega (arith, most)) in
      let same : 0 + n ≡ n = omega arith in
      subst (AllByRecursion P) (sym (there_more f 0 n w (ap f same ∙ is))) (all_push P (first n) w (all_first P holds n (omega arith)) (holds n w (omega arith) is))

  known_at : (i : ℕ) (w : Write T) → i < count → f i ≡ Some w → ContainsAt nodes w.node
  known_at i w below is =
      let (v, v_is, known) = fine.each i below in
      let same : v ≡ w = cc (v_is, is) in
      subst (λ x. ContainsAt nodes x.node) same known

  module _ (slots : List SlotState) (few : length slots ≤ 4) (places : List (Place T)) (size : length places ≡ length nodes * places_each) (t : ℕ) where
    -- the places after the first n writes
    abbrev pub places_after : ℕ → List (Place T)
    places_after n = placed_all nodes slots t places (first n)

    abbrev pub chosen : ℕ → ℕ
    chosen n = first_spare slots (versions_of nodes places n)

    pub size_after : (n : ℕ) → length (places_after n) ≡ length places
    size_after n = length_placed nodes chosen t places (first n)

    -- the node of the next write still has its places as they were
    pub versions_kept : (n : ℕ) (w : Write T) → n < count → f n ≡ Some w →
        versions_of nodes (places_after n) w.node ≡ versions_of nodes places w.node
    versions_kept n w below is =
        let most : n ≤ count = omega arith in
        let long = length-map (first n) (λ v. v.node) ∙ length_first n most in
        let new : own (first n) w.node ≡ None = unwritten w.node (first n) (λ i there same.
        let (v, v_is, v_known) = fine.each i (omega (arith, long)) in
        fine.different i n v w (omega (arith, long)) below v_is is (sym (node_at n i v most (omega (arith, long)) v_is) ∙ sym same)) in
        versions_placed nodes chosen t places (first n) w.node size
        (all_first (λ v. chosen v.node < 5) (λ i v inside v_is. spare_within slots (versions_of nodes places v.node) few) n most)
        (different n most)
        (all_first (λ v. ContainsAt nodes v.node) (λ i v inside v_is. known_at i v inside v_is) n most)
        ∙ ap (λ o. placed_version t (chosen w.node) o (versions_of nodes places w.node)) new

    -- one write more
    pub placed_more : (n j : ℕ) (w : Write T) → n < count → f n ≡ Some w → j ≡ first_spare slots (versions_of nodes (places_after n) w.node) →
        with_version nodes (places_after n) w.node j (record { stamp = t; setting = w.setting }) ≡ places_after (n + 1)
    placed_more n j w below is j_is =
        let p : Place T = record { stamp = t; setting = w.setting } in
        let same : 0 + n ≡ n = omega arith in
        let one_more : suc n ≡ n + 1 = omega arith in
        ap (λ k. with_version nodes (places_after n) w.node k p) (j_is ∙ ap (first_spare slots) (versions_kept n w below is))
        ∙ sym (fold-append (λ ps v. with_version nodes ps v.node (chosen v.node) (record { stamp = t; setting = v.setting })) places (first n) (w ∷ []))
        ∙ ap (placed nodes chosen t places) (sym (there_more f 0 n w (ap f same ∙ is)))
        ∙ ap places_after one_more

-- a message without a fault has all its writes, for different nodes
pub placeable : {T : Type 0} (S : SummaryKind) (K : SettingKind T) (suites stamp : ℕ) (nodes m : List ℕ) → Faultless S K suites stamp nodes m → Placeable S K nodes m
placeable {T = T} S K suites stamp nodes m fine = record {
  each = λ i below. let (w, is, node, known) = fine.each i below in (w, is, known);
  different = λ i j v w less below v_is w_is same.
      fine.different i j less below (sym (node_of i v (omega arith) v_is) ∙ same ∙ node_of j w below w_is);
}
  where
    node_of : (i : ℕ) (v : Write T) → i < get_or m 5 0 → write_in S K m i ≡ Some v → v.node ≡ node_in S.wide K.wide m i
    node_of i v below is =
        let (w, w_is, node, known) = fine.each i below in
        let same : v ≡ w = cc (is, w_is) in
        ap (λ x. x.node) same ∙ node
