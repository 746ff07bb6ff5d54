-- A node has always a spare place: the four slots of a suite read at most four of its five.
use Rattle.std.proofs.Common.{◌≡◌, ℕ, zero, suc, ◌+◌, ◌-◌, ◌<◌, ◌≤◌, ◌⊎◌, inl, inr, ◌&&◌, is_some, Bool, true, false, cond, not, ◌||◌, eqb, List, [], ◌∷◌, length, map, get_or, Option, Some, None, option_map, IsSome, find, count_by, sym, refl, ap, ◌∙◌, arith}
use Rattle.limits.specs.Limits.{places_each}
use Rattle.session.specs.States.{SlotState, idle, opened, sent, ruled}
use Rattle.session.specs.Shares.{Share, slot_of}
use Rattle.session.specs.Slots.{own_writes, own}
use Rattle.session.proofs.Finding.{all_in}
use Rattle.session.specs.Choosing.{sees_place, read_by_any, first_unread, first_spare, spare_of}
use Rattle.session.specs.Takes.{would_read, Spare, writes_in, next_message, Spares}
use Rattle.session.specs.declared.ruling.Outcome.TheVariants.{Clash, Commit}
use Rattle.session.specs.declared.ruling.Ruling.{Ruling}
use Rattle.session.specs.declared.ruling.Ruling.TheVariants.{Void, Decided}
use Rattle.settings.specs.Kinds.{SettingKind}
use Rattle.summaries.specs.Kinds.{SummaryKind}
use Rattle.session.specs.Versions.{visible, versions_of}
use Rattle.session.specs.declared.place.Place.{Place}
use Rattle.std.proofs.ByRecursion.{All-get_or}
use Rattle.std.proofs.Math.Bool.{and-false}
use Rattle.std.proofs.lemmas.List.{get_or_past}
use Rattle.std.proofs.lemmas.Bool.{cases_lt, eqb-true, ne_eqb, or_parts, not-true}
use Rattle.std.proofs.lemmas.List.FromFn.{length-range_with_len, get_or-range_with_len}
use Rattle.std.proofs.lemmas.List.Folds.{find_at}
use Rattle.std.proofs.lemmas.Option.{slice_get-get_or}
use Rattle.std.proofs.lemmas.List.Sums.{sum_by-cons, sum_by-le, passes_at_first}
use Rattle.std.specs.List.{AllByRecursion, list_any, position_or_len, range_with_len}

-- ---- counting what passes a test

module _ {X : Type 0} where
  count_none : (xs : List X) → count_by (λ x. false) xs ≡ 0
  count_none xs = omega (arith, sum_by-le (λ x. 0) 0 xs (λ k d below. omega arith))

  module _ (p : X → Bool) (x : X) (xs : List X) where
    count_first : count_by p (x ∷ xs) ≡ cond (p x) 1 0 + count_by p xs
    count_first = sum_by-cons (λ y. cond (p y) 1 0) x xs

    count_yes : p x ≡ true → count_by p (x ∷ xs) ≡ 1 + count_by p xs
    count_yes e = count_first ∙ ap (λ b. cond b 1 0 + count_by p xs) e

    count_no : p x ≡ false → count_by p (x ∷ xs) ≡ count_by p xs
    count_no e = count_first ∙ ap (λ b. cond b 1 0 + count_by p xs) e ∙ omega arith

  -- at most as many pass one of two tests as pass the first and as pass the second
  count_or : (p q : X → Bool) (xs : List X) → count_by (λ x. p x || q x) xs ≤ count_by p xs + count_by q xs
  count_or p q [] = omega arith
  count_or p q (x ∷ xs) =
      omega (arith, count_or p q xs, count_first (λ y. p y || q y) x xs, count_first p x xs, count_first q x xs, one (p x) (q x))
    where
      one : (s t : Bool) → cond (s || t) 1 0 ≤ cond s 1 0 + cond t 1 0
      one true true = omega arith
      one true false = omega arith
      one false true = omega arith
      one false false = omega arith

  -- if not all pass, there is a first that does not
  first_failing : (p : X → Bool) (xs : List X) → count_by p xs < length xs → position_or_len (λ x. not (p x)) xs < length xs
  first_failing p [] h = h
  first_failing p (x ∷ xs) h = by (p x) refl (first_failing p xs)
    where
      next : ℕ
      next = position_or_len (λ y. not (p y)) xs

      by : (b : Bool) → p x ≡ b → (count_by p xs < length xs → next < length xs) → cond (not (not b)) (1 + next) 0 < suc (length xs)
      by true e rest =
          let all = count_yes p x xs e in
          let later = rest (omega arith) in
          omega arith
      by false e rest = omega arith

  none_pass : (p : X → Bool) (xs : List X) → list_any p xs ≡ false → AllByRecursion (λ x. p x ≡ false) xs
  none_pass p [] h = tt
  none_pass p (x ∷ xs) h =
      let parts = or_parts (p x) (list_any p xs) h in
      (parts.0, none_pass p xs parts.1)

-- what an answer that was passed on unchanged has
pub some_inside : {X : Type 0} (o : Option X) (x : X) → option_map (λ y. y) o ≡ Some x → IsSome o
some_inside None x h = cc
some_inside (Some y) x h = refl

pub some_there : {X : Type 0} (o : Option X) (x : X) → o ≡ Some x → IsSome o
some_there None x h = cc
some_there (Some y) x h = refl

pub same_inside : {X : Type 0} (o : Option X) (y x : X) → o ≡ Some y → option_map (λ z. z) o ≡ Some x → y ≡ x
same_inside None y x is h = cc
same_inside (Some z) y x is h = cc

-- a test of what a list was made of
pub any_mapped : {X Y : Type 0} (f : X → Y) (p : Y → Bool) (xs : List X) → list_any (λ x. p (f x)) xs ≡ list_any p (map f xs)
any_mapped f p [] = refl
any_mapped f p (x ∷ xs) = ap (λ b. p (f x) || b) (any_mapped f p xs)

-- of the numbers from a on at most one is v, and none if v is below a
count_below : (v a n : ℕ) → v < a → count_by (λ j. eqb v j) (range_with_len a n) ≡ 0
count_below v a zero h = refl
count_below v a (suc n) h =
    count_no (λ j. eqb v j) a (range_with_len (a + 1) n) (ne_eqb v a (λ e. omega arith)) ∙ count_below v (a + 1) n (omega arith)

count_equal : (v a n : ℕ) → count_by (λ j. eqb v j) (range_with_len a n) ≤ 1
count_equal v a zero = omega arith
count_equal v a (suc n) = by (eqb v a) refl (count_equal v (a + 1) n)
  where
    by : (b : Bool) → eqb v a ≡ b → count_by (λ j. eqb v j) (range_with_len (a + 1) n) ≤ 1 → count_by (λ j. eqb v j) (range_with_len a (suc n)) ≤ 1
    by true e rest =
        let is = eqb-true v a e in
        omega (arith, count_yes (λ j. eqb v j) a (range_with_len (a + 1) n) e, count_below v (a + 1) n (omega arith))
    by false e rest = omega (arith, count_no (λ j. eqb v j) a (range_with_len (a + 1) n) e)

-- ---- what the slots read

module _ {T : Type 0} where
  -- a slot reads at most one place
  one_read : (slot : SlotState) (ps : List (Place T)) (n : ℕ) → count_by (λ j. sees_place ps j slot) (range_with_len 0 n) ≤ 1
  one_read idle ps n = omega (arith, count_none (range_with_len 0 n))
  one_read (opened snapshot reads written) ps n = by (visible snapshot ps) refl
    where
      by : (o : Option (ℕ × Place T)) → visible snapshot ps ≡ o → count_by (λ j. sees_place ps j (opened snapshot reads written)) (range_with_len 0 n) ≤ 1
      by None e = rw e (omega (arith, count_none (range_with_len 0 n)))
      by (Some v) e = rw e (count_equal v.0 0 n)
  one_read sent ps n = omega (arith, count_none (range_with_len 0 n))
  one_read (ruled outcome) ps n = omega (arith, count_none (range_with_len 0 n))

  reads_few : (slots : List SlotState) (ps : List (Place T)) (n : ℕ) → count_by (read_by_any slots ps) (range_with_len 0 n) ≤ length slots
  reads_few [] ps n = omega (arith, count_none (range_with_len 0 n))
  reads_few (slot ∷ slots) ps n =
      let here = one_read slot ps n in
      let others = reads_few slots ps n in
      let all = count_or (λ j. sees_place ps j slot) (read_by_any slots ps) (range_with_len 0 n) in
      omega arith

  unread_there : (slots : List SlotState) (ps : List (Place T)) (n : ℕ) → length slots < n →
      (first_unread slots ps n < n) × (read_by_any slots ps (first_unread slots ps n) ≡ false)
  unfolding first_unread
  unread_there slots ps n few =
      let js = range_with_len 0 n in
      let j = first_unread slots ps n in
      let all = length-range_with_len 0 n in
      let read = reads_few slots ps n in
      let there = first_failing (read_by_any slots ps) js (omega arith) in
      let below : j < n = omega arith in
      let at : get_or js j 0 ≡ j = get_or-range_with_len 0 n j 0 below ∙ omega arith in
      (below, ap (read_by_any slots ps) (sym at) ∙ not-true _ (passes_at_first (λ i. not (read_by_any slots ps i)) js 0 there))

  -- a place that no open move sees is spare
  pub unseen_is_spare : (nodes : List ℕ) (share : Share T) (n j : ℕ) → j < places_each →
      AllByRecursion (λ slot. sees_place (versions_of nodes share.places n) j slot ≡ false) share.suite.slots → Spare nodes share n j
  unseen_is_spare nodes share n j below unseen = (below, λ s there. by s (cases_lt (s - 1) (length share.suite.slots)))
    where
      unread : (s : ℕ) (q : SlotState) → sees_place (versions_of nodes share.places n) j q ≡ false → would_read nodes share n j s q ≡ false
      unread s idle h = refl
      unread s (opened snapshot reads written) h =
          ap (λ b. not (is_some (own (own_writes share s written) n)) && b) h ∙ and-false (not (is_some (own (own_writes share s written) n)))
      unread s sent h = refl
      unread s (ruled outcome) h = refl

      by : (s : ℕ) → (s - 1 < length share.suite.slots) ⊎ (length share.suite.slots ≤ s - 1) → would_read nodes share n j s (slot_of share s) ≡ false
      by s (inl inside) =
          unread s (slot_of share s) (All-get_or (λ slot. sees_place (versions_of nodes share.places n) j slot ≡ false) share.suite.slots (s - 1) idle inside unseen)
      by s (inr past) = ap (would_read nodes share n j s) (get_or_past share.suite.slots (s - 1) idle past)

  -- four slots see at most four of the five places
  pub spare_exists : (nodes : List ℕ) (share : Share T) (n : ℕ) → length share.suite.slots ≤ 4 →
      Spare nodes share n (first_spare share.suite.slots (versions_of nodes share.places n))
  unfolding first_spare
  spare_exists nodes share n few =
      let slots = share.suite.slots in
      let ps = versions_of nodes share.places n in
      let (below, unread) = unread_there slots ps places_each (omega arith) in
      unseen_is_spare nodes share n (first_spare slots ps) below (none_pass (sees_place ps (first_spare slots ps)) slots unread)

  -- the search for it finds it
  pub spare_found : (slots : List SlotState) (ps : List (Place T)) → length slots ≤ 4 →
      find (λ j. not (read_by_any slots ps j)) (range_with_len 0 5) ≡ Some (first_spare slots ps)
  unfolding first_spare first_unread
  spare_found slots ps few =
      let test : ℕ → Bool = λ j. not (read_by_any slots ps j) in
      let js = range_with_len 0 5 in
      let k = position_or_len test js in
      let below : k < 5 = (unread_there slots ps 5 (omega arith)).0 in
      let long = length-range_with_len 0 5 in
      find_at test js
      ∙ slice_get-get_or js k 0 (omega arith)
      ∙ ap Some (get_or-range_with_len 0 5 k 0 below ∙ omega arith)

  -- it is one of the five
  pub spare_within : (slots : List SlotState) (ps : List (Place T)) → length slots ≤ 4 → first_spare slots ps < 5
  unfolding first_spare
  spare_within slots ps few = (unread_there slots ps 5 (omega arith)).0

  -- with these, a take of any ruling overwrites spare places
  pub spares_of : (S : SummaryKind) (K : SettingKind T) (nodes : List ℕ) (share : Share T) → length share.suite.slots ≤ 4 → (ruling : Ruling) →
      Spares S K nodes (spare_of nodes share) ruling share
  spares_of S K nodes share few (Void fault) = tt
  spares_of S K nodes share few (Decided (Clash n)) = tt
  spares_of S K nodes share few (Decided (Commit stamp)) =
      all_in _ (writes_in S K (next_message share)) (λ x k. spare_exists nodes share x.node few)
