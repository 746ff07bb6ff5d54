-- Whose turn it is: of the messages that wait, the first one whose suite comes soonest after the turn is the first one of the
-- suite that the rule names.
use Rattle.std.proofs.Common.{◌≡◌, ℕ, zero, suc, ◌+◌, ◌<◌, ◌≤◌, Bool, true, false, ltb, ◌⊎◌, List, [], ◌∷◌, Some, Option, length, get_or, drop, sym, ap, ◌∙◌, subst, subst₂, inl, inr, arith}
use Rattle.lines.proofs.Lanes.{lane_first}
use Rattle.lines.specs.StoreLaws.{lane_empty}
use Rattle.lines.proofs.Meanings.{waiting_sound}
use Rattle.lines.specs.StoreLaws.{SoundStore}
use Rattle.lines.specs.Orders.{Offered, lane, suite_after, steps_to, first_that, turn_picks}
use Rattle.lines.specs.Stores.{nothing, Stored, state_of, FirstOfSuite}
use Rattle.std.proofs.iter.Yields.{nat_range_steps}
use Rattle.std.proofs.lemmas.Bool.{lt-ltb, le-ltb, cond-true, cond-false, cases_eq, cases_order}
use Rattle.std.proofs.lemmas.Iterator.{YieldsList, items_from_drains}
use Rattle.std.proofs.lemmas.List.{map-id}
use Rattle.std.specs.Borrow.{Bor}
use Rattle.std.specs.Cmp.{ranked}
use Rattle.std.specs.Fn.{CalledAt}
use Rattle.std.specs.Iterator.{ActsAsAt, KeyTurn, PicksMinByKey}
use Rattle.std.specs.List.{FoldsTo, range_with_len}
use Rattle.std.specs.Ordering.{MatchOrdering, min_by_ordering, nat_cmp}
use Rattle.std.specs.declared.cmp.Ordering.{Ordering}
use Rattle.std.specs.declared.cmp.Ordering.TheVariants.{Less, Equal, Greater}
use Rattle.std.specs.declared.ops.Range.{Range}
use denote.Param.Members.{Mut}
use Rattle.std.proofs.lemmas.Bool.Decides.{nat_tests}

-- ---- round from 8 to 1

module _ (turn u : ℕ) (low : 1 ≤ turn) (high : turn ≤ 8) (low' : 1 ≤ u) (high' : u ≤ 8) where
  pub steps_few : steps_to turn u < 8
  steps_few = grind (arith, nat_tests)

  pub after_steps : suite_after turn (steps_to turn u) ≡ u
  after_steps = grind (arith, nat_tests)

pub steps_after : (turn d : ℕ) → 1 ≤ turn → turn ≤ 8 → d < 8 → steps_to turn (suite_after turn d) ≡ d
steps_after turn d low high few = grind (arith, nat_tests)

-- ---- the first number that passes a test

pub first_is : (test : ℕ → Bool) (k d e : ℕ) → d ≤ e → e < d + k → test e ≡ true → ((j : ℕ) → d ≤ j → j < e → test j ≡ false) →
    first_that test k d ≡ e
first_is test zero d e low high yes_e no_before = absurd (omega arith)
first_is test (suc k) d e low high yes_e no_before =
    by (cases_order d e) (λ below. first_is test k (d + 1) e below (omega arith) yes_e (λ j low' high'. no_before j (omega arith) high'))
  where
    by : (d ≡ e) ⊎ ((d < e) ⊎ (e < d)) → (d + 1 ≤ e → first_that test k (d + 1) ≡ e) → first_that test (suc k) d ≡ e
    by (inl same) rest = cond-true _ _ _ (ap test same ∙ yes_e) ∙ same
    by (inr (inl below)) rest = cond-false _ _ _ (no_before d (omega arith) below) ∙ rest (omega arith)
    by (inr (inr above)) rest = absurd (omega arith)

-- ---- the message that is picked

-- of the first k of the queue, `best` is the first whose suite comes soonest, `least` suites after the turn
pub record Soonest (turn : ℕ) (q : List Offered) (k best least : ℕ) : Type 0 where
  pub there : best < k
  pub least_is : least ≡ steps_to turn (get_or q best nothing).suite
  pub none_sooner : (j : ℕ) → j < k → least ≤ steps_to turn (get_or q j nothing).suite
  pub first : (j : ℕ) → j < best → least < steps_to turn (get_or q j nothing).suite

-- one more message, with what its suite's distance is to the least
soonest_more : (turn : ℕ) (q : List Offered) (k best least key best' least' : ℕ) (o : Ordering) → Soonest turn q k best least →
    key ≡ steps_to turn (get_or q k nothing).suite → MatchOrdering o (least < key) (least ≡ key) (key < least) →
    least' ≡ min_by_ordering o least key → best' ≡ min_by_ordering o best k → Soonest turn q (k + 1) best' least'
soonest_more turn q k best least key best' least' o so is ranks least_is best_is =
    subst₂ (Soonest turn q (k + 1)) (sym best_is) (sym least_is) (by o ranks)
  where
    among : (n : ℕ) → (n ≤ least) → (n ≤ key) → (j : ℕ) → j < k + 1 → (j ≡ k) ⊎ (j ≡ k → ⊥) → n ≤ steps_to turn (get_or q j nothing).suite
    among n low below j h (inl e) = let same = ap (λ i. steps_to turn (get_or q i nothing).suite) e in omega arith
    among n low below j h (inr other) = let later = so.none_sooner j (omega arith) in omega arith

    kept : least ≤ key → Soonest turn q (k + 1) best least
    kept low = record {
      there = omega (arith, so.there);
      least_is = so.least_is;
      none_sooner = λ j h. among least (omega arith) low j h (cases_eq j k);
      first = so.first;
    }

    by : (o : Ordering) → MatchOrdering o (least < key) (least ≡ key) (key < least) →
        Soonest turn q (k + 1) (min_by_ordering o best k) (min_by_ordering o least key)
    by Less low = kept (omega arith)
    by Equal same = kept (omega arith)
    by Greater high = record {
      there = omega arith;
      least_is = is;
      none_sooner = λ j h. among key (omega arith) (omega arith) j h (cases_eq j k);
      first = λ j h. let later = so.none_sooner j h in omega arith;
    }

-- the message that `min_by_key` picks, where the keys are the distances
module _ {F : Type 0} (g : Mut F (Bor ℕ × Unit {0}) ℕ) (f : F) (turn : ℕ) (q : List Offered)
    (acts : ActsAsAt g f (λ j. steps_to turn (get_or q j nothing).suite)) where
  soonest_folds : (n k : ℕ) (p r : (F × ℕ) × ℕ) → p.0.0 ≡ f → Soonest turn q k p.1 p.0.1 →
      FoldsTo {P = (F × ℕ) × ℕ} (KeyTurn min_by_ordering min_by_ordering g nat_cmp) p (range_with_len k n) r → Soonest turn q (k + n) r.1 r.0.1
  soonest_folds zero k p r same so e =
      let whole : k ≡ k + 0 = omega arith in
      subst (λ n. Soonest turn q n r.1 r.0.1) whole (subst (λ s. Soonest turn q k s.1 s.0.1) e so)
  soonest_folds (suc n) k p r same so (p', (key, o, called, is, least, best), rest) =
      let did = acts k key p'.0.0 (subst (λ h. CalledAt g h k key p'.0.0) same called) in
      let one = soonest_more turn q k _ _ key _ _ o so did.1 (ranked p.0.1 key o (sym is)) least best in
      let whole : k + 1 + n ≡ k + suc n = omega arith in
      subst (λ m. Soonest turn q m r.1 r.0.1) whole (soonest_folds n (k + 1) p' r did.0 one rest)

  soonest_of_all : (s : Range ℕ) (w y : ℕ) → PicksMinByKey nat_range_steps g nat_cmp s f (Some y) →
      YieldsList nat_range_steps (λ x. x) s (range_with_len 0 w) → (least : ℕ) × Soonest turn q w y least
  soonest_of_all s w y (x, xs, key, f', r, (u, (t, gave, last)), called, folds) road =
      from w (sym (map-id (x ∷ xs)) ∙ items_from_drains (x ∷ xs) (t, gave, λ _. (u, last)) road)
    where
      from : (w : ℕ) → x ∷ xs ≡ range_with_len 0 w → (least : ℕ) × Soonest turn q w y least
      from zero e = absurd (omega (arith, ap length e))
      from (suc n) e =
          let did = acts x key f' called in
          let zeroth : x ≡ 0 = ap (λ zs. get_or zs 0 0) e in
          let start : Soonest turn q 1 x key =
          record {
            there = omega arith;
            least_is = did.1;
            none_sooner = λ j h.
                let only : j ≡ x = omega arith in
                let same = ap (λ i. steps_to turn (get_or q i nothing).suite) only in
                omega (arith, did.1);
            first = λ j h. absurd (omega arith);
          } in
          let others = subst (λ zs. FoldsTo {P = (F × ℕ) × ℕ} (KeyTurn min_by_ordering min_by_ordering g nat_cmp) ((f', key), x) zs (r, y)) (ap (drop 1) e) folds in
          let whole : 1 + n ≡ suc n = omega arith in
          (r.1, subst (λ m. Soonest turn q m y r.1) whole (soonest_folds n 1 ((f', key), x) (r, y) did.0 start others))

pub soonest_picks : {F : Type 0} {g : Mut F (Bor ℕ × Unit {0}) ℕ} {f : F} {s : Range ℕ} {o : Option ℕ} (turn : ℕ) (q : List Offered) (w y : ℕ) →
    PicksMinByKey nat_range_steps g nat_cmp s f o → o ≡ Some y → YieldsList nat_range_steps (λ x. x) s (range_with_len 0 w) →
    ActsAsAt g f (λ j. steps_to turn (get_or q j nothing).suite) → (least : ℕ) × Soonest turn q w y least
soonest_picks {g = g} {f = f} {s = s} turn q w y picks is road acts =
    soonest_of_all g f turn q acts s w y (subst (PicksMinByKey nat_range_steps g nat_cmp s f) is picks) road

module _ (s : Stored) (a w turn best least : ℕ) (fine : SoundStore s a w) (low : 1 ≤ turn) (high : turn ≤ 8)
    (found : Soonest turn s.queue w best least) where
  abbrev q : List Offered
  q = s.queue

  pub soonest_first : FirstOfSuite q best
  soonest_first j h e =
      let sooner = found.first j h in
      let is = found.least_is in
      let same = ap (steps_to turn) e in
      omega arith

  abbrev served : ℕ
  served = (get_or q best nothing).suite

  abbrev waits : ℕ → Bool
  waits d = ltb 0 (length (lane (suite_after turn d) q))

  few : least < 8
  few =
      let sound = waiting_sound s a w fine best found.there in
      omega (arith, found.least_is, steps_few turn served low high sound.0 sound.1)

  comes_to : suite_after turn least ≡ served
  comes_to =
      let sound = waiting_sound s a w fine best found.there in
      ap (suite_after turn) found.least_is ∙ after_steps turn served low high sound.0 sound.1

  waits_there : waits least ≡ true
  waits_there =
      let head = ap length (lane_first q best (omega (arith, found.there, fine.queue_long)) soonest_first) in
      let same = ap (λ u. length (lane u q)) comes_to in
      lt-ltb 0 (length (lane (suite_after turn least) q)) (omega arith)

  none_before : (d : ℕ) → d < least → lane (suite_after turn d) q ≡ []
  none_before d h =
      lane_empty q (suite_after turn d)
      (λ j small e.
      let later = found.none_sooner j (omega (arith, fine.queue_long)) in
      omega (arith, ap (steps_to turn) e, steps_after turn d low high (omega (arith, few))))

  waits_not_before : (d : ℕ) → d < least → waits d ≡ false
  waits_not_before d h = le-ltb 0 (length (lane (suite_after turn d) q)) (omega (arith, ap length (none_before d h)))

  pub soonest_picked : served ≡ turn_picks (state_of s).waiting turn
  unfolding turn_picks state_of
  soonest_picked =
      sym (ap (suite_after turn) (first_is waits 8 0 least (omega arith) (omega (arith, few)) waits_there (λ j _ h. waits_not_before j h)) ∙ comes_to)

  pub soonest_passes : (d : ℕ) → d < steps_to turn served → (state_of s).waiting (suite_after turn d) ≡ []
  unfolding state_of
  soonest_passes d h = none_before d (omega (arith, found.least_is))
