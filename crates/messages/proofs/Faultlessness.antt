-- What follows where no check of a message fails, and what reading answers.
use Rattle.std.proofs.Common.{◌≡◌, ℕ, zero, suc, ◌+◌, ◌<◌, true, false, not, ◌&&◌, eqb, ltb, leb, List, [], ◌∷◌, ◌++◌, length, get_or, is_some, IfOk, Some, None, Option, Result, sym, refl, ap, ◌∙◌, subst, arith}
use Rattle.number_bytes.specs.Bytes.{number}
use Rattle.limits.proofs.Ranges.{not_outside}
use Rattle.messages.proofs.Judging.{start_le, known_decides, given_decides, none_wrong, judged_first}
use Rattle.limits.specs.Limits.{outside}
use Rattle.messages.specs.Layout.{write_start, message_length}
use Rattle.messages.specs.Reading.{checks, write_checks, first_fault, judged, header_in, read_answer, node_in, setting_in, known, given_before, write_in, ExactFault, Faultless}
use Rattle.messages.specs.declared.fault.Fault.{Fault}
use Rattle.messages.specs.declared.parts.Header.{Header}
use Rattle.messages.specs.declared.parts.Write.{Write}
use Rattle.std.proofs.lemmas.List.Edits.{length-between}
use Rattle.std.proofs.lemmas.Bool.{eqb-true, ltb-false, not-false, or_parts, lt-ltb, le-leb, and_from, cond-true, both_ways}
use Rattle.settings.specs.Kinds.{SettingKind}
use Rattle.std.specs.List.{between, range_with_len, flat_map, ContainsAt, AllByRecursion}
use Rattle.std.specs.Option.{option_map}
use Rattle.summaries.specs.Kinds.{SummaryKind}

-- what holds of pieces joined holds of each piece
all_left : {Y : Type 0} (P : Y → Type 0) (xs ys : List Y) → AllByRecursion P (xs ++ ys) → AllByRecursion P xs
all_left P [] ys h = tt
all_left P (x ∷ xs) ys h = (h.0, all_left P xs ys h.1)

all_right : {Y : Type 0} (P : Y → Type 0) (xs ys : List Y) → AllByRecursion P (xs ++ ys) → AllByRecursion P ys
all_right P [] ys h = h
all_right P (x ∷ xs) ys h = all_right P xs ys h.1

all_piece : {Y : Type 0} (P : Y → Type 0) (f : ℕ → List Y) (a n i : ℕ) → AllByRecursion P (flat_map f (range_with_len a n)) → i < n → AllByRecursion P (f (a + i))
all_piece P f a zero i h low = absurd (omega arith)
all_piece P f a (suc n) zero h low = let first : a ≡ a + 0 = omega arith in subst (λ k. AllByRecursion P (f k)) first (all_left P (f a) _ h)
all_piece P f a (suc n) (suc i) h low =
    let next : a + 1 + i ≡ a + suc i = omega arith in
    subst (λ k. AllByRecursion P (f k)) next (all_piece P f (a + 1) n i (all_right P (f a) _ h) (omega arith))

-- an option with something in it
there : {T : Type 0} (o : Option T) → is_some o ≡ true → (x : T) × (o ≡ Some x)
there None h = cc
there (Some x) h = (x, refl)

module _ {T : Type 0} (S : SummaryKind) (K : SettingKind T) (suites stamp : ℕ) (nodes m : List ℕ)
    (fine : AllByRecursion (λ c. c.0 ≡ false) (checks S K suites stamp nodes m)) where
  count_parts : (outside 16 (get_or m 5 0) ≡ false) × (not (eqb (length m) (message_length S.wide K.wide (get_or m 5 0))) ≡ false)
  count_parts = or_parts (outside 16 (get_or m 5 0)) _ fine.1.1.1.1.0

  long : length m ≡ message_length S.wide K.wide (get_or m 5 0)
  long = eqb-true _ _ (not-false _ count_parts.1)

  write_fine : (i : ℕ) → i < get_or m 5 0 → AllByRecursion (λ c. c.0 ≡ false) (write_checks S.wide K nodes m i)
  write_fine i h =
      let same : 0 + i ≡ i = omega arith in
      subst (λ k. AllByRecursion (λ c. c.0 ≡ false) (write_checks S.wide K nodes m k)) same
      (all_piece (λ c. c.0 ≡ false) (write_checks S.wide K nodes m) 0 (get_or m 5 0) i fine.1.1.1.1.1.1 h)

  node_parts : (i : ℕ) → i < get_or m 5 0 → (not (known nodes (node_in S.wide K.wide m i)) ≡ false) × (given_before S.wide K.wide m (node_in S.wide K.wide m i) i ≡ false)
  node_parts i h = or_parts (not (known nodes (node_in S.wide K.wide m i))) _ (write_fine i h).0

  write_there : (i : ℕ) → i < get_or m 5 0 → (w : Write T) × (write_in S K m i ≡ Some w) × (w.node ≡ node_in S.wide K.wide m i) × ContainsAt nodes w.node
  write_there i h =
      let next = start_le S.wide K.wide (i + 1) (get_or m 5 0) (omega arith) in
      let whole : (ltb i (get_or m 5 0) && leb (write_start S.wide K.wide (i + 1)) (length m)) ≡ true =
      and_from (ltb i (get_or m 5 0)) _ (lt-ltb i (get_or m 5 0) h) (le-leb _ (length m) (omega (arith, next, long))) in
      let setting = there (K.reading (setting_in S.wide K.wide m i)) (not-false _ (write_fine i h).1.0) in (
        record { node = node_in S.wide K.wide m i; setting = setting.0 },
        cond-true _ _ _ whole ∙ ap (option_map (λ s. record { node = node_in S.wide K.wide m i; setting = s })) setting.1,
        refl,
        (known_decides nodes (node_in S.wide K.wide m i)).0 (not-false _ (node_parts i h).0),
      )

  pub faultless : Faultless S K suites stamp nodes m
  faultless = record {
    suite_there = not_outside suites (get_or m 3 0) fine.1.1.0;
    slot_there = not_outside 4 (get_or m 4 0) fine.1.1.1.0;
    few_writes = not_outside 16 (get_or m 5 0) count_parts.0;
    whole = long;
    snapshot_in = ltb-false stamp (number (between 6 10 m)) fine.1.1.1.1.1.0;
    summary_whole = length-between m 10 (10 + S.wide) (let low = start_le S.wide K.wide 0 (get_or m 5 0) (omega arith) in omega (arith, low, long)) ∙ omega arith;
    each = write_there;
    different = λ i j low inside same. both_ways (given_before S.wide K.wide m (node_in S.wide K.wide m j) j) (node_parts j inside).1 ((given_decides S.wide K.wide m (node_in S.wide K.wide m j) j).1 (i, low, same));
  }

-- ---- what reading answers

module _ {T : Type 0} (S : SummaryKind) (K : SettingKind T) (suites stamp : ℕ) (nodes m : List ℕ) (r : Result Header Fault)
    (is : r ≡ read_answer S K suites stamp nodes m) where
  pub read_first : ExactFault (checks S K suites stamp nodes m) r
  read_first = subst (ExactFault (checks S K suites stamp nodes m)) (sym is) (judged_first (checks S K suites stamp nodes m) (header_in m))

  pub read_whole : IfOk r (λ _. Faultless S K suites stamp nodes m)
  read_whole = subst (λ a. IfOk a (λ _. Faultless S K suites stamp nodes m)) (sym is) (by (first_fault (checks S K suites stamp nodes m)) refl)
    where
      by : (o : Option Fault) → first_fault (checks S K suites stamp nodes m) ≡ o → IfOk (judged o (header_in m)) (λ _. Faultless S K suites stamp nodes m)
      by None e = faultless S K suites stamp nodes m (none_wrong (checks S K suites stamp nodes m) e)
      by (Some f) e = tt
