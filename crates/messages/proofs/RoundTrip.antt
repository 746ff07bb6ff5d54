-- Reading a message that was composed returns all its fields: first the parts of the message, then its checks, none of which
-- finds anything wrong.
use Rattle.std.proofs.Common.{◌≡◌, ℕ, zero, suc, ◌+◌, ◌-◌, ◌*◌, ◌^◌, ◌<◌, ◌≤◌, Bool, true, false, not, ◌&&◌, ltb, leb, List, [], ◌∷◌, ◌++◌, map, length, get_or, take, drop, is_some, Some, None, Ok, sym, refl, ap, ◌∙◌, arith}
use Rattle.number_bytes.proofs.Numbers.{number_big_endian}
use Rattle.number_bytes.proofs.Parts.{nth_joined, length_joined}
use Rattle.number_bytes.specs.Bytes.{number, big_endian}
use Rattle.limits.proofs.Ranges.{not_outside_from}
use Rattle.messages.proofs.Judging.{start_le, known_decides, given_decides, none_found}
use Rattle.limits.specs.Limits.{outside}
use Rattle.messages.specs.Composing.{write_bytes, message, Composes, Numbered}
use Rattle.messages.specs.Layout.{write_start, message_length}
use Rattle.messages.specs.Reading.{frame_checks, write_checks, checks, first_fault, judged, node_in, setting_in, known, given_before, header_in, summary_in, write_in, read_answer}
use Rattle.messages.specs.Returning.{Fitting, Returned, header_with}
use Rattle.messages.specs.declared.parts.Origin.{Origin}
use Rattle.messages.specs.declared.parts.Write.{Write}
use Rattle.std.proofs.ByRecursion.{All-get_or, All-append}
use Rattle.std.proofs.lemmas.List.{append-nil, length-append, length-map, take_at, take-take, drop_at, drop-drop, drop-take, get_or-map}
use Rattle.std.proofs.lemmas.Bool.{eq-eqb, le-ltb, lt-ltb, le-leb, and_from, or_from, cond-true}
use Rattle.settings.specs.Kinds.{SettingKind}
use Rattle.std.specs.List.{between, range_with_len, flat_map, ContainsAt, AllByRecursion}
use Rattle.std.specs.Option.{option_map}
use Rattle.summaries.specs.Kinds.{SummaryKind}

-- what holds of the pieces holds of them joined
all_joined : {Y : Type 0} (P : Y → Type 0) (f : ℕ → List Y) (a n : ℕ) → ((i : ℕ) → a ≤ i → i < a + n → AllByRecursion P (f i)) → AllByRecursion P (flat_map f (range_with_len a n))
all_joined P f a zero h = tt
all_joined P f a (suc n) h =
    All-append P (f a) (flat_map f (range_with_len (a + 1) n)) (h a (omega arith) (omega arith)) (all_joined P f (a + 1) n (λ i low high. h i (omega arith) (omega arith)))

module _ {T : Type 0} (S : SummaryKind) (K : SettingKind T)
    (wide : (s : T) → length (K.form s) ≡ K.wide) (reads_back : (s : T) → K.reading (K.form s) ≡ Some s)
    (from : Origin) (reads : List ℕ) (writes : List (Write T)) (packed_wide : length (S.packed reads) ≡ S.wide) where
  abbrev m : List ℕ
  m = message S K from reads writes

  abbrev records : List ℕ
  records = flat_map (write_bytes K) writes

  length_record : (w : Write T) → length (write_bytes K w) ≡ 8 + K.wide
  length_record w = length-append (big_endian 8 w.node) (K.form w.setting) ∙ ap (λ n. 8 + n) (wide w.setting)

  pub length_records : length records ≡ length writes * (8 + K.wide)
  length_records = length_joined (write_bytes K) (8 + K.wide) length_record writes

  -- ---- the parts

  pub length_message : length m ≡ message_length S.wide K.wide (length writes)
  length_message = let body = length-append (S.packed reads) records in omega (arith, body, length_records, packed_wide)

  summary_part : summary_in S.wide m ≡ S.packed reads
  summary_part =
      let width : 10 + S.wide - 10 ≡ S.wide = omega arith in
      ap (λ n. take n (S.packed reads ++ records)) width ∙ take_at (S.packed reads) records S.wide packed_wide

  drop_records : (k : ℕ) → drop (10 + S.wide + k) m ≡ drop k records
  drop_records k =
      sym (drop-drop k (10 + S.wide) m)
      ∙ ap (drop k) (sym (drop-drop S.wide 10 m) ∙ drop_at (S.packed reads) records S.wide packed_wide)

  record_part : (i : ℕ) (w : Write T) → i < length writes → take (8 + K.wide) (drop (write_start S.wide K.wide i) m) ≡ write_bytes K (get_or writes i w)
  record_part i w h =
      ap (take (8 + K.wide)) (drop_records (i * (8 + K.wide)) ∙ ap (drop (i * (8 + K.wide))) (sym (append-nil records)))
      ∙ nth_joined (write_bytes K) (8 + K.wide) length_record writes [] i w h

  node_part : (i : ℕ) (w : Write T) → i < length writes → Numbered (get_or writes i w) → node_in S.wide K.wide m i ≡ (get_or writes i w).node
  node_part i w h small =
      let start = write_start S.wide K.wide i in
      let width : start + 8 - start ≡ 8 = omega arith in
      ap (λ n. number (take n (drop start m))) width
      ∙ ap number (sym (take-take 8 (8 + K.wide) (drop start m) (omega arith)) ∙ ap (take 8) (record_part i w h))
      ∙ number_big_endian 8 (get_or writes i w).node small

  setting_part : (i : ℕ) (w : Write T) → i < length writes → setting_in S.wide K.wide m i ≡ K.form (get_or writes i w).setting
  setting_part i w h =
      let start = write_start S.wide K.wide i in
      let width : start + 8 + K.wide - (start + 8) ≡ K.wide = omega arith in
      ap (λ n. take n (drop (start + 8) m)) width
      ∙ ap (take K.wide) (sym (drop-drop 8 start m))
      ∙ sym (drop-take 8 K.wide (drop start m))
      ∙ ap (drop 8) (record_part i w h)

  header_part : from.snapshot < 2 ^ 32 → header_in m ≡ header_with from (length writes)
  header_part small =
      ap (λ s. header_with (record { suite = from.suite; slot = from.slot; snapshot = s }) (length writes)) (number_big_endian 4 from.snapshot small)

  setting_reads : (i : ℕ) (w : Write T) → i < length writes → K.reading (setting_in S.wide K.wide m i) ≡ Some (get_or writes i w).setting
  setting_reads i w h = ap K.reading (setting_part i w h) ∙ reads_back (get_or writes i w).setting

  write_there : AllByRecursion Numbered writes → (i : ℕ) (w : Write T) → i < length writes → write_in S K m i ≡ Some (get_or writes i w)
  write_there numbered i w h =
      let next = start_le S.wide K.wide (i + 1) (length writes) (omega arith) in
      let there : (ltb i (length writes) && leb (write_start S.wide K.wide (i + 1)) (length m)) ≡ true =
      and_from (ltb i (length writes)) _ (lt-ltb i (length writes) h) (le-leb _ (length m) (omega (arith, next, length_message))) in
      cond-true _ _ _ there
      ∙ ap (option_map (λ s. record { node = node_in S.wide K.wide m i; setting = s })) (setting_reads i w h)
      ∙ ap (λ n. Some (record { node = n; setting = (get_or writes i w).setting })) (node_part i w h (All-get_or Numbered writes i w h numbered))

  pub returned : from.snapshot < 2 ^ 32 → AllByRecursion Numbered writes → Returned S K from reads writes m
  returned small numbered = record { header = header_part small; summary = summary_part; each = write_there numbered }

  -- ---- the checks

  module _ (room n suites stamp : ℕ) (nodes : List ℕ) (fits : Composes S K from (length reads) (length writes) room n)
      (snapshot_fits : from.snapshot < 2 ^ 32) (numbered : AllByRecursion Numbered writes)
      (fitting : Fitting suites stamp nodes from (map (λ w. w.node) writes)) where
    frame_fine : AllByRecursion (λ c. c.0 ≡ false) (frame_checks S.wide K.wide suites stamp m)
    frame_fine =
        let long = length_message in
        let count = fits.length_is in
        let short = fits.short in
        let field : number (between 0 2 m) ≡ length m - 2 = number_big_endian 2 (message_length S.wide K.wide (length writes) - 2) (omega arith) ∙ ap (λ k. k - 2) (sym long) in (
          or_from (ltb (length m) 10) _ (le-ltb (length m) 10 (omega arith)) (ap not (eq-eqb _ _ field)),
          (
            refl,
            (
              not_outside_from suites from.suite fits.suite_there.0 fitting.suite_in,
              (
                not_outside_from 4 from.slot fits.slot_there.0 fits.slot_there.1,
                (
                  or_from (outside 16 (length writes)) _ (not_outside_from 16 (length writes) fits.few_writes.0 fits.few_writes.1) (ap not (eq-eqb _ _ long)),
                  (le-ltb stamp (number (between 6 10 m)) (omega (arith, number_big_endian 4 from.snapshot snapshot_fits, fitting.snapshot_in)), tt),
                ),
              ),
            ),
          ),
        )

    -- some write, as there is one
    some : Write T
    some = first writes fits.few_writes.0
      where
        first : (ws : List (Write T)) → 1 ≤ length ws → Write T
        first [] h = absurd (omega arith)
        first (w ∷ ws) h = w

    node_is : (i : ℕ) → i < length writes → node_in S.wide K.wide m i ≡ get_or (map (λ w. w.node) writes) i 0
    node_is i h = node_part i some h (All-get_or Numbered writes i some h numbered) ∙ sym (get_or-map (λ w. w.node) writes i some 0 h)

    node_known : (i : ℕ) → i < length writes → known nodes (node_in S.wide K.wide m i) ≡ true
    node_known i h =
        let there : i < length (map (λ w. w.node) writes) = omega (arith, length-map writes (λ w. w.node)) in
        ap (known nodes) (node_is i h) ∙ (known_decides nodes _).1 (All-get_or (ContainsAt nodes) (map (λ w. w.node) writes) i 0 there fitting.nodes_in)

    node_new : (i : ℕ) → i < length writes → given_before S.wide K.wide m (node_in S.wide K.wide m i) i ≡ false
    node_new i h = by (given_before S.wide K.wide m (node_in S.wide K.wide m i) i) refl
      where
        by : (b : Bool) → given_before S.wide K.wide m (node_in S.wide K.wide m i) i ≡ b → given_before S.wide K.wide m (node_in S.wide K.wide m i) i ≡ false
        by false e = e
        by true e =
            let twice = (given_decides S.wide K.wide m (node_in S.wide K.wide m i) i).0 e in
            let there : i < length (map (λ w. w.node) writes) = omega (arith, length-map writes (λ w. w.node)) in
            absurd (fitting.different twice.0 i twice.1 there (sym (node_is twice.0 (omega (arith, twice.1))) ∙ twice.2 ∙ node_is i h))

    write_fine : (i : ℕ) → i < length writes → AllByRecursion (λ c. c.0 ≡ false) (write_checks S.wide K nodes m i)
    write_fine i h = (
      or_from (not (known nodes (node_in S.wide K.wide m i))) _ (ap not (node_known i h)) (node_new i h),
      (ap (λ o. not (is_some o)) (setting_reads i some h), tt),
    )

    no_fault : first_fault (checks S K suites stamp nodes m) ≡ None
    no_fault =
        none_found (checks S K suites stamp nodes m)
        (All-append (λ c. c.0 ≡ false) (frame_checks S.wide K.wide suites stamp m) _ frame_fine
        (all_joined (λ c. c.0 ≡ false) (write_checks S.wide K nodes m) 0 (length writes) (λ i low high. write_fine i (omega arith))))

    pub faultless : read_answer S K suites stamp nodes m ≡ Ok (header_with from (length writes))
    faultless = ap (λ o. judged o (header_in m)) no_fault ∙ ap Ok (header_part snapshot_fits)
