-- What a suite reads and rules when it takes the message that a commit composed, and that the line takes such a message. The
-- message gives back all that the move put into it, and has no fault where the suite knows the sender and the snapshot.
use Rattle.std.specs.Prelude.{slice_index}
use Rattle.std.proofs.Common.{◌≡◌, ℕ, suc, ◌+◌, ◌^◌, ◌<◌, ◌≤◌, false, cond, leb, List, [], ◌∷◌, map, length, get_or, Some, Ok, Err, Option, refl, ap, ◌∙◌, arith}
use Rattle.number_bytes.specs.Bytes.{Number}
use Rattle.limits.proofs.Ranges.{not_outside_from}
use Rattle.limits.specs.Limits.{most_suites, slots_each, most_reads, most_writes}
use Rattle.lines.specs.Lines.{LineState, unusable, held, AllowedLength, offer_answer}
use Rattle.messages.proofs.RoundTrip.{returned, faultless, length_message}
use Rattle.messages.specs.Composing.{Numbered}
use Rattle.messages.specs.Layout.{message_length}
use Rattle.messages.specs.Reading.{header_in, read_answer, summary_in, write_in}
use Rattle.messages.specs.Returning.{Different, Returned, header_with}
use Rattle.messages.specs.declared.parts.Origin.{Origin}
use Rattle.messages.specs.declared.parts.Write.{Write}
use Rattle.refusals.specs.declared.Refusal.TheVariants.{LineFull, MessageLength}
use Rattle.session.proofs.KindLaws.{SettingLaws, SummaryLaws}
use Rattle.session.specs.Commits.{move_message}
use Rattle.session.specs.Shares.{Share}
use Rattle.session.specs.Takes.{decided, writes_in, first_clash, ruled_so, ruling}
use Rattle.session.specs.declared.ruling.Ruling.TheVariants.{Decided}
use Rattle.settings.specs.Kinds.{SettingKind}
use Rattle.std.proofs.ByRecursion.{All-weaker, All-map, all-has}
use Rattle.std.proofs.lemmas.Nat.{mul-le}
use Rattle.std.proofs.lemmas.Bool.{cond-false}
use Rattle.std.specs.List.{range_with_len, flat_map, ContainsAt, AllByRecursion}
use Rattle.std.specs.Option.{option_to_list}
use Rattle.summaries.specs.Kinds.{SummaryKind}

-- the values that are there one after the other are the list that has them
gathered : {X : Type 0} (f : ℕ → Option X) (a : ℕ) (xs : List X) → ((i : ℕ) (d : X) → i < length xs → f (a + i) ≡ Some (get_or xs i d)) →
    flat_map (λ i. option_to_list (f i)) (range_with_len a (length xs)) ≡ xs
gathered f a [] each = refl
gathered f a (x ∷ xs) each =
    let rest = gathered f (a + 1) xs (λ i d h. let next : a + 1 + i ≡ a + suc i = omega arith in ap f next ∙ each (suc i) d (omega arith)) in
    let here : f a ≡ Some x = let first : a ≡ a + 0 = omega arith in ap f first ∙ each 0 x (omega arith) in
    cc

-- what a move may put into its message, in a session with these nodes
pub record Sendable {T : Type 0} (nodes : List ℕ) (u s snapshot : ℕ) (reads : List ℕ) (ws : List (Write T)) : Type 0 where
  pub suite_there : (1 ≤ u) × (u ≤ most_suites)
  pub slot_there : (1 ≤ s) × (s ≤ slots_each)
  pub few_reads : length reads ≤ most_reads
  pub some_writes : 1 ≤ length ws
  pub few_writes : length ws ≤ most_writes
  pub known_writes : AllByRecursion (λ w. ContainsAt nodes w.node) ws
  pub different : Different (map (λ w. w.node) ws)
  pub small : snapshot < 2 ^ 32

module _ {T : Type 0} (S : SummaryKind) (K : SettingKind T) (of_S : SummaryLaws S) (of_K : SettingLaws K)
    {nodes : List ℕ} {u s snapshot : ℕ} {reads : List ℕ} {ws : List (Write T)}
    (sendable : Sendable nodes u s snapshot reads ws) (numbers : AllByRecursion Number nodes) where
  abbrev from : Origin
  from = record { suite = u; slot = s; snapshot = snapshot }

  abbrev msg : List ℕ
  msg = move_message S K u s snapshot reads ws

  numbered : AllByRecursion Numbered ws
  numbered = All-weaker (λ w. ContainsAt nodes w.node) Numbered (λ w there. all-has Number nodes w.node numbers there) ws sendable.known_writes

  packed_wide : length (S.packed reads) ≡ S.wide
  packed_wide = of_S.packed_is_wide reads sendable.few_reads

  pub given_back : Returned S K from reads ws msg
  given_back = returned S K of_K.form_is_wide of_K.form_reads from reads ws packed_wide sendable.small numbered

  -- ---- the parts

  pub header_of_move : header_in msg ≡ header_with from (length ws)
  header_of_move = given_back.header

  pub suite_of_move : slice_index msg 3 ≡ u
  suite_of_move = refl

  pub slot_of_move : slice_index msg 4 ≡ s
  slot_of_move = refl

  pub count_of_move : slice_index msg 5 ≡ length ws
  count_of_move = refl

  pub summary_of_move : summary_in S.wide msg ≡ S.packed reads
  summary_of_move = given_back.summary

  pub writes_of_move : writes_in S K msg ≡ ws
  writes_of_move =
      gathered (write_in S K msg) 0 ws (λ i d h. let same : 0 + i ≡ i = omega arith in ap (write_in S K msg) same ∙ given_back.each i d h)

  -- ---- its length

  long : length msg ≡ message_length S.wide K.wide (length ws)
  long = length_message S K of_K.form_is_wide of_K.form_reads from reads ws packed_wide

  pub message_fits : AllowedLength msg
  message_fits =
      let most = mul-le (length ws) (8 + K.wide) 16 40 sendable.few_writes (omega (arith, of_K.within_limit)) in
      omega (arith, long, of_S.within_limit)

  -- ---- what a suite makes of it

  pub reads_well : (suites stamp : ℕ) → u ≤ suites → snapshot ≤ stamp → read_answer S K suites stamp nodes msg ≡ Ok (header_with from (length ws))
  reads_well suites stamp suite_in snapshot_in =
      let n = message_length S.wide K.wide (length ws) in
      faultless S K of_K.form_is_wide of_K.form_reads from reads ws packed_wide n n suites stamp nodes (record {
        suite_there = sendable.suite_there;
        slot_there = sendable.slot_there;
        few_reads = sendable.few_reads;
        few_writes = (sendable.some_writes, sendable.few_writes);
        length_is = refl;
        enough = omega arith;
        short = omega (arith, long, message_fits.1);
      }) sendable.small numbered (record {
        suite_in = suite_in;
        snapshot_in = snapshot_in;
        nodes_in = All-map (ContainsAt nodes) (λ w. w.node) ws sendable.known_writes;
        different = sendable.different;
      })

  pub ruling_of_move : (suites : ℕ) (share : Share T) → u ≤ suites → snapshot ≤ share.suite.stamp →
      ruling S K suites nodes share msg ≡ Decided (decided share.suite.stamp (first_clash S K nodes share.places snapshot (S.packed reads)))
  ruling_of_move suites share suite_in snapshot_in =
      ap (ruled_so S K nodes share msg) (reads_well suites share.suite.stamp suite_in snapshot_in)
      ∙ ap (λ summary. Decided (decided share.suite.stamp (first_clash S K nodes share.places snapshot summary))) summary_of_move

  -- ---- what a line makes of it

  pub offer_goes : (m : LineState) → unusable m.limit ≡ false →
      offer_answer m u msg ≡ cond (leb m.limit (held m)) (Err LineFull) (Ok tt)
  offer_goes m usable =
      cond-false _ _ _ usable
      ∙ cond-false _ _ _ (not_outside_from 8 u sendable.suite_there.0 sendable.suite_there.1)
      ∙ ap (λ long. cond (leb m.limit (held m)) (Err LineFull) (cond long (Err MessageLength) (Ok tt)))
      (not_outside_from 1162 (length msg) message_fits.0 message_fits.1)
