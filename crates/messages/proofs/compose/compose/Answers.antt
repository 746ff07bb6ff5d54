use Rattle.std.proofs.Common.{◌≡◌, ◌+◌, ◌-◌, ◌*◌, ◌^◌, ◌<◌, true, ◌++◌, length, take, drop, sym, ap, ◌∙◌, subst, arith, rules}
use borrow.Rule.Slice.PartMut.{put_mid}
use Rattle.messages.proofs.RoundTrip.{length_message, length_records, returned, faultless}
use Rattle.messages.proofs.Whole.{whole_buffer}
use Rattle.messages.specs.Composing.{message}
use Rattle.messages.specs.Returning.{Returns}
use Rattle.std.proofs.lemmas.List.Edits.{length-between}
use Rattle.std.proofs.lemmas.List.{length-append, length-drop, take_at}
use Rattle.std.proofs.lemmas.Bool.{le-leb, eq-eqb, and_from, cond-true}
use Rattle.summaries.specs.Calls.{packs}
use Rattle.messages.proofs.compose.compose.Goals as goal

pub returns : goal.returns
returns g c =
    let xs = c.args.buffer.now in
    let reads = c.args.reads.now in
    let writes = c.args.writes.now in
    let S = g.S.Summary.kind in
    let K = g.T.Setting.kind in
    let W = S.wide in
    let n = c.in_ok-length.length in
    let end = c.WIDTH-summary_end.result in
    let width : end ≡ W = c.WIDTH-summary_end.ensures ∙ g.met.S.Summary.width_is_wide in
    let facts = c.in_ok-length.ensures.facts in
    let header = c.copy_from_slice.ensures.after ∙ c.header.ensures in
    let first = c.copy_from_slice.new.self ++ drop 10 xs in
    let ten : length c.copy_from_slice.new.self ≡ 10 = ap length header in
    let long : length first ≡ length xs = length-append c.copy_from_slice.new.self (drop 10 xs) ∙ simp length-drop (omega arith) in
    let part : length (take (10 + end - 10) (drop 10 first)) ≡ W = length-between first 10 (10 + end) (omega arith) ∙ omega arith in
    let can : packs S reads (take (10 + end - 10) (drop 10 first)) ≡ true = and_from _ _ (le-leb (length reads) 32 facts.few_reads) (eq-eqb _ W part) in
    let packed = c.pack.ensures.region ∙ cond-true _ _ _ can in
    let packed_wide = g.met.S.Summary.packed_is_wide reads facts.few_reads in
    let wide : end ≡ length c.pack.new.region = width ∙ sym (ap length packed ∙ packed_wide) in
    let records = c.put_writes.ensures.region in
    let rest : length c.put_writes.new.region ≡ length writes * (8 + K.wide) = ap length records ∙ length_records S K g.met.T.Setting.form_is_wide g.met.T.Setting.form_reads c.args.from reads writes packed_wide in
    let exit = put_mid (10 + end) (n - (10 + end)) (put_mid 10 (10 + end - 10) first c.pack.new.region) c.put_writes.new.region in
    let size : 10 + (length c.pack.new.region + length c.put_writes.new.region) ≡ n = omega (arith, facts.length_is) in
    let joined = whole_buffer (10 + end - 10) (n - (10 + end)) xs c.copy_from_slice.new.self c.pack.new.region c.put_writes.new.region ten (omega arith) (omega arith) (omega arith) in
    let whole : exit ≡ message S K c.args.from reads writes ++ drop n xs = cc (joined, size, wide, header, packed, records, facts.length_is) in
    let m = message S K c.args.from reads writes in
    let length_is : length m ≡ n = length_message S K g.met.T.Setting.form_is_wide g.met.T.Setting.form_reads c.args.from reads writes packed_wide ∙ sym facts.length_is in
    let front : take n exit ≡ m = ap (take n) whole ∙ take_at m (drop n xs) n length_is in
    let small : c.args.from.snapshot < 2 ^ 32 = search rules in
    record {
      answer = c.in_ok-length.ensures.answer;
      buffer = whole;
      facts = facts;
      law =
          subst (Returns S K c.args.from reads writes) (sym front) (record {
            fields = returned S K g.met.T.Setting.form_is_wide g.met.T.Setting.form_reads c.args.from reads writes packed_wide small c.put_writes.ensures.numbers;
            faultless = λ suites stamp nodes fitting. faultless S K g.met.T.Setting.form_is_wide g.met.T.Setting.form_reads c.args.from reads writes packed_wide (length xs) n suites stamp nodes facts small c.put_writes.ensures.numbers fitting;
          });
    }
