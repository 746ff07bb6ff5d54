use Rattle.std.proofs.Common.{◌≡◌, length, replicate, sym, refl, ap, ◌∙◌, subst, arith, rules}
use Rattle.number_bytes.specs.Bytes.{Number}
use Rattle.std.proofs.lemmas.List.Edits.{length-between}
use Rattle.std.proofs.ByRecursion.{All-from_get_or}
use Rattle.summaries.specs.ExactLists.{NamesExactly}
use Rattle.summaries.specs.ExactLaws.{packed_region, names_packed}
use Rattle.summaries.proofs.exact_list.ExactListSummary.pack.Goals as goal

pub returns : goal.returns
returns c =
    let ns = c.args.nodes.now in
    let zeros = c.fill.ensures.after (λ y e. e) in
    let long : length c.put_numbers.new.bytes ≡ 257 = search rules in
    let whole = packed_region ns _ c.put_numbers.new.bytes c.fill.new.self (length ns) refl (omega arith) (search rules) long c.put_numbers.ensures
    (zeros ∙ ap (λ k. replicate k 0) (length-between c.put_numbers.new.bytes _ 257 (omega arith))) in
    let small = All-from_get_or Number ns 0 (λ i _. (c.type_inv.nodes i).fits) in
    record { answer = search rules; region = search (rules, whole); exactly = subst (NamesExactly ns) (sym whole) (names_packed ns (omega arith) small) }
