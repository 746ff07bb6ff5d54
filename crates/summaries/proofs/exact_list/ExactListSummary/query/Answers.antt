use Rattle.std.proofs.Common.{◌≡◌, length, min, take, drop, get_or, ap, ap₂, ◌/◌, ◌==◌, ◌∙◌, arith, rules, tests}
use Rattle.std.proofs.lemmas.Iterator.{YieldsList-from_slice}
use Rattle.std.proofs.lemmas.Iterator.Search.{any_from_yields_List}
use Rattle.std.proofs.lemmas.List.{take_all, length-drop}
use Rattle.std.specs.Int.{from_le_bytes}
use mir.Syntax.{w64}
use Rattle.std.specs.List.{AllByRecursion, list_any}
use Rattle.std.proofs.ByRecursion.{All-from_get_or}
use Rattle.number_bytes.specs.Bytes.{Byte, big_endian}
use Rattle.std.specs.Simd.{first_chunks}
use Rattle.summaries.proofs.Chunks.{any_number}
use Rattle.summaries.proofs.exact_list.ExactListSummary.query.Goals as goal

pub returns : goal.returns
returns c =
    let bs = c.in_ok-bytes.bytes.now in
    let n = c.args.node in
    let same : bs ≡ c.args.region.now = search rules in
    let long : length bs ≡ 257 = search rules in
    let part : take 256 (drop 1 bs) ≡ drop 1 bs = take_all 256 (drop 1 bs) (omega (arith, length-drop 1 bs)) in
    let wide : length (take 256 (drop 1 bs)) ≡ 256 = omega (arith, ap length part, length-drop 1 bs) in
    let many : length (take 256 (drop 1 bs)) / 8 ≡ 32 = ap (λ k. k / 8) wide in
    let front : c.as_chunks.result.0.now ≡ first_chunks 8 32 (drop 1 bs) = c.as_chunks.ensures.front ∙ ap₂ (first_chunks 8) many part in
    let listed = take c.min-count.result c.as_chunks.result.0.now in
    let turned = from_le_bytes w64 (big_endian 8 n) in
    let found : c.any.result ≡ list_any (λ x. from_le_bytes w64 x == turned) listed =
    any_from_yields_List (λ x. from_le_bytes w64 x == turned) _ _ c.any.result c.any.ensures.ran
    (YieldsList-from_slice listed (search rules)) (λ x b q k. search (rules, tests)) in
    let small : AllByRecursion Byte bs = All-from_get_or Byte bs 0 (λ i _. omega (arith, ap (λ xs. get_or xs i 0) same, (c.type_inv.region i).fits)) in
    let count : c.min-count.result ≡ min (get_or bs 0 0) 32 = search rules in
    let is = any_number bs n listed long small c.ranges.node.fits (ap₂ take count front) in
    search (rules, found ∙ is, same)
