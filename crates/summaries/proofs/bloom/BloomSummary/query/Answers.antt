use Rattle.std.proofs.Common.{◌≡◌, ℕ, true, List, length, slice_index, EachIndex, refl, sym, ap, ◌∙◌, arith, rules, tests}
use Rattle.std.proofs.lemmas.Iterator.{YieldsList-from_slice}
use Rattle.std.proofs.lemmas.Iterator.Search.{all_from_yields_List}
use Rattle.std.proofs.lemmas.Bool.Decides.{same_from_decides, Decides-like, Decides-by_and}
use Rattle.std.proofs.lemmas.List.{get_or_default}
use Rattle.std.specs.List.{list_all}
use Rattle.summaries.specs.BloomLaws.{all_set_decides}
use Rattle.summaries.specs.Blooms.{hashes, position, has_bit, names_bloom}
use Rattle.summaries.proofs.bloom.BloomSummary.query.Goals as goal

-- whether all of the node's positions are set
all_positions : (bs ps : List ℕ) (n : ℕ) → length ps ≡ hashes → EachIndex ps (λ i. slice_index ps i ≡ position n i) →
    list_all (λ p. has_bit p bs) ps ≡ names_bloom bs n
all_positions bs ps n long are =
    same_from_decides _ _
    (Decides-like _
    (λ all i inside. ap (λ p. has_bit p bs) (sym (are i (omega arith))) ∙ all i 0 (omega arith))
    (λ all i d inside. ap (λ p. has_bit p bs) (get_or_default ps i d 0 inside ∙ are i inside) ∙ all i (omega arith))
    (Decides-by_and (λ p. has_bit p bs) (λ p. has_bit p bs ≡ true) (list_all (λ p. has_bit p bs)) (λ _. (λ e. e, λ e. e)) refl (λ _ _. refl) ps))
    (all_set_decides bs n hashes)

pub returns : goal.returns
returns c =
    let bs = c.args.region.now in
    let ps = c.positions.result in
    let found : c.all.result ≡ list_all (λ p. has_bit p bs) ps =
    all_from_yields_List (λ p. has_bit p bs) _ _ c.all.result c.all.ensures.ran (YieldsList-from_slice ps (search rules)) (λ x b q k. search (rules, tests)) in
    search (rules, found ∙ all_positions bs ps c.args.node (search rules) c.positions.ensures.are)
