use Rattle.std.proofs.Common.{◌≡◌, replicate, sym, ap, ◌∙◌, subst, rules}
use Rattle.std.proofs.lemmas.List.{take_all}
use Rattle.std.proofs.lemmas.List.Sums.{fold_more}
use Rattle.summaries.specs.BloomLaws.{packs_exactly}
use Rattle.summaries.specs.Blooms.{marked, packed_bloom, SetsExactly}
use Rattle.summaries.proofs.bloom.BloomSummary.pack.Goals as goal

pub loop-node-preserved : goal.loop-node-preserved
loop-node-preserved c =
    let ns = c.args.nodes.now in
    c.mark.ensures ∙ ap (marked _ 12) c.loop-node.invariant
    ∙ sym (fold_more (λ bs n. marked n 12 bs) (replicate 64 0) ns c.loop-node.node-index 0 c.loop-node-test.true)

pub returns : goal.returns
returns c =
    let ns = c.args.nodes.now in
    let whole : c.loop-node.bits ≡ packed_bloom ns =
    c.loop-node.invariant ∙ ap packed_bloom (take_all c.loop-node.node-index ns c.loop-node-test.false) in
    record { answer = search rules; region = search (rules, whole); exactly = subst (SetsExactly ns) (sym whole) (packs_exactly ns) }
