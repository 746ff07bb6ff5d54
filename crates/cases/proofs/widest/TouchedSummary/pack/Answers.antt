use Rattle.std.proofs.Common.{rules, ◌∙◌}
use Rattle.cases.proofs.Touched.{packs_few, some_byte, first_set}
use Rattle.cases.proofs.widest.TouchedSummary.pack.Goals as goal

pub returns-clause-answer : goal.returns-clause-answer
returns-clause-answer c = search (rules, packs_few c.args.nodes.now c.args.region.now c.if-nodes-gt-READS.false (search rules))

pub returns-clause-region : goal.returns-clause-region
returns-clause-region c =
    let packed = packs_few c.args.nodes.now c.args.region.now c.if-nodes-gt-READS.false (search rules) in
    first_set c.args.nodes.now c.args.region.now _ _ packed (search rules) (search (rules, c.fill.ensures.after (λ y h. h))) (c.from.ensures ∙ some_byte _ _ c.is_empty.ensures)
