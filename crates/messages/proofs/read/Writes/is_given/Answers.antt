use Rattle.std.proofs.Common.{eqb, refl, ◌∙◌, arith, rules, tests}
use Rattle.messages.proofs.Judging.{given_is}
use Rattle.messages.specs.Reading.{node_in}
use Rattle.std.proofs.lemmas.Iterator.{YieldsList-from_range}
use Rattle.std.proofs.lemmas.Iterator.Search.{any_from_yields_List}
use Rattle.messages.proofs.read.Writes.is_given.Goals as goal

pub returns : goal.returns
returns g c =
    let W = g.S.Summary.kind.wide in
    let X = g.T.Setting.kind.wide in
    let m = c.args.self.now.message.now in
    any_from_yields_List (λ j. eqb (node_in W X m j) c.args.node) _ _ _ c.any.ensures.ran (YieldsList-from_range 0 c.args.i c.args.i refl (omega arith)) (λ x b q k. search (rules, tests))
    ∙ given_is W X m c.args.node c.args.i
