use Rattle.std.proofs.Common.{◌∙◌, rules, tests}
use Rattle.session.specs.Commits.{is_newer}
use Rattle.std.proofs.lemmas.Iterator.{YieldsList-from_slice}
use Rattle.std.proofs.lemmas.Iterator.Search.{find_from_yields_List}
use Rattle.session.proofs.search.first_newer.Goals as goal

pub returns : goal.returns
returns g c =
    c.copied.ensures
    ∙ find_from_yields_List (is_newer c.args.nodes.now c.args.places.now c.args.snapshot) _ _ c.find.result c.find.ensures.ran (YieldsList-from_slice _ c.iter.ensures.rest) (λ x b q k. search (rules, tests))
