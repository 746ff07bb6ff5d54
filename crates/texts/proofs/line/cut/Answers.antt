use Rattle.std.proofs.Common.{◌≡◌, ◌+◌, sym, ◌∙◌, rules, tests}
use Rattle.std.specs.List.{position}
use Rattle.std.proofs.lemmas.List.{take_rest}
use Rattle.std.proofs.lemmas.Iterator.{YieldsList-from_slice}
use Rattle.std.proofs.lemmas.Iterator.Search.{position_from_yields_List}
use Rattle.texts.proofs.Spaces.{is_space, cut_at, cut_nowhere, behind_position}
use Rattle.texts.proofs.line.cut.Goals as goal

pub returns-in-Some : goal.returns-in-Some
returns-in-Some c =
    let found : c.position.result ≡ position is_space c.args.line.now = position_from_yields_List is_space _ _ c.position.result c.position.ensures.ran (YieldsList-from_slice _ c.iter-rest.ensures.rest) (λ x b q k. search (rules, tests)) in
    let behind = behind_position _ _ _ _ c.in-Some.i c.position.ensures.ran c.in-Some.is in
    cc (cut_at c.args.line.now c.in-Some.i (sym found ∙ c.in-Some.is), take_rest c.args.line.now (c.in-Some.i + 1), behind)

pub returns-in-None : goal.returns-in-None
returns-in-None c =
    let found : c.position.result ≡ position is_space c.args.line.now = position_from_yields_List is_space _ _ c.position.result c.position.ensures.ran (YieldsList-from_slice _ c.iter-rest.ensures.rest) (λ x b q k. search (rules, tests)) in
    cut_nowhere c.args.line.now (sym found ∙ c.in-None.is)
