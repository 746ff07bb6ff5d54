use Rattle.std.proofs.Common.{rules, Some, ap, ◌∙◌, arith}
use Rattle.texts.proofs.Reading.{read_on, read_on_try_fold, read_on_more, read_on_number}
use Rattle.texts.proofs.decimal.number.Goals as goal

pub returns : goal.returns
returns c =
    let field = c.in_ok-first.ensures.cases in
    read_on_try_fold (λ f n b o f' k. search rules) _ _ _ _ _ c.try_fold.ensures.ran
    ∙ ap (read_on (Some c.in_ok-start.start)) c.iter.ensures.rest
    ∙ read_on_more 0 c.in_ok-first.first.now c.in_ok-first.rest.now c.args.field.now _ field.0 c.in_ok-start.ensures
    ∙ read_on_number c.args.field.now (omega (arith, field.1))
