use Rattle.std.proofs.Common.{Some, drop, refl, ap, ◌∙◌}
use Rattle.bench_lines.proofs.Forms.{colour_is}
use Rattle.bench_lines.specs.Commands.{first_signed}
use Rattle.settings.specs.Same.{same_colour}
use Rattle.texts.specs.Texts.{left}
use Rattle.bench_lines.proofs.fields.next_colour.Goals as goal

pub returns-clause-answer : goal.returns-clause-answer
returns-clause-answer c =
    let first = c.in-Some.ensures in
    let second = c.in-Some-next_signed.ensures in
    let third = c.in-Some-next_signed-2.ensures in
    ap Some (same_colour _ _ refl refl refl)
    ∙ colour_is (left c.args.fields.now) _ _ _ first.answer (second.answer ∙ ap first_signed first.rest)
    (third.answer ∙ ap first_signed (second.rest ∙ ap (drop 1) first.rest))
