use Rattle.std.proofs.Common.{drop, ap, ◌∙◌}
use Rattle.std.specs.Bool.{then_some}
use Rattle.bench_lines.proofs.Forms.{write_is}
use Rattle.bench_lines.specs.Commands.{first_number, first_colour}
use Rattle.history.specs.declared.call.Call.TheVariants.{Write}
use Rattle.texts.specs.Texts.{is_empty, left}
use Rattle.bench_lines.proofs.calls.whole_write.Goals as goal

pub returns : goal.returns
returns c =
    let slot = c.in-Some.ensures in
    let node = c.in-Some-next_number.ensures in
    let colour = c.in-Some-next_colour.ensures in
    let behind = node.rest ∙ ap (drop 1) slot.rest in
    let call = Write c.in-Some.at c.in-Some-next_number.node c.in-Some-next_colour.colour in
    c.then_some.ensures ∙ ap (λ end. then_some end call) (c.end.ensures ∙ ap is_empty (colour.rest ∙ ap (drop 3) behind))
    ∙ write_is (left c.args.fields.now) _ _ _ slot.answer (node.answer ∙ ap first_number slot.rest) (colour.answer ∙ ap first_colour behind)
