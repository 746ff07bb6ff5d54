use Rattle.std.proofs.Common.{sym, ◌∙◌, rules}
use Rattle.session.proofs.Telling.{told_err, told_ok, told_write}
use Rattle.session.specs.Steps.{world}
use Rattle.session.specs.declared.slot_call.SlotAnswer.TheVariants.{Written}
use Rattle.session.proofs.whole.Session.write.Goals as goal

pub returns-in_err-at_slot-clause-answer : goal.returns-in_err-at_slot-clause-answer
returns-in_err-at_slot-clause-answer g c =
    let w = world c.args.self.now c.args.places.now c.args.writes.now (g.L.Line.state c.args.line.now) in
    let why = c.in_err-at_slot.field-0.0 in
    let is = sym (told_write g.S.Summary.kind g.T.Setting.kind w c.args.suite c.args.slot c.args.node c.args.setting) ∙ sym c.at_slot.ensures.answer ∙ c.in_err-at_slot.was in
    let refused = told_err (λ _. Written) _ why is in
    search rules

pub unreachable-requires : goal.unreachable-requires
unreachable-requires g c =
    let w = world c.args.self.now c.args.places.now c.args.writes.now (g.L.Line.state c.args.line.now) in
    let is = sym (told_write g.S.Summary.kind g.T.Setting.kind w c.args.suite c.args.slot c.args.node c.args.setting) ∙ sym c.at_slot.ensures.answer ∙ c.in_ok-at_slot.was in
    let answer = told_ok (λ _. Written) _ _ is in
    c.in_default.not-Written answer.1
