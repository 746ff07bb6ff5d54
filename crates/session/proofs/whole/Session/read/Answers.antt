use Rattle.std.proofs.Common.{sym, ◌∙◌, rules}
use Rattle.session.proofs.Telling.{told_err, told_ok, told_read}
use Rattle.session.specs.Steps.{world}
use Rattle.session.specs.declared.slot_call.SlotAnswer.TheVariants.{Setting}
use Rattle.session.proofs.whole.Session.read.Goals as goal

pub returns-in_err-setting-clause-answer : goal.returns-in_err-setting-clause-answer
returns-in_err-setting-clause-answer g c =
    let w = world c.args.self.now c.args.places.now c.args.writes.now (g.L.Line.state c.args.line.now) in
    let why = c.in_err-setting.field-0.0 in
    let is = sym (told_read g.S.Summary.kind g.T.Setting.kind w c.args.suite c.args.slot c.args.node) ∙ sym c.at_slot.ensures.answer ∙ c.in_err-setting.was in
    let refused = told_err Setting _ why is in
    search rules

pub unreachable-requires : goal.unreachable-requires
unreachable-requires g c =
    let w = world c.args.self.now c.args.places.now c.args.writes.now (g.L.Line.state c.args.line.now) in
    let is = sym (told_read g.S.Summary.kind g.T.Setting.kind w c.args.suite c.args.slot c.args.node) ∙ sym c.at_slot.ensures.answer ∙ c.in_ok-setting.was in
    let answer = told_ok Setting _ _ is in
    c.in_default.not-Setting answer.0 answer.1
