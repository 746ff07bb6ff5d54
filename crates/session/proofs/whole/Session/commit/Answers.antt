use Rattle.std.proofs.Common.{sym, ◌∙◌, rules}
use Rattle.session.proofs.Telling.{told_err, told_ok, told_commit}
use Rattle.session.specs.Steps.{world}
use Rattle.session.specs.declared.slot_call.SlotAnswer.TheVariants.{Committed}
use Rattle.session.proofs.whole.Session.commit.Goals as goal

pub returns-in_err-answer-clause-answer : goal.returns-in_err-answer-clause-answer
returns-in_err-answer-clause-answer g c =
    let w = world c.args.self.now c.args.places.now c.args.writes.now (g.L.Line.state c.args.line.now) in
    let why = c.in_err-answer.field-0.0 in
    let is = sym (told_commit g.S.Summary.kind g.T.Setting.kind w c.args.suite c.args.slot) ∙ sym c.at_slot.ensures.answer ∙ c.in_err-answer.was in
    let refused = told_err Committed _ why is in
    search rules

pub unreachable-requires : goal.unreachable-requires
unreachable-requires g c =
    let w = world c.args.self.now c.args.places.now c.args.writes.now (g.L.Line.state c.args.line.now) in
    let is = sym (told_commit g.S.Summary.kind g.T.Setting.kind w c.args.suite c.args.slot) ∙ sym c.at_slot.ensures.answer ∙ c.in_ok-answer.was in
    let answer = told_ok Committed _ _ is in
    c.in_default.not-Committed answer.0 answer.1
