use Rattle.std.proofs.Common.{Err, sym, ap, ◌∙◌}
use Rattle.messages.proofs.Judging.{judged_ok, judged_err, left_fine, left_fault}
use Rattle.messages.specs.Reading.{write_checks, judged}
use Rattle.std.proofs.lemmas.Result.{err_from_is_err_and}
use Rattle.messages.proofs.read.Writes.check_all.Goals as goal

pub loop-i-preserved : goal.loop-i-preserved
loop-i-preserved g c =
    let checks = write_checks g.S.Summary.kind.wide g.T.Setting.kind c.args.nodes.now c.args.self.now.message.now in
    left_fine checks c.loop-i.i c.args.self.now.count c.loop-i-test.true c.loop-i.invariant (judged_ok _ tt _ c.in_ok-check.ensures)

pub returns-in_err-check : goal.returns-in_err-check
returns-in_err-check g c =
    let checks = write_checks g.S.Summary.kind.wide g.T.Setting.kind c.args.nodes.now c.args.self.now.message.now in
    let out = err_from_is_err_and c.from_residual.result c.from_residual.ensures.1 in
    let found = judged_err _ tt _ c.in_err-check.ensures in
    out.1 ∙ ap Err out.2
    ∙ ap (λ o. judged o tt) (sym (left_fault checks c.loop-i.i c.args.self.now.count c.loop-i-test.true c.loop-i.invariant c.in_err-check.field-0.0 found))
