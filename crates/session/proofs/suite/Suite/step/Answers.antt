use Rattle.std.proofs.Common.{◌-◌, ◌<◌, length, ap, ◌∙◌, arith, rules}
use Rattle.session.proofs.Stepping.{share_stepped}
use Rattle.session.specs.States.{after}
use Rattle.session.specs.Steps.{share_with, step_leaves}
use Rattle.session.proofs.suite.Suite.step.Goals as goal

pub returns-clause-share : goal.returns-clause-share
returns-clause-share g c =
    let S = g.S.Summary.kind in
    let K = g.T.Setting.kind in
    let inside = c.self.inside in
    let places = c.args.places.now in
    let writes = c.args.writes.now in
    let line = g.L.Line.state c.args.line.now in
    let u = c.args.seat.suite in
    let s = c.args.slot in
    let there : s - 1 < length inside.slots = search (rules, arith) in
    let done = share_stepped S K inside.stamp inside.taken inside.slots places writes line u s c.args.call c.step.result
    c.index-slots-slot.result c.step.new.self c.step.new.writes (g.L.Line.state c.step.new.line)
    there c.step.ensures.slot c.step.ensures.writes c.step.ensures.line in
    done
    ∙ ap (λ v. after c.step.result (λ a. step_leaves S K u s c.args.call a (share_with v places writes line)) (share_with v places writes line)) c.self.view_is
