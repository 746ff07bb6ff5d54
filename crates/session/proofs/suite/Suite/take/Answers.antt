use Rattle.std.proofs.Common.{take, ap, ◌∙◌, ◌+◌}
use Rattle.lines.specs.Lines.{message_number}
use Rattle.session.proofs.Delivery.{share_taken, few_slots}
use Rattle.session.proofs.suite.Suite.take.Goals as goal

pub returns-in-Ok-clause-share : goal.returns-in-Ok-clause-share
returns-in-Ok-clause-share g c =
    share_taken g.S.Summary.kind g.T.Setting.kind c.args.seat.nodes.now c.args.seat.suite c.args.self.now c.args.places.now (g.L.Line.state c.args.line.now)
    _ c.apply.new.self c.rule_own_slot.new.self c.apply.new.places c.in-Ok.header c.in-Ok.outcome (take c.in_ok-length.length c.fetch_next.new.buffer)
    c.self.view_is
    c.apply.ensures.suite
    c.apply.ensures.places
    c.rule_own_slot.ensures.stamp
    c.rule_own_slot.ensures.taken
    c.rule_own_slot.ensures.slots
    c.in-Ok.ensures.header
    (c.in_ok-length.ensures.message ∙ ap (λ v. message_number (g.L.Line.state c.args.line.now) (v.taken + 1)) c.self.view_is)

pub returns-in_err-length-clause-few : goal.returns-in_err-length-clause-few
returns-in_err-length-clause-few g c = few_slots c.self.inside.slots c.args.self.now.slots c.self.invariant.1 (ap (λ v. v.slots) c.self.view_is)

pub returns-in-Ok-clause-few : goal.returns-in-Ok-clause-few
returns-in-Ok-clause-few g c = few_slots c.self.inside.slots c.args.self.now.slots c.self.invariant.1 (ap (λ v. v.slots) c.self.view_is)

pub returns-in-Err-clause-few : goal.returns-in-Err-clause-few
returns-in-Err-clause-few g c = few_slots c.self.inside.slots c.args.self.now.slots c.self.invariant.1 (ap (λ v. v.slots) c.self.view_is)
