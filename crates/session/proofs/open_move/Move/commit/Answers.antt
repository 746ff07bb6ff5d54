use Rattle.std.proofs.Common.{ap, ◌∙◌, take}
use Rattle.lines.specs.Lines.{after_offer, offered}
use Rattle.session.proofs.open_move.Move.commit.Goals as goal

pub returns-clause-line : goal.returns-clause-line
returns-clause-line g c =
    let line = g.L.Line.state c.args.line.now in
    let u = c.args.view.now.suite in
    c.offer.ensures.line
    ∙ ap (λ r. after_offer r line u (take c.compose-length.result c.compose-length.new.buffer)) c.in_ok-offer.was
    ∙ ap (offered line u) c.compose-length.ensures.message
