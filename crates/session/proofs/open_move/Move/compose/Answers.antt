use Rattle.std.proofs.Common.{ap, sym, ◌∙◌, length}
use Rattle.messages.proofs.RoundTrip.{length_message}
use Rattle.messages.specs.Composing.{message, Composes}
use Rattle.messages.specs.declared.parts.Origin.{Origin}
use Rattle.session.proofs.Messaging.{composed_front, if_ok}
use Rattle.session.proofs.open_move.Move.compose.Goals as goal

pub returns-clause-message : goal.returns-clause-message
returns-clause-message g c =
    let S = g.S.Summary.kind in
    let K = g.T.Setting.kind in
    let from : Origin = record { suite = c.args.view.now.suite; slot = c.args.view.now.slot; snapshot = c.args.self.now.snapshot } in
    let reads = c.as_slice.result.now in
    let own = c.writes_in-own.result.now in
    let n = c.unwrap.result in
    let facts = if_ok c.compose.result n (Composes S K from (length reads) (length own) (length c.args.buffer.now)) c.unwrap.ensures c.compose.ensures.facts in
    let packed_wide = g.met.S.Summary.packed_is_wide reads facts.few_reads in
    let long = length_message S K g.met.T.Setting.form_is_wide g.met.T.Setting.form_reads from reads own packed_wide ∙ sym facts.length_is in
    composed_front c.compose.result n (message S K from reads own) c.args.buffer.now c.compose.new.buffer c.unwrap.ensures c.compose.ensures.buffer long
    ∙ ap (λ rs. message S K from rs own) c.as_slice.ensures.value
    ∙ ap (message S K from c.args.self.now.reads.items) c.writes_in-own.ensures
