use Rattle.std.proofs.Common.{◌≡◌, ◌≤◌, ◌&&◌, cond, Ok, Err, rules, not, is_some, leb, true, ap, sym, ◌∙◌, arith}
use Rattle.limits.specs.Limits.{most_writes}
use Rattle.messages.specs.Reading.{known}
use Rattle.lines.specs.Lines.{empty_line}
use Rattle.session.proofs.Messaging.{no_room}
use Rattle.refusals.specs.declared.Refusal.TheVariants.{UnknownNode, MoveFull}
use Rattle.session.proofs.Writing.{length_own, place_in}
use Rattle.session.specs.Slots.{own, own_writes}
use Rattle.session.specs.Steps.{seen}
use Rattle.std.proofs.lemmas.Bool.{cond-true}
use Rattle.session.proofs.open_move.Move.write.Goals as goal

pub returns-then-at-ge-WRITES-clause-answer : goal.returns-then-at-ge-WRITES-clause-answer
returns-then-at-ge-WRITES-clause-answer g c =
    let m = c.args.self.now in
    let share = seen c.args.view.now c.args.writes.now (empty_line 0) in
    let mine = own_writes share c.args.view.now.slot m.writes in
    let long = length_own share c.args.view.now.slot m.writes c.requires c.args.view.now.slot_low c.args.view.now.slot_high m.few in
    let past : most_writes ≤ place_in mine c.args.node = search (rules, arith) in
    let full : (not (is_some (own mine c.args.node)) && leb most_writes m.writes) ≡ true =
    ap (λ k. not (is_some (own mine c.args.node)) && leb most_writes k) (sym long)
    ∙ no_room mine c.args.node (omega (arith, long, m.few)) (omega (arith, past)) in
    let there : known c.args.view.now.nodes.now c.args.node ≡ true = search rules in
    sym (ap (λ b. cond (not b) (Err UnknownNode) (cond (not (is_some (own mine c.args.node)) && leb most_writes m.writes) (Err MoveFull) (Ok tt))) there
    ∙ cond-true _ _ _ full)
