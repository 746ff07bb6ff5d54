use Rattle.std.proofs.Common.{◌-◌, sym, ap, ◌∙◌, arith}
use Rattle.lines.proofs.Meanings.{state_message}
use Rattle.lines.specs.Places.{row}
use Rattle.lines.specs.Stores.{nothing, stored}
use Rattle.std.proofs.lemmas.List.{get_or-take}
use Rattle.lines.proofs.store.Store.message.Goals as goal

pub returns : goal.returns
unfolding stored
returns g c =
    let s = c.args.self.now in
    let bs = s.bytes.now in
    let k = c.args.number - 1 in
    let there = get_or-take s.agreed (row bs) k nothing (omega arith) in
    c.message_of.ensures
    ∙ ap (λ o. o.message) (c.cell.ensures.row ∙ sym there)
    ∙ sym (state_message (stored bs s.agreed s.waiting) k)
