use Rattle.std.proofs.Common.{sym, ap, ◌∙◌}
use Rattle.lines.proofs.Rows.{row_at}
use Rattle.lines.specs.Places.{cell, offered_in}
use Rattle.lines.proofs.store.Store.cell.Goals as goal

pub returns : goal.returns
returns g c =
    let bs = c.args.self.now.bytes.now in
    let value = c.cell.ensures ∙ ap (cell bs) c.place.ensures.value in
    record { value = value; row = ap offered_in value ∙ sym (row_at bs c.args.i c.requires) }
