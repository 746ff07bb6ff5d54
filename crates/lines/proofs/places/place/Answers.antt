use Rattle.std.proofs.Common.{sym, ap, ◌∙◌}
use Rattle.lines.proofs.Rows.{order_at}
use Rattle.lines.specs.Places.{link_in}
use Rattle.lines.proofs.places.place.Goals as goal

pub returns : goal.returns
returns c = c.link_of.ensures ∙ ap link_in c.cell.ensures ∙ sym (order_at c.args.bytes.now c.args.i c.requires)
