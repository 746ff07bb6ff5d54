use Rattle.std.proofs.Common.{arith}
use Rattle.lines.proofs.Cells.{link_is}
use Rattle.lines.proofs.cell.link_of.Goals as goal

pub returns : goal.returns
returns c = omega (arith, c.from_be_bytes.ensures, link_is c.args.cell.now (omega arith))
