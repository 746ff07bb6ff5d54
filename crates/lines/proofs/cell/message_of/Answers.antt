use Rattle.std.proofs.Common.{arith}
use Rattle.lines.proofs.Cells.{length_is, message_is}
use Rattle.lines.proofs.cell.message_of.Goals as goal

pub returns : goal.returns
returns c =
    let bs = c.args.cell.now in
    message_is bs c.min-length.result
    (omega (arith, c.min-length.ensures, c.from.ensures, c.from_be_bytes.ensures, length_is bs (omega arith)))
