use Rattle.std.proofs.Common.{◌+◌, arith}
use Rattle.lines.proofs.Rows.{relinked_twice}
use Rattle.lines.proofs.places.swap.Goals as goal

pub returns : goal.returns
returns c =
    let i = c.args.i in
    let one = c.set_link.ensures in
    let two = c.set_link-2.ensures in
    relinked_twice c.args.bytes.now _ _ i (i + 1) _ _ _ _ (omega arith) (omega arith)
    one.changed one.link one.message two.changed two.link two.message
    c.place-second.ensures c.place-first.ensures
