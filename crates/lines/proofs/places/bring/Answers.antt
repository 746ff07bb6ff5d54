use Rattle.std.proofs.Common.{◌≡◌, ◌+◌, ◌-◌, sym, subst, arith}
use Rattle.lines.proofs.Bringing.{brought_none}
use Rattle.lines.proofs.Rows.{reordered_none}
use Rattle.lines.specs.StoreLaws.{length_order}
use Rattle.lines.proofs.Storing.{brought_step}
use Rattle.lines.specs.Places.{order, brought, Reordered}
use Rattle.lines.proofs.places.bring.Goals as goal

pub loop-i-init : goal.loop-i-init
loop-i-init c =
    let bs = c.args.bytes.now in
    let from = c.args.from in
    (c.requires.to_le_from, reordered_none bs _ (sym (brought_none 0 from (order bs) (omega (arith, length_order bs)))))

pub loop-i-preserved : goal.loop-i-preserved
loop-i-preserved c =
    let bs = c.args.bytes.now in
    let from = c.args.from in
    let back : c.loop-i.i ≡ c.loop-i.i - 1 + 1 = omega arith in
    let change = subst (λ n. Reordered bs c.loop-i.bytes (brought 0 n from (order bs))) back c.loop-i.invariant.1 in (
      omega arith,
      brought_step bs _ _ (c.loop-i.i - 1) from (omega (arith, c.loop-i.auto.i)) c.requires.from_bound change c.swap.ensures,
    )
