use Rattle.std.proofs.Common.{set, ap, ◌∙◌, arith}
use Rattle.session.proofs.Filling.{filled_more}
use Rattle.session.proofs.making.fill.Goals as goal

pub loop-i-preserved : goal.loop-i-preserved
loop-i-preserved g c =
    ap (λ ps. set ps c.loop-i.i c.args.version) c.loop-i.invariant
    ∙ filled_more c.loop-i.i c.args.version c.args.places.now (omega (arith, c.loop-i.auto.places))
