use Rattle.std.proofs.Common.{sym, ap, ◌∙◌, ◌≡◌, ◌-◌, ◌+◌, arith}
use Rattle.session.proofs.Searching.{found_from, found_none, found_all, found_step}
use Rattle.session.specs.Choosing.{within, preferred}
use Rattle.session.proofs.search.best.Goals as goal

pub loop-i-init : goal.loop-i-init
loop-i-init g c = sym (found_none (within c.args.snapshot) c.args.versions.now)

pub loop-i-preserved : goal.loop-i-preserved
loop-i-preserved g c =
    let passes = within c.args.snapshot in
    let ps = c.args.versions.now in
    let i = c.loop-i.i - 1 in
    let place = c.index-versions-i.result in
    let back : c.loop-i.i ≡ i + 1 = omega arith in
    c.preferred-best.ensures
    ∙ ap (preferred (passes place.stamp) i place) (c.loop-i.invariant ∙ ap (found_from passes ps) back)
    ∙ ap (λ p. preferred (passes p.stamp) i p (found_from passes ps (i + 1))) c.index-versions-i.is
    ∙ sym (found_step passes ps i place (omega (arith, c.loop-i.auto.i)))

pub returns : goal.returns
returns g c =
    let end : c.loop-i.i ≡ 0 = omega arith in
    c.loop-i.invariant ∙ ap (found_from (within c.args.snapshot) c.args.versions.now) end ∙ found_all (within c.args.snapshot) c.args.versions.now
