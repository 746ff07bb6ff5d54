use Rattle.std.proofs.Common.{sym, ap, ◌∙◌, ◌≡◌, ◌+◌, ◌-◌, ◌*◌, take, drop, arith}
use Rattle.session.proofs.Searching.{five_at, versions_at}
use Rattle.session.proofs.search.versions_of.Goals as goal

pub returns-in-Some : goal.returns-in-Some
returns-in-Some g c =
    let five : c.in-Some.i * 5 + 5 - c.in-Some.i * 5 ≡ 5 = omega arith in
    ap (λ k. take k (drop (c.in-Some.i * 5) c.args.places.now)) five
    ∙ ap (five_at c.args.places.now) (sym c.in-Some.is ∙ c.index_of.ensures)
    ∙ versions_at c.args.nodes.now c.args.places.now c.args.node

pub returns-in-None : goal.returns-in-None
returns-in-None g c = ap (five_at c.args.places.now) (sym c.in-None.is ∙ c.index_of.ensures) ∙ versions_at c.args.nodes.now c.args.places.now c.args.node
