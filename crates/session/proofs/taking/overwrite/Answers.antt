use Rattle.std.proofs.Common.{sym, ap, ◌∙◌}
use Rattle.session.proofs.Searching.{set_at, version_at}
use Rattle.session.proofs.taking.overwrite.Goals as goal

pub returns-in-Some : goal.returns-in-Some
returns-in-Some g c =
    ap (λ o. set_at c.args.places.now o c.args.j c.args.version) (sym c.in-Some.is ∙ c.index_of.ensures)
    ∙ version_at c.args.nodes.now c.args.places.now c.args.node c.args.j c.args.version

pub returns-in_default : goal.returns-in_default
returns-in_default g c =
    ap (λ o. set_at c.args.places.now o c.args.j c.args.version) (sym c.in_default.is ∙ c.index_of.ensures)
    ∙ version_at c.args.nodes.now c.args.places.now c.args.node c.args.j c.args.version
