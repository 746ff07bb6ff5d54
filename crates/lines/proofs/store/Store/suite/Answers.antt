use Rattle.std.proofs.Common.{◌+◌, sym, ap, ◌∙◌, arith}
use Rattle.lines.specs.Places.{row}
use Rattle.lines.specs.Stores.{nothing, stored}
use Rattle.std.proofs.lemmas.List.Edits.{get_or-between}
use Rattle.lines.proofs.store.Store.suite.Goals as goal

pub returns : goal.returns
unfolding stored
returns g c =
    let s = c.args.self.now in
    let there = get_or-between (row s.bytes.now) s.agreed (s.agreed + s.waiting) c.args.k nothing (omega arith) in
    c.from.ensures ∙ c.suite_of.ensures ∙ ap (λ o. o.suite) (c.cell.ensures.row ∙ sym there)
