use Rattle.std.proofs.Common.{◌∙◌, rules, tests}
use Rattle.session.proofs.Spares.{any_mapped}
use Rattle.session.specs.Choosing.{sees_place}
use Rattle.session.specs.Slotted.{slot_state}
use Rattle.std.proofs.lemmas.Iterator.{YieldsList-from_slice}
use Rattle.std.proofs.lemmas.Iterator.Search.{any_from_yields_List}
use Rattle.session.proofs.taking.is_seen.Goals as goal

pub returns : goal.returns
returns g c =
    any_from_yields_List (λ q. sees_place c.args.versions.now c.args.j (slot_state q)) _ _ c.any.result c.any.ensures.ran (YieldsList-from_slice _ c.iter.ensures.rest) (λ x b q k. search (rules, tests))
    ∙ any_mapped slot_state (sees_place c.args.versions.now c.args.j) c.args.slots.now
