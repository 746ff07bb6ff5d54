use Rattle.std.proofs.Common.{not, map, sym, subst, ◌<◌, rules, tests, refl, ◌∙◌, arith}
use Rattle.session.proofs.Spares.{spare_found, spare_within, some_inside, same_inside}
use Rattle.session.specs.Choosing.{read_by_any}
use Rattle.session.specs.Slotted.{slot_state}
use Rattle.std.proofs.lemmas.Iterator.{YieldsList-from_range}
use Rattle.std.proofs.lemmas.Iterator.Search.{find_from_yields_List}
use Rattle.std.proofs.lemmas.List.{length-map}
use Rattle.session.proofs.taking.spare.Goals as goal

pub unwrap-requires : goal.unwrap-requires
unwrap-requires g c =
    let slots = map slot_state c.args.slots.now in
    let few = length-map c.args.slots.now slot_state in
    some_inside c.find.result _
    (find_from_yields_List (λ j. not (read_by_any slots c.args.versions.now j)) _ _ c.find.result c.find.ensures.ran (YieldsList-from_range 0 5 5 refl (omega arith)) (λ x b q k. search (rules, tests))
    ∙ spare_found slots c.args.versions.now (omega (arith, few, c.type_inv.slots)))

pub returns-clause-value : goal.returns-clause-value
returns-clause-value g c =
    let slots = map slot_state c.args.slots.now in
    let few = length-map c.args.slots.now slot_state in
    same_inside c.find.result c.unwrap.result _ c.unwrap.ensures
    (find_from_yields_List (λ j. not (read_by_any slots c.args.versions.now j)) _ _ c.find.result c.find.ensures.ran (YieldsList-from_range 0 5 5 refl (omega arith)) (λ x b q k. search (rules, tests))
    ∙ spare_found slots c.args.versions.now (omega (arith, few, c.type_inv.slots)))

pub returns-clause-bound : goal.returns-clause-bound
returns-clause-bound g c =
    let slots = map slot_state c.args.slots.now in
    let few = length-map c.args.slots.now slot_state in
    subst (λ k. k < 5) (sym (returns-clause-value g c)) (spare_within slots c.args.versions.now (omega (arith, few, c.type_inv.slots)))
