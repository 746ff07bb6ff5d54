use Rattle.std.proofs.Common.{◌<◌, map, sym, ap, ◌∙◌, slice_index, arith}
use Rattle.session.proofs.Overwriting.{placed_more}
use Rattle.session.proofs.Spares.{some_there}
use Rattle.session.specs.Choosing.{first_spare}
use Rattle.session.specs.Slotted.{slot_state}
use Rattle.session.specs.Versions.{versions_of, with_version}
use Rattle.session.specs.declared.place.Place.{Place}
use Rattle.std.proofs.lemmas.List.{length-map}
use Rattle.session.proofs.taking.place_writes.Goals as goal

pub unwrap-write-requires : goal.unwrap-write-requires
unwrap-write-requires g c =
    let below : c.loop-i.i < slice_index c.args.message.now 5 = omega (arith, c.requires.count) in
    let (w, is, known) = c.requires.fine.each c.loop-i.i below in
    some_there c.write_of.result w (c.write_of.ensures ∙ is)

pub loop-i-preserved : goal.loop-i-preserved
loop-i-preserved g c =
    let S = g.S.Summary.kind in
    let K = g.T.Setting.kind in
    let nodes = c.args.nodes.now in
    let m = c.args.message.now in
    let slots = map slot_state c.args.slots.now in
    let i = c.loop-i.i in
    let write = c.unwrap-write.result in
    let p : Place g.row.T.Denot = record { stamp = c.args.stamp; setting = write.setting } in
    let few = length-map c.args.slots.now slot_state in
    let below : i < slice_index m 5 = omega (arith, c.requires.count) in
    let is = sym c.write_of.ensures ∙ c.unwrap-write.ensures in
    let so_far = c.loop-i.invariant in
    let j_is = c.spare-j.ensures.value
    ∙ ap (first_spare slots) (c.versions_of.ensures ∙ ap (λ ps. versions_of nodes ps write.node) so_far) in
    c.overwrite.ensures
    ∙ ap (λ ps. with_version nodes ps write.node c.spare-j.result p) so_far
    ∙ placed_more S K nodes m c.requires.fine slots (omega (arith, few, c.type_inv.slots)) c.args.places.now c.requires.size c.args.stamp i c.spare-j.result write below is j_is
