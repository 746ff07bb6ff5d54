use Rattle.std.proofs.Common.{◌≡◌, ◌+◌, ◌-◌, ◌*◌, ◌≤◌, ◌<◌, [], Ok, length, set, get_or, refl, sym, ap, ◌∙◌, subst, rules, arith}
use Rattle.limits.specs.Limits.{places_each, slots_each}
use Rattle.session.proofs.Delivery.{take_put}
use Rattle.session.proofs.Lending.{share_lent, put_places, refilled}
use Rattle.session.proofs.Shares.{sized_from, checked_suite, inside_places}
use Rattle.session.specs.Choosing.{spare_of}
use Rattle.session.specs.Shares.{Share, check_suite, at_share, share_of}
use Rattle.session.specs.States.{after}
use Rattle.session.specs.Steps.{world, share_with}
use Rattle.session.specs.Takes.{take_answer, take_leaves}
use Rattle.std.proofs.lemmas.List.{length-set}
use Rattle.std.specs.List.{between}
use Rattle.session.proofs.whole.Session.take.Goals as goal

pub offset_bounds-places-its_places : goal.offset_bounds-places-its_places
offset_bounds-places-its_places g c =
    let w = world c.args.self.now c.args.places.now c.args.writes.now (g.L.Line.state c.args.line.now) in
    let checked = checked_suite w c.args.suite (sym c.check_suite.ensures ∙ c.in_ok-check_suite.was) in
    let inside = inside_places w c.args.suite (sized_from w checked.0) checked.1 in
    let nodes : length c.self.inside.nodes.items ≡ length w.session.nodes = ap (λ v. length v.nodes) c.self.view_is in
    let some : 1 ≤ length w.session.nodes = omega (arith, nodes, c.self.invariant.some_nodes) in
    let each : c.len.result * 5 ≡ length w.session.nodes * places_each = ap (λ k. k * 5) (c.len.ensures.value ∙ nodes) in
    let start = c.part_of-its_places.ensures.start ∙ ap (λ k. (c.args.suite - 1) * k) each in
    let start : c.part_of-its_places.result.start < length c.args.places.now = omega (arith, inside, start, some) in
    search (rules, arith)

pub slice_bounds-take-end : goal.slice_bounds-take-end
slice_bounds-take-end g c =
    let w = world c.args.self.now c.args.places.now c.args.writes.now (g.L.Line.state c.args.line.now) in
    let checked = checked_suite w c.args.suite (sym c.check_suite.ensures ∙ c.in_ok-check_suite.was) in
    let inside = inside_places w c.args.suite (sized_from w checked.0) checked.1 in
    let nodes : length c.self.inside.nodes.items ≡ length w.session.nodes = ap (λ v. length v.nodes) c.self.view_is in
    let each : c.len.result * 5 ≡ length w.session.nodes * places_each = ap (λ k. k * 5) (c.len.ensures.value ∙ nodes) in
    let end = c.part_of-its_places.ensures.end ∙ ap (λ k. (c.args.suite - 1) * k + k) each in
    let fits : c.part_of-its_places.result.end ≤ length c.args.places.now = omega (arith, inside, end) in
    search (rules, arith)

pub returns-clause-answer : goal.returns-clause-answer
returns-clause-answer g c =
    let S = g.S.Summary.kind in
    let K = g.T.Setting.kind in
    let u = c.args.suite in
    let line = g.L.Line.state c.args.line.now in
    let w = world c.args.self.now c.args.places.now c.args.writes.now line in
    let ok : check_suite w u ≡ Ok tt = sym c.check_suite.ensures ∙ c.in_ok-check_suite.was in
    let checked = checked_suite w u ok in
    let nodes : c.as_slice.result.now ≡ w.session.nodes = c.as_slice.ensures.value ∙ ap (λ v. v.nodes) c.self.view_is in
    let suites : c.deref_mut.result.now ≡ w.session.suites = c.deref_mut.ensures.value ∙ ap (λ v. v.suites) c.self.view_is in
    let count : c.len-suites.result ≡ length w.session.suites = c.len-suites.ensures.value ∙ ap (λ v. length v.suites) c.self.view_is in
    let each : c.len.result * 5 ≡ length w.session.nodes * places_each = ap (λ k. k * 5) (c.len.ensures.value ∙ ap (λ v. length v.nodes) c.self.view_is) in
    let start = c.part_of-its_places.ensures.start ∙ ap (λ k. (u - 1) * k) each in
    let end = c.part_of-its_places.ensures.end ∙ ap (λ k. (u - 1) * k + k) each in
    let its_places = between c.part_of-its_places.result.start c.part_of-its_places.result.end c.args.places.now in
    let lent = share_lent w u (sized_from w checked.0) checked.1 c.index-deref_mut-suite.result _ _ _ _ start end refl refl in
    let bare : Share g.row.T.Denot → Share g.row.T.Denot = λ sh. share_with sh.suite sh.places [] sh.line in
    c.take.ensures.answer
    ∙ ap (λ k. take_answer S K k c.as_slice.result.now (share_with (get_or c.deref_mut.result.now (u - 1) c.index-deref_mut-suite.result) its_places [] line)) count
    ∙ ap (λ v. take_answer S K (length w.session.suites) v (share_with (get_or c.deref_mut.result.now (u - 1) c.index-deref_mut-suite.result) its_places [] line)) nodes
    ∙ ap (λ v. take_answer S K (length w.session.suites) w.session.nodes (share_with (get_or v (u - 1) c.index-deref_mut-suite.result) its_places [] line)) suites
    ∙ ap (λ sh. take_answer S K (length w.session.suites) w.session.nodes (bare sh)) lent
    ∙ sym (ap (λ k. at_share k w u (take_answer S K (length w.session.suites) w.session.nodes)) ok)

pub returns-clause-choice : goal.returns-clause-choice
returns-clause-choice g c =
    let S = g.S.Summary.kind in
    let K = g.T.Setting.kind in
    let u = c.args.suite in
    let line = g.L.Line.state c.args.line.now in
    let w = world c.args.self.now c.args.places.now c.args.writes.now line in
    let ok : check_suite w u ≡ Ok tt = sym c.check_suite.ensures ∙ c.in_ok-check_suite.was in
    let checked = checked_suite w u ok in
    let sized = sized_from w checked.0 in
    let nodes : c.as_slice.result.now ≡ w.session.nodes = c.as_slice.ensures.value ∙ ap (λ v. v.nodes) c.self.view_is in
    let suites : c.deref_mut.result.now ≡ w.session.suites = c.deref_mut.ensures.value ∙ ap (λ v. v.suites) c.self.view_is in
    let each : c.len.result * 5 ≡ length w.session.nodes * places_each = ap (λ k. k * 5) (c.len.ensures.value ∙ ap (λ v. length v.nodes) c.self.view_is) in
    let start = c.part_of-its_places.ensures.start ∙ ap (λ k. (u - 1) * k) each in
    let end = c.part_of-its_places.ensures.end ∙ ap (λ k. (u - 1) * k + k) each in
    let its_places = between c.part_of-its_places.result.start c.part_of-its_places.result.end c.args.places.now in
    let bare : Share g.row.T.Denot → Share g.row.T.Denot = λ sh. share_with sh.suite sh.places [] sh.line in
    let lent : share_with (get_or c.deref_mut.result.now (u - 1) c.index-deref_mut-suite.result) its_places [] line ≡ bare (share_of w u) =
    ap (λ v. share_with (get_or v (u - 1) c.index-deref_mut-suite.result) its_places [] line) suites
    ∙ ap bare (share_lent w u sized checked.1 c.index-deref_mut-suite.result _ _ _ _ start end refl refl) in
    let few : length (share_of w u).suite.slots ≤ slots_each = subst (λ sh. length sh.suite.slots ≤ slots_each) lent c.take.ensures.few in
    let left = c.take.ensures.share
    ∙ ap (λ v. after c.take.result (λ ruling. take_leaves S K v u (spare_of v (share_with (get_or c.deref_mut.result.now (u - 1) c.index-deref_mut-suite.result) its_places [] line)) ruling (share_with (get_or c.deref_mut.result.now (u - 1) c.index-deref_mut-suite.result) its_places [] line)) (share_with (get_or c.deref_mut.result.now (u - 1) c.index-deref_mut-suite.result) its_places [] line)) nodes
    ∙ ap (λ sh. after c.take.result (λ ruling. take_leaves S K w.session.nodes u (spare_of w.session.nodes sh) ruling sh) sh) lent in
    let back : length (set c.deref_mut.result.now (u - 1) c.take.new.self) ≡ length c.self.inside.suites.items =
    length-set c.deref_mut.result.now (u - 1) c.take.new.self ∙ ap length c.deref_mut.ensures.value in
    let width : c.part_of-its_places.result.end - c.part_of-its_places.result.start ≡ length c.take.new.places =
    search (rules, arith) in
    take_put S K w u sized checked.1 c.take.result (share_with c.take.new.self c.take.new.places [] line) _ few left
    (put_places w u sized checked.1 _ _ _ c.take.new.self _ _ c.take.new.places
    (ap (λ v. v.nodes) c.self.view_is)
    (refilled c.self.inside.suites.items (set c.deref_mut.result.now (u - 1) c.take.new.self) back
    ∙ ap (λ v. set v (u - 1) c.take.new.self) suites)
    refl
    start
    width)
