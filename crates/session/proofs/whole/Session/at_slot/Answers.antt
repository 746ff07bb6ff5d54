use Rattle.std.proofs.Common.{◌≡◌, ◌+◌, ◌-◌, ◌*◌, ◌≤◌, ◌<◌, Ok, length, set, get_or, refl, sym, ap, ◌∙◌, rules, arith}
use Rattle.limits.specs.Limits.{places_each, slots_each, most_writes}
use Rattle.session.proofs.Lending.{share_lent, left_put, put_back, refilled}
use Rattle.session.proofs.Shares.{sized_from, checked_slot, inside_places, inside_writes}
use Rattle.session.specs.Shares.{check_slot, at_share}
use Rattle.session.specs.States.{after}
use Rattle.session.specs.Steps.{world, step_answer, step_leaves, share_with}
use Rattle.std.proofs.lemmas.List.{length-set}
use Rattle.std.specs.List.{between}
use Rattle.session.proofs.whole.Session.at_slot.Goals as goal

pub offset_bounds-places-its_places : goal.offset_bounds-places-its_places
offset_bounds-places-its_places g c =
    let w = world c.args.self.now c.args.places.now c.args.writes.now (g.L.Line.state c.args.line.now) in
    let checked = checked_slot w c.args.suite c.args.slot (sym c.check_slot.ensures ∙ c.in_ok-check_slot.was) in
    let inside = inside_places w c.args.suite (sized_from w checked.0) checked.1 in
    let nodes : length c.self.inside.nodes.items ≡ length w.session.nodes = ap (λ v. length v.nodes) c.self.view_is in
    let each : c.len.result * 5 ≡ length w.session.nodes * places_each = ap (λ k. k * 5) (c.len.ensures.value ∙ nodes) in
    let start = c.part_of-its_places.ensures.start ∙ ap (λ k. (c.args.suite - 1) * k) each in
    omega (arith, inside, start)

pub slice_bounds-step-end : goal.slice_bounds-step-end
slice_bounds-step-end g c =
    let w = world c.args.self.now c.args.places.now c.args.writes.now (g.L.Line.state c.args.line.now) in
    let checked = checked_slot w c.args.suite c.args.slot (sym c.check_slot.ensures ∙ c.in_ok-check_slot.was) in
    let inside = inside_places w c.args.suite (sized_from w checked.0) checked.1 in
    let nodes : length c.self.inside.nodes.items ≡ length w.session.nodes = ap (λ v. length v.nodes) c.self.view_is in
    let each : c.len.result * 5 ≡ length w.session.nodes * places_each = ap (λ k. k * 5) (c.len.ensures.value ∙ nodes) in
    let end = c.part_of-its_places.ensures.end ∙ ap (λ k. (c.args.suite - 1) * k + k) each in
    let fits : c.part_of-its_places.result.end ≤ length c.args.places.now = omega (arith, inside, end) in
    search (rules, arith)

pub offset_bounds-writes-its_writes : goal.offset_bounds-writes-its_writes
offset_bounds-writes-its_writes g c =
    let w = world c.args.self.now c.args.places.now c.args.writes.now (g.L.Line.state c.args.line.now) in
    let checked = checked_slot w c.args.suite c.args.slot (sym c.check_slot.ensures ∙ c.in_ok-check_slot.was) in
    let inside = inside_writes w c.args.suite (sized_from w checked.0) checked.1 in
    let start : c.part_of-its_writes.result.start < length c.args.writes.now = omega (arith, inside, c.part_of-its_writes.ensures.start) in
    search (rules, arith)

pub returns-clause-answer : goal.returns-clause-answer
returns-clause-answer g c =
    let S = g.S.Summary.kind in
    let K = g.T.Setting.kind in
    let u = c.args.suite in
    let s = c.args.slot in
    let call = c.args.call in
    let line = g.L.Line.state c.args.line.now in
    let w = world c.args.self.now c.args.places.now c.args.writes.now line in
    let ok : check_slot w u s ≡ Ok tt = sym c.check_slot.ensures ∙ c.in_ok-check_slot.was in
    let checked = checked_slot w u s ok in
    let nodes : c.as_slice.result.now ≡ w.session.nodes = c.as_slice.ensures.value ∙ ap (λ v. v.nodes) c.self.view_is in
    let suites : c.deref_mut.result.now ≡ w.session.suites = c.deref_mut.ensures.value ∙ ap (λ v. v.suites) c.self.view_is in
    let nodes' : length c.self.inside.nodes.items ≡ length w.session.nodes = ap (λ v. length v.nodes) c.self.view_is in
    let each : c.len.result * 5 ≡ length w.session.nodes * places_each = ap (λ k. k * 5) (c.len.ensures.value ∙ nodes') in
    let lent = share_lent w u (sized_from w checked.0) checked.1 c.index-deref_mut-suite.result _ _ _ _
    (c.part_of-its_places.ensures.start ∙ ap (λ k. (u - 1) * k) each)
    (c.part_of-its_places.ensures.end ∙ ap (λ k. (u - 1) * k + k) each)
    c.part_of-its_writes.ensures.start
    c.part_of-its_writes.ensures.end in
    c.step.ensures.answer
    ∙ ap (λ v. step_answer S K v u s call (share_with (get_or c.deref_mut.result.now (u - 1) c.index-deref_mut-suite.result)
    (between c.part_of-its_places.result.start c.part_of-its_places.result.end c.args.places.now)
    (between c.part_of-its_writes.result.start c.part_of-its_writes.result.end c.args.writes.now) line)) nodes
    ∙ ap (λ v. step_answer S K w.session.nodes u s call (share_with (get_or v (u - 1) c.index-deref_mut-suite.result)
    (between c.part_of-its_places.result.start c.part_of-its_places.result.end c.args.places.now)
    (between c.part_of-its_writes.result.start c.part_of-its_writes.result.end c.args.writes.now) line)) suites
    ∙ ap (step_answer S K w.session.nodes u s call) lent
    ∙ sym (ap (λ k. at_share k w u (step_answer S K w.session.nodes u s call)) ok)

pub returns-clause-after : goal.returns-clause-after
returns-clause-after g c =
    let S = g.S.Summary.kind in
    let K = g.T.Setting.kind in
    let u = c.args.suite in
    let s = c.args.slot in
    let call = c.args.call in
    let line = g.L.Line.state c.args.line.now in
    let w = world c.args.self.now c.args.places.now c.args.writes.now line in
    let ok : check_slot w u s ≡ Ok tt = sym c.check_slot.ensures ∙ c.in_ok-check_slot.was in
    let checked = checked_slot w u s ok in
    let sized = sized_from w checked.0 in
    let there = checked.1 in
    let suites : c.deref_mut.result.now ≡ w.session.suites = c.deref_mut.ensures.value ∙ ap (λ v. v.suites) c.self.view_is in
    let nodes : length c.self.inside.nodes.items ≡ length w.session.nodes = ap (λ v. length v.nodes) c.self.view_is in
    let each : c.len.result * 5 ≡ length w.session.nodes * places_each = ap (λ k. k * 5) (c.len.ensures.value ∙ nodes) in
    let start = c.part_of-its_places.ensures.start ∙ ap (λ k. (u - 1) * k) each in
    let end = c.part_of-its_places.ensures.end ∙ ap (λ k. (u - 1) * k + k) each in
    let its_places = between c.part_of-its_places.result.start c.part_of-its_places.result.end c.args.places.now in
    let its_writes = between c.part_of-its_writes.result.start c.part_of-its_writes.result.end c.args.writes.now in
    let lent =
    ap (λ v. share_with (get_or v (u - 1) c.index-deref_mut-suite.result) its_places its_writes line) suites
    ∙ share_lent w u sized there c.index-deref_mut-suite.result _ _ _ _ start end c.part_of-its_writes.ensures.start c.part_of-its_writes.ensures.end in
    let left = c.step.ensures.share ∙ ap (λ sh. after c.step.result (λ a. step_leaves S K u s call a sh) sh) lent in
    let back : length (set c.deref_mut.result.now (u - 1) c.step.new.self) ≡ length c.self.inside.suites.items =
    length-set c.deref_mut.result.now (u - 1) c.step.new.self ∙ ap length c.deref_mut.ensures.value in
    let last : c.part_of-its_writes.result.end - c.part_of-its_writes.result.start ≡ length c.step.new.writes =
    let long : length c.step.new.writes ≡ slots_each * most_writes = search (rules, arith) in
    omega (arith, long, c.part_of-its_writes.ensures.start, c.part_of-its_writes.ensures.end) in
    put_back w u sized there _ _ _ _ _ c.step.new.self _ _ _ _ c.step.new.writes
    (ap (λ v. v.nodes) c.self.view_is)
    (refilled c.self.inside.suites.items (set c.deref_mut.result.now (u - 1) c.step.new.self) back
    ∙ ap (λ v. set v (u - 1) c.step.new.self) suites)
    refl
    start
    end
    refl
    c.part_of-its_writes.ensures.start
    last
    ∙ left_put w u sized there c.step.result (step_leaves S K u s call) _ left
