use Rattle.std.proofs.Common.{◌≡◌, length, sym, ◌∙◌, subst}
use Rattle.std.proofs.Math.Logic.{∥∥₁_elim, ∥∥₁_map}
use Rattle.bench_session.proofs.Standings.{reached_next, never_void, void_if_none, stands_some}
use Rattle.history.specs.Performing.{Reached, Performed}
use Rattle.session.specs.Steps.{world}
use Rattle.settings.specs.Colours.{colours}
use Rattle.summaries.specs.ExactLists.{exact_list}
use Rattle.std.specs.Vec.{with_items}
use Rattle.std.proofs.lemmas.List.{with_items_is}
use Rattle.bench_session.proofs.bench.Bench.answer.Goals as goal

pub invariant_of-self-in-Some-Perform-Some : goal.invariant_of-self-in-Some-Perform-Some
invariant_of-self-in-Some-Perform-Some g c =
    let self = c.args.self.now in
    let line = g.L.Line.state self.line in
    let line' = g.L.Line.state c.perform-answer.new.line in
    let s = c.in-Some-Perform-Some.session in
    let s' = c.perform-answer.new.session in
    record {
      history = ∥∥₁_map self.history (λ stands.
          let reached = subst (λ ps. Reached exact_list colours (world s ps c.as_mut_slice-in-Some-Perform-Some.result.now line)) (sym c.as_mut_slice.ensures.value)
          (subst (λ ws. Reached exact_list colours (world s self.places.items ws line)) (sym c.as_mut_slice-in-Some-Perform-Some.ensures.value)
          (stands_some self.session s self.places.items self.writes.items line c.in-Some-Perform-Some.is-1 stands)) in
          let places : length c.perform-answer.new.places ≡ self.places.len = c.perform-answer.auto.places ∙ c.as_mut_slice.ensures.len in
          let writes : length c.perform-answer.new.writes ≡ self.writes.len = c.perform-answer.auto.writes ∙ c.as_mut_slice-in-Some-Perform-Some.ensures.len in
          subst (λ ps. Reached exact_list colours (world s' ps (with_items self.writes c.perform-answer.new.writes).items line')) (sym (with_items_is self.places c.perform-answer.new.places places))
          (subst (λ ws. Reached exact_list colours (world s' c.perform-answer.new.places ws line')) (sym (with_items_is self.writes c.perform-answer.new.writes writes))
          (reached_next exact_list colours c.in-Some-Perform-Some.call _ _ c.perform-answer.result c.perform-answer.ensures.law reached)));
    }

pub unreachable-requires : goal.unreachable-requires
unreachable-requires g c =
    let self = c.args.self.now in
    let line = g.L.Line.state self.line in
    let s = c.in-Some-Perform-Some.session in
    let (fault, void) = void_if_none c.perform-answer.result (sym c.reply_to.ensures ∙ c.in_default-reply_to.is) in
    ∥∥₁_elim self.history (λ a b. absurd a) (λ stands.
    let reached = subst (λ ps. Reached exact_list colours (world s ps c.as_mut_slice-in-Some-Perform-Some.result.now line)) (sym c.as_mut_slice.ensures.value)
    (subst (λ ws. Reached exact_list colours (world s self.places.items ws line)) (sym c.as_mut_slice-in-Some-Perform-Some.ensures.value)
    (stands_some self.session s self.places.items self.writes.items line c.in-Some-Perform-Some.is-1 stands)) in
    let before = world s c.as_mut_slice.result.now c.as_mut_slice-in-Some-Perform-Some.result.now line in
    let now = world c.perform-answer.new.session c.perform-answer.new.places c.perform-answer.new.writes (g.L.Line.state c.perform-answer.new.line) in
    never_void exact_list colours c.in-Some-Perform-Some.call before now fault
    (subst (λ a. Performed exact_list colours c.in-Some-Perform-Some.call a before now) void c.perform-answer.ensures.law) reached)
