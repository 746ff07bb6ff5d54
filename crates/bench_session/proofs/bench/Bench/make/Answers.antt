use Rattle.std.proofs.Common.{◌≡◌, length, sym, ap, ◌∙◌, subst}
use Rattle.std.proofs.Math.Logic.{∥∥₁_map}
use Rattle.bench_session.proofs.Standings.{stands_none, reached_made}
use Rattle.history.specs.Performing.{Reached}
use Rattle.session.specs.Calls.{after_make}
use Rattle.session.specs.Steps.{world}
use Rattle.settings.specs.Colours.{colours}
use Rattle.summaries.specs.ExactLists.{exact_list}
use Rattle.std.proofs.lemmas.List.{with_items_is}
use Rattle.bench_session.proofs.bench.Bench.make.Goals as goal

pub invariant_of-self : goal.invariant_of-self
invariant_of-self g c =
    let self = c.args.self.now in
    let line = g.L.Line.state self.line in
    let nodes = c.args.nodes.now in
    let handed = c.as_mut_slice.result.now in
    let s = c.in-Ok.session in
    record {
      history = ∥∥₁_map self.history (λ stands.
          let places : length c.new.new.places ≡ c.in_ok-places.places.len = c.new.auto.places ∙ c.as_mut_slice.ensures.len in
          let filled_is = c.new.ensures.places ∙ ap (λ r. after_make colours r c.args.suites nodes handed) c.in-Ok.is in
          subst (λ ps. Reached exact_list colours (world s ps c.in_ok-writes.writes.items line)) (sym (with_items_is c.in_ok-places.places c.new.new.places places))
          (subst (λ ws. Reached exact_list colours (world s c.new.new.places ws line)) c.as_slice.ensures.value
          (reached_made exact_list colours c.args.suites nodes handed c.new.new.places c.as_slice.result.now line s
          (sym c.new.ensures.answer ∙ c.in-Ok.is) c.new.ensures.numbers filled_is
          (stands_none self.session self.places.items self.writes.items line c.requires stands))));
    }
