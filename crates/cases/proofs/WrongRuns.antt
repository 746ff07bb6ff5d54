-- Runs by computing where a commit overwrites the oldest versions.
use Rattle.std.proofs.Common.{◌≡◌, true, refl}
use Rattle.cases.proofs.ComputedRuns.{next, allowed, serves_it}
use Rattle.cases.specs.WrongRules.{oldest, OldestLeaves}
use Rattle.history.specs.Events.{Event, at, settled, took, declined}
use Rattle.session.specs.Shares.{share_of, with_share}
use Rattle.session.specs.States.{World}
use Rattle.session.specs.Takes.{take_leaves}
use Rattle.session.specs.Versions.{versions_of}
use Rattle.settings.specs.Colours.{colours}
use Rattle.settings.specs.declared.colour.Colour.{Colour}
use Rattle.summaries.specs.ExactLists.{exact_list}

-- the world after an event
unfoldable pub next_by_oldest : World Colour → Event Colour → World Colour
next_by_oldest w (took u ruling) =
    let nodes = w.session.nodes in
    let share = share_of w u in
    with_share w u (take_leaves exact_list colours nodes u (λ n. oldest (versions_of nodes share.places n)) ruling share)
next_by_oldest w e = next w e

pub leaves_oldest : (w : World Colour) (e : Event Colour) → allowed w e ≡ true → OldestLeaves w e (next_by_oldest w e)
unfolding allowed next next_by_oldest
leaves_oldest w (at u s did) ok = refl
leaves_oldest w (settled u) ok = (serves_it w.line u ok, refl)
leaves_oldest w (took u ruling) ok = refl
leaves_oldest w (declined call why) ok = refl
