use Rattle.std.proofs.Common.{◌≡◌, ℕ, ◌<◌, length, ap, ◌∙◌, arith}
use Rattle.lines.proofs.Meanings.{state_empty}
use Rattle.lines.proofs.Storing.{made_good, made_empty}
use Rattle.lines.specs.Places.{link_at, places_used}
use Rattle.lines.specs.Stores.{stored, state_of, empty}
use Rattle.lines.proofs.store.Store.over.Given.{Over}
use Rattle.lines.proofs.store.Store.over.Goals as goal
use Rattle.lines.proofs.store.Store.over.Goals.{After-loop-i}

-- once all are linked: as many bytes, and every place linked to itself
long : (g : Over) (c : After-loop-i g) → length c.loop-i.bytes ≡ length c.args.bytes.now
long g c = c.loop-i.invariant.0

links : (g : Over) (c : After-loop-i g) (i : ℕ) → i < places_used c.args.bytes.now → link_at c.loop-i.bytes i ≡ i
links g c i h = c.loop-i.invariant.2 i (omega (arith, c.min-i-end.ensures, c.count.ensures))

means : (g : Over) (c : After-loop-i g) → stored c.loop-i.bytes 0 0 ≡ empty c.args.bytes.now
means g c = made_empty c.args.bytes.now c.loop-i.bytes (long g c) (links g c)

pub invariant_of-result : goal.invariant_of-result
invariant_of-result g c = record { good = made_good c.args.bytes.now c.loop-i.bytes (long g c) (links g c) }

pub returns-clause-contents : goal.returns-clause-contents
returns-clause-contents g c = means g (goal.at.returns-clause-contents g c).After-loop-i

pub returns-clause-line : goal.returns-clause-line
returns-clause-line g c = ap state_of (means g (goal.at.returns-clause-line g c).After-loop-i) ∙ state_empty c.args.bytes.now
