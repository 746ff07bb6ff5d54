use Rattle.std.proofs.Common.{◌≡◌, ◌+◌, Ok, get_or, ap, ◌∙◌}
use Rattle.lines.proofs.Meanings.{arrivals_more, state_offer}
use Rattle.lines.proofs.Storing.{offered_good, offered_means}
use Rattle.lines.specs.Orders.{arrivals}
use Rattle.lines.specs.Places.{order}
use Rattle.lines.specs.Stores.{Good, stored, state_of, stored_offer}
use Rattle.lines.specs.Views.{contents}
use Rattle.lines.proofs.store.Store.put.Given.{Over}
use Rattle.lines.proofs.store.Store.put.Goals as goal
use Rattle.lines.proofs.store.Store.put.Goals.{After-set_message}

-- once the message stands in its place
place_is : (g : Over) (c : After-set_message g) → c.place-place.result ≡ get_or (order c.args.self.now.bytes.now) (c.args.self.now.agreed + c.args.self.now.waiting) 0
place_is g c = c.place-place.ensures.value ∙ ap (λ i. get_or (order c.args.self.now.bytes.now) i 0) c.held.ensures.value

good : (g : Over) (c : After-set_message g) → Good c.set_message.new.bytes c.args.self.now.agreed (c.args.self.now.waiting + 1)
good g c =
    let s = c.args.self.now in
    let passed = c.in_ok-check_offer.ensures in
    let put = c.set_message.ensures in
    offered_good s.bytes.now _ s.agreed s.waiting _ _ s.good passed.room (place_is g c) put.changed put.link put.message passed.fits

means : (g : Over) (c : After-set_message g) →
    stored c.set_message.new.bytes c.args.self.now.agreed (c.args.self.now.waiting + 1)
    ≡ stored_offer (Ok tt) (contents c.args.self.now) c.args.suite c.args.message.now
means g c =
    let s = c.args.self.now in
    let put = c.set_message.ensures in
    offered_means s.bytes.now _ s.agreed s.waiting _ _ s.good c.in_ok-check_offer.ensures.room (place_is g c) put.changed put.link put.message

pub invariant_of-self : goal.invariant_of-self
invariant_of-self g c = record { good = good g c }

pub returns-clause-line : goal.returns-clause-line
returns-clause-line g c =
    ap state_of (means g (goal.at.returns-clause-line g c).After-set_message)
    ∙ state_offer (contents c.args.self.now) c.args.suite c.args.message.now

pub returns-clause-order : goal.returns-clause-order
returns-clause-order g c = ap (λ t. t.queue) (means g (goal.at.returns-clause-order g c).After-set_message)

pub returns-clause-arrivals : goal.returns-clause-arrivals
unfolding state_of
returns-clause-arrivals g c =
    ap (λ t. arrivals (state_of t) t.queue) (means g (goal.at.returns-clause-arrivals g c).After-set_message)
    ∙ arrivals_more (contents c.args.self.now) _
