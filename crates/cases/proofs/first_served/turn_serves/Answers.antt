use Rattle.std.proofs.Common.{rules, ◌∙◌}
use Rattle.cases.proofs.TwoOffers.{fetched, copied}
use Rattle.cases.proofs.first_served.turn_serves.Goals as goal

pub returns-clause-answer : goal.returns-clause-answer
returns-clause-answer c =
    c.fetch.ensures.answer
    ∙ fetched _ (search rules) _ c.new-line.ensures.line _ c.in_ok-offer.ensures.line _ c.in_ok-offer-2.ensures.line
    _ (c.offer-2.ensures.turn ∙ (c.offer.ensures.turn ∙ c.new-line.ensures.turn)) _ c.in_ok-settle.ensures.order.served _ c.told-buffer

pub returns-clause-buffer : goal.returns-clause-buffer
returns-clause-buffer c =
    c.fetch.ensures.buffer
    ∙ copied _ (search rules) _ c.new-line.ensures.line _ c.in_ok-offer.ensures.line _ c.in_ok-offer-2.ensures.line
    _ (c.offer-2.ensures.turn ∙ (c.offer.ensures.turn ∙ c.new-line.ensures.turn)) _ c.in_ok-settle.ensures.order.served _ _
    (returns-clause-answer c)
