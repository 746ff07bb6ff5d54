-- What can be offered to a line, of the type that the code has for it.
--
--   as_offered     the message with its suite
use Rattle.lines.specs.Orders.{Offered}
use Rattle.lines.specs.declared.offer.Offer.{Offer}

-- the message with its suite
abbrev pub as_offered : Offer → Offered
as_offered o = record { suite = o.suite.number; message = o.message.now }
