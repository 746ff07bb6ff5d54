use Rattle.std.proofs.Common.{rules}
use Rattle.messages.proofs.Judging.{known_is}
use Rattle.session.proofs.search.is_known.Goals as goal

pub returns : goal.returns
returns c = let known = known_is c.args.nodes.now c.args.node in search rules
