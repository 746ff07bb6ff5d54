use Rattle.std.proofs.Common.{rules}
use Rattle.messages.proofs.Judging.{known_is}
use Rattle.messages.proofs.read.Writes.check.Goals as goal

pub returns-then-not-contains : goal.returns-then-not-contains
returns-then-not-contains g c = let known = known_is c.args.nodes.now c.node-node.result in search rules

pub returns-then-is_none : goal.returns-then-is_none
returns-then-is_none g c = let known = known_is c.args.nodes.now c.node-node.result in search rules

pub returns : goal.returns
returns g c = let known = known_is c.args.nodes.now c.node-node.result in search rules
