use Rattle.std.proofs.Common.{◌≡◌, take}
use Rattle.session.proofs.making.kept_nodes.Given as goal

-- so far: the nodes up to here are kept
abbrev pub invariant-loop-node : goal.invariant-loop-node
invariant-loop-node l = l.kept.items ≡ take l.node-index l.nodes
