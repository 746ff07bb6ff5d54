use Rattle.std.proofs.Common.{◌≡◌, take}
use Rattle.summaries.specs.Blooms.{packed_bloom}
use Rattle.summaries.proofs.bloom.BloomSummary.pack.Given as goal

-- the nodes before this one are packed
abbrev pub invariant-loop-node : goal.invariant-loop-node
invariant-loop-node l = l.bits ≡ packed_bloom (take l.node-index l.nodes)
