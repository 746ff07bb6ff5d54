use Rattle.std.proofs.Common.{◌≡◌}
use Rattle.summaries.specs.Blooms.{marked}
use Rattle.summaries.proofs.bloom.mark.Given as goal

-- the positions before this one are set
abbrev pub invariant-loop-p : goal.invariant-loop-p
invariant-loop-p l = l.bits ≡ marked l.node l.p-index l.initial.bits
