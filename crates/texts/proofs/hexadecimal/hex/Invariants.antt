use Rattle.std.proofs.Common.{◌≡◌, map}
use lib.Seq.{paste}
use Rattle.texts.specs.Texts.{pair_value}
use Rattle.texts.proofs.hexadecimal.hex.Given as goal

-- so far: the bytes of the pairs up to here, over the front
abbrev pub invariant-loop-i : goal.invariant-loop-i
invariant-loop-i l = l.out ≡ paste l.initial.out 0 (map pair_value l.pairs) l.i
