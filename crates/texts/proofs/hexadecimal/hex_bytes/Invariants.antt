use Rattle.std.proofs.Common.{◌≡◌, map, take, vec_items}
use Rattle.texts.specs.Texts.{pair_value}
use Rattle.texts.proofs.hexadecimal.hex_bytes.Given as goal

-- so far: the bytes of the pairs up to here
abbrev pub invariant-loop-high : goal.invariant-loop-high
invariant-loop-high l = vec_items l.bytes ≡ map pair_value (take l.high-index l.pairs)
