use Rattle.std.proofs.Common.{◌≡◌, ◌+◌, ◌*◌, ◌++◌, take}
use Rattle.summaries.specs.ExactLists.{numbers}
use Rattle.summaries.proofs.exact_list.put_numbers.Given as goal

-- so far: byte 0, and the numbers up to here
abbrev pub invariant-loop-i : goal.invariant-loop-i
invariant-loop-i l = take (1 + 8 * l.i) l.bytes ≡ take 1 l.initial.bytes ++ numbers (take l.i l.nodes)
