-- The exact list: a count byte, the numbers in order, then zeros.
--
--   exact_width     its bytes
--   numbers         the bytes of the numbers, eight each
--   packed_exact    the bytes packed from a list
--   number_in       the number that stands at a place of the list
--   among           whether a node is one of the first c numbers
--   names_exact     whether the bytes name a node
--   exact_list      the kind
--   NamesExactly    the bytes name exactly the listed nodes
use Rattle.std.specs.Prelude.{ℕ, zero, suc, ◌+◌, ◌-◌, ◌*◌, min, Bool, false, ◌||◌, List, ◌∷◌, ◌++◌, length, replicate, Decides, ◌==◌, slice_index}
use Rattle.number_bytes.specs.Bytes.{big_endian, number}
use Rattle.limits.specs.Limits.{most_reads}
use Rattle.std.specs.List.{between, flat_map, ContainsAt}
use Rattle.summaries.specs.Kinds.{SummaryKind}

-- one byte, and 32 numbers of eight
abbrev pub exact_width : ℕ
exact_width = 1 + 8 * most_reads

-- the bytes of the numbers, eight each
abbrev pub numbers : List ℕ → List ℕ
numbers ns = flat_map (big_endian 8) ns

-- the bytes packed from a list: how many, the numbers in order, then zeros
abbrev pub packed_exact : List ℕ → List ℕ
packed_exact ns = length ns ∷ (numbers ns ++ replicate (8 * most_reads - 8 * length ns) 0)

-- the number that stands at place i, counted from 0
abbrev pub number_in : List ℕ → ℕ → ℕ
number_in bs i = number (between (1 + 8 * i) (1 + 8 * i + 8) bs)

-- whether the node is one of the first c numbers
abbrev pub among : List ℕ → ℕ → ℕ → Bool
among bs n zero = false
among bs n (suc c) = number_in bs c == n || among bs n c

-- whether the bytes name the node: it is one of as many numbers as byte 0 says, but of 32 at most
abbrev pub names_exact : List ℕ → ℕ → Bool
names_exact bs n = among bs n (min (slice_index bs 0) most_reads)

-- the exact list as a kind of summary
abbrev pub exact_list : SummaryKind
exact_list = record { wide = exact_width; names = names_exact; packed = packed_exact }

-- the bytes name exactly the listed nodes
abbrev pub NamesExactly : List ℕ → List ℕ → Type 0
NamesExactly ns bs = (n : ℕ) → Decides (names_exact bs n) (ContainsAt ns n)
