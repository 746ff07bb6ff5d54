-- The Bloom summary: 512 bits, of which a node has twelve positions.
--
--   bloom_width     its bytes
--   hashes          how many positions a node has
--   position        a node's position number i
--   with_bit        the bytes with one bit set
--   has_bit         whether a bit is set
--   marked          the bytes with the first positions of a node set
--   packed_bloom    the bytes packed from a list
--   all_set         whether the first positions of a node are set
--   names_bloom     whether the bytes name a node
--   bloom           the kind
--   IsPosition      a number is one of a node's twelve positions
--   SetsExactly     packing sets exactly the positions of the listed nodes
use Rattle.std.specs.Prelude.{◌≡◌, ℕ, zero, suc, ◌+◌, ◌*◌, ◌/◌, ◌%◌, ◌^◌, ◌<◌, Bool, true, ◌&&◌, List, length, replicate, Decides, fold, ◌==◌, bit_or, slice_index, slice_set}
use Rattle.std.specs.List.{HoldsAt}
use Rattle.summaries.specs.Hashes.{murmur2}
use Rattle.summaries.specs.Kinds.{SummaryKind}

-- 512 bits
abbrev pub bloom_width : ℕ
bloom_width = 64

-- how many positions a node has
abbrev pub hashes : ℕ
hashes = 12

-- position i of the node n, by double hashing: a is its hash with seed 0, b its hash with seed a
unfoldable pub position : ℕ → ℕ → ℕ
position n i = (murmur2 n 0 + i * murmur2 n (murmur2 n 0)) % 512

-- the bytes with bit p set: bit p % 8 of byte p / 8, where bit 0 is the least
abbrev pub with_bit : ℕ → List ℕ → List ℕ
with_bit p bs = slice_set bs (p / 8) (bit_or (slice_index bs (p / 8)) (2 ^ (p % 8)))

-- whether bit p is set
abbrev pub has_bit : ℕ → List ℕ → Bool
has_bit p bs = slice_index bs (p / 8) / 2 ^ (p % 8) % 2 == 1

-- the bytes with the first i positions of the node n set
abbrev pub marked : ℕ → ℕ → List ℕ → List ℕ
marked n zero bs = bs
marked n (suc i) bs = with_bit (position n i) (marked n i bs)

-- the bytes packed from a list: from zeros, the positions of one node after the other
abbrev pub packed_bloom : List ℕ → List ℕ
packed_bloom ns = fold (λ bs n. marked n hashes bs) (replicate bloom_width 0) ns

-- whether the first i positions of the node n are set
abbrev pub all_set : List ℕ → ℕ → ℕ → Bool
all_set bs n zero = true
all_set bs n (suc i) = has_bit (position n i) bs && all_set bs n i

-- whether the bytes name the node n: all its positions are set
abbrev pub names_bloom : List ℕ → ℕ → Bool
names_bloom bs n = all_set bs n hashes

-- the Bloom summary as a kind of summary
abbrev pub bloom : SummaryKind
bloom = record { wide = bloom_width; names = names_bloom; packed = packed_bloom }

-- p is one of the twelve positions of the node n
abbrev pub IsPosition : ℕ → ℕ → Type 0
IsPosition p n = (i : ℕ) × (i < hashes) × (p ≡ position n i)

-- in bytes packed from the list, a bit is set exactly if it is a position of some listed node
abbrev pub SetsExactly : List ℕ → List ℕ → Type 0
SetsExactly ns bs = (p : ℕ) → Decides (has_bit p bs) ((k : ℕ) × (k < length ns) × HoldsAt (IsPosition p) ns k)
