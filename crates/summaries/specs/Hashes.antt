-- 32-bit MurmurHash2 of a number's eight bytes, the highest first.
--
--   multiplier      the hash's constant
--   times           a product modulo 2^32
--   xor_shifted     a number XOR itself shifted right
--   word            four bytes as a number, the lowest first
--   mixed           a word before it is taken in
--   taken_in        the hash after one more word
--   finished        the hash after its last step
--   murmur2         the hash of a number with a seed
use Rattle.std.specs.Prelude.{ℕ, ◌*◌, ◌/◌, ◌%◌, ◌^◌, List, reverse, bit_xor}
use Rattle.number_bytes.specs.Bytes.{big_endian, number}
use Rattle.std.specs.List.{between}

-- the hash's constant
abbrev pub multiplier : ℕ
multiplier = 0x5bd1e995

-- a product with the constant, modulo 2^32
unfoldable pub times : ℕ → ℕ
times x = x * multiplier % 2 ^ 32

-- x XOR x shifted right by k
unfoldable pub xor_shifted : ℕ → ℕ → ℕ
xor_shifted k x = bit_xor x (x / 2 ^ k)

-- four bytes as a number, the lowest first
unfoldable pub word : List ℕ → ℕ
word bs = number (reverse bs)

-- a word before it is taken in
unfoldable pub mixed : ℕ → ℕ
mixed k = times (xor_shifted 24 (times k))

-- the hash h after the word k
unfoldable pub taken_in : ℕ → ℕ → ℕ
taken_in h k = bit_xor (times h) (mixed k)

-- the hash after its last step
unfoldable pub finished : ℕ → ℕ
finished h = xor_shifted 15 (times (xor_shifted 13 h))

-- the hash of the number n with a seed: over eight bytes, so that it starts from the seed XOR 8
unfoldable pub murmur2 : ℕ → ℕ → ℕ
murmur2 n seed =
    finished (taken_in (taken_in (bit_xor seed 8) (word (between 0 4 (big_endian 8 n)))) (word (between 4 8 (big_endian 8 n))))
