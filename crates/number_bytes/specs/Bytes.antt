-- Numbers as bytes, the highest byte first.
--
--   Byte            what a byte can hold
--   Number          what a node number can be
--   byte_of         the byte of a number that has k bytes below it
--   big_endian      the k low bytes of a number, the highest first
--   number          the number that bytes write
--   bytes_at        the k bytes from a place on, if they are there
--   number_at       the number in the k bytes from a place on, if they are there
use Rattle.std.specs.Prelude.{ℕ, zero, suc, ◌+◌, ◌/◌, ◌%◌, ◌^◌, ◌<◌, if◌then◌else◌, List, [], ◌∷◌, length, Some, None, Option, nat_le}
use Rattle.std.specs.List.{between}
use Rattle.std.specs.Int.Digits as digits

-- what a byte can hold
abbrev pub Byte : ℕ → Type 0
Byte n = n < 256

-- what a node number can be: 64 bits
abbrev pub Number : ℕ → Type 0
Number n = n < 2 ^ 64

-- the byte of n that has k bytes below it
abbrev pub byte_of : ℕ → ℕ → ℕ
byte_of zero n = n % 256
byte_of (suc k) n = n / 256 ^ suc k % 256

-- the k low bytes of n, the highest first
abbrev pub big_endian : ℕ → ℕ → List ℕ
big_endian zero n = []
big_endian (suc k) n = byte_of k n ∷ big_endian k n

-- the number that the bytes write, the highest first: digits in base 256
abbrev pub number : List ℕ → ℕ
number bs = digits.number_from_digits 256 bs

-- the k bytes from `at` on, if they are there
abbrev pub bytes_at : ℕ → List ℕ → ℕ → Option (List ℕ)
bytes_at k bs at = if nat_le (at + k) (length bs) then Some (between at (at + k) bs) else None

-- the number in the k bytes from `at` on, if they are there
abbrev pub number_at : ℕ → List ℕ → ℕ → Option ℕ
number_at k bs at = if nat_le (at + k) (length bs) then Some (number (between at (at + k) bs)) else None
