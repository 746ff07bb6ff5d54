-- What a line of text says, given as bytes.
--
-- lists:
--   is_empty        whether a list has no element
-- numbers:
--   is_digit        whether a byte is a decimal digit
--   is_numeral      whether bytes are one decimal digit or more
--   decimal_value   the number that decimal digits write
--   digit_after     a number with one more digit behind it, if it is below 2^64
--   number_up_to    the number that bytes write in decimal digits, if it is at most a limit
--   number_of       the same, if it is below 2^64
--   signed_of       the number that digits write, or a minus and digits, if it is in the range of i32
-- hexadecimal text:
--   is_hex          whether a byte is a hexadecimal digit
--   hex_value       the value of a hexadecimal digit
--   pair_value      the byte that two hexadecimal digits write
--   pairs           the bytes that hexadecimal digits write, two digits each
--   hex_of          the bytes that a text writes, if it is pairs of hexadecimal digits
--   hex_within      the same, if they are at most a number of bytes
--   written_over    bytes over the front of others
--   hex_digit       the digit of a value below sixteen
--   hex_text        bytes written in hexadecimal digits
-- fields:
--   before_first    a byte put before the first of some fields
--   fields_of       the fields of a line
--   fields_left     the fields of what is left of a line
--   left            the fields that `next` has yet to give
--   Gives           what a call of `next` answers and leaves
use Rattle.std.specs.Prelude.{◌≡◌, ℕ, ◌+◌, ◌-◌, ◌*◌, ◌/◌, ◌%◌, ◌^◌, Bool, true, false, if◌then◌else◌, not, ◌&&◌, ◌||◌, List, [], ◌∷◌, ◌++◌, map, length, slice_index, drop, ℤ, pos, neg_ℤ, Some, None, Option, ◌==◌, nat_le, nat_lt}
use Rattle.std.specs.Borrow.{Bor}
use Rattle.std.specs.List.{flat_map, list_all}
use Rattle.std.specs.Option.{option_map}
use Rattle.std.specs.Int.{is_in_range}
use Rattle.std.specs.Int.Digits as digits
use Rattle.texts.specs.declared.line.Fields.{Fields}

-- whether a list has no element
abbrev pub is_empty : {X : Type 0} → List X → Bool
is_empty [] = true
is_empty (x ∷ xs) = false

-- ---- numbers

-- whether a byte is a decimal digit: 0 to 9
abbrev pub is_digit : ℕ → Bool
is_digit b = is_in_range 48 57 b

-- whether bytes are one decimal digit or more
abbrev pub is_numeral : List ℕ → Bool
is_numeral bs = not (is_empty bs) && list_all is_digit bs

-- the number that decimal digits write, the highest first
abbrev pub decimal_value : List ℕ → ℕ
decimal_value bs = digits.number_from_digits 10 (map (λ b. b - 48) bs)

-- a number with one more digit behind it, if it is below 2^64
abbrev pub digit_after : ℕ → ℕ → Option ℕ
digit_after n b = if is_digit b && nat_lt (n * 10 + (b - 48)) (2 ^ 64) then Some (n * 10 + (b - 48)) else None

-- the number that bytes write in decimal digits, if it is at most a limit
abbrev pub number_up_to : ℕ → List ℕ → Option ℕ
number_up_to most bs = if is_numeral bs && nat_le (decimal_value bs) most then Some (decimal_value bs) else None

-- the same, if it is below 2^64
abbrev pub number_of : List ℕ → Option ℕ
number_of bs = number_up_to (2 ^ 64 - 1) bs

-- the number that digits write, or a minus and digits, if it is in the range of i32
abbrev pub signed_of : List ℕ → Option ℤ
signed_of [] = None
signed_of (b ∷ bs) =
    if b == 45
    then option_map (λ n. neg_ℤ (pos n)) (number_up_to (2 ^ 31) bs)
    else option_map pos (number_up_to (2 ^ 31 - 1) (b ∷ bs))

-- ---- hexadecimal text

-- whether a byte is a hexadecimal digit: 0 to 9, A to F, a to f
abbrev pub is_hex : ℕ → Bool
is_hex b = (is_in_range 48 57 b || is_in_range 65 70 b) || is_in_range 97 102 b

-- the value of a hexadecimal digit
abbrev pub hex_value : ℕ → ℕ
hex_value b = if nat_le b 57 then b - 48 else if nat_le b 70 then b - 55 else b - 87

-- the byte that two hexadecimal digits write, the higher first
abbrev pub pair_value : List ℕ → ℕ
pair_value digits = hex_value (slice_index digits 0) * 16 + hex_value (slice_index digits 1)

-- the bytes that hexadecimal digits write, two digits each, the higher first
abbrev pub pairs : List ℕ → List ℕ
pairs [] = []
pairs (a ∷ []) = []
pairs (a ∷ b ∷ bs) = (hex_value a * 16 + hex_value b) ∷ pairs bs

-- the bytes that a text writes, if it is pairs of hexadecimal digits
abbrev pub hex_of : List ℕ → Option (List ℕ)
hex_of text = if length text % 2 == 0 && list_all is_hex text then Some (pairs text) else None

-- the same, if they are at most `room` bytes
abbrev pub hex_within : ℕ → List ℕ → Option (List ℕ)
hex_within room text = if nat_le (length (pairs text)) room then hex_of text else None

-- bytes over the front of others, which stay where there are none
abbrev pub written_over : Option (List ℕ) → List ℕ → List ℕ
written_over None out = out
written_over (Some bs) out = bs ++ drop (length bs) out

-- the digit of a value below sixteen: 0 to 9, a to f
abbrev pub hex_digit : ℕ → ℕ
hex_digit n = if nat_lt n 10 then 48 + n else 87 + n

-- bytes written in hexadecimal digits, two each, the higher first
abbrev pub hex_text : List ℕ → List ℕ
hex_text bs = flat_map (λ b. hex_digit (b / 16) ∷ hex_digit (b % 16) ∷ []) bs

-- ---- fields

-- a byte put before the first of some fields
abbrev pub before_first : ℕ → List (List ℕ) → List (List ℕ)
before_first b [] = (b ∷ []) ∷ []
before_first b (f ∷ fs) = (b ∷ f) ∷ fs

-- the fields of a line: what stands before, between and behind its spaces
abbrev pub fields_of : List ℕ → List (List ℕ)
fields_of [] = [] ∷ []
fields_of (b ∷ bs) = if b == 32 then [] ∷ fields_of bs else before_first b (fields_of bs)

-- the fields of what is left of a line, none where nothing is
abbrev pub fields_left : Option (Bor (List ℕ)) → List (List ℕ)
fields_left None = []
fields_left (Some line) = fields_of line.now

-- the fields that `next` has yet to give
abbrev pub left : Fields → List (List ℕ)
left f = fields_left f.rest

-- what a call of `next` answers and leaves: the first of the fields left before, and the others
abbrev pub Gives : List (List ℕ) → Option (Bor (List ℕ)) → List (List ℕ) → Type 0
Gives before None after = (before ≡ []) × (after ≡ [])
Gives before (Some field) after = before ≡ field.now ∷ after
