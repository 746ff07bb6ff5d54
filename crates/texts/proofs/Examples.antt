-- The definitions, computed on examples.
use Rattle.std.proofs.Common.{◌≡◌, true, false, [], ◌∷◌, ◌++◌, replicate, pos, negsuc, Some, None, codes, refl}
use Rattle.texts.specs.Buffers.{gathered_of}
use Rattle.texts.specs.Texts.{number_of, number_up_to, signed_of, hex_of, hex_within, written_over, fields_of}

number_plain : number_of (codes "18446744073709551615") ≡ Some 18446744073709551615
number_plain = refl

number_large : number_of (codes "18446744073709551616") ≡ None
number_large = refl

number_zeros : number_of (replicate 5000 48 ++ codes "7") ≡ Some 7
number_zeros = refl

number_none : number_of [] ≡ None
number_none = refl

number_plus : number_of (codes "+1") ≡ None
number_plus = refl

number_space : number_of (codes "1 ") ≡ None
number_space = refl

limit_reached : number_up_to 255 (codes "255") ≡ Some 255
limit_reached = refl

limit_passed : number_up_to 255 (codes "256") ≡ None
limit_passed = refl

signed_least : signed_of (codes "-2147483648") ≡ Some (negsuc 2147483647)
signed_least = refl

signed_too_low : signed_of (codes "-2147483649") ≡ None
signed_too_low = refl

signed_greatest : signed_of (codes "2147483647") ≡ Some (pos 2147483647)
signed_greatest = refl

signed_too_high : signed_of (codes "2147483648") ≡ None
signed_too_high = refl

signed_zero : signed_of (codes "-0") ≡ Some (pos 0)
signed_zero = refl

signed_alone : signed_of (codes "-") ≡ None
signed_alone = refl

signed_twice : signed_of (codes "--1") ≡ None
signed_twice = refl

hex_cases : hex_of (codes "00fFA0") ≡ Some (0 ∷ 255 ∷ 160 ∷ [])
hex_cases = refl

hex_empty : hex_of [] ≡ Some []
hex_empty = refl

hex_odd : hex_of (codes "abc") ≡ None
hex_odd = refl

hex_letter : hex_of (codes "0g") ≡ None
hex_letter = refl

hex_too_long : hex_within 1 (codes "0102") ≡ None
hex_too_long = refl

hex_over : written_over (hex_within 3 (codes "0102")) (7 ∷ 8 ∷ 9 ∷ []) ≡ 1 ∷ 2 ∷ 9 ∷ []
hex_over = refl

fields_two : fields_of (codes "a bc") ≡ codes "a" ∷ codes "bc" ∷ []
fields_two = refl

fields_empty_between : fields_of (codes "a  b") ≡ codes "a" ∷ [] ∷ codes "b" ∷ []
fields_empty_between = refl

fields_ends : fields_of (codes " a ") ≡ [] ∷ codes "a" ∷ [] ∷ []
fields_ends = refl

fields_none : fields_of [] ≡ [] ∷ []
fields_none = refl

gathered_full : gathered_of 4 (codes "four") ≡ record { bytes = codes "four"; most = 4; over = false }
gathered_full = refl

gathered_over : gathered_of 4 (codes "fives") ≡ record { bytes = codes "five"; most = 4; over = true }
gathered_over = refl
