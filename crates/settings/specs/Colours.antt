-- Colours as bytes: lift, gamma and gain, four bytes each, two's complement.
--
--   count_of          the signed number that 32 bits stand for
--   count_fits        it is one of 32 bits
--   colour_of         the colour of three numbers, each by its 32 bits
--   starting_colour   the colour that a node starts with
--   colour_form       the twelve bytes of a colour
--   colour_reading    the colour that bytes stand for
--   colours           the kind
use Rattle.std.specs.Prelude.{◌≡◌, ℕ, suc, ◌-◌, ◌^◌, ◌<◌, Bool, true, false, if◌then◌else◌, List, ◌++◌, length, ℤ, pos, negsuc, Some, None, Option, ◌==◌, nat_lt, refl}
use Rattle.std.proofs.Common.{arith}
use Rattle.std.specs.Int.Signed.{mag}
use Rattle.std.specs.Int.{w32}
use mir.Val.{to_z, of_z, sel}
use Rattle.number_bytes.specs.Bytes.{big_endian, number}
use Rattle.settings.specs.Kinds.{SettingKind}
use Rattle.settings.specs.declared.colour.Colour.{Colour}
use Rattle.std.proofs.lemmas.Bool.{ltb-true, ltb-false}
use Rattle.std.specs.List.{between}

-- the signed number that 32 bits stand for
abbrev pub count_of : ℕ → ℤ
count_of bits = to_z w32 bits

-- it is one of 32 bits
pub count_fits : (bits : ℕ) → mag (count_of bits) < 2 ^ 31
count_fits bits = by (nat_lt bits (2 ^ 31)) refl
  where
    by : (b : Bool) → nat_lt bits (2 ^ 31) ≡ b → mag (sel b (pos bits) (negsuc (2 ^ 32 - suc bits))) < 2 ^ 31
    by true e = ltb-true bits (2 ^ 31) e
    by false e = let high = ltb-false bits (2 ^ 31) e in omega arith

-- the colour of three numbers, each by its 32 bits
abbrev pub colour_of : ℕ → ℕ → ℕ → Colour
colour_of lift gamma gain = record {
  lift = count_of lift;
  gamma = count_of gamma;
  gain = count_of gain;
  lift_fits = count_fits lift;
  gamma_fits = count_fits gamma;
  gain_fits = count_fits gain;
}

-- the colour that a node starts with: 0 0 0
abbrev pub starting_colour : Colour
starting_colour = colour_of 0 0 0

-- the twelve bytes of a colour
abbrev pub colour_form : Colour → List ℕ
colour_form c = big_endian 4 (of_z w32 c.lift) ++ (big_endian 4 (of_z w32 c.gamma) ++ big_endian 4 (of_z w32 c.gain))

-- the colour that bytes stand for: any twelve
abbrev pub colour_reading : List ℕ → Option Colour
colour_reading bs =
    if length bs == 12
    then Some (colour_of (number (between 0 4 bs)) (number (between 4 8 bs)) (number (between 8 12 bs)))
    else None

-- colours as a kind of setting
abbrev pub colours : SettingKind Colour
colours = record { wide = 12; start = starting_colour; form = colour_form; reading = colour_reading }
