-- The laws of a kind of setting, at colours.
use Rattle.std.specs.Prelude.{◌≡◌, ℕ, ◌+◌, ◌^◌, ◌<◌, ◌≤◌, Bool, true, false, cond, List, ◌++◌, length, take, drop, ℤ, pos, negsuc, Some, None, ◌==◌, nat_le, refl}
use Rattle.std.proofs.Common.{sym, ap, ap₂, subst, ◌∙◌, arith, to_z, of_z}
use borrow.Rule.Slice.PartMut.{put_mid}
use Rattle.std.specs.Int.Signed.{mag}
use Rattle.std.specs.Int.{w32}
use Rattle.number_bytes.specs.Bytes.{Byte, big_endian, number, number_at}
use Rattle.number_bytes.proofs.Numbers.{number_big_endian, big_endian_number}
use Rattle.number_bytes.proofs.Parts.{put_last, length_put}
use Rattle.settings.specs.Same.{same_colour}
use Rattle.settings.specs.Colours.{count_of, colour_of, colour_form, colour_reading}
use Rattle.settings.specs.declared.colour.Colour.{Colour}
use Rattle.std.proofs.lemmas.Int.Digits.{number_lt}
use Rattle.std.proofs.ByRecursion.{All-take, All-drop}
use Rattle.std.proofs.lemmas.List.{append_assoc, length-append, length-take, length-drop, take_all, take_at, take-append-drop, drop-drop}
use Rattle.std.proofs.lemmas.Slice.{take-put_mid}
use Rattle.std.proofs.lemmas.Int.{to_z-of_z, of_z-to_z}
use Rattle.std.proofs.lemmas.Bool.{eqb-true, le-leb, cond-true}
use Rattle.std.specs.List.{between, AllByRecursion}

-- ---- a signed number and its four bytes

bits_fit : (z : ℤ) → mag z < 2 ^ 31 → of_z w32 z < 2 ^ 32
bits_fit (pos n) h = omega arith
bits_fit (negsuc n) h = omega arith

pub count_reads : (z : ℤ) → mag z < 2 ^ 31 → count_of (number (big_endian 4 (of_z w32 z))) ≡ z
count_reads z h = ap count_of (number_big_endian 4 (of_z w32 z) (bits_fit z h)) ∙ to_z-of_z w32 z (record { sfits = h })

only_four : (xs : List ℕ) → length xs ≡ 4 → AllByRecursion Byte xs → big_endian 4 (of_z w32 (count_of (number xs))) ≡ xs
only_four xs l h =
    let small : number xs < 2 ^ 32 = subst (λ n. number xs < 256 ^ n) l (number_lt 256 xs h) in
    ap (big_endian 4) (of_z-to_z w32 (number xs) small) ∙ big_endian_number 4 xs l h

-- ---- the laws

pub reads : (c : Colour) → colour_reading (colour_form c) ≡ Some c
reads c =
    ap Some (same_colour _ c (count_reads c.lift c.lift_fits) (count_reads c.gamma c.gamma_fits) (count_reads c.gain c.gain_fits))

-- twelve bytes are three times four
three_fours : (bs : List ℕ) → length bs ≡ 12 → take 4 bs ++ (between 4 8 bs ++ between 8 12 bs) ≡ bs
three_fours bs l =
    let last : between 8 12 bs ≡ drop 4 (drop 4 bs) = take_all 4 (drop 8 bs) (simp length-drop (omega arith)) ∙ sym (drop-drop 4 4 bs) in
    ap (λ xs. take 4 bs ++ (between 4 8 bs ++ xs)) last
    ∙ ap (λ xs. take 4 bs ++ xs) (take-append-drop 4 (drop 4 bs))
    ∙ take-append-drop 4 bs

form_of_parts : (bs : List ℕ) → length bs ≡ 12 → AllByRecursion Byte bs →
    colour_form (colour_of (number (between 0 4 bs)) (number (between 4 8 bs)) (number (between 8 12 bs))) ≡ bs
form_of_parts bs l h =
    let one = only_four (between 0 4 bs) (simp length-take (omega arith)) (All-take Byte 4 bs h) in
    let two = only_four (between 4 8 bs) (simp (length-take, length-drop) (omega arith)) (All-take Byte 4 _ (All-drop Byte 4 bs h)) in
    let three = only_four (between 8 12 bs) (simp (length-take, length-drop) (omega arith)) (All-take Byte 4 _ (All-drop Byte 8 bs h)) in
    ap₂ ◌++◌ one (ap₂ ◌++◌ two three) ∙ three_fours bs l

pub only_forms : (bs : List ℕ) (c : Colour) → AllByRecursion Byte bs → colour_reading bs ≡ Some c → bs ≡ colour_form c
only_forms bs c h e = by (length bs == 12) refl e
  where
    by : (wide : Bool) → (length bs == 12) ≡ wide →
        cond wide (Some (colour_of (number (between 0 4 bs)) (number (between 4 8 bs)) (number (between 8 12 bs)))) None ≡ Some c →
        bs ≡ colour_form c
    by true w r =
        let is : colour_of (number (between 0 4 bs)) (number (between 4 8 bs)) (number (between 8 12 bs)) ≡ c = cc in
        sym (form_of_parts bs (eqb-true (length bs) 12 w) h) ∙ ap colour_form is
    by false w r = let z : ◌≡◌ {A = ℕ} 0 1 = cc in absurd (omega arith)

-- ---- the code

-- three parts of four, written one after the other over twelve
pub three_parts : (xs a b c : List ℕ) → length xs ≡ 12 → length a ≡ 4 → length b ≡ 4 → length c ≡ 4 →
    put_mid 8 4 (put_mid 4 4 (a ++ drop 4 xs) b) c ≡ a ++ (b ++ c)
three_parts xs a b c l la lb lc =
    let first = a ++ drop 4 xs in
    let wide : length first ≡ 12 = length-append a (drop 4 xs) ∙ simp length-drop (omega arith) in
    let room : 4 ≤ length first = omega arith in
    let still : length (put_mid 4 4 first b) ≡ 12 = length_put 4 4 first b (omega arith) lb ∙ wide in
    put_last 8 4 (put_mid 4 4 first b) c still
    ∙ ap (λ zs. zs ++ c) (take-put_mid 4 4 first b 8 (omega arith) room ∙ ap (λ zs. zs ++ b) (take_at a (drop 4 xs) 4 la))
    ∙ append_assoc a b c

-- a number read at its place
pub count_at : (bs : List ℕ) (at n : ℕ) (z : ℤ) → number_at 4 bs at ≡ Some n → at + 4 ≤ length bs → z ≡ count_of n → mag z < 2 ^ 31 →
    to_z w32 (of_z w32 z) ≡ count_of (number (between at (at + 4) bs))
count_at bs at n z e h is fits =
    let inside = cond-true (nat_le (at + 4) (length bs)) (Some (number (between at (at + 4) bs))) None (le-leb (at + 4) (length bs) h) in
    let value : n ≡ number (between at (at + 4) bs) = cc in
    to_z-of_z w32 z (record { sfits = fits }) ∙ is ∙ ap count_of value

-- the four bytes of a number that is passed by its bits
pub four_of_bits : (z : ℤ) → mag z < 2 ^ 31 → big_endian 4 (of_z w32 (to_z w32 (of_z w32 z))) ≡ big_endian 4 (of_z w32 z)
four_of_bits z h = ap (λ y. big_endian 4 (of_z w32 y)) (to_z-of_z w32 z (record { sfits = h }))
