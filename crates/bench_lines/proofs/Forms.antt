-- The forms of a line's fields, read one field after another.
use Rattle.std.proofs.Common.{◌≡◌, ℕ, List, [], ◌∷◌, ◌++◌, drop, ℤ, Some, Option, refl, ap, ◌∙◌}
use Rattle.std.specs.Bool.{then_some}
use Rattle.std.specs.Option.{option_map}
use Rattle.bench_lines.specs.Commands.{colour_at, slot_at, write_at, write_in, first_number, first_signed, first_slot, first_colour}
use Rattle.history.specs.declared.call.Call.TheVariants.{Write}
use Rattle.session.specs.declared.suite_slot.SuiteSlot.{SuiteSlot}
use Rattle.settings.specs.declared.colour.Colour.{Colour}
use Rattle.texts.specs.Texts.{is_empty, number_of, signed_of}

-- ---- a colour

at_colour : (a b c : Option ℤ) (x y z : ℤ) → Some x ≡ a → Some y ≡ b → Some z ≡ c → colour_at (Some x) (Some y) (Some z) ≡ colour_at a b c
at_colour a b c x y z e f g =
    ap (λ o. colour_at o (Some y) (Some z)) e ∙ ap (λ o. colour_at a o (Some z)) f ∙ ap (λ o. colour_at a b o) g

-- three fields that write numbers
pub colour_is : (fs : List (List ℕ)) (x y z : ℤ) → Some x ≡ first_signed fs → Some y ≡ first_signed (drop 1 fs) →
    Some z ≡ first_signed (drop 1 (drop 1 fs)) → colour_at (Some x) (Some y) (Some z) ≡ first_colour fs
colour_is [] x y z e f g = cc
colour_is (a ∷ []) x y z e f g = cc
colour_is (a ∷ b ∷ []) x y z e f g = cc
colour_is (a ∷ b ∷ c ∷ fs) x y z e f g = at_colour (signed_of a) (signed_of b) (signed_of c) x y z e f g

-- ---- a write

at_write : (a : Option SuiteSlot) (b : Option ℕ) (c : Option Colour) (at : SuiteSlot) (n : ℕ) (x : Colour) →
    Some at ≡ a → Some n ≡ b → Some x ≡ c → Some (Write at n x) ≡ write_at a b c
at_write a b c at n x e f g =
    ap (λ o. write_at o (Some n) (Some x)) e ∙ ap (λ o. write_at a o (Some x)) f ∙ ap (λ o. write_at a b o) g

-- the six fields of a write, with nothing behind them or something
pub write_is : (fs : List (List ℕ)) (at : SuiteSlot) (n : ℕ) (x : Colour) → Some at ≡ first_slot fs →
    Some n ≡ first_number (drop 2 fs) → Some x ≡ first_colour (drop 1 (drop 2 fs)) →
    then_some (is_empty (drop 3 (drop 1 (drop 2 fs)))) (Write at n x) ≡ write_in fs
write_is [] at n x e f g = cc
write_is (a ∷ []) at n x e f g = cc
write_is (a ∷ b ∷ []) at n x e f g = cc
write_is (a ∷ b ∷ c ∷ []) at n x e f g = cc
write_is (a ∷ b ∷ c ∷ p ∷ []) at n x e f g = cc
write_is (a ∷ b ∷ c ∷ p ∷ q ∷ []) at n x e f g = cc
write_is (a ∷ b ∷ c ∷ p ∷ q ∷ r ∷ []) at n x e f g =
    at_write (slot_at (number_of a) (number_of b)) (number_of c) (colour_at (signed_of p) (signed_of q) (signed_of r)) at n x e f g
write_is (a ∷ b ∷ c ∷ p ∷ q ∷ r ∷ f ∷ fs) at n x e f' g = refl

-- ---- a session

-- numbers before those that fields write, if each writes one
abbrev pub numbers_before : List ℕ → Option (List ℕ) → Option (List ℕ)
numbers_before ns o = option_map (λ ms. ns ++ ms) o
