-- What a command prints, read: the command.
use Rattle.std.proofs.Common.{◌≡◌, ℕ, ◌∷◌, [], List, false, Some, refl, ap, ap₂, ◌∙◌, decimal, map}
use Rattle.std.specs.Fmt.{signed_decimal}
use Rattle.std.specs.Int.{w32}
use Rattle.std.specs.List.{AllByRecursion}
use Rattle.std.specs.Option.{option_map}
use Rattle.std.proofs.lemmas.Int.{to_z-of_z}
use mir.Val.{of_z}
use Rattle.bench_lines.specs.Commands.{Asked, session, call, colour_at, slot_at, read_at, write_at, make_at, number_before, numbers_of, asked_by, command_of}
use Rattle.bench_lines.specs.Printing.{setting_words, call_words, asked_words, asked_text, IsNumber, IsSlot, IsCall, IsAsked}
use Rattle.bench_lines.proofs.Numerals.{number_returns, signed_returns}
use Rattle.bench_lines.proofs.Words.{Word, fields_of_words, number_word, signed_word, number_words}
use Rattle.history.specs.declared.call.Call.{Call}
use Rattle.history.specs.declared.call.Call.TheVariants.{Begin, Read, Write, Commit, Abandon, Collect, Settle, Take}
use Rattle.session.specs.declared.suite_slot.SuiteSlot.{SuiteSlot}
use Rattle.settings.specs.Colours.{colour_of}
use Rattle.settings.specs.Same.{same_colour}
use Rattle.settings.specs.declared.colour.Colour.{Colour}
use Rattle.texts.specs.Texts.{is_empty, number_of, signed_of}

-- ---- the parts

slot_returns : (at : SuiteSlot) → IsSlot at → slot_at (number_of (decimal at.suite)) (number_of (decimal at.slot)) ≡ Some at
slot_returns at h = ap₂ slot_at (number_returns at.suite h.0) (number_returns at.slot h.1)

pub colour_returns : (c : Colour) →
    colour_at (signed_of (signed_decimal c.lift)) (signed_of (signed_decimal c.gamma)) (signed_of (signed_decimal c.gain)) ≡ Some c
colour_returns c =
    let x = of_z w32 in
    ap₂ (λ a b. colour_at a b (signed_of (signed_decimal c.gain))) (signed_returns c.lift c.lift_fits) (signed_returns c.gamma c.gamma_fits)
    ∙ ap (λ o. colour_at (Some c.lift) (Some c.gamma) o) (signed_returns c.gain c.gain_fits)
    ∙ ap Some (same_colour (colour_of (x c.lift) (x c.gamma) (x c.gain)) c
    (to_z-of_z w32 c.lift (record { sfits = c.lift_fits }))
    (to_z-of_z w32 c.gamma (record { sfits = c.gamma_fits }))
    (to_z-of_z w32 c.gain (record { sfits = c.gain_fits })))

numbers_return : (ns : List ℕ) → AllByRecursion IsNumber ns → numbers_of (map decimal ns) ≡ Some ns
numbers_return [] h = refl
numbers_return (n ∷ ns) h = ap₂ number_before (number_returns n h.0) (numbers_return ns h.1)

-- ---- the words of a command, read

call_returns : (c : Call Colour) → IsCall c → asked_by (call_words c) ≡ Some (call c)
call_returns (Begin at) h = ap (λ o. option_map call (option_map Begin o)) (slot_returns at h)
call_returns (Read at n) h = ap₂ (λ o m. option_map call (read_at o m)) (slot_returns at h.0) (number_returns n h.1)
call_returns (Write at n c) h =
    ap₂ (λ o m. option_map call (write_at o m (colour_at (signed_of (signed_decimal c.lift)) (signed_of (signed_decimal c.gamma)) (signed_of (signed_decimal c.gain)))))
    (slot_returns at h.0) (number_returns n h.1)
    ∙ ap (λ o. option_map call (write_at (Some at) (Some n) o)) (colour_returns c)
call_returns (Commit at) h = ap (λ o. option_map call (option_map Commit o)) (slot_returns at h)
call_returns (Abandon at) h = ap (λ o. option_map call (option_map Abandon o)) (slot_returns at h)
call_returns (Collect at) h = ap (λ o. option_map call (option_map Collect o)) (slot_returns at h)
call_returns Settle h = refl
call_returns (Take suite) h = ap (λ o. option_map call (option_map Take o)) (number_returns suite h)

asked_returns : (a : Asked) → IsAsked a → asked_by (asked_words a) ≡ Some a
asked_returns (session suites nodes) h = ap₂ make_at (number_returns suites h.0) (numbers_return nodes h.1)
asked_returns (call c) h = call_returns c h

-- ---- the words of a command are its fields

-- the words of a slot, before other words
slot_then : (at : SuiteSlot) (ws : List (List ℕ)) → IsSlot at → AllByRecursion Word ws →
    AllByRecursion Word (decimal at.suite ∷ decimal at.slot ∷ ws)
slot_then at ws h rest = (number_word at.suite h.0, (number_word at.slot h.1, rest))

pub setting_has_words : (c : Colour) → AllByRecursion Word (setting_words c)
setting_has_words c =
    (signed_word c.lift c.lift_fits, (signed_word c.gamma c.gamma_fits, (signed_word c.gain c.gain_fits, tt)))

call_has_words : (c : Call Colour) → IsCall c → AllByRecursion Word (call_words c) × (is_empty (call_words c) ≡ false)
call_has_words (Begin at) h = ((refl, slot_then at [] h tt), refl)
call_has_words (Read at n) h = ((refl, slot_then at (decimal n ∷ []) h.0 (number_word n h.1, tt)), refl)
call_has_words (Write at n c) h = ((refl, slot_then at (decimal n ∷ setting_words c) h.0 (number_word n h.1, setting_has_words c)), refl)
call_has_words (Commit at) h = ((refl, slot_then at [] h tt), refl)
call_has_words (Abandon at) h = ((refl, slot_then at [] h tt), refl)
call_has_words (Collect at) h = ((refl, slot_then at [] h tt), refl)
call_has_words Settle h = ((refl, tt), refl)
call_has_words (Take suite) h = ((refl, (number_word suite h, tt)), refl)

has_words : (a : Asked) → IsAsked a → AllByRecursion Word (asked_words a) × (is_empty (asked_words a) ≡ false)
has_words (session suites nodes) h = ((refl, (number_word suites h.0, number_words nodes h.1)), refl)
has_words (call c) h = call_has_words c h

pub command_returns : (a : Asked) → IsAsked a → command_of (asked_text a) ≡ Some a
command_returns a h =
    let words = has_words a h in
    ap asked_by (fields_of_words (asked_words a) words.0 words.1) ∙ asked_returns a h
