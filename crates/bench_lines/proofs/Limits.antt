-- Lines with a limit on their bytes.
use Rattle.std.proofs.Common.{◌≡◌, ℕ, ◌≤◌, Bool, true, false, cond, ltb, leb, List, length, take, Some, None, Option, Ok, Err, Result, IfOk, refl, sym, ap, ◌∙◌, take_all}
use Rattle.std.proofs.lemmas.Bool.{ltb-true, ltb-false, le-leb, lt-leb, cond-true, cond-false}
use Rattle.std.specs.Option.{option_map}
use Rattle.std.specs.Prelude.{option_and_then}
use Rattle.bench_lines.specs.Commands.{Asked, asked, command_of, gathered_asks, line_asks}
use Rattle.bench_lines.specs.declared.command.Command.{Command}
use Rattle.bench_lines.specs.Printing.{asked_text, IsAsked}
use Rattle.bench_lines.proofs.Returning.{command_returns}
use Rattle.texts.specs.Buffers.{Gathered, gathered_of, whole_line}

pub within : (text : List ℕ) → length text ≤ 1400 → line_asks text ≡ command_of text
within text h = cond-true (leb (length text) 1400) _ _ (le-leb _ _ h)

pub gathered_line : (text : List ℕ) → gathered_asks (gathered_of 1400 text) ≡ line_asks text
gathered_line text = go (ltb 1400 (length text)) refl
  where
    go : (over : Bool) → ltb 1400 (length text) ≡ over → option_and_then command_of (cond over None (Some (take 1400 text))) ≡ line_asks text
    go true e = sym (cond-false (leb (length text) 1400) _ _ (lt-leb _ _ (ltb-true _ _ e)))
    go false e = ap command_of (take_all 1400 text (ltb-false _ _ e)) ∙ sym (within text (ltb-false _ _ e))

pub limited_returns : (a : Asked) → IsAsked a → length (asked_text a) ≤ 1400 → line_asks (asked_text a) ≡ Some a
limited_returns a h fits = within (asked_text a) fits ∙ command_returns a h

-- what was read of a line that is gathered
pub limited_read : {E : Type 0} (r : Result (Option Command) E) (line : Gathered) (bytes text : List ℕ) →
    IfOk r (λ c. option_map asked c ≡ command_of bytes) → Some bytes ≡ whole_line line → line ≡ gathered_of 1400 text →
    IfOk r (λ c. option_map asked c ≡ line_asks text)
limited_read (Ok c) line bytes text e whole is = e ∙ ap (option_and_then command_of) whole ∙ ap gathered_asks is ∙ gathered_line text
limited_read (Err e) line bytes text h whole is = tt
