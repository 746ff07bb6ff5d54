-- Bytes that are all zero.
use Rattle.std.specs.Prelude.{◌≡◌, ℕ, ◌+◌, ◌<◌, Bool, true, false, cond, ◌&&◌, List, [], ◌∷◌, length, drop, replicate, Some, None, ◌==◌, ◌≢◌, slice_index, slice_index_or, refl}
use Rattle.std.proofs.Common.{sym, ap, ap₂, ◌∙◌, arith}
use Rattle.number_bytes.proofs.Numbers.{bytes_zeros}
use Rattle.number_bytes.specs.Bytes.{Byte}
use Rattle.cases.specs.Widest.{all_zero, blank_form, blank_reading, packed_touched}
use Rattle.cases.specs.declared.widest.Blank.{Blank}
use Rattle.std.proofs.lemmas.List.{at_drop_more}
use Rattle.std.proofs.lemmas.Bool.{eq-eqb, ne_eqb, eqb-true, and_parts, and_left, cond_both}
use Rattle.std.specs.List.{AllByRecursion}

-- ---- the loop

module _ (bs : List ℕ) (i : ℕ) (inside : i < length bs) (whole : all_zero (drop i bs) ≡ all_zero bs) where
  pub not_zero_here : (slice_index bs i ≢ 0) → false ≡ all_zero bs
  not_zero_here other =
      sym (and_left (slice_index bs i == 0) (all_zero (drop (i + 1) bs)) (ne_eqb (slice_index bs i) 0 other))
      ∙ sym (at_drop_more all_zero bs i 0 inside)
      ∙ whole

  pub zero_later : slice_index_or bs i 0 ≡ 0 → all_zero (drop (i + 1) bs) ≡ all_zero bs
  zero_later is =
      ap (λ b. b && all_zero (drop (i + 1) bs)) (sym (eq-eqb (slice_index bs i) 0 is))
      ∙ sym (at_drop_more all_zero bs i 0 inside)
      ∙ whole

-- ---- the laws

zeros_are : (bs : List ℕ) → all_zero bs ≡ true → bs ≡ replicate (length bs) 0
zeros_are [] h = refl
zeros_are (b ∷ bs) h =
    let both = and_parts (b == 0) (all_zero bs) h in
    ap₂ (λ x xs. x ∷ xs) (eqb-true b 0 both.0) (zeros_are bs both.1)

pub only_blank : (bs : List ℕ) (s : Blank) → blank_reading bs ≡ Some s → bs ≡ blank_form s
only_blank bs s e = by (length bs == 32) (all_zero bs) refl refl e
  where
    by : (wide zero : Bool) → (length bs == 32) ≡ wide → all_zero bs ≡ zero → cond wide (cond zero (Some (record {})) None) None ≡ Some s → bs ≡ replicate 32 0
    by true true w z r = zeros_are bs z ∙ ap (λ n. replicate n 0) (eqb-true (length bs) 32 w)
    by true false w z r = let q : ◌≡◌ {A = ℕ} 0 1 = cc in absurd (omega arith)
    by false zero w z r = let q : ◌≡◌ {A = ℕ} 0 1 = cc in absurd (omega arith)

pub bytes_touched : (ns : List ℕ) → AllByRecursion Byte (packed_touched ns)
bytes_touched ns = (cond_both _ 1 0 Byte (λ _. omega arith) (λ _. omega arith), bytes_zeros 511)
