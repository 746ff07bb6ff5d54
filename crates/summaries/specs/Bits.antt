-- One bit of a number, and one bit of a list of bytes: what setting one does to each.
use Rattle.std.specs.Prelude.{◌≡◌, ℕ, ◌/◌, ◌%◌, ◌^◌, ◌<◌, ◌||◌, ◌⊎◌, List, length, ◌==◌, ◌≢◌, bit_or, nat_eq, slice_index}
use Rattle.std.proofs.Common.{inl, inr, sym, ap, ◌∙◌, arith}
use Rattle.std.proofs.lemmas.Nat.Bits.{bit_at_or, bit_at-lt, bit_at-pow_same, bit_at-pow_other}
use Rattle.std.proofs.lemmas.Nat.{or_shr, or_mod}
use Rattle.std.proofs.lemmas.List.{get_or-set_same, get_or-set_other}
use Rattle.std.proofs.lemmas.Bool.{cases_eq, eq-eqb, ne_eqb}
use Rattle.summaries.specs.Blooms.{with_bit, has_bit}

-- bit s of x with bit r set
bit_of_or : (x r s : ℕ) → bit_or x (2 ^ r) / 2 ^ s % 2 ≡ bit_or (x / 2 ^ s % 2) (2 ^ r / 2 ^ s % 2)
bit_of_or x r s = ap (λ n. n % 2) (or_shr x (2 ^ r) s) ∙ or_mod (x / 2 ^ s) (2 ^ r / 2 ^ s) 1

-- one bit, and with 1 or 0
bit_below : (n : ℕ) → (n % 2 ≡ 0) ⊎ (n % 2 ≡ 1)
bit_below n = by (cases_eq (n % 2) 0)
  where
    by : (n % 2 ≡ 0) ⊎ (n % 2 ≢ 0) → (n % 2 ≡ 0) ⊎ (n % 2 ≡ 1)
    by (inl e) = inl e
    by (inr other) = inr (omega arith)

or_one : (n : ℕ) → bit_or (n % 2) 1 ≡ 1
or_one n = by (bit_below n)
  where
    by : (n % 2 ≡ 0) ⊎ (n % 2 ≡ 1) → bit_or (n % 2) 1 ≡ 1
    by (inl e) = ap (λ m. bit_or m 1) e
    by (inr e) = ap (λ m. bit_or m 1) e

or_zero : (n : ℕ) → bit_or (n % 2) 0 ≡ n % 2
or_zero n = by (bit_below n)
  where
    by : (n % 2 ≡ 0) ⊎ (n % 2 ≡ 1) → bit_or (n % 2) 0 ≡ n % 2
    by (inl e) = ap (λ m. bit_or m 0) e ∙ sym e
    by (inr e) = ap (λ m. bit_or m 0) e ∙ sym e

-- x with bit r set: that bit, and another
same_bit : (x r : ℕ) → bit_or x (2 ^ r) / 2 ^ r % 2 ≡ 1
same_bit x r = omega (arith, bit_at_or x (2 ^ r) r, bit_at-pow_same r, bit_at-lt x r)

other_bit : (x r s : ℕ) → (r ≢ s) → bit_or x (2 ^ r) / 2 ^ s % 2 ≡ x / 2 ^ s % 2
other_bit x r s apart = omega (arith, bit_at_or x (2 ^ r) s, bit_at-pow_other r s (λ e. apart (sym e)))

-- setting bit p sets that bit and no other
pub bit_with : (q p : ℕ) (bs : List ℕ) → p / 8 < length bs → has_bit q (with_bit p bs) ≡ (q == p || has_bit q bs)
bit_with q p bs inside = by (cases_eq (q / 8) (p / 8)) (cases_eq (p % 8) (q % 8))
  where
    old : ℕ
    old = slice_index bs (p / 8)

    new : ℕ
    new = bit_or old (2 ^ (p % 8))

    by : (q / 8 ≡ p / 8) ⊎ (q / 8 ≢ p / 8) → (p % 8 ≡ q % 8) ⊎ (p % 8 ≢ q % 8) →
        has_bit q (with_bit p bs) ≡ (q == p || has_bit q bs)
    by (inr apart) either =
        let differ : q ≡ p → ⊥ = λ e. apart (ap (λ n. n / 8) e) in
        ap (λ n. nat_eq (n / 2 ^ (q % 8) % 2) 1) (get_or-set_other bs (p / 8) (q / 8) new 0 apart)
        ∙ ap (λ b. b || has_bit q bs) (sym (ne_eqb q p differ))
    by (inl here) (inl bit) =
        let same : q ≡ p = omega arith in
        ap (λ k. nat_eq (slice_index (with_bit p bs) k / 2 ^ (q % 8) % 2) 1) here
        ∙ ap (λ n. nat_eq (n / 2 ^ (q % 8) % 2) 1) (get_or-set_same bs (p / 8) new 0 inside)
        ∙ ap (λ k. nat_eq (new / 2 ^ k % 2) 1) (sym bit)
        ∙ ap (λ n. nat_eq n 1) (same_bit old (p % 8))
        ∙ ap (λ b. b || has_bit q bs) (sym (eq-eqb q p same))
    by (inl here) (inr apart) =
        let differ : q ≡ p → ⊥ = λ e. apart (ap (λ n. n % 8) (sym e)) in
        ap (λ k. nat_eq (slice_index (with_bit p bs) k / 2 ^ (q % 8) % 2) 1) here
        ∙ ap (λ n. nat_eq (n / 2 ^ (q % 8) % 2) 1) (get_or-set_same bs (p / 8) new 0 inside)
        ∙ ap (λ n. nat_eq n 1) (other_bit old (p % 8) (q % 8) apart)
        ∙ ap (λ k. nat_eq (slice_index bs k / 2 ^ (q % 8) % 2) 1) (sym here)
        ∙ ap (λ b. b || has_bit q bs) (sym (ne_eqb q p differ))
