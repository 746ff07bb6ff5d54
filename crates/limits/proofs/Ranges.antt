-- What the test `outside` says, each way.
use Rattle.std.proofs.Common.{◌≡◌, ℕ, zero, suc, ◌≤◌, false, eqb, ltb, refl, arith}
use Rattle.std.proofs.lemmas.Bool.{eqb-false, ltb-false, ne_eqb, le-ltb, or_from, or_parts}
use Rattle.limits.specs.Limits.{outside}

pub not_outside_from : (most n : ℕ) → 1 ≤ n → n ≤ most → outside most n ≡ false
not_outside_from most n low high = or_from (eqb n 0) (ltb most n) (ne_eqb n 0 (λ e. omega arith)) (le-ltb most n high)

pub not_outside : (most n : ℕ) → outside most n ≡ false → (1 ≤ n) × (n ≤ most)
not_outside most n h =
    let parts = or_parts (eqb n 0) (ltb most n) h in
    let some : n ≡ 0 → ⊥ = eqb-false n 0 parts.0 in
    (by n some, ltb-false most n parts.1)
  where
    by : (k : ℕ) → (k ≡ 0 → ⊥) → 1 ≤ k
    by zero other = absurd (other refl)
    by (suc k) other = omega arith
