-- The bytes of a summary that tells only whether anything was read.
use Rattle.std.proofs.Common.{◌≡◌, ℕ, ◌≤◌, Bool, true, false, cond, not, eqb, ltb, List, length, replicate, slice_set, eq-eqb, sym, ap, ap₂, ◌∙◌, arith}
use Rattle.std.proofs.lemmas.Bool.{le-leb, le-ltb, lt-ltb, cond-true, cond-false, eqb-true, eqb-false, and_from}
use Rattle.std.specs.Int.{from_bool}
use Rattle.limits.specs.Limits.{most_reads}
use Rattle.summaries.specs.Calls.{packs, pack_region}
use Rattle.cases.specs.Widest.{touched}

-- few nodes are packed into a region of the width
pub packs_few : (ns region : List ℕ) → length ns ≤ most_reads → length region ≡ 512 → packs touched ns region ≡ true
packs_few ns region few wide = and_from _ _ (le-leb _ _ few) (eq-eqb _ _ wide)

-- whether a list of n elements is not empty, as a byte
pub some_byte : (n : ℕ) (none : Bool) → none ≡ eqb n 0 → from_bool (not none) ≡ cond (ltb 0 n) 1 0
some_byte n true e = sym (cond-false _ 1 0 (le-ltb 0 n (omega (arith, eqb-true n 0 (sym e)))))
some_byte n false e = sym (cond-true _ 1 0 (lt-ltb 0 n (omega (arith, eqb-false n 0 (sym e)))))

-- zeros whose first is set so are what the nodes leave of it
pub first_set : (ns region bytes : List ℕ) (first : ℕ) → packs touched ns region ≡ true → length region ≡ 512 →
    bytes ≡ replicate (length region) 0 → first ≡ cond (ltb 0 (length ns)) 1 0 → slice_set bytes 0 first ≡ pack_region touched ns region
first_set ns region bytes first packed wide zeros is =
    ap₂ (λ xs b. slice_set xs 0 b) (zeros ∙ ap (λ n. replicate n 0) wide) is
    ∙ sym (ap (λ t. cond t (touched.packed ns) region) packed)
