use Rattle.std.proofs.Common.{◌≡◌, ℕ, ◌+◌, ◌*◌, ◌%◌, ◌∙◌, EachIndex, slice_index, Bor, arith, rules}
use Rattle.summaries.specs.BloomLaws.{position_is, position_below}
use Rattle.summaries.specs.Blooms.{position}
use Rattle.summaries.proofs.Filled.{filled}
use Rattle.summaries.proofs.bloom.positions.Goals as goal

pub returns : goal.returns
returns c =
    let n = c.args.node in
    let are : EachIndex c.from_fn.result (λ i. slice_index c.from_fn.result i ≡ position n i) =
    filled {F = Bor ℕ × Bor ℕ} (position n) (λ p. (p.0.now ≡ c.murmur2-a.result) × (p.1.now ≡ c.murmur2-b.result)) (λ p q i y same called.
    let y_is : y ≡ (p.0.now + i * p.1.now) % 512 = search rules in
    (y_is ∙ position_is n i _ _ (same.0 ∙ c.murmur2-a.ensures) (same.1 ∙ search rules), search rules)) _
    c.from_fn.result 12 (search rules) c.from_fn.ensures.items in
    record { are = are; below = λ i inside. omega (arith, are i inside, position_below n i) }
