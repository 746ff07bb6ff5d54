-- Filling a list from the front.
use Rattle.std.proofs.Common.{◌≡◌, ℕ, zero, suc, ◌+◌, ◌<◌, List, [], ◌∷◌, ◌++◌, length, drop, set, replicate, refl, ap, ◌∙◌, arith}

-- one element more
pub filled_more : {X : Type 0} (n : ℕ) (v : X) (xs : List X) → n < length xs →
    set (replicate n v ++ drop n xs) n v ≡ replicate (n + 1) v ++ drop (n + 1) xs
filled_more n v [] there = absurd (omega arith)
filled_more zero v (x ∷ xs) there = refl
filled_more (suc n) v (x ∷ xs) there =
    let next : suc (n + 1) ≡ suc n + 1 = omega arith in
    ap (λ ys. v ∷ ys) (filled_more n v xs (omega arith)) ∙ ap (λ k. replicate k v ++ drop k (x ∷ xs)) next
