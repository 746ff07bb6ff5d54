-- What waits for each suite, of a queue: how it grows and shrinks with the queue, and how much it is for all suites together.
use Rattle.std.proofs.Common.{◌≡◌, ℕ, zero, suc, ◌<◌, Bool, true, false, cond, eqb, List, [], ◌∷◌, ◌++◌, length, get_or, drop, sym, refl, ap, ◌∙◌, arith}
use Rattle.lines.specs.Lines.{with_at}
use Rattle.lines.specs.Orders.{Offered, lane}
use Rattle.lines.specs.Stores.{nothing, FirstOfSuite}
use Rattle.std.proofs.lemmas.Bool.{eqb-true, eq-eqb, ne_eqb, cond-true, cond-false}
use Rattle.std.specs.List.{remove}

-- ---- one more at the end

pub lane_push : (q : List Offered) (o : Offered) (u : ℕ) →
    lane u (q ++ o ∷ []) ≡ with_at (λ v. lane v q) o.suite (lane o.suite q ++ o.message ∷ []) u
unfolding with_at
lane_push q o u = more q ∙ here (eqb u o.suite) refl
  where
    more : (q : List Offered) → lane u (q ++ o ∷ []) ≡ cond (eqb u o.suite) (lane u q ++ o.message ∷ []) (lane u q)
    more [] = refl
    more (p ∷ ps) = by (eqb u p.suite) (eqb u o.suite) (more ps)
      where
        by : (s t : Bool) → lane u (ps ++ o ∷ []) ≡ cond t (lane u ps ++ o.message ∷ []) (lane u ps) →
            cond s (p.message ∷ lane u (ps ++ o ∷ [])) (lane u (ps ++ o ∷ []))
            ≡ cond t (cond s (p.message ∷ lane u ps) (lane u ps) ++ o.message ∷ []) (cond s (p.message ∷ lane u ps) (lane u ps))
        by true true e = ap (λ xs. p.message ∷ xs) e
        by true false e = ap (λ xs. p.message ∷ xs) e
        by false true e = e
        by false false e = e

    here : (t : Bool) → eqb u o.suite ≡ t →
        cond t (lane u q ++ o.message ∷ []) (lane u q) ≡ cond t (lane o.suite q ++ o.message ∷ []) (lane u q)
    here true e = ap (λ v. lane v q ++ o.message ∷ []) (eqb-true u o.suite e)
    here false e = refl

-- ---- the first of its suite taken out

-- its message is the first of its lane
pub lane_first : (q : List Offered) (k : ℕ) → k < length q → FirstOfSuite q k →
    lane (get_or q k nothing).suite q ≡ (get_or q k nothing).message ∷ drop 1 (lane (get_or q k nothing).suite q)
lane_first [] k h first = absurd (omega arith)
lane_first (o ∷ os) zero h first =
    let here : cond (eqb o.suite o.suite) (o.message ∷ lane o.suite os) (lane o.suite os) ≡ o.message ∷ lane o.suite os =
    cond-true _ _ _ (eq-eqb o.suite o.suite refl) in
    here ∙ ap (λ xs. o.message ∷ drop 1 xs) (sym here)
lane_first (o ∷ os) (suc k) h first =
    let s = (get_or os k nothing).suite in
    let other : eqb s o.suite ≡ false = ne_eqb s o.suite (λ e. first 0 (omega arith) (sym e)) in
    let skip : cond (eqb s o.suite) (o.message ∷ lane s os) (lane s os) ≡ lane s os = cond-false _ _ _ other in
    skip ∙ lane_first os k (omega arith) (λ j small e. first (suc j) (omega arith) e)
    ∙ ap (λ xs. (get_or os k nothing).message ∷ drop 1 xs) (sym skip)

pub lane_removed : (q : List Offered) (k u : ℕ) → k < length q → FirstOfSuite q k →
    lane u (remove q k) ≡ with_at (λ v. lane v q) (get_or q k nothing).suite (drop 1 (lane (get_or q k nothing).suite q)) u
unfolding with_at
lane_removed q k u h first = by (eqb u (get_or q k nothing).suite) refl (less q k h first)
  where
    less : (q : List Offered) (k : ℕ) → k < length q → FirstOfSuite q k →
        lane u (remove q k) ≡ cond (eqb u (get_or q k nothing).suite) (drop 1 (lane u q)) (lane u q)
    less [] k h first = absurd (omega arith)
    less (o ∷ os) zero h first = at (eqb u o.suite)
      where
        at : (t : Bool) → lane u os ≡ cond t (drop 1 (cond t (o.message ∷ lane u os) (lane u os))) (cond t (o.message ∷ lane u os) (lane u os))
        at true = refl
        at false = refl
    less (o ∷ os) (suc k) h first =
        at (eqb u o.suite) (eqb u (get_or os k nothing).suite) refl refl (less os k (omega arith) (λ j small e. first (suc j) (omega arith) e))
      where
        at : (s t : Bool) → eqb u o.suite ≡ s → eqb u (get_or os k nothing).suite ≡ t →
            lane u (remove os k) ≡ cond t (drop 1 (lane u os)) (lane u os) →
            cond s (o.message ∷ lane u (remove os k)) (lane u (remove os k))
            ≡ cond t (drop 1 (cond s (o.message ∷ lane u os) (lane u os))) (cond s (o.message ∷ lane u os) (lane u os))
        at true true one two e = absurd (first 0 (omega arith) (sym (eqb-true u o.suite one) ∙ eqb-true u (get_or os k nothing).suite two))
        at true false one two e = ap (λ xs. o.message ∷ xs) e
        at false true one two e = e
        at false false one two e = e

    by : (t : Bool) → eqb u (get_or q k nothing).suite ≡ t → lane u (remove q k) ≡ cond t (drop 1 (lane u q)) (lane u q) →
        lane u (remove q k) ≡ cond t (drop 1 (lane (get_or q k nothing).suite q)) (lane u q)
    by true e h = h ∙ ap (λ v. drop 1 (lane v q)) (eqb-true u (get_or q k nothing).suite e)
    by false e h = h
