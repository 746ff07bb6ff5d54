-- What a move has read and written, and its calls done on a copy: the writes are each node's latest setting, no node twice, and what
-- the calls read of a copy rests on the nodes among the reads alone.
use Rattle.std.proofs.Common.{◌≡◌, ℕ, Bool, true, false, cond, eqb, List, [], ◌∷◌, map, Some, None, Option, unwrap_or, eqb-true, eq-eqb, ne_eqb, refl, sym, ap, ◌∙◌, subst, arith}
use Rattle.history.specs.Copies.{done_on, ReadsOn}
use Rattle.history.specs.Events.{Did, began, read, wrote, closed, abandoned, collected}
use Rattle.history.specs.Contents.{last_write}
use Rattle.history.specs.Contents.{reads_of, writes_of}
use Rattle.session.proofs.Entering.{entered_has, entered_keeps, Different_entered, own_with_write, nodes_with_write}
use Rattle.lines.specs.Lines.{with_at}
use Rattle.messages.specs.Returning.{Different}
use Rattle.session.specs.Slots.{own, entered}
use Rattle.std.proofs.lemmas.Bool.{eqb-false, cond-true, cond-false}
use Rattle.std.specs.List.{ContainsAt}

eqb-turned : (m n : ℕ) → eqb m n ≡ eqb n m
eqb-turned m n = go (eqb n m) refl
  where
    go : (b : Bool) → eqb n m ≡ b → eqb m n ≡ b
    go true same = eq-eqb m n (sym (eqb-true n m same))
    go false other = ne_eqb m n (λ same. eqb-false n m other (sym same))

module _ {T : Type 0} where
  pub own_is_last : (ds : List (Did T)) (n : ℕ) → own (writes_of ds) n ≡ last_write ds n
  unfolding writes_of last_write
  own_is_last [] n = refl
  own_is_last (began snapshot ∷ ds) n = own_is_last ds n
  own_is_last (read m x ∷ ds) n = own_is_last ds n
  own_is_last (wrote m x ∷ ds) n = own_with_write (writes_of ds) m x n ∙ ap (cond (eqb m n) (Some x)) (own_is_last ds n)
  own_is_last (closed answer ∷ ds) n = own_is_last ds n
  own_is_last (abandoned ∷ ds) n = own_is_last ds n
  own_is_last (collected outcome ∷ ds) n = own_is_last ds n

  pub done_is : (c : ℕ → T) (ds : List (Did T)) (n : ℕ) → done_on c ds n ≡ unwrap_or (last_write ds n) (c n)
  unfolding done_on last_write with_at
  done_is c [] n = refl
  done_is c (began snapshot ∷ ds) n = done_is c ds n
  done_is c (read m x ∷ ds) n = done_is c ds n
  done_is c (wrote m x ∷ ds) n = go (eqb m n) (eqb-turned n m) (done_is c ds n)
    where
      go : (b : Bool) → eqb n m ≡ b → done_on c ds n ≡ unwrap_or (last_write ds n) (c n) →
          cond (eqb n m) x (done_on c ds n) ≡ unwrap_or (cond b (Some x) (last_write ds n)) (c n)
      go true same ih = cond-true (eqb n m) x (done_on c ds n) same
      go false same ih = cond-false (eqb n m) x (done_on c ds n) same ∙ ih
  done_is c (closed answer ∷ ds) n = done_is c ds n
  done_is c (abandoned ∷ ds) n = done_is c ds n
  done_is c (collected outcome ∷ ds) n = done_is c ds n

  -- on another copy that has the same settings of the nodes among the reads, the calls read the same
  pub reads_carried : (c c' : ℕ → T) (ds : List (Did T)) → ReadsOn c ds → ((n : ℕ) → ContainsAt (reads_of ds) n → c n ≡ c' n) → ReadsOn c' ds
  unfolding reads_of
  reads_carried c c' [] reads alike = tt
  reads_carried c c' (began snapshot ∷ ds) reads alike = reads_carried c c' ds reads alike
  reads_carried c c' (read m x ∷ ds) reads alike = (
    reads.0 ∙ done_is c ds m ∙ go (last_write ds m) (alike m) ∙ sym (done_is c' ds m),
    reads_carried c c' ds reads.1 (λ n has. alike n (entered_keeps (reads_of ds) m n (last_write ds m) has)),
  )
    where
      go : (o : Option T) → (ContainsAt (entered (reads_of ds) m o) m → c m ≡ c' m) → unwrap_or o (c m) ≡ unwrap_or o (c' m)
      go None same = same (entered_has T (reads_of ds) m)
      go (Some y) same = refl
  reads_carried c c' (wrote m x ∷ ds) reads alike = reads_carried c c' ds reads alike
  reads_carried c c' (closed answer ∷ ds) reads alike = reads_carried c c' ds reads alike
  reads_carried c c' (abandoned ∷ ds) reads alike = reads_carried c c' ds reads alike
  reads_carried c c' (collected outcome ∷ ds) reads alike = reads_carried c c' ds reads alike

  pub writes_different : (ds : List (Did T)) → Different (map (λ w. w.node) (writes_of ds))
  unfolding writes_of
  writes_different [] = λ i j below inside _. omega arith
  writes_different (began snapshot ∷ ds) = writes_different ds
  writes_different (read m x ∷ ds) = writes_different ds
  writes_different (wrote m x ∷ ds) =
      subst Different (sym (nodes_with_write (writes_of ds) m x)) (Different_entered {T = T} (map (λ w. w.node) (writes_of ds)) m None (writes_different ds))
  writes_different (closed answer ∷ ds) = writes_different ds
  writes_different (abandoned ∷ ds) = writes_different ds
  writes_different (collected outcome ∷ ds) = writes_different ds
