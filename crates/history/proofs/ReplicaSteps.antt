-- A replica from one move to the next: each step leaves it alone or raises its stamp by one, and a node's newest version stays or is
-- what the move wrote for it.
use Rattle.std.proofs.Common.{◌≡◌, ◌⊎◌, ℕ, zero, suc, ◌+◌, ◌<◌, ◌≤◌, List, [], ◌∷◌, ◌++◌, length, take, slice_get, get_or, Some, None, Option, IsSome, is_some, fold, inl, inr, refl, sym, ap, ◌∙◌, le_of_eq, le_trans, arith}
use Rattle.history.specs.Moves.{Move}
use Rattle.history.specs.Contents.{last_write}
use Rattle.history.proofs.ContentLaws.{own_is_last}
use Rattle.history.proofs.Elements.{take_next}
use Rattle.history.proofs.Replicas.{Replica, newer_version, new_replica, rules_on, after_move, replica, after_commit, Stays, Commits, stays_or_commits}
use Rattle.session.specs.declared.ruling.Outcome.{Outcome}
use Rattle.session.specs.declared.ruling.Outcome.TheVariants.{Commit}
use Rattle.settings.specs.Kinds.{SettingKind}
use Rattle.std.proofs.lemmas.Bool.{cases_eq}
use Rattle.std.proofs.lemmas.List.{take-append-le, take_all}
use Rattle.std.proofs.lemmas.List.Sums.{fold-append}
use Rattle.std.proofs.lemmas.Option.{slice_get_cases}
use Rattle.summaries.specs.Kinds.{SummaryKind}

-- what never falls in one step never falls
grows : (f : ℕ → ℕ) → ((k : ℕ) → f k ≤ f (suc k)) → (j k : ℕ) → j ≤ k → f j ≤ f k
grows f step j zero below = le_of_eq (ap f (omega arith))
grows f step j (suc k) below = go (cases_eq j (suc k)) (grows f step j k)
  where
    go : (j ≡ suc k) ⊎ (j ≡ suc k → ⊥) → (j ≤ k → f j ≤ f k) → f j ≤ f (suc k)
    go (inl same) ih = le_of_eq (ap f same)
    go (inr other) ih = le_trans (ih (omega arith)) (step k)

module _ {T : Type 0} (S : SummaryKind) (K : SettingKind T) (nodes : List ℕ) (ms : List (Move T)) where
  -- the replica after k moves, and how it rules on a move
  abbrev r : ℕ → Replica T
  r k = replica S K nodes ms k

  abbrev ruling : ℕ → Move T → Outcome
  ruling k m = rules_on S K nodes (r k) m

  pub replica_more : (more : List (Move T)) (k : ℕ) → k ≤ length ms → replica S K nodes (ms ++ more) k ≡ r k
  unfolding replica
  replica_more more k inside = ap (fold (after_move S K nodes) (new_replica S K nodes)) (take-append-le k ms more inside)

  pub replica_next : (k : ℕ) (m : Move T) → slice_get ms k ≡ Some m → r (suc k) ≡ after_move S K nodes (r k) m
  unfolding replica
  replica_next k m is =
      ap (fold (after_move S K nodes) (new_replica S K nodes)) (take_next ms k m is)
      ∙ fold-append (after_move S K nodes) (new_replica S K nodes) (take k ms) (m ∷ [])

  -- past the last move nothing changes
  replica_past : (k : ℕ) → length ms ≤ k → r (suc k) ≡ r k
  unfolding replica
  replica_past k past =
      ap (fold (after_move S K nodes) (new_replica S K nodes)) (take_all (suc k) ms (omega arith) ∙ sym (take_all k ms past))

  -- there is a move number k, and it is committed
  abbrev pub Committed : ℕ → Type 0
  Committed k = (m : Move T) × (slice_get ms k ≡ Some m) × (ruling k m ≡ Commit ((r k).stamp + 1)) × (r (suc k) ≡ after_commit S K nodes (r k) m)

  -- the move number k, if there is one, leaves the replica alone or is committed
  pub step : (k : ℕ) → (r (suc k) ≡ r k) ⊎ Committed k
  step k = go (slice_get_cases ms k).1
    where
      go : ((m : Move T) × (k < length ms) × (slice_get ms k ≡ Some m) × (get_or ms k m ≡ m)) ⊎ ((length ms ≤ k) × (slice_get ms k ≡ None)) →
          (r (suc k) ≡ r k) ⊎ Committed k
      go (inr past) = inl (replica_past k past.0)
      go (inl (m, _, is, _)) = by (stays_or_commits S K nodes (r k) m)
        where
          by : Stays S K nodes (r k) m ⊎ Commits S K nodes (r k) m → (r (suc k) ≡ r k) ⊎ Committed k
          by (inl stays) = inl (replica_next k m is ∙ stays)
          by (inr commits) = inr (m, is, commits.0, replica_next k m is ∙ commits.1)

  -- the move number k is committed, and wrote the node, whose newest version this then is
  abbrev Written : ℕ → ℕ → Type 0
  Written k n =
      (m : Move T) × (slice_get ms k ≡ Some m) × (ruling k m ≡ Commit ((r k).stamp + 1)) × ((r (suc k)).stamp ≡ (r k).stamp + 1)
      × (x : T) × (last_write m.calls n ≡ Some x) × ((r (suc k)).newest n ≡ record { stamp = (r k).stamp + 1; setting = x })

  -- a node's newest version stays, or is what the move wrote
  node_step : (k n : ℕ) → ((r (suc k)).newest n ≡ (r k).newest n) ⊎ Written k n
  node_step k n = go (step k)
    where
      go : (r (suc k) ≡ r k) ⊎ Committed k → ((r (suc k)).newest n ≡ (r k).newest n) ⊎ Written k n
      go (inl stays) = inl (ap (λ q. q.newest n) stays)
      go (inr (m, is, ruled, next)) = by (last_write m.calls n) refl
        where
          after : (o : Option T) → last_write m.calls n ≡ o → (r (suc k)).newest n ≡ newer_version ((r k).stamp + 1) o ((r k).newest n)
          after o wrote =
              ap (λ q. q.newest n) next ∙ ap (λ o. newer_version ((r k).stamp + 1) o ((r k).newest n)) (own_is_last m.calls n ∙ wrote)

          by : (o : Option T) → last_write m.calls n ≡ o → ((r (suc k)).newest n ≡ (r k).newest n) ⊎ Written k n
          by None wrote = inl (after None wrote)
          by (Some x) wrote = inr (m, is, ruled, ap (λ q. q.stamp) next, x, wrote, after (Some x) wrote)

  pub stamps_grow : (j k : ℕ) → j ≤ k → (r j).stamp ≤ (r k).stamp
  stamps_grow = grows (λ k. (r k).stamp) (λ k. go k (step k))
    where
      go : (k : ℕ) → (r (suc k) ≡ r k) ⊎ Committed k → (r k).stamp ≤ (r (suc k)).stamp
      go k (inl stays) = omega (arith, ap (λ q. q.stamp) stays)
      go k (inr (m, is, ruled, next)) = omega (arith, ap (λ q. q.stamp) next)

  pub stamp_le : (k : ℕ) → (r k).stamp ≤ k
  unfolding replica
  stamp_le zero = omega arith
  stamp_le (suc k) = go (step k) (stamp_le k)
    where
      go : (r (suc k) ≡ r k) ⊎ Committed k → (r k).stamp ≤ k → (r (suc k)).stamp ≤ suc k
      go (inl stays) low = omega (arith, ap (λ q. q.stamp) stays)
      go (inr (m, is, ruled, next)) low = omega (arith, ap (λ q. q.stamp) next)

  pub newest_le : (k n : ℕ) → ((r k).newest n).stamp ≤ (r k).stamp
  unfolding replica
  newest_le zero n = omega arith
  newest_le (suc k) n = go (node_step k n) (newest_le k n)
    where
      go : ((r (suc k)).newest n ≡ (r k).newest n) ⊎ Written k n → ((r k).newest n).stamp ≤ (r k).stamp → ((r (suc k)).newest n).stamp ≤ (r (suc k)).stamp
      go (inl stays) low = omega (arith, ap (λ p. p.stamp) stays, stamps_grow k (suc k) (omega arith))
      go (inr (m, is, ruled, next, x, wrote, newest)) low = omega (arith, ap (λ p. p.stamp) newest, next)

  pub newest_grow : (n j k : ℕ) → j ≤ k → ((r j).newest n).stamp ≤ ((r k).newest n).stamp
  newest_grow n = grows (λ k. ((r k).newest n).stamp) (λ k. go k (node_step k n))
    where
      go : (k : ℕ) → ((r (suc k)).newest n ≡ (r k).newest n) ⊎ Written k n → ((r k).newest n).stamp ≤ ((r (suc k)).newest n).stamp
      go k (inl stays) = omega (arith, ap (λ p. p.stamp) stays)
      go k (inr (m, is, ruled, next, x, wrote, newest)) = omega (arith, ap (λ p. p.stamp) newest, newest_le k n)

  -- a newest version whose stamp an earlier replica had reached was the newest there
  pub still_newest : (j k n : ℕ) → j ≤ k → ((r k).newest n).stamp ≤ (r j).stamp → (r k).newest n ≡ (r j).newest n
  still_newest j zero n below old = ap (λ i. (r i).newest n) (omega arith)
  still_newest j (suc k) n below old = by (cases_eq j (suc k)) (still_newest j k n)
    where
      go : ((r (suc k)).newest n ≡ (r k).newest n) ⊎ Written k n → j ≤ k → (((r k).newest n).stamp ≤ (r j).stamp → (r k).newest n ≡ (r j).newest n) →
          (r (suc k)).newest n ≡ (r j).newest n
      go (inl stays) low ih = stays ∙ ih (omega (arith, ap (λ p. p.stamp) stays))
      go (inr (m, is, ruled, next, x, wrote, newest)) low ih =
          absurd (omega (arith, ap (λ p. p.stamp) newest, stamps_grow j k low))

      by : (j ≡ suc k) ⊎ (j ≡ suc k → ⊥) → (j ≤ k → ((r k).newest n).stamp ≤ (r j).stamp → (r k).newest n ≡ (r j).newest n) →
          (r (suc k)).newest n ≡ (r j).newest n
      by (inl same) ih = ap (λ i. (r i).newest n) (sym same)
      by (inr other) ih =
          let low : j ≤ k = omega arith in
          go (node_step k n) low (ih low)

  -- each stamp that was reached is that of a move
  pub stamp_reached : (k t : ℕ) → 1 ≤ t → t ≤ (r k).stamp → (j : ℕ) × (j < k) × (m : Move T) × (slice_get ms j ≡ Some m) × (ruling j m ≡ Commit t)
  stamp_reached zero t low high = absurd (omega (arith, stamp_le 0))
  stamp_reached (suc k) t low high = go (step k) (stamp_reached k t low)
    where
      Found : ℕ → Type 0
      Found k = (j : ℕ) × (j < k) × (m : Move T) × (slice_get ms j ≡ Some m) × (ruling j m ≡ Commit t)

      later : Found k → Found (suc k)
      later (j, below, m, is, ruled) = (j, omega arith, m, is, ruled)

      go : (r (suc k) ≡ r k) ⊎ Committed k → (t ≤ (r k).stamp → Found k) → Found (suc k)
      go (inl stays) ih = later (ih (omega (arith, ap (λ q. q.stamp) stays)))
      go (inr (m, is, ruled, next)) ih = by (cases_eq t ((r k).stamp + 1))
        where
          by : (t ≡ (r k).stamp + 1) ⊎ (t ≡ (r k).stamp + 1 → ⊥) → Found (suc k)
          by (inl same) = (k, omega arith, m, is, ruled ∙ ap Commit (sym same))
          by (inr other) = later (ih (omega (arith, ap (λ q. q.stamp) next)))

  -- a newest version with a stamp above another one, so not the starting one, is that of a committed move that wrote the node
  pub last_writer : (k n s : ℕ) → s < ((r k).newest n).stamp →
      (j : ℕ) × (j < k) × (m : Move T) × (slice_get ms j ≡ Some m) × (ruling j m ≡ Commit ((r k).newest n).stamp) × IsSome (last_write m.calls n)
  last_writer zero n s above = absurd (omega (arith, newest_le 0 n, stamp_le 0))
  last_writer (suc k) n s above = go (node_step k n) (last_writer k n s)
    where
      Writer : ℕ → ℕ → Type 0
      Writer k t = (j : ℕ) × (j < k) × (m : Move T) × (slice_get ms j ≡ Some m) × (ruling j m ≡ Commit t) × IsSome (last_write m.calls n)

      later : (t t' : ℕ) → t ≡ t' → Writer k t → Writer (suc k) t'
      later t t' same (j, below, m, is, ruled, wrote) = (j, omega arith, m, is, ruled ∙ ap Commit same, wrote)

      go : ((r (suc k)).newest n ≡ (r k).newest n) ⊎ Written k n → (s < ((r k).newest n).stamp → Writer k ((r k).newest n).stamp) →
          Writer (suc k) ((r (suc k)).newest n).stamp
      go (inl stays) ih =
          let same = ap (λ p. p.stamp) stays in
          later ((r k).newest n).stamp ((r (suc k)).newest n).stamp (sym same) (ih (omega (arith, same)))
      go (inr (m, is, ruled, next, x, wrote, newest)) ih = (k, omega arith, m, is, ruled ∙ ap (λ p. Commit p.stamp) (sym newest), ap is_some wrote)
