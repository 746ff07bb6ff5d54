-- What commits mean for a replica: a stamp belongs to one move, a move that read what the replica had at its snapshot reads the same of
-- the replica that commits it, and a replica's newest versions are the one copy of its stamp.
use Rattle.std.proofs.Common.{◌≡◌, ◌⊎◌, ℕ, zero, suc, ◌+◌, ◌<◌, ◌≤◌, true, List, length, slice_get, Some, None, Option, IsSome, is_some, unwrap_or, inl, inr, refl, sym, ap, ap₂, ◌∙◌, subst, add-one, arith}
use Rattle.history.specs.Copies.{done_on, ReadsOn, fed, copy}
use Rattle.history.specs.Events.{Event}
use Rattle.history.specs.Moves.{Move, agreed, committed_position, committed_move}
use Rattle.history.proofs.ContentLaws.{own_is_last, done_is, reads_carried}
use Rattle.history.specs.Contents.{last_write, reads_of, writes_of}
use Rattle.history.proofs.ReplicaSteps.{replica_next, Committed, step, stamps_grow, newest_grow, still_newest}
use Rattle.history.proofs.Replicas.{Replica, newer_version, applied, rules_on, after_move, replica, commit_stamp, no_clash}
use Rattle.session.specs.Slots.{own}
use Rattle.session.specs.declared.ruling.Outcome.{Outcome}
use Rattle.session.specs.declared.ruling.Outcome.TheVariants.{Commit}
use Rattle.settings.specs.Kinds.{SettingKind}
use Rattle.std.proofs.ByRecursion.{all-has}
use Rattle.std.proofs.lemmas.Bool.{cases_order}
use Rattle.std.specs.List.{ContainsAt, AllByRecursion}
use Rattle.std.specs.Option.{option_and_then}
use Rattle.summaries.specs.Kinds.{SummaryKind}

module _ {T : Type 0} (S : SummaryKind) (K : SettingKind T) (nodes : List ℕ) (ms : List (Move T)) where
  -- the replica after k moves, and how it rules on a move
  abbrev r : ℕ → Replica T
  r k = replica S K nodes ms k

  abbrev ruling : ℕ → Move T → Outcome
  ruling k m = rules_on S K nodes (r k) m

  pub commit_next : (k t : ℕ) (m : Move T) → slice_get ms k ≡ Some m → ruling k m ≡ Commit t →
      r (suc k) ≡ applied (Commit t) (r k) (writes_of m.calls)
  unfolding after_move
  commit_next k t m is ruled = replica_next S K nodes ms k m is ∙ ap (λ o. applied o (r k) (writes_of m.calls)) ruled

  -- no two moves are committed under one stamp
  pub commit_once : (j k t : ℕ) (m m' : Move T) → slice_get ms j ≡ Some m → ruling j m ≡ Commit t →
      slice_get ms k ≡ Some m' → ruling k m' ≡ Commit t → j ≡ k
  commit_once j k t m m' is ruled is' ruled' = go (cases_order j k)
    where
      -- a commit after one under t is under a higher stamp
      above : (i l : ℕ) (a b : Move T) → i < l → slice_get ms i ≡ Some a → ruling i a ≡ Commit t → ruling l b ≡ Commit t → ⊥
      above i l a b low is ruled ruled' =
          omega (arith, ap (λ q. q.stamp) (commit_next i t a is ruled), stamps_grow S K nodes ms (suc i) l low, commit_stamp S K nodes (r l) b t ruled')

      go : (j ≡ k) ⊎ ((j < k) ⊎ (k < j)) → j ≡ k
      go (inl same) = same
      go (inr (inl low)) = absurd (above j k m m' low is ruled ruled')
      go (inr (inr high)) = absurd (above k j m' m high is' ruled' ruled)

  -- a node's newest version is no older than any commit that wrote the node
  pub writer_below : (j k t n : ℕ) (m : Move T) → slice_get ms j ≡ Some m → j < k → k ≤ length ms → ruling j m ≡ Commit t →
      IsSome (last_write m.calls n) → t ≤ ((r k).newest n).stamp
  writer_below j k t n m is low inside ruled wrote =
      let next = ap (λ q. (q.newest n).stamp) (commit_next j t m is ruled) in
      let own_stamp = go (own (writes_of m.calls) n) (ap is_some (own_is_last m.calls n) ∙ wrote) in
      omega (arith, next, own_stamp, newest_grow S K nodes ms n (suc j) k low)
    where
      go : (o : Option T) → IsSome o → (newer_version t o ((r j).newest n)).stamp ≡ t
      go None some = absurd (cc)
      go (Some x) some = refl

  -- a move that read, of the replica at its snapshot, what it is after_check against later, reads the same of the later one
  pub serial_reads : (j k t : ℕ) (m : Move T) → j ≤ k → ruling k m ≡ Commit t → m.snapshot ≡ (r j).stamp →
      ReadsOn (λ n. ((r j).newest n).setting) m.calls → AllByRecursion (ContainsAt nodes) (reads_of m.calls) →
      ((n : ℕ) → ContainsAt (reads_of m.calls) n → S.names (S.packed (reads_of m.calls)) n ≡ true) →
      ReadsOn (λ n. ((r k).newest n).setting) m.calls
  serial_reads j k t m low ruled snapshot reads there named =
      reads_carried (λ n. ((r j).newest n).setting) (λ n. ((r k).newest n).setting) m.calls reads (λ n has.
      let fresh = no_clash S K nodes (r k) m t n ruled (all-has (ContainsAt nodes) (reads_of m.calls) n there has) (named n has) in
      ap (λ p. p.setting) (sym (still_newest S K nodes ms j k n low (omega arith))))

-- ---- the one copy

module _ {T : Type 0} (K : SettingKind T) (es : List (Event T)) where
  -- the copy after one more stamp
  pub copy_next : (t : ℕ) (m : Move T) → committed_move es (suc t) ≡ Some m → copy K es (suc t) ≡ done_on (copy K es t) m.calls
  unfolding copy
  copy_next t m is = ap (fed (copy K es t)) is

module _ {T : Type 0} (S : SummaryKind) (K : SettingKind T) (nodes : List ℕ) (es : List (Event T)) where
  abbrev at_copy : ℕ → Replica T
  at_copy k = replica S K nodes (agreed es) k

  -- where every commit is with_outcome under its stamp, the newest settings are the copy of the replica's stamp
  pub copy_is : (k : ℕ) → k ≤ length (agreed es) →
      ((j : ℕ) (m : Move T) (t : ℕ) → j < k → slice_get (agreed es) j ≡ Some m → rules_on S K nodes (at_copy j) m ≡ Commit t → committed_position es t ≡ Some j) →
      (n : ℕ) → copy K es (at_copy k).stamp n ≡ ((at_copy k).newest n).setting
  unfolding copy replica
  copy_is zero inside placed n = refl
  copy_is (suc k) inside placed n =
      go (step S K nodes (agreed es) k) (copy_is k (omega arith) (λ j m t low is ruled. placed j m t (omega arith) is ruled) n)
    where
      go : (at_copy (suc k) ≡ at_copy k) ⊎ Committed S K nodes (agreed es) k → copy K es (at_copy k).stamp n ≡ ((at_copy k).newest n).setting →
          copy K es (at_copy (suc k)).stamp n ≡ ((at_copy (suc k)).newest n).setting
      go (inl stays) ih = subst (λ q. copy K es q.stamp n ≡ (q.newest n).setting) (sym stays) ih
      go (inr (m, is, ruled, next)) ih =
          let t = (at_copy k).stamp in
          let with_outcome : committed_position es (suc t) ≡ Some k = ap (committed_position es) (sym (add-one t)) ∙ placed k m (t + 1) (omega arith) is ruled in
          let here : committed_move es (suc t) ≡ Some m = ap (option_and_then (slice_get (agreed es))) with_outcome ∙ is in
          ap (λ q. copy K es q.stamp n) next
          ∙ ap (λ t. copy K es t n) (add-one t)
          ∙ ap (λ c. c n) (copy_next K es t m here)
          ∙ done_is (copy K es t) m.calls n
          ∙ ap₂ unwrap_or (sym (own_is_last m.calls n)) ih
          ∙ newer (own (writes_of m.calls) n)
          ∙ ap (λ q. (q.newest n).setting) (sym next)
        where
          newer : (o : Option T) → unwrap_or o ((at_copy k).newest n).setting ≡ (newer_version ((at_copy k).stamp + 1) o ((at_copy k).newest n)).setting
          newer None = refl
          newer (Some x) = refl
