-- A replica by what certification needs of it: its stamp, and each node's newest version. After k agreed messages it is the same
-- wherever they are taken.
use Rattle.session.proofs.Finding.{none_passes}
use Rattle.std.specs.Prelude.{find}
use Rattle.std.proofs.Common.{◌≡◌, ◌⊎◌, ℕ, ◌+◌, ◌≤◌, Bool, true, false, ◌&&◌, ltb, List, take, Some, None, Option, fold, inl, inr, refl, sym, ap, ◌∙◌}
use Rattle.history.specs.Moves.{Move}
use Rattle.history.specs.Contents.{reads_of, writes_of}
use Rattle.messages.specs.declared.parts.Write.{Write}
use Rattle.session.specs.Slots.{own}
use Rattle.session.specs.Takes.{decided}
use Rattle.session.specs.declared.place.Place.{Place}
use Rattle.session.specs.declared.ruling.Outcome.{Outcome}
use Rattle.session.specs.declared.ruling.Outcome.TheVariants.{Clash, Commit}
use Rattle.settings.specs.Kinds.{SettingKind}
use Rattle.std.proofs.ByRecursion.{all-has}
use Rattle.std.proofs.Math.Bool.{and-true}
use Rattle.std.proofs.lemmas.Bool.{ltb-false}
use Rattle.std.specs.List.{ContainsAt}
use Rattle.summaries.specs.Kinds.{SummaryKind}

pub record Replica (T : Type 0) : Type 0 where
  pub stamp : ℕ
  pub newest : ℕ → Place T

-- a node's newest version after a commit under the stamp t that wrote this for it, or nothing
abbrev pub newer_version : {T : Type 0} → ℕ → Option T → Place T → Place T
newer_version t None p = p
newer_version t (Some x) p = record { stamp = t; setting = x }

-- a replica after a ruling on a message with these writes
abbrev pub applied : {T : Type 0} → Outcome → Replica T → List (Write T) → Replica T
applied (Clash n) r ws = r
applied (Commit t) r ws = record { stamp = t; newest = λ n. newer_version t (own ws n) (r.newest n) }

module _ {T : Type 0} (S : SummaryKind) (K : SettingKind T) (nodes : List ℕ) where
  -- before any message
  abbrev pub new_replica : Replica T
  new_replica = record { stamp = 0; newest = λ n. record { stamp = 0; setting = K.start } }

  -- the first node that makes the move a clash
  unfoldable pub clash_of : Replica T → Move T → Option ℕ
  clash_of r m = find (λ n. ltb m.snapshot (r.newest n).stamp && S.names (S.packed (reads_of m.calls)) n) nodes

  -- how the replica rules on the move
  unfoldable pub rules_on : Replica T → Move T → Outcome
  rules_on r m = decided r.stamp (clash_of r m)

  -- the replica after it
  unfoldable pub after_move : Replica T → Move T → Replica T
  after_move r m = applied (rules_on r m) r (writes_of m.calls)

  -- the replica after the first k of these moves
  unfoldable pub replica : List (Move T) → ℕ → Replica T
  replica ms k = fold after_move new_replica (take k ms)

  -- ---- a ruling and what it leaves

  -- a replica after a commit of the move under the next stamp
  abbrev pub after_commit : Replica T → Move T → Replica T
  after_commit q m = applied (Commit (q.stamp + 1)) q (writes_of m.calls)

  -- the move leaves the replica alone
  abbrev pub Stays : Replica T → Move T → Type 0
  Stays q m = after_move q m ≡ q

  -- the move is committed
  abbrev pub Commits : Replica T → Move T → Type 0
  Commits q m = (rules_on q m ≡ Commit (q.stamp + 1)) × (after_move q m ≡ after_commit q m)

  -- one of both holds of every move
  pub stays_or_commits : (q : Replica T) (m : Move T) → Stays q m ⊎ Commits q m
  unfolding after_move rules_on
  stays_or_commits q m = go (clash_of q m) refl
    where
      go : (o : Option ℕ) → clash_of q m ≡ o → Stays q m ⊎ Commits q m
      go None is = inr (ap (decided q.stamp) is, ap (λ c. applied (decided q.stamp c) q (writes_of m.calls)) is)
      go (Some n) is = inl (ap (λ c. applied (decided q.stamp c) q (writes_of m.calls)) is)

  pub commit_stamp : (q : Replica T) (m : Move T) (t : ℕ) → rules_on q m ≡ Commit t → t ≡ q.stamp + 1
  unfolding rules_on
  commit_stamp q m t is = go (clash_of q m) is
    where
      go : (o : Option ℕ) → decided q.stamp o ≡ Commit t → t ≡ q.stamp + 1
      go None same = cc
      go (Some n) same = absurd (cc)

  -- a node that is named by a committed move's summary was not committed after its snapshot
  pub no_clash : (q : Replica T) (m : Move T) (t n : ℕ) → rules_on q m ≡ Commit t → ContainsAt nodes n →
      S.names (S.packed (reads_of m.calls)) n ≡ true → (q.newest n).stamp ≤ m.snapshot
  unfolding rules_on clash_of
  no_clash q m t n is has named = go (clash_of q m) refl is
    where
      test : ℕ → Bool
      test n = ltb m.snapshot (q.newest n).stamp && S.names (S.packed (reads_of m.calls)) n

      go : (o : Option ℕ) → clash_of q m ≡ o → decided q.stamp o ≡ Commit t → (q.newest n).stamp ≤ m.snapshot
      go (Some n) found same = absurd (cc)
      go None none same =
          let fails = all-has (λ n. test n ≡ false) nodes n (none_passes test nodes none) has in
          ltb-false m.snapshot (q.newest n).stamp (sym (and-true _) ∙ ap (λ b. ltb m.snapshot (q.newest n).stamp && b) (sym named) ∙ fails)
