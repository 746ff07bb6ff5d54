-- A node's newest version is above a snapshot exactly if a move with a later stamp wrote the node; so a ruling is a clash exactly if the summary
-- names such a node, and it gives the first.
use Rattle.session.proofs.Finding.{Found, found_if, found_some}
use Rattle.std.proofs.Common.{◌≡◌, ℕ, ◌+◌, ◌<◌, ◌≤◌, ◌⊎◌, inl, inr, Bool, true, ◌&&◌, ltb, List, Some, None, Option, refl, ap, ◌∙◌, arith}
use Rattle.std.proofs.lemmas.Bool.{cases_lt}
use Rattle.std.specs.Prelude.{find}
use Rattle.std.specs.List.{ContainsAt}
use Rattle.history.proofs.Histories.{rep, stands, Committed, committed_is, committed_from}
use Rattle.history.proofs.ReplicaLaws.{writer_below}
use Rattle.history.proofs.ReplicaSteps.{stamps_grow, newest_le, last_writer}
use Rattle.history.proofs.Replicas.{Replica, clash_of, rules_on, commit_stamp}
use Rattle.history.specs.Contents.{reads_of}
use Rattle.history.specs.Events.{Event}
use Rattle.history.specs.Laws.{There, WrittenAfter}
use Rattle.history.specs.Moves.{Move, agreed, takes}
use Rattle.history.specs.Runs.{Run, Made}
use Rattle.session.proofs.KindLaws.{SettingLaws, SummaryLaws}
use Rattle.session.specs.States.{World}
use Rattle.session.specs.Takes.{decided}
use Rattle.session.specs.declared.ruling.Outcome.TheVariants.{Clash}
use Rattle.settings.specs.Kinds.{SettingKind}
use Rattle.summaries.specs.Kinds.{SummaryKind}

module _ {T : Type 0} (S : SummaryKind) (K : SettingKind T) (of_S : SummaryLaws S) (of_K : SettingLaws K) (start : World T) (made : Made K start)
    (es : List (Event T)) (now : World T) (run : Run S K start es now) where
  abbrev r : ℕ → Replica T
  r k = rep S K of_S of_K start made es now run k

  abbrev nodes : List ℕ
  nodes = start.session.nodes

  -- ---- the stamp of a node's newest version

  pub written_from : (v k n s : ℕ) → There start v → k ≤ takes es v → s < ((r k).newest n).stamp → WrittenAfter es s (r k).stamp n
  written_from v k n s there low above =
      let (j, before, m, is, commit, wrote) = last_writer S K nodes (agreed es) k n s above in
      let top = newest_le S K nodes (agreed es) k n in
      (((r k).newest n).stamp, above, top, m, (committed_is S K of_S of_K start made es now run v j ((r k).newest n).stamp m there (omega arith) is commit).1, wrote)

  pub written_above : (v k n s : ℕ) → There start v → k ≤ takes es v → WrittenAfter es s (r k).stamp n → s < ((r k).newest n).stamp
  written_above v k n s there low (t, above, top, m, commit, wrote) =
      let c = committed_from S K of_S of_K start made es now run t m commit in
      let next = commit_stamp S K nodes (r c.position) m t c.ruled in
      let within = ((stands S K of_S of_K start made es now run).fits.each v there).within in
      let before : c.position < k = by c next (cases_lt c.position k) in
      let below = writer_below S K nodes (agreed es) c.position k t n m c.is before (omega arith) c.ruled wrote in
      omega arith
    where
      by : (c : Committed S K of_S of_K start made es now run t m) → t ≡ (r c.position).stamp + 1 →
          (c.position < k) ⊎ (k ≤ c.position) → c.position < k
      by c next (inl h) = h
      by c next (inr h) = let grow = stamps_grow S K nodes (agreed es) k c.position h in absurd (omega arith)

  -- ---- the test that finds a clash

  abbrev pub test : Replica T → Move T → ℕ → Bool
  test q m n = ltb m.snapshot (q.newest n).stamp && S.names (S.packed (reads_of m.calls)) n

  pub clash_is : (q : Replica T) (m : Move T) (n : ℕ) → rules_on S K nodes q m ≡ Clash n → Found (test q m) nodes n
  unfolding rules_on clash_of
  clash_is q m n h = by (find (test q m) nodes) refl h
    where
      by : (o : Option ℕ) → find (test q m) nodes ≡ o → decided q.stamp o ≡ Clash n → Found (test q m) nodes n
      by None e h = cc
      by (Some x) e h = let same : x ≡ n = cc in found_if (test q m) nodes n (e ∙ ap Some same)

  pub clash_from : (q : Replica T) (m : Move T) (n : ℕ) → ContainsAt nodes n → test q m n ≡ true → (x : ℕ) × (rules_on S K nodes q m ≡ Clash x)
  unfolding rules_on clash_of
  clash_from q m n there passes = let found = found_some (test q m) nodes n there passes in (found.0, ap (decided q.stamp) found.1)
