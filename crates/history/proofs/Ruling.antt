-- Take: the next agreed message carries a move, and what the suite rules on it is what the replica rules on the move.
use Rattle.session.proofs.Finding.{find_same, all_in}
use Rattle.std.proofs.Common.{◌≡◌, ℕ, ◌+◌, ◌-◌, ◌≤◌, Bool, true, false, cond, ◌&&◌, ltb, leb, List, [], length, get_or, Some, None, Ok, Err, Option, refl, ap, ◌∙◌, arith}
use Rattle.std.proofs.lemmas.Bool.{leb-false}
use Rattle.std.specs.Prelude.{slice_get, option_map}
use Rattle.std.specs.List.{AllByRecursion, ContainsAt}
use Rattle.history.proofs.Accepting.{accepted_suite}
use Rattle.history.proofs.Elements.{get_there}
use Rattle.history.proofs.Fits.{GoodMove, Carries, Fits}
use Rattle.history.proofs.Replicas.{Replica, clash_of, rules_on, replica}
use Rattle.history.proofs.ReplicaSteps.{stamps_grow}
use Rattle.history.specs.Contents.{reads_of}
use Rattle.history.specs.Moves.{Move}
use Rattle.history.specs.Runs.{answer}
use Rattle.history.specs.declared.call.Answer.{Answer}
use Rattle.history.specs.declared.call.Answer.TheVariants.{Taken}
use Rattle.history.specs.declared.call.Call.TheVariants.{Take}
use Rattle.number_bytes.specs.Bytes.{Number}
use Rattle.refusals.specs.declared.Refusal.TheVariants.{AllTaken}
use Rattle.session.proofs.KindLaws.{SettingLaws, SummaryLaws}
use Rattle.session.proofs.Reading.{ruling_of_move}
use Rattle.session.proofs.Versions.{newest_stamp_is}
use Rattle.session.specs.Commits.{is_newer}
use Rattle.session.specs.Shares.{Share, share_of}
use Rattle.session.specs.States.{World}
use Rattle.session.specs.Takes.{decided, next_message, first_clash, ruling, take_answer}
use Rattle.session.specs.Versions.{newest, newest_stamp, versions_of}
use Rattle.session.specs.declared.place.Place.{Place}
use Rattle.session.specs.declared.ruling.Ruling.{Ruling}
use Rattle.session.specs.declared.ruling.Ruling.TheVariants.{Decided}
use Rattle.settings.specs.Kinds.{SettingKind}
use Rattle.summaries.specs.Kinds.{SummaryKind}

module _ {T : Type 0} (nodes : List ℕ) (places : List (Place T)) (r : Replica T)
    (same : (n : ℕ) → ContainsAt nodes n → option_map (λ b. b.1) (newest (versions_of nodes places n)) ≡ Some (r.newest n)) where
  -- a suite whose newest versions are the replica's has its newest stamps
  pub stamp_same : (n : ℕ) → ContainsAt nodes n → newest_stamp (versions_of nodes places n) ≡ (r.newest n).stamp
  stamp_same n k = by (newest (versions_of nodes places n)) refl (same n k)
    where
      by : (o : Option (ℕ × Place T)) → newest (versions_of nodes places n) ≡ o → option_map (λ b. b.1) o ≡ Some (r.newest n) →
          newest_stamp (versions_of nodes places n) ≡ (r.newest n).stamp
      by None e h = cc
      by (Some b) e h = let is : b.1 ≡ r.newest n = cc in newest_stamp_is (versions_of nodes places n) b e ∙ ap (λ p. p.stamp) is

  -- and it finds the same node that makes a move a clash
  pub clash_same : (S : SummaryKind) (K : SettingKind T) (m : Move T) →
      first_clash S K nodes places m.snapshot (S.packed (reads_of m.calls)) ≡ clash_of S K nodes r m
  unfolding clash_of
  clash_same S K m =
      find_same (λ n. is_newer nodes places m.snapshot n && S.names (S.packed (reads_of m.calls)) n)
      (λ n. ltb m.snapshot (r.newest n).stamp && S.names (S.packed (reads_of m.calls)) n) nodes
      (all_in _ nodes (λ n k. ap (λ t. ltb m.snapshot t && S.names (S.packed (reads_of m.calls)) n) (stamp_same n k)))

rules_is : {T : Type 0} (S : SummaryKind) (K : SettingKind T) (nodes : List ℕ) (q : Replica T) (m : Move T) → decided q.stamp (clash_of S K nodes q m) ≡ rules_on S K nodes q m
unfolding rules_on
rules_is S K nodes q m = refl

module _ {T : Type 0} (S : SummaryKind) (K : SettingKind T) (of_S : SummaryLaws S) (of_K : SettingLaws K) (U : ℕ) (ms : List (Move T)) (rl : ℕ → List Ruling)
    (o : ℕ → ℕ → Option (Move T)) (pend : ℕ → List (Move T)) (ca : ℕ → Option ℕ)
    (w : World T) (f : Fits S K w.session.nodes U ms rl o pend ca w) (numbers : AllByRecursion Number w.session.nodes) (u : ℕ) where
  abbrev N : List ℕ
  N = w.session.nodes

  abbrev share : Share T
  share = share_of w u

  -- what an accepted take ruled: the move that the message carried, and the replica's ruling on it
  pub record Rules (r : Ruling) : Type 0 where
    pub there : (1 ≤ u) × (u ≤ U)
    pub move : Move T
    pub is : slice_get ms (length (rl u)) ≡ Some move
    pub carries : Carries S K N U (next_message share) move
    pub good : GoodMove S K N U ms rl (length (rl u)) move
    pub ruled : r ≡ Decided (rules_on S K N (replica S K N ms (length (rl u))) move)

  pub rules_if : (r : Ruling) → answer S K w (Take u) ≡ Ok (Taken r) → Rules r
  rules_if r h =
      let a = accepted_suite Taken w u (take_answer S K (length w.session.suites) N) (Taken r) h in
      by (a.there.0, omega (arith, a.there.1, f.suites)) (leb (length w.line.agreed) share.suite.taken) refl (a.ruled ∙ ap Ok (is_r a.value a.is))
    where
      is_r : (v : Ruling) → ◌≡◌ {A = Answer T} (Taken v) (Taken r) → v ≡ r
      is_r v e = cc

      by : (1 ≤ u) × (u ≤ U) → (b : Bool) → leb (length w.line.agreed) share.suite.taken ≡ b →
          cond b (Err AllTaken) (Ok (ruling S K (length w.session.suites) N share (next_message share))) ≡ Ok r → Rules r
      by there true e h = cc
      by there false e h =
          let given : r ≡ ruling S K (length w.session.suites) N share (next_message share) = cc in
          let suite = f.each u there in
          let k = length (rl u) in
          let more = leb-false (length w.line.agreed) share.suite.taken e in
          let found = get_there ms k (omega (arith, more, suite.taken, f.line.agreed_long)) in
          let m = found.0 in
          let both = f.line.agreed_is k m found.1 in
          let place : share.suite.taken + 1 - 1 ≡ k = omega (arith, suite.taken) in
          let bytes : next_message share ≡ get_or w.line.agreed k [] = ap (λ i. get_or w.line.agreed i []) place in
          let carry = both.0 in
          let grow = stamps_grow S K N ms both.1.from k both.1.below in
          let low : m.snapshot ≤ share.suite.stamp = omega (arith, both.1.snapshot, grow, suite.stamp) in
          let same_clash : first_clash S K N share.places m.snapshot (S.packed (reads_of m.calls)) ≡ clash_of S K N (replica S K N ms k) m =
          clash_same N share.places (replica S K N ms k) suite.newest_is S K m in
          record {
            there = there;
            move = m;
            is = found.1;
            carries = record { there = carry.there; fit = carry.fit; is = bytes ∙ carry.is };
            good = both.1;
            ruled =
                given
                ∙ ap (ruling S K (length w.session.suites) N share) (bytes ∙ carry.is)
                ∙ ruling_of_move S K of_S of_K carry.fit numbers (length w.session.suites) share (omega (arith, carry.there, f.suites)) low
                ∙ ap (λ c. Decided (decided share.suite.stamp c)) same_clash
                ∙ ap (λ t. Decided (decided t (clash_of S K N (replica S K N ms k) m))) suite.stamp
                ∙ ap Decided (rules_is S K N (replica S K N ms k) m);
          }
