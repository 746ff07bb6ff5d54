-- One slot of one suite changes, and everything else fits as before.
use Rattle.std.proofs.Common.{◌≡◌, ℕ, ◌-◌, ◌*◌, ◌≤◌, Bool, true, false, eqb, List, length, set, get_or, Option, sym, refl, ◌∙◌, subst, arith}
use Rattle.std.proofs.lemmas.Bool.{eqb-true, eqb-false}
use Rattle.std.proofs.lemmas.List.{get_or-set_same, get_or-set_other, length-set}
use Rattle.std.specs.Prelude.{◌≢◌}
use Rattle.history.proofs.Fits.{writes_at, SlotFits, SuiteFits, LineFits, Fits}
use Rattle.session.proofs.Shares.{same_share, other_share, sized_with, suites_with}
use Rattle.history.specs.Moves.{Move}
use Rattle.messages.specs.declared.parts.Write.{Write}
use Rattle.session.specs.Shares.{Share, share_of, with_share}
use Rattle.session.specs.States.{SlotState, idle, opened, sent, ruled, SuiteState, World}
use Rattle.session.specs.declared.place.Place.{Place}
use Rattle.session.specs.declared.ruling.Ruling.{Ruling}
use Rattle.settings.specs.Kinds.{SettingKind}
use Rattle.summaries.specs.Kinds.{SummaryKind}

module _ {T : Type 0} (S : SummaryKind) (K : SettingKind T) (N : List ℕ) (U : ℕ) (ms : List (Move T)) (rl : ℕ → List Ruling) where
  module _ (mine : List Ruling) (places : List (Place T)) (writes writes' : List (Write T)) where
    slot_kept : (r : ℕ) (q : SlotState) (o : Option (Move T)) → ((k : ℕ) → k ≤ 16 → writes_at writes' r k ≡ writes_at writes r k) →
        SlotFits S K N U ms rl mine places writes r q o → SlotFits S K N U ms rl mine places writes' r q o
    slot_kept r idle o kept f = f
    slot_kept r (opened t nodes written) o kept f = record {
      move = f.move;
      is = f.is;
      snapshot = f.snapshot;
      reads = f.reads;
      own = kept written (omega (arith, f.count, f.good.few_writes)) ∙ f.own;
      count = f.count;
      good = f.good;
      sees = f.sees;
    }
    slot_kept r sent o kept f = f
    slot_kept r (ruled outcome) o kept f = f

    -- a slot with another state, and a move that fits it; the other slots' moves and writes stay
    pub slot_changed : (o o' : ℕ → Option (Move T)) (suite : SuiteState) (s : ℕ) (q : SlotState) → (1 ≤ s) × (s ≤ 4) →
        ((r : ℕ) → r ≢ s → o' r ≡ o r) → ((r k : ℕ) → (1 ≤ r) × (r ≤ 4) → k ≤ 16 → r ≢ s → writes_at writes' r k ≡ writes_at writes r k) →
        SlotFits S K N U ms rl mine places writes' s q (o' s) → SuiteFits S K N U ms rl mine o suite places writes →
        SuiteFits S K N U ms rl mine o' (record suite { slots = set suite.slots (s - 1) q }) places writes'
    slot_changed o o' suite s q there others kept fit f = record {
      four = length-set suite.slots (s - 1) q ∙ f.four;
      taken = f.taken;
      within = f.within;
      stamp = f.stamp;
      newest_is = f.newest_is;
      below = f.below;
      slots = λ r h. by r h (eqb r s) refl;
      ruled_so = f.ruled_so;
    }
      where
        by : (r : ℕ) → (1 ≤ r) × (r ≤ 4) → (b : Bool) → eqb r s ≡ b →
            SlotFits S K N U ms rl mine places writes' r (get_or (set suite.slots (s - 1) q) (r - 1) idle) (o' r)
        by r h true e =
            let same : s ≡ r = sym (eqb-true r s e) in
            subst (λ x. SlotFits S K N U ms rl mine places writes' x (get_or (set suite.slots (s - 1) q) (x - 1) idle) (o' x)) same
            (subst (λ x. SlotFits S K N U ms rl mine places writes' s x (o' s))
            (sym (get_or-set_same suite.slots (s - 1) q idle (omega (arith, f.four)))) fit)
        by r h false e =
            let d : r ≢ s = eqb-false r s e in
            subst (λ x. SlotFits S K N U ms rl mine places writes' r x (o' r))
            (sym (get_or-set_other suite.slots (s - 1) (r - 1) q idle (λ z. d (omega arith))))
            (subst (λ x. SlotFits S K N U ms rl mine places writes' r (get_or suite.slots (r - 1) idle) x) (sym (others r d))
            (slot_kept r (get_or suite.slots (r - 1) idle) (o r) (λ k l. kept r k h l d) (f.slots r h)))

  -- suite v with these open moves
  abbrev pub Suite : ℕ → (ℕ → Option (Move T)) → Share T → Type 0
  Suite v x share = SuiteFits S K N U ms rl (rl v) x share.suite share.places share.writes

  -- a suite's share with other slots and writes, and perhaps another line
  pub share_changed : (w : World T) (o o' : ℕ → ℕ → Option (Move T)) (pend pend' : ℕ → List (Move T)) (ca : ℕ → Option ℕ) (u : ℕ) (sh : Share T) →
      (1 ≤ u) × (u ≤ U) → length sh.places ≡ length w.session.nodes * 5 → length sh.writes ≡ 64 →
      ((v s : ℕ) → v ≢ u → o' v s ≡ o v s) → SuiteFits S K N U ms rl (rl u) (o' u) sh.suite sh.places sh.writes → LineFits S K N U ms rl pend' sh.line →
      Fits S K N U ms rl o pend ca w → Fits S K N U ms rl o' pend' ca (with_share w u sh)
  share_changed w o o' pend pend' ca u sh there lp lw others mine line f = record {
    suites = suites_with w u sh ∙ f.suites;
    few_suites = f.few_suites;
    sized = sized_with w u f.sized here sh lp lw;
    line = line;
    each = λ v h. by v h (eqb u v) refl;
    commits = f.commits;
    committed = f.committed;
  }
    where
      here : (1 ≤ u) × (u ≤ length w.session.suites)
      here = (there.0, omega (arith, there.1, f.suites))

      by : (v : ℕ) → (1 ≤ v) × (v ≤ U) → (b : Bool) → eqb u v ≡ b → SuiteFits S K N U ms rl (rl v) (o' v) (share_of (with_share w u sh) v).suite (share_of (with_share w u sh) v).places (share_of (with_share w u sh) v).writes
      by v h true e =
          subst (λ x. Suite x (o' x) (share_of (with_share w u sh) x)) (eqb-true u v e)
          (subst (Suite u (o' u)) (sym (same_share w u f.sized here sh lp lw)) mine)
      by v h false e =
          let d : u ≢ v = eqb-false u v e in
          let there_v : (1 ≤ v) × (v ≤ length w.session.suites) = (h.0, omega (arith, h.1, f.suites)) in
          subst (Suite v (o' v)) (sym (other_share w u f.sized here sh lp lw v there_v d))
          (subst (λ x. Suite v x (share_of w v)) (λ i s. sym (others v s (λ z. d (sym z))) i) (f.each v h))
