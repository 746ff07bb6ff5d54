-- After an accepted call at a slot everything fits, if the new state of the slot fits the move that is open there then.
use Rattle.std.proofs.Common.{◌≡◌, ℕ, ◌-◌, ◌≤◌, cond, ◌&&◌, eqb, List, length, set, Option, sym, refl, ap, ◌∙◌, subst, arith}
use Rattle.std.proofs.lemmas.Bool.{eq-eqb, ne_eqb}
use Rattle.std.specs.Prelude.{◌≢◌}
use Rattle.history.proofs.Changing.{slot_changed, share_changed}
use Rattle.history.proofs.Fits.{writes_at, SlotFits, LineFits, Fits}
use Rattle.session.proofs.Shares.{length_share_places, length_share_writes}
use Rattle.history.specs.Events.{Did}
use Rattle.history.specs.Moves.{Move, continued}
use Rattle.lines.specs.Lines.{LineState}
use Rattle.messages.specs.declared.parts.Write.{Write}
use Rattle.session.specs.Shares.{Share, share_of, with_share}
use Rattle.session.specs.States.{SlotState, World}
use Rattle.session.specs.declared.ruling.Ruling.{Ruling}
use Rattle.settings.specs.Kinds.{SettingKind}
use Rattle.summaries.specs.Kinds.{SummaryKind}

module _ {T : Type 0} (o : ℕ → ℕ → Option (Move T)) (u s : ℕ) (d : Did T) where
  -- the open moves after an accepted call at slot s of suite u
  abbrev pub moves_then : ℕ → ℕ → Option (Move T)
  moves_then v r = cond (eqb u v && eqb s r) (continued u s d (o v r)) (o v r)

  then_here : moves_then u s ≡ continued u s d (o u s)
  then_here = ap (λ b. cond (b && eqb s s) (continued u s d (o u s)) (o u s)) (eq-eqb u u refl) ∙ ap (λ b. cond b (continued u s d (o u s)) (o u s)) (eq-eqb s s refl)

  then_slot : (r : ℕ) → r ≢ s → moves_then u r ≡ o u r
  then_slot r h =
      ap (λ b. cond (b && eqb s r) (continued u s d (o u r)) (o u r)) (eq-eqb u u refl)
      ∙ ap (λ b. cond b (continued u s d (o u r)) (o u r)) (ne_eqb s r (λ e. h (sym e)))

  then_suite : (v r : ℕ) → v ≢ u → moves_then v r ≡ o v r
  then_suite v r h = ap (λ b. cond (b && eqb s r) (continued u s d (o v r)) (o v r)) (ne_eqb u v (λ e. h (sym e)))

-- a suite's share with a slot in another state, other writes and another line
abbrev pub share_then : {T : Type 0} → Share T → ℕ → SlotState → List (Write T) → LineState → Share T
share_then share s q writes line = record {
  suite = record { stamp = share.suite.stamp; taken = share.suite.taken; slots = set share.suite.slots (s - 1) q };
  places = share.places;
  writes = writes;
  line = line;
}

module _ {T : Type 0} (S : SummaryKind) (K : SettingKind T) (U : ℕ) (ms : List (Move T)) (rl : ℕ → List Ruling) (o : ℕ → ℕ → Option (Move T)) (pend : ℕ → List (Move T)) (ca : ℕ → Option ℕ)
    (w : World T) (f : Fits S K w.session.nodes U ms rl o pend ca w) (u s : ℕ) (there : (1 ≤ u) × (u ≤ U)) (slot : (1 ≤ s) × (s ≤ 4)) where
  pub slot_stepped : (d : Did T) (q : SlotState) (writes : List (Write T)) (line : LineState) (pend' : ℕ → List (Move T)) → length writes ≡ 64 →
      ((r k : ℕ) → (1 ≤ r) × (r ≤ 4) → k ≤ 16 → r ≢ s → writes_at writes r k ≡ writes_at (share_of w u).writes r k) → LineFits S K w.session.nodes U ms rl pend' line →
      SlotFits S K w.session.nodes U ms rl (rl u) (share_of w u).places writes s q (continued u s d (o u s)) →
      Fits S K w.session.nodes U ms rl (moves_then o u s d) pend' ca (with_share w u (share_then (share_of w u) s q writes line))
  slot_stepped d q writes line pend' long kept lines fit =
      let here : (1 ≤ u) × (u ≤ length w.session.suites) = (there.0, omega (arith, there.1, f.suites)) in
      let share = share_of w u in
      share_changed S K w.session.nodes U ms rl w o (moves_then o u s d) pend pend' ca u (share_then share s q writes line) there
      (length_share_places w u f.sized here) long (λ v r h. then_suite o u s d v r h)
      (slot_changed S K w.session.nodes U ms rl (rl u) share.places share.writes writes (o u) (moves_then o u s d u) share.suite s q slot
      (λ r h. then_slot o u s d r h) kept
      (subst (SlotFits S K w.session.nodes U ms rl (rl u) share.places writes s q) (sym (then_here o u s d)) fit) (f.each u there))
      lines f

  -- the same with the writes and the line as they were
  pub slot_only_stepped : (d : Did T) (q : SlotState) →
      SlotFits S K w.session.nodes U ms rl (rl u) (share_of w u).places (share_of w u).writes s q (continued u s d (o u s)) →
      Fits S K w.session.nodes U ms rl (moves_then o u s d) pend ca (with_share w u (share_then (share_of w u) s q (share_of w u).writes w.line))
  slot_only_stepped d q fit =
      let here : (1 ≤ u) × (u ≤ length w.session.suites) = (there.0, omega (arith, there.1, f.suites)) in
      slot_stepped d q (share_of w u).writes w.line pend (length_share_writes w u f.sized here) (λ r k h l d. refl) f.line fit
