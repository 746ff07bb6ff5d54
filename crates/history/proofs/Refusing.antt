-- In a world that fits, no read is refused for want of a version.
use Rattle.std.proofs.Common.{◌≡◌, ℕ, ◌≤◌, Bool, true, false, cond, not, ◌&&◌, ◌||◌, leb, List, length, Some, None, Ok, Err, Option, Result, sym, refl, ap, ◌∙◌, arith}
use Rattle.std.specs.Prelude.{option_map}
use Rattle.history.proofs.ContentLaws.{own_is_last}
use Rattle.history.proofs.Fits.{OpenFits, Fits}
use Rattle.history.proofs.SlotCalls.{fits_as}
use Rattle.history.specs.Moves.{Move}
use Rattle.history.specs.Runs.{answer}
use Rattle.session.specs.Steps.{told}
use Rattle.history.specs.declared.call.Answer.{Answer}
use Rattle.history.specs.declared.call.Answer.TheVariants.{Setting}
use Rattle.history.specs.declared.call.Call.TheVariants.{Read}
use Rattle.session.specs.declared.suite_slot.SuiteSlot.{SuiteSlot}
use Rattle.limits.proofs.Ranges.{not_outside}
use Rattle.limits.specs.Limits.{outside}
use Rattle.messages.proofs.Judging.{known_decides}
use Rattle.messages.specs.Reading.{known}
use Rattle.refusals.specs.declared.Refusal.{Refusal}
use Rattle.refusals.specs.declared.Refusal.TheVariants.{MemorySize, NoSuchSlot, UnknownNode, MoveFull, NoVersion}
use Rattle.session.specs.Shares.{share_of, at_share, slot_of}
use Rattle.session.specs.Slots.{own_writes, own, kept_version, read_open, read_in, read_answer}
use Rattle.session.specs.States.{SlotState, idle, opened, sent, ruled, World, unfit}
use Rattle.session.specs.Versions.{visible, versions_of}
use Rattle.session.specs.declared.place.Place.{Place}
use Rattle.session.specs.declared.ruling.Ruling.{Ruling}
use Rattle.settings.specs.Kinds.{SettingKind}
use Rattle.summaries.specs.Kinds.{SummaryKind}

module _ {T : Type 0} (S : SummaryKind) (K : SettingKind T) (U : ℕ) (ms : List (Move T)) (rl : ℕ → List Ruling) (o : ℕ → ℕ → Option (Move T)) (pend : ℕ → List (Move T)) (ca : ℕ → Option ℕ)
    (w : World T) (f : Fits S K w.session.nodes U ms rl o pend ca w) where
  abbrev N : List ℕ
  N = w.session.nodes

  -- the rule of a read never asks for a version that is not there
  no_missing_in : (u s n : ℕ) → (1 ≤ u) × (u ≤ U) → (1 ≤ s) × (s ≤ 4) → (q : SlotState) → slot_of (share_of w u) s ≡ q →
      read_in N (share_of w u) s n q ≡ Err NoVersion → ⊥
  no_missing_in u s n there slot idle e h = cc
  no_missing_in u s n there slot (opened t nodes written) e h =
      by (known N n) (own (own_writes (share_of w u) s written) n) (not (known nodes n) && leb 32 (length nodes))
      (visible t (versions_of N (share_of w u).places n)) refl refl refl refl h
    where
      fit : OpenFits S K N U ms rl (rl u) (share_of w u).places (share_of w u).writes s t nodes written (o u s)
      fit = fits_as S K U ms rl o pend ca w f u s there slot (opened t nodes written) e

      kept : (v : Option (ℕ × Place T)) → visible t (versions_of N (share_of w u).places n) ≡ v → known N n ≡ true → own (own_writes (share_of w u) s written) n ≡ None →
          kept_version v ≡ Err NoVersion → ⊥
      kept None i k none h =
          let seen = sym (ap (option_map (λ b. b.1)) i) ∙ fit.sees n ((known_decides N n).0 k) (sym (ap (λ ws. own ws n) fit.own ∙ own_is_last fit.move.calls n) ∙ none) in
          cc
      kept (Some v) i k none h = cc

      by : (a : Bool) (y : Option T) (full : Bool) (v : Option (ℕ × Place T)) → known N n ≡ a → own (own_writes (share_of w u) s written) n ≡ y →
          (not (known nodes n) && leb 32 (length nodes)) ≡ full → visible t (versions_of N (share_of w u).places n) ≡ v →
          cond (not a) (Err UnknownNode) (read_open N (share_of w u).places t nodes n y) ≡ Err NoVersion → ⊥
      by false y full v a b c d h = cc
      by true (Some y) full v a b c d h = cc
      by true None true v a b c d h =
          let over : Err MoveFull ≡ Err NoVersion =
          sym (ap (λ z. cond z (Err MoveFull) (kept_version (visible t (versions_of N (share_of w u).places n)))) c) ∙ h in
          cc
      by true None false v a b c d h =
          kept v d a b
          (ap kept_version (sym d)
          ∙ sym (ap (λ z. cond z (Err MoveFull) (kept_version (visible t (versions_of N (share_of w u).places n)))) c)
          ∙ h)
  no_missing_in u s n there slot sent e h = cc
  no_missing_in u s n there slot (ruled outcome) e h = cc

  pub never_missing : (slot : SuiteSlot) (n : ℕ) → answer S K w (Read slot n) ≡ Err NoVersion → ⊥
  never_missing slot n h = by (unfit w) (outside (length w.session.suites) slot.suite) (outside 4 slot.slot) refl refl refl h
    where
      untold : (r : Result T Refusal) → ◌≡◌ {A = Result (Answer T) Refusal} (told Setting r) (Err NoVersion) → r ≡ Err NoVersion
      untold (Ok x) h = cc
      untold (Err why) h = cc

      by : (x y z : Bool) → unfit w ≡ x → outside (length w.session.suites) slot.suite ≡ y → outside 4 slot.slot ≡ z →
          ◌≡◌ {A = Result (Answer T) Refusal}
          (told Setting (at_share (cond x (Err MemorySize) (cond (y || z) (Err NoSuchSlot) (Ok tt))) w slot.suite (read_answer N slot.slot n))) (Err NoVersion) → ⊥
      by true y z d e i h = cc
      by false true z d e i h = cc
      by false false true d e i h = cc
      by false false false d e i h =
          let there = not_outside (length w.session.suites) slot.suite e in
          no_missing_in slot.suite slot.slot n (there.0, omega (arith, there.1, f.suites)) (not_outside 4 slot.slot i) (slot_of (share_of w slot.suite) slot.slot) refl
          (untold (read_answer N slot.slot n (share_of w slot.suite)) h)
