-- What an accepted commit answers, by the move that is open and the reads that are newer than its snapshot.
use Rattle.std.proofs.Common.{◌≡◌, ℕ, ◌≤◌, Bool, true, false, cond, eqb, List, Some, None, Ok, Err, Option, Result, refl, ap, ◌∙◌}
use Rattle.std.proofs.lemmas.Bool.{eqb-true, eqb-false}
use Rattle.std.specs.Prelude.{find, ◌≢◌}
use Rattle.history.proofs.Accepting.{accepted_slot}
use Rattle.history.proofs.Fits.{OpenFits, Fits}
use Rattle.history.proofs.SlotCalls.{fits_as, in_session}
use Rattle.history.specs.Moves.{Move}
use Rattle.history.specs.Runs.{answer}
use Rattle.history.specs.declared.call.Answer.{Answer}
use Rattle.history.specs.declared.call.Answer.TheVariants.{Committed}
use Rattle.history.specs.declared.call.Call.TheVariants.{Commit}
use Rattle.lines.specs.Lines.{offer_answer}
use Rattle.refusals.specs.declared.Refusal.{Refusal}
use Rattle.session.specs.Commits.{is_newer, move_message, after_check, commit_in, commit_answer}
use Rattle.session.specs.Shares.{Share, share_of, slot_of}
use Rattle.session.specs.Slots.{own_writes}
use Rattle.session.specs.States.{SlotState, idle, opened, sent, ruled, World}
use Rattle.session.specs.declared.ruling.CommitAnswer.{CommitAnswer}
use Rattle.session.specs.declared.ruling.CommitAnswer.TheVariants.{Sent, ReadOnly, Clash}
use Rattle.session.specs.declared.ruling.Ruling.{Ruling}
use Rattle.settings.specs.Kinds.{SettingKind}
use Rattle.summaries.specs.Kinds.{SummaryKind}

-- what a commit says that is answered so, of a move with this snapshot and so many writes, by the first of its reads that is newer
abbrev pub CommitGives : CommitAnswer → ℕ → ℕ → Option ℕ → Type 0
CommitGives (ReadOnly snapshot) t written newer = (written ≡ 0) × (t ≡ snapshot)
CommitGives (Clash n) t written newer = (written ≢ 0) × (newer ≡ Some n)
CommitGives Sent t written newer = (written ≢ 0) × (newer ≡ None)

commit_gives : (answer : CommitAnswer) (t written : ℕ) (newer : Option ℕ) (offer : Result (Unit {0}) Refusal) →
    cond (eqb written 0) (Ok (ReadOnly t)) (after_check newer offer) ≡ Ok answer → CommitGives answer t written newer
commit_gives answer t written newer offer h = by answer (eqb written 0) newer offer refl h
  where
    by : (answer : CommitAnswer) (b : Bool) (newer : Option ℕ) (offer : Result (Unit {0}) Refusal) → eqb written 0 ≡ b →
        cond b (Ok (ReadOnly t)) (after_check newer offer) ≡ Ok answer → CommitGives answer t written newer
    by (ReadOnly x) true newer offer e h = (eqb-true written 0 e, cc)
    by (ReadOnly x) false (Some n) offer e h = cc
    by (ReadOnly x) false None (Ok v) e h = cc
    by (ReadOnly x) false None (Err why) e h = cc
    by (Clash n) true newer offer e h = cc
    by (Clash n) false (Some x) offer e h = (eqb-false written 0 e, cc)
    by (Clash n) false None (Ok v) e h = cc
    by (Clash n) false None (Err why) e h = cc
    by Sent true newer offer e h = cc
    by Sent false (Some n) offer e h = cc
    by Sent false None (Ok v) e h = (eqb-false written 0 e, refl)
    by Sent false None (Err why) e h = cc

module _ {T : Type 0} (S : SummaryKind) (K : SettingKind T) (U : ℕ) (ms : List (Move T)) (rl : ℕ → List Ruling) (o : ℕ → ℕ → Option (Move T)) (pend : ℕ → List (Move T)) (ca : ℕ → Option ℕ)
    (w : World T) (f : Fits S K w.session.nodes U ms rl o pend ca w) (u s : ℕ) where
  abbrev N : List ℕ
  N = w.session.nodes

  abbrev share : Share T
  share = share_of w u

  -- the move that was open, and what the commit says
  pub record Closes (answer : CommitAnswer) : Type 0 where
    pub there : (1 ≤ u) × (u ≤ U)
    pub t : ℕ
    pub nodes : List ℕ
    pub written : ℕ
    pub fit : OpenFits S K N U ms rl (rl u) share.places share.writes s t nodes written (o u s)
    pub gives : CommitGives answer t written (find (is_newer N share.places t) nodes)

  pub closes_if : (a : CommitAnswer) → answer S K w (Commit (record { suite = u; slot = s })) ≡ Ok (Committed a) → Closes a
  closes_if a h =
      let accepted = accepted_slot Committed w u (commit_answer S K N u s) (Committed a) s h in
      by (in_session S K U ms rl o pend ca w f u s accepted.0.there) accepted.1 (slot_of share s) refl (accepted.0.ruled ∙ ap Ok (is_a accepted.0.value accepted.0.is))
    where
      is_a : (v : CommitAnswer) → ◌≡◌ {A = Answer T} (Committed v) (Committed a) → v ≡ a
      is_a v e = cc

      by : (1 ≤ u) × (u ≤ U) → (1 ≤ s) × (s ≤ 4) → (q : SlotState) → slot_of share s ≡ q → commit_in S K N share u s q ≡ Ok a → Closes a
      by there slot idle e r = cc
      by there slot (opened t nodes written) e r = record {
        there = there;
        t = t;
        nodes = nodes;
        written = written;
        fit = fits_as S K U ms rl o pend ca w f u s there slot (opened t nodes written) e;
        gives = commit_gives a t written (find (is_newer N share.places t) nodes)
            (offer_answer w.line u (move_message S K u s t nodes (own_writes share s written))) r;
      }
      by there slot sent e r = cc
      by there slot (ruled _) e r = cc
