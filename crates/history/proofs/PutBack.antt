-- An accepted call at a suite: which checks it passed, that it leaves a share of the same sizes, and that only this share is other
-- afterwards.
use Rattle.std.proofs.Common.{◌≡◌, ℕ, ◌*◌, ◌≢◌, false, List, length, Some, Result, sym, refl, ap, ◌∙◌}
use Rattle.history.proofs.Accepting.{Accepted, accepted_suite, accepted_slot}
use Rattle.session.proofs.Placing.{length_placed}
use Rattle.history.specs.Events.{Did, began, read, wrote, closed, abandoned, collected, at, took, call_of, answer_of, suite_of, slot_call}
use Rattle.history.specs.Laws.{There}
use Rattle.history.proofs.Effects.{effect}
use Rattle.history.specs.Runs.{answer}
use Rattle.history.specs.declared.call.Answer.TheVariants.{Began, Setting, Written, Committed, Abandoned, Collected, Taken}
use Rattle.session.specs.declared.suite_slot.SuiteSlot.{SuiteSlot}
use Rattle.limits.specs.Limits.{places_each, slots_each, most_writes}
use Rattle.refusals.specs.declared.Refusal.{Refusal}
use Rattle.session.proofs.Shares.{Sized, sized_from, length_share_places, length_share_writes, same_share, other_share}
use Rattle.session.specs.Commits.{commit_answer}
use Rattle.session.specs.Shares.{Share, share_of, with_share, slot_of}
use Rattle.session.specs.Slots.{begin_answer, read_answer, write_answer, write_into, abandon_answer, collect_answer}
use Rattle.session.specs.States.{SlotState, idle, opened, sent, ruled, World, unfit}
use Rattle.session.specs.Takes.{take_answer, take_leaves, writes_in, next_message}
use Rattle.session.specs.declared.ruling.CommitAnswer.TheVariants.{Sent, ReadOnly, Clash as ClashAtHome}
use Rattle.session.specs.declared.ruling.Outcome.TheVariants.{Clash, Commit}
use Rattle.session.specs.declared.ruling.Ruling.TheVariants.{Void, Decided}
use Rattle.session.specs.declared.ruling.Ruling.{Ruling}
use Rattle.settings.specs.Kinds.{SettingKind}
use Rattle.std.proofs.lemmas.List.{length-set}
use Rattle.summaries.specs.Kinds.{SummaryKind}

module _ {T : Type 0} where
  -- two shares with parts of the same sizes
  abbrev pub SameSizes : Share T → Share T → Type 0
  SameSizes sh sh' = (length sh'.places ≡ length sh.places) × (length sh'.writes ≡ length sh.writes)

  write_sizes : (share : Share T) (s n : ℕ) (x : T) (slot : SlotState) → SameSizes share (write_into share s n x slot)
  write_sizes share s n x idle = (refl, refl)
  write_sizes share s n x (opened snapshot reads written) = (refl, length-set share.writes _ _)
  write_sizes share s n x sent = (refl, refl)
  write_sizes share s n x (ruled outcome) = (refl, refl)

  -- a share of the same sizes that is put back is there, and another suite keeps its record and its parts
  module _ (w : World T) (u : ℕ) (fit : unfit w ≡ false) (there : There w u) (sh : Share T) (sizes : SameSizes (share_of w u) sh) where
    sized : Sized w
    sized = sized_from w fit

    long_places : length sh.places ≡ length w.session.nodes * places_each
    long_places = sizes.0 ∙ length_share_places w u sized there

    long_writes : length sh.writes ≡ slots_each * most_writes
    long_writes = sizes.1 ∙ length_share_writes w u sized there

    pub share_put : share_of (with_share w u sh) u ≡ sh
    share_put = same_share w u sized there sh long_places long_writes

    pub rest_kept : (w' : World T) (v : ℕ) → w' ≡ with_share w u sh → There w v → u ≢ v →
        share_of w' v ≡ record (share_of w v) { line = w'.line }
    rest_kept w' v is there' other =
        ap (λ x. share_of x v) is
        ∙ other_share w u sized there sh long_places long_writes v there' other
        ∙ ap (λ x. record (share_of w v) { line = x.line }) (sym is)

  -- what an accepted call's check found
  passed : {A B : Type 0} {f : A → B} {w : World T} {u : ℕ} {rule : Share T → Result A Refusal} {b : B} → Accepted f w u rule b → (unfit w ≡ false) × There w u
  passed a = (a.fit, a.there)

  -- the suite of a call at a slot
  pub suite_of_slot : (place : SuiteSlot) (did : Did T) → suite_of (slot_call place did) ≡ Some place.suite
  suite_of_slot place (began snapshot) = refl
  suite_of_slot place (read n x) = refl
  suite_of_slot place (wrote n x) = refl
  suite_of_slot place (closed answer) = refl
  suite_of_slot place abandoned = refl
  suite_of_slot place (collected outcome) = refl

module _ {T : Type 0} (S : SummaryKind) (K : SettingKind T) where
  -- what a call leaves of a share has the share's sizes
  pub effect_sizes : (u s : ℕ) (did : Did T) (share : Share T) → SameSizes share (effect S K u s did share)
  effect_sizes u s (began snapshot) share = (refl, refl)
  effect_sizes u s (read n x) share = (refl, refl)
  effect_sizes u s (wrote n x) share = write_sizes share s n x (slot_of share s)
  effect_sizes u s (closed Sent) share = (refl, refl)
  effect_sizes u s (closed (ReadOnly snapshot)) share = (refl, refl)
  effect_sizes u s (closed (ClashAtHome n)) share = (refl, refl)
  effect_sizes u s abandoned share = (refl, refl)
  effect_sizes u s (collected outcome) share = (refl, refl)

  pub take_sizes : (nodes : List ℕ) (u : ℕ) (chosen : ℕ → ℕ) (ruling : Ruling) (share : Share T) →
      SameSizes share (take_leaves S K nodes u chosen ruling share)
  take_sizes nodes u chosen (Void fault) share = (refl, refl)
  take_sizes nodes u chosen (Decided (Clash n)) share = (refl, refl)
  take_sizes nodes u chosen (Decided (Commit next)) share =
      (length_placed nodes chosen next share.places (writes_in S K (next_message share)), refl)

  -- an accepted call at a slot was made over memories of the right sizes and a usable line, at a suite that is there
  pub at_accepted : (w : World T) (u s : ℕ) (did : Did T) → answer S K w (call_of (at u s did)) ≡ answer_of (at u s did) →
      (unfit w ≡ false) × There w u
  at_accepted w u s (began snapshot) h = passed (accepted_slot Began w u (begin_answer s) _ s h).0
  at_accepted w u s (read n x) h = passed (accepted_slot Setting w u (read_answer w.session.nodes s n) _ s h).0
  at_accepted w u s (wrote n x) h = passed (accepted_slot (λ _. Written) w u (write_answer w.session.nodes s n) _ s h).0
  at_accepted w u s (closed answer) h = passed (accepted_slot Committed w u (commit_answer S K w.session.nodes u s) _ s h).0
  at_accepted w u s abandoned h = passed (accepted_slot (λ _. Abandoned) w u (abandon_answer s) _ s h).0
  at_accepted w u s (collected outcome) h = passed (accepted_slot Collected w u (collect_answer s) _ s h).0

  -- and an accepted take likewise
  pub took_accepted : (w : World T) (u : ℕ) (ruling : Ruling) → answer S K w (call_of (took u ruling)) ≡ answer_of (took u ruling) →
      (unfit w ≡ false) × There w u
  took_accepted w u ruling h = passed (accepted_suite Taken w u (take_answer S K (length w.session.suites) w.session.nodes) _ h)
