-- A call at a slot, as its suite sees it: the share that it leaves, from what it leaves of the slot, the write places and the line.
use Rattle.std.proofs.Common.{◌≡◌, ℕ, ◌-◌, ◌<◌, List, [], map, length, set, get_or, Ok, Err, Result, sym, refl, ap, ◌∙◌}
use Rattle.lines.specs.Lines.{LineState}
use Rattle.messages.specs.declared.parts.Write.{Write}
use Rattle.refusals.specs.declared.Refusal.{Refusal}
use Rattle.session.specs.Shares.{Share, slot_of}
use Rattle.session.specs.Slotted.{slot_state}
use Rattle.session.specs.States.{SlotState, idle, opened, sent, ruled, SuiteState, after}
use Rattle.session.specs.Steps.{share_with, slot_after, writes_after, line_after, step_leaves}
use Rattle.session.specs.declared.place.Place.{Place}
use Rattle.session.specs.declared.ruling.CommitAnswer.TheVariants.{Sent, ReadOnly, Clash}
use Rattle.session.specs.declared.slot.Slot.{Slot}
use Rattle.session.specs.declared.slot_call.SlotAnswer.{SlotAnswer}
use Rattle.session.specs.declared.slot_call.SlotAnswer.TheVariants.{Began, Setting, Written, Committed, Abandoned, Collected}
use Rattle.session.specs.declared.slot_call.SlotCall.{SlotCall}
use Rattle.session.specs.declared.slot_call.SlotCall.TheVariants.{Begin, Read, Write as Writing, Commit, Abandon, Collect}
use Rattle.settings.specs.Kinds.{SettingKind}
use Rattle.summaries.specs.Kinds.{SummaryKind}
use Rattle.std.proofs.lemmas.List.{get_or-map, map-set, set-get_or}

module _ {T : Type 0} (S : SummaryKind) (K : SettingKind T) (stamp taken : ℕ) (slots : List Slot) (places : List (Place T)) (writes : List (Write T)) (line : LineState) where
  -- a suite with these slots
  abbrev suite : List Slot → SuiteState
  suite qs = record { stamp = stamp; taken = taken; slots = map slot_state qs }

  -- its share, and what the step of a slot sees of it
  abbrev whole : Share T
  whole = share_with (suite slots) places writes line

  abbrev part : Share T
  part = share_with (record { stamp = stamp; taken = 0; slots = [] }) places writes line

  -- two shares that differ in these parts alone
  parts : {qs qs' : List SlotState} {ws ws' : List (Write T)} {l l' : LineState} → qs ≡ qs' → ws ≡ ws' → l ≡ l' →
      share_with (record { stamp = stamp; taken = taken; slots = qs }) places ws l ≡ share_with (record { stamp = stamp; taken = taken; slots = qs' }) places ws' l'
  parts a b c = cc

  slot_same : (s : ℕ) (call : SlotCall T) (a : SlotAnswer T) (q : SlotState) → slot_after part s call a q ≡ slot_after whole s call a q
  slot_same s Begin a q = refl
  slot_same s (Read n) a idle = refl
  slot_same s (Read n) a (opened snapshot reads written) = refl
  slot_same s (Read n) a sent = refl
  slot_same s (Read n) a (ruled outcome) = refl
  slot_same s (Writing n x) a idle = refl
  slot_same s (Writing n x) a (opened snapshot reads written) = refl
  slot_same s (Writing n x) a sent = refl
  slot_same s (Writing n x) a (ruled outcome) = refl
  slot_same s Commit (Began snapshot) q = refl
  slot_same s Commit (Setting x) q = refl
  slot_same s Commit Written q = refl
  slot_same s Commit (Committed Sent) q = refl
  slot_same s Commit (Committed (ReadOnly snapshot)) q = refl
  slot_same s Commit (Committed (Clash n)) q = refl
  slot_same s Commit Abandoned q = refl
  slot_same s Commit (Collected outcome) q = refl
  slot_same s Abandon a q = refl
  slot_same s Collect a q = refl

  writes_same : (s : ℕ) (call : SlotCall T) (q : SlotState) → writes_after part s call q ≡ writes_after whole s call q
  writes_same s Begin q = refl
  writes_same s (Read n) q = refl
  writes_same s (Writing n x) idle = refl
  writes_same s (Writing n x) (opened snapshot reads written) = refl
  writes_same s (Writing n x) sent = refl
  writes_same s (Writing n x) (ruled outcome) = refl
  writes_same s Commit q = refl
  writes_same s Abandon q = refl
  writes_same s Collect q = refl

  line_same : (u s : ℕ) (a : SlotAnswer T) (q : SlotState) → line_after S K part u s a q ≡ line_after S K whole u s a q
  line_same u s (Committed Sent) idle = refl
  line_same u s (Committed Sent) (opened snapshot reads written) = refl
  line_same u s (Committed Sent) sent = refl
  line_same u s (Committed Sent) (ruled outcome) = refl
  line_same u s (Committed (ReadOnly snapshot)) q = refl
  line_same u s (Committed (Clash n)) q = refl
  line_same u s (Began snapshot) q = refl
  line_same u s (Setting x) q = refl
  line_same u s Written q = refl
  line_same u s Abandoned q = refl
  line_same u s (Collected outcome) q = refl

  -- the share that a call leaves
  pub share_stepped : (u s : ℕ) (call : SlotCall T) (r : Result (SlotAnswer T) Refusal) (d new : Slot) (writes' : List (Write T)) (line' : LineState) →
      s - 1 < length slots →
      slot_state new ≡ after r (λ a. slot_after part s call a (slot_state (get_or slots (s - 1) d))) (slot_state (get_or slots (s - 1) d)) →
      writes' ≡ after r (λ a. writes_after part s call (slot_state (get_or slots (s - 1) d))) writes →
      line' ≡ after r (λ a. line_after S K part u s a (slot_state (get_or slots (s - 1) d))) line →
      share_with (suite (set slots (s - 1) new)) places writes' line' ≡ after r (λ a. step_leaves S K u s call a whole) whole
  share_stepped u s call r d new writes' line' there = by r
    where
      old : Slot
      old = get_or slots (s - 1) d

      here : slot_of whole s ≡ slot_state old
      here = get_or-map slot_state slots (s - 1) d idle there

      by : (r : Result (SlotAnswer T) Refusal) →
          slot_state new ≡ after r (λ a. slot_after part s call a (slot_state old)) (slot_state old) →
          writes' ≡ after r (λ a. writes_after part s call (slot_state old)) writes →
          line' ≡ after r (λ a. line_after S K part u s a (slot_state old)) line →
          share_with (suite (set slots (s - 1) new)) places writes' line' ≡ after r (λ a. step_leaves S K u s call a whole) whole
      by (Ok a) slot ws l =
          parts
          (map-set slot_state slots (s - 1) new
          ∙ ap (set (map slot_state slots) (s - 1)) (slot ∙ slot_same s call a (slot_state old) ∙ ap (slot_after whole s call a) (sym here)))
          (ws ∙ writes_same s call (slot_state old) ∙ ap (writes_after whole s call) (sym here))
          (l ∙ line_same u s a (slot_state old) ∙ ap (line_after S K whole u s a) (sym here))
      by (Err why) slot ws l =
          parts
          (map-set slot_state slots (s - 1) new
          ∙ ap (set (map slot_state slots) (s - 1)) (slot ∙ sym here)
          ∙ set-get_or (map slot_state slots) (s - 1) idle)
          ws
          l
