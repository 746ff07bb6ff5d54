-- A take, as its suite sees it: the share that it leaves, from what it keeps of a commit and tells the message's slot.
use Rattle.std.proofs.Common.{◌≡◌, ℕ, ◌+◌, ◌≤◌, List, [], length, map, Ok, Err, Result, refl, ap, ◌∙◌, arith}
use Rattle.limits.specs.Limits.{slots_each}
use Rattle.lines.specs.Lines.{LineState}
use Rattle.messages.specs.Reading.{header_in}
use Rattle.messages.specs.declared.parts.Header.{Header}
use Rattle.refusals.specs.declared.Refusal.{Refusal}
use Rattle.session.proofs.Lending.{share_back}
use Rattle.session.proofs.Shares.{Sized, There}
use Rattle.session.proofs.Spares.{spares_of}
use Rattle.session.specs.Calls.{AfterTake}
use Rattle.session.specs.Choosing.{first_spare, spare_of}
use Rattle.session.specs.Shares.{Share, share_of, with_share}
use Rattle.session.specs.States.{SlotState, SuiteState, World, after}
use Rattle.session.specs.Steps.{share_with}
use Rattle.session.specs.Slotted.{slot_state}
use Rattle.session.specs.Takes.{decided_stamp, with_outcome, decided_places, take_leaves, next_message}
use Rattle.session.specs.Versions.{versions_of}
use Rattle.session.specs.declared.place.Place.{Place}
use Rattle.session.specs.declared.ruling.Outcome.{Outcome}
use Rattle.session.specs.declared.ruling.Ruling.{Ruling}
use Rattle.session.specs.declared.ruling.Ruling.TheVariants.{Void, Decided}
use Rattle.session.specs.declared.slot.Slot.{Slot}
use Rattle.settings.specs.Kinds.{SettingKind}
use Rattle.summaries.specs.Kinds.{SummaryKind}
use Rattle.std.proofs.lemmas.List.{length-map}

-- a suite has four slots, as the rules see it
pub few_slots : (slots : List Slot) (states : List SlotState) → length slots ≡ slots_each → map slot_state slots ≡ states → length states ≤ slots_each
few_slots slots states four is = let same = ap length is in let long = length-map slots slot_state in omega arith

-- a suite of these parts
of_parts : (x : SuiteState) (stamp taken : ℕ) (slots : List SlotState) → x.stamp ≡ stamp → x.taken ≡ taken → x.slots ≡ slots →
    x ≡ record { stamp = stamp; taken = taken; slots = slots }
of_parts x stamp taken slots a b c =
    ap (λ k. record { stamp = k; taken = x.taken; slots = x.slots }) a
    ∙ ap (λ k. record { stamp = stamp; taken = k; slots = x.slots }) b
    ∙ ap (λ k. record { stamp = stamp; taken = taken; slots = k }) c

module _ {T : Type 0} (S : SummaryKind) (K : SettingKind T) (nodes : List ℕ) (u : ℕ) (suite : SuiteState) (places : List (Place T)) (line : LineState) where
  abbrev share : Share T
  share = share_with suite places [] line

  pub share_taken : (x kept told : SuiteState) (ps : List (Place T)) (header : Header) (outcome : Outcome) (m : List ℕ) → x ≡ suite →
      kept ≡ record { stamp = decided_stamp outcome x.stamp; taken = x.taken + 1; slots = x.slots } →
      ps ≡ decided_places S K outcome nodes (λ n. first_spare x.slots (versions_of nodes places n)) m places →
      told.stamp ≡ kept.stamp → told.taken ≡ kept.taken → told.slots ≡ with_outcome u header.origin.suite header.origin.slot outcome kept.slots →
      header ≡ header_in m → m ≡ next_message share →
      share_with told ps [] line ≡ take_leaves S K nodes u (spare_of nodes share) (Decided outcome) share
  share_taken x kept told ps header outcome m x_is kept_is ps_is stamp taken slots header_is m_is =
      let stamp' : told.stamp ≡ decided_stamp outcome suite.stamp =
      stamp ∙ ap (λ k. k.stamp) kept_is ∙ ap (λ k. decided_stamp outcome k.stamp) x_is in
      let taken' : told.taken ≡ suite.taken + 1 = taken ∙ ap (λ k. k.taken) kept_is ∙ ap (λ k. k.taken + 1) x_is in
      let from = header_is ∙ ap header_in m_is in
      let slots' : told.slots ≡ with_outcome u (header_in (next_message share)).origin.suite (header_in (next_message share)).origin.slot outcome suite.slots =
      slots
      ∙ ap (λ k. with_outcome u header.origin.suite header.origin.slot outcome k.slots) kept_is
      ∙ ap (λ k. with_outcome u header.origin.suite header.origin.slot outcome k.slots) x_is
      ∙ ap (λ h. with_outcome u h.origin.suite h.origin.slot outcome suite.slots) from in
      let places' : ps ≡ decided_places S K outcome nodes (spare_of nodes share) (next_message share) places =
      ps_is
      ∙ ap (λ k. decided_places S K outcome nodes (λ n. first_spare k.slots (versions_of nodes places n)) m places) x_is
      ∙ ap (λ k. decided_places S K outcome nodes (spare_of nodes share) k places) m_is in
      ap (λ q. share_with q ps [] line) (of_parts told _ _ _ stamp' taken' slots')
      ∙ ap (λ q. share_with (record {
        stamp = decided_stamp outcome suite.stamp;
        taken = suite.taken + 1;
        slots = with_outcome u (header_in (next_message share)).origin.suite (header_in (next_message share)).origin.slot outcome suite.slots;
      }) q [] line) places'

-- a share that a take leaves, put back, is what the take leaves of the world; the write places are not seen
module _ {T : Type 0} (S : SummaryKind) (K : SettingKind T) (w : World T) (u : ℕ) (sized : Sized w) (there : There w u) where
  abbrev its : Share T
  its = share_of w u

  abbrev bare : Share T
  bare = share_with its.suite its.places [] its.line

  same_leaves : (chosen : ℕ → ℕ) (ruling : Ruling) →
      record (take_leaves S K w.session.nodes u chosen ruling bare) { writes = its.writes } ≡ take_leaves S K w.session.nodes u chosen ruling its
  same_leaves chosen (Void fault) = refl
  same_leaves chosen (Decided outcome) = refl

  pub take_put : (r : Result Ruling Refusal) (sh : Share T) (w' : World T) → length its.suite.slots ≤ slots_each →
      sh ≡ after r (λ ruling. take_leaves S K w.session.nodes u (spare_of w.session.nodes bare) ruling bare) bare →
      w' ≡ with_share w u (record sh { writes = its.writes }) → AfterTake S K r u w w'
  take_put (Ok ruling) sh w' few left is = (
    spare_of w.session.nodes its,
    spares_of S K w.session.nodes its few ruling,
    is ∙ ap (λ x. with_share w u (record x { writes = its.writes })) left ∙ ap (with_share w u) (same_leaves (spare_of w.session.nodes its) ruling),
  )
  take_put (Err why) sh w' few left is = is ∙ ap (λ x. with_share w u (record x { writes = its.writes })) left ∙ share_back w u sized there
