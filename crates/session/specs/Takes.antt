-- Take: a suite rules on the next agreed message.
--
--   decided          what a suite decides on a message without a fault
--   ruled_if_sent    a slot whose move's message was ruled on
--   with_outcome     the slots after a ruling
--   decided_stamp    the stamp after a ruling
--   next_message     the message that a suite takes next
--   placed           a suite's places after a commit
--   is_at            whether a version stands at an index
--   would_read       whether the move in a slot would read a version of a node
--   Spare            a place of a node that no open move of a suite would read
--   writes_in        the writes of a message
--   first_clash      the first node of the session that makes a message a clash
--   ruled_so         what a suite rules on a message that reads so
--   ruling           what it rules on a message
--   take_answer      what take answers
--   decided_places   the places after a ruling
--   take_leaves      what take leaves
--   Spares           for each written node the place is spare that the commit overwrites
use Rattle.std.specs.Prelude.{◌≡◌, ℕ, ◌+◌, ◌-◌, ◌<◌, ◌≤◌, ◌==◌, Bool, false, if◌then◌else◌, not, ◌&&◌, is_some, List, length, Some, None, Ok, Err, Option, Result, option_to_list, find, fold, flat_map, nat_le, slice_index, slice_index_or, slice_set, ⊤}
use Rattle.std.specs.List.{range_with_len, AllByRecursion}
use Rattle.limits.specs.Limits.{places_each, slots_each}
use Rattle.lines.specs.Lines.{message_number}
use Rattle.messages.specs.Reading.{read_answer, summary_in, write_in}
use Rattle.messages.specs.declared.fault.Fault.{Fault}
use Rattle.messages.specs.declared.parts.Header.{Header}
use Rattle.messages.specs.declared.parts.Write.{Write}
use Rattle.refusals.specs.declared.Refusal.{Refusal}
use Rattle.refusals.specs.declared.Refusal.TheVariants.{AllTaken}
use Rattle.session.specs.Commits.{is_newer}
use Rattle.session.specs.Shares.{Share, slot_of}
use Rattle.session.specs.Slots.{own_writes, own}
use Rattle.session.specs.States.{SlotState, idle, opened, sent, ruled}
use Rattle.session.specs.Versions.{visible, versions_of, with_version}
use Rattle.session.specs.declared.place.Place.{Place}
use Rattle.session.specs.declared.ruling.Outcome.{Outcome}
use Rattle.session.specs.declared.ruling.Outcome.TheVariants.{Clash, Commit}
use Rattle.session.specs.declared.ruling.Ruling.{Ruling}
use Rattle.session.specs.declared.ruling.Ruling.TheVariants.{Void, Decided}
use Rattle.settings.specs.Kinds.{SettingKind}
use Rattle.summaries.specs.Kinds.{SummaryKind}

-- what a suite with this stamp decides: a clash with that node or, without one, a commit under the next stamp
abbrev pub decided : ℕ → Option ℕ → Outcome
decided stamp (Some n) = Clash n
decided stamp None = Commit (stamp + 1)

-- a slot whose move's message was ruled so, if it is sent
abbrev pub ruled_if_sent : Outcome → SlotState → SlotState
ruled_if_sent outcome sent = ruled outcome
ruled_if_sent outcome state = state

-- the slots of suite u after a ruling on a message from `slot` of `suite`: if that suite is u, the slot has the outcome, if it was sent
abbrev pub with_outcome : ℕ → ℕ → ℕ → Outcome → List SlotState → List SlotState
with_outcome u suite slot outcome slots =
    if suite == u then slice_set slots (slot - 1) (ruled_if_sent outcome (slice_index_or slots (slot - 1) idle)) else slots

-- a clash leaves the stamp, a commit has the next one
abbrev pub decided_stamp : Outcome → ℕ → ℕ
decided_stamp (Clash n) stamp = stamp
decided_stamp (Commit next) stamp = next

module _ {T : Type 0} where
  -- the agreed message that a suite takes next
  abbrev pub next_message : Share T → List ℕ
  next_message share = message_number share.line (share.suite.taken + 1)

  -- a suite's places after a commit under this stamp: each written node has its setting in the place that was chosen for the node
  abbrev pub placed : List ℕ → (ℕ → ℕ) → ℕ → List (Place T) → List (Write T) → List (Place T)
  placed nodes chosen stamp places ws =
      fold (λ ps w. with_version nodes ps w.node (chosen w.node) (record { stamp = stamp; setting = w.setting })) places ws

  -- whether the version that is seen, if there is one, stands at index j
  abbrev pub is_at : ℕ → Option (ℕ × Place T) → Bool
  is_at j None = false
  is_at j (Some v) = v.0 == j

  -- whether the move in slot s, which has this state, would read the place at index j of the node n: the move is open, has not written
  -- the node, as it would then read its own setting, and sees that place at its snapshot
  abbrev pub would_read : List ℕ → Share T → ℕ → ℕ → ℕ → SlotState → Bool
  would_read nodes share n j s (opened snapshot reads written) =
      not (is_some (own (own_writes share s written) n)) && is_at j (visible snapshot (versions_of nodes share.places n))
  would_read nodes share n j s _ = false

  -- j is the index of one of the five places of the node n, and no open move of the suite would read it
  abbrev pub Spare : List ℕ → Share T → ℕ → ℕ → Type 0
  Spare nodes share n j =
      (j < places_each) × ((s : ℕ) → (1 ≤ s) × (s ≤ slots_each) → would_read nodes share n j s (slot_of share s) ≡ false)

module _ {T : Type 0} (S : SummaryKind) (K : SettingKind T) where
  -- the writes of a message, in their order
  abbrev pub writes_in : List ℕ → List (Write T)
  writes_in m = flat_map (λ i. option_to_list (write_in S K m i)) (range_with_len 0 (slice_index m 5))

  -- the first node, in the session's order, whose newest version is above the snapshot and which the summary names
  abbrev pub first_clash : List ℕ → List (Place T) → ℕ → List ℕ → Option ℕ
  first_clash nodes places snapshot summary = find (λ n. is_newer nodes places snapshot n && S.names summary n) nodes

  -- what a suite rules on the message m that reads so: its fault or, without one, what it decides
  abbrev pub ruled_so : List ℕ → Share T → List ℕ → Result Header Fault → Ruling
  ruled_so nodes share m (Err fault) = Void fault
  ruled_so nodes share m (Ok header) =
      Decided (decided share.suite.stamp (first_clash nodes share.places header.origin.snapshot (summary_in S.wide m)))

  -- what a suite rules on the message m, in a session of so many suites
  abbrev pub ruling : ℕ → List ℕ → Share T → List ℕ → Ruling
  ruling suites nodes share m = ruled_so nodes share m (read_answer S K suites share.suite.stamp nodes m)

  -- a take of the next agreed message, in a session of so many suites
  abbrev pub take_answer : ℕ → List ℕ → Share T → Result Ruling Refusal
  take_answer suites nodes share =
      if nat_le (length share.line.agreed) share.suite.taken then Err AllTaken else Ok (ruling suites nodes share (next_message share))

  -- a clash leaves the places, a commit places its writes under its stamp
  abbrev pub decided_places : Outcome → List ℕ → (ℕ → ℕ) → List ℕ → List (Place T) → List (Place T)
  decided_places (Clash n) nodes chosen m places = places
  decided_places (Commit next) nodes chosen m places = placed nodes chosen next places (writes_in m)

  -- what a take at suite u leaves: the message is taken; without a fault, its own slot has the outcome, and a commit is
  -- applied in the places that were chosen
  abbrev pub take_leaves : List ℕ → ℕ → (ℕ → ℕ) → Ruling → Share T → Share T
  take_leaves nodes u chosen (Void fault) share = record share { suite = record share.suite { taken = share.suite.taken + 1 } }
  take_leaves nodes u chosen (Decided outcome) share =
      let m = next_message share in
      record share {
        suite = record {
          stamp = decided_stamp outcome share.suite.stamp;
          taken = share.suite.taken + 1;
          slots = with_outcome u (slice_index m 3) (slice_index m 4) outcome share.suite.slots;
        };
        places = decided_places outcome nodes chosen m share.places;
      }

  -- what the chosen places have to be: for each node that a commit writes, one of its five places, which no open move of the suite
  -- would read
  abbrev pub Spares : List ℕ → (ℕ → ℕ) → Ruling → Share T → Type 0
  Spares nodes chosen (Void fault) share = ⊤
  Spares nodes chosen (Decided (Clash n)) share = ⊤
  Spares nodes chosen (Decided (Commit next)) share =
      AllByRecursion (λ w. Spare nodes share w.node (chosen w.node)) (writes_in (next_message share))
