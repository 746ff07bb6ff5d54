-- How a suite searches its places, and which spare place it takes of several.
--
--   within          which stamps a search asks for
--   preferred       a place, or what was found behind it
--   sees_place      whether the move in a slot sees a place
--   read_by_any     whether a move in any slot does
--   first_unread    the first of some places that no open move sees
--   first_spare     the first of a node's places that no open move sees
--   spare_of        that of a suite
--   placed_all      a suite's places after a commit that takes these
--   Placeable       a message has all its writes, for different nodes
--   ruling_share    what a ruling asks of a suite's share
--   ruling_given    the ruling that a judgement gives
use Rattle.std.specs.Prelude.{◌≡◌, ◌≢◌, ◌<◌, ℕ, Bool, true, false, if◌then◌else◌, not, List, [], Some, None, Ok, Err, Option, Result, nat_le, slice_index}
use Rattle.std.specs.List.{ContainsAt, list_any, position_or_len, range_with_len}
use Rattle.limits.specs.Limits.{places_each}
use Rattle.lines.specs.Lines.{empty_line}
use Rattle.messages.specs.Reading.{write_in}
use Rattle.messages.specs.declared.fault.Fault.{Fault}
use Rattle.messages.specs.declared.parts.Header.{Header}
use Rattle.messages.specs.declared.parts.Write.{Write}
use Rattle.session.specs.Shares.{Share}
use Rattle.session.specs.States.{SlotState, idle, opened, sent, ruled}
use Rattle.session.specs.Takes.{is_at, placed}
use Rattle.session.specs.Versions.{visible, versions_of}
use Rattle.session.specs.declared.place.Place.{Place}
use Rattle.session.specs.declared.ruling.Outcome.{Outcome}
use Rattle.session.specs.declared.ruling.Ruling.{Ruling}
use Rattle.session.specs.declared.ruling.Ruling.TheVariants.{Void, Decided}
use Rattle.settings.specs.Kinds.{SettingKind}
use Rattle.summaries.specs.Kinds.{SummaryKind}

-- which stamps a search asks for: those that are not above a snapshot, or all
abbrev pub within : Option ℕ → ℕ → Bool
within None = λ stamp. true
within (Some snapshot) = λ stamp. nat_le stamp snapshot

module _ {T : Type 0} where
  -- the place p with index i, if its stamp is asked for and not below that of what was found behind it; else what was found
  abbrev pub preferred : Bool → ℕ → Place T → Option (ℕ × Place T) → Option (ℕ × Place T)
  preferred true i p None = Some (i, p)
  preferred true i p (Some b) = if nat_le b.1.stamp p.stamp then Some (i, p) else Some b
  preferred false i p found = found

  -- whether a move that is open in a slot sees the place at index j of these
  abbrev pub sees_place : List (Place T) → ℕ → SlotState → Bool
  sees_place ps j idle = false
  sees_place ps j (opened snapshot reads written) = is_at j (visible snapshot ps)
  sees_place ps j sent = false
  sees_place ps j (ruled outcome) = false

  -- whether a move that is open in one of the slots sees the place at index j
  abbrev pub read_by_any : List SlotState → List (Place T) → ℕ → Bool
  read_by_any slots ps j = list_any (sees_place ps j) slots

  -- the first index below n that no open move in these slots sees
  unfoldable pub first_unread : List SlotState → List (Place T) → ℕ → ℕ
  first_unread slots ps n = position_or_len (λ j. not (read_by_any slots ps j)) (range_with_len 0 n)

  -- the first index of a node's five places that no open move in these slots sees
  unfoldable pub first_spare : List SlotState → List (Place T) → ℕ
  first_spare slots ps = first_unread slots ps places_each

  -- that of the node n at a suite
  abbrev pub spare_of : List ℕ → Share T → ℕ → ℕ
  spare_of nodes share n = first_spare share.suite.slots (versions_of nodes share.places n)

  -- the places of a suite with these slots after a commit of these writes
  abbrev pub placed_all : List ℕ → List SlotState → ℕ → List (Place T) → List (Write T) → List (Place T)
  placed_all nodes slots stamp places ws = placed nodes (λ n. first_spare slots (versions_of nodes places n)) stamp places ws

-- the message m has all its writes, for different nodes
pub record Placeable {T : Type 0} (S : SummaryKind) (K : SettingKind T) (nodes m : List ℕ) : Type 0 where
  pub each : (i : ℕ) → i < slice_index m 5 → (w : Write T) × (write_in S K m i ≡ Some w) × ContainsAt nodes w.node
  pub different : (i j : ℕ) (v w : Write T) → i < j → j < slice_index m 5 → write_in S K m i ≡ Some v → write_in S K m j ≡ Some w → v.node ≢ w.node

-- what a ruling asks of a suite's share: its stamp and its places
abbrev pub ruling_share : {T : Type 0} → ℕ → List (Place T) → Share T
ruling_share stamp places = record { suite = record { stamp = stamp; taken = 0; slots = [] }; places = places; writes = []; line = empty_line 0 }

-- the ruling that a judgement gives: what was decided, or the fault
abbrev pub ruling_given : Result (Header × Outcome) Fault → Ruling
ruling_given (Ok judged) = Decided judged.1
ruling_given (Err fault) = Void fault
