-- Reading returns what was composed.
--
--   header_with     the header that a message from somewhere with so many writes has
--   Returned        the message gives all its fields back
--   Different       no number of the list stands twice
--   Fitting         what a reader needs for a message to have no fault
--   Returns         the message gives its fields back, and has no fault for a reader that it fits
use Rattle.std.specs.Prelude.{◌≡◌, ℕ, ◌<◌, ◌≤◌, List, map, length, Some, Ok, ◌≢◌, slice_index, slice_index_or}
use Rattle.messages.specs.Reading.{header_in, read_answer, summary_in, write_in}
use Rattle.messages.specs.declared.parts.Header.{Header}
use Rattle.messages.specs.declared.parts.Origin.{Origin}
use Rattle.messages.specs.declared.parts.Write.{Write}
use Rattle.settings.specs.Kinds.{SettingKind}
use Rattle.std.specs.List.{ContainsAt, AllByRecursion}
use Rattle.summaries.specs.Kinds.{SummaryKind}

-- the header of a message from `from` with so many writes
abbrev pub header_with : Origin → ℕ → Header
header_with from writes = record { origin = from; writes = writes }

-- the message m gives all its fields back
pub record Returned {T : Type 0} (S : SummaryKind) (K : SettingKind T) (from : Origin) (reads : List ℕ) (writes : List (Write T)) (m : List ℕ) : Type 0 where
  pub header : header_in m ≡ header_with from (length writes)
  pub summary : summary_in S.wide m ≡ S.packed reads
  pub each : (i : ℕ) (w : Write T) → i < length writes → write_in S K m i ≡ Some (slice_index_or writes i w)

-- no number of the list stands twice
abbrev pub Different : List ℕ → Type 0
Different ns = (i j : ℕ) → i < j → j < length ns → slice_index ns i ≢ slice_index ns j

-- what a reader needs for a message to have no fault: the suite is in the session, the snapshot is not above the reader's
-- stamp, and the written nodes are different nodes of the session
pub record Fitting (suites stamp : ℕ) (nodes : List ℕ) (from : Origin) (written : List ℕ) : Type 0 where
  pub suite_in : from.suite ≤ suites
  pub snapshot_in : from.snapshot ≤ stamp
  pub nodes_in : AllByRecursion (ContainsAt nodes) written
  pub different : Different written

-- the message m gives its fields back, and has no fault for a reader that it fits
pub record Returns {T : Type 0} (S : SummaryKind) (K : SettingKind T) (from : Origin) (reads : List ℕ) (writes : List (Write T)) (m : List ℕ) : Type 0 where
  pub fields : Returned S K from reads writes m
  pub faultless : (suites stamp : ℕ) (nodes : List ℕ) → Fitting suites stamp nodes from (map (λ w. w.node) writes) →
      read_answer S K suites stamp nodes m ≡ Ok (header_with from (length writes))
