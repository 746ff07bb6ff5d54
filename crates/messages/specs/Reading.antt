-- Reading a message, with a summary of the kind S and settings of the kind K, whose widths are W and X. The reader knows the
-- number of suites, its own stamp and the session's nodes.
--
--   Check               a check: whether it fails, and the fault that it then is
--   wrong_length        whether the message is too short or its length field wrong
--   length_check        the six checks of the frame
--   version_check
--   suite_check
--   slot_check
--   count_check
--   snapshot_check
--   frame_checks        the checks of the frame, in their order
--   node_in             the node number of a write
--   setting_in          the bytes of a write's setting
--   known               whether a node is in the session
--   given_before        whether one of the first writes has the node
--   node_check          the two checks of a write
--   setting_check
--   write_checks        the checks of a write, in their order
--   checks              all checks of a message, in their order
--   first_fault         the fault of the first check that fails
--   judged              what a reader answers by it
--   header_in           what the header says
--   raw_header_in       the version and what the header says, unless the length is wrong
--   read_answer         what reading answers
--   summary_in          the bytes of the summary
--   write_in            a write, if it is there
--   ExactFault          a fault is exactly that of the first failing check
--   Faultless           what holds of a message without a fault
use Rattle.std.specs.Prelude.{◌≡◌, ℕ, zero, suc, ◌+◌, ◌-◌, ◌<◌, ◌≤◌, Bool, true, false, if◌then◌else◌, not, ◌&&◌, ◌||◌, List, [], ◌∷◌, ◌++◌, length, is_some, Some, None, Ok, Err, Option, Result, ◌==◌, ◌≢◌, nat_le, nat_lt, slice_index}
use Rattle.number_bytes.specs.Bytes.{number}
use Rattle.limits.specs.Limits.{slots_each, most_writes, header_width, node_width, outside}
use Rattle.messages.specs.Causes.{fault}
use Rattle.messages.specs.Layout.{version, write_start, setting_start, message_length}
use Rattle.messages.specs.declared.fault.Cause.TheVariants.{Length, Version, Sender, WriteCount, Snapshot, Node, Setting}
use Rattle.messages.specs.declared.fault.Fault.{Fault}
use Rattle.messages.specs.declared.parts.Header.{Header}
use Rattle.messages.specs.declared.parts.Write.{Write}
use Rattle.settings.specs.Kinds.{SettingKind}
use Rattle.std.specs.List.{between, range_with_len, flat_map, HoldsAt, ContainsAt, AllByRecursion}
use Rattle.std.specs.Option.{option_map}
use Rattle.summaries.specs.Kinds.{SummaryKind}

-- a check: whether it fails, and the fault that it then is
abbrev pub Check : Type 0
Check = Bool × Fault

-- whether the message has fewer than ten bytes, or its length field is not the number of bytes after it
abbrev pub wrong_length : List ℕ → Bool
wrong_length m = nat_lt (length m) header_width || not (number (between 0 2 m) == length m - 2)

abbrev pub length_check : List ℕ → Check
length_check m = (wrong_length m, fault Length 0)

abbrev pub version_check : List ℕ → Check
version_check m = (not (slice_index m 2 == version), fault Version 2)

abbrev pub suite_check : ℕ → List ℕ → Check
suite_check suites m = (outside suites (slice_index m 3), fault Sender 3)

abbrev pub slot_check : List ℕ → Check
slot_check m = (outside slots_each (slice_index m 4), fault Sender 4)

abbrev pub count_check : ℕ → ℕ → List ℕ → Check
count_check W X m = (outside most_writes (slice_index m 5) || not (length m == message_length W X (slice_index m 5)), fault WriteCount 5)

abbrev pub snapshot_check : ℕ → List ℕ → Check
snapshot_check stamp m = (nat_lt stamp (number (between 6 10 m)), fault Snapshot 6)

-- the checks of the frame, in their order
abbrev pub frame_checks : ℕ → ℕ → ℕ → ℕ → List ℕ → List Check
frame_checks W X suites stamp m =
    length_check m ∷ version_check m ∷ suite_check suites m ∷ slot_check m ∷ count_check W X m ∷ snapshot_check stamp m ∷ []

-- the node number of write i
abbrev pub node_in : ℕ → ℕ → List ℕ → ℕ → ℕ
node_in W X m i = number (between (write_start W X i) (write_start W X i + node_width) m)

-- the bytes of the setting of write i
abbrev pub setting_in : ℕ → ℕ → List ℕ → ℕ → List ℕ
setting_in W X m i = between (setting_start W X i) (setting_start W X i + X) m

-- whether the node n is in the session
abbrev pub known : List ℕ → ℕ → Bool
known [] n = false
known (x ∷ xs) n = x == n || known xs n

-- whether one of the first i writes has the node n
abbrev pub given_before : ℕ → ℕ → List ℕ → ℕ → ℕ → Bool
given_before W X m n zero = false
given_before W X m n (suc i) = node_in W X m i == n || given_before W X m n i

-- the node of write i is in the session, and no earlier write has it
abbrev pub node_check : ℕ → ℕ → List ℕ → List ℕ → ℕ → Check
node_check W X nodes m i = (not (known nodes (node_in W X m i)) || given_before W X m (node_in W X m i) i, fault Node (write_start W X i))

-- the setting of write i reads
abbrev pub setting_check : {T : Type 0} → ℕ → SettingKind T → List ℕ → ℕ → Check
setting_check W K m i = (not (is_some (K.reading (setting_in W K.wide m i))), fault Setting (setting_start W K.wide i))

-- the checks of write i, in their order
abbrev pub write_checks : {T : Type 0} → ℕ → SettingKind T → List ℕ → List ℕ → ℕ → List Check
write_checks W K nodes m i = node_check W K.wide nodes m i ∷ setting_check W K m i ∷ []

-- all checks of a message, in their order: the frame's, then those of one write after the other
abbrev pub checks : {T : Type 0} → SummaryKind → SettingKind T → ℕ → ℕ → List ℕ → List ℕ → List Check
checks S K suites stamp nodes m =
    frame_checks S.wide K.wide suites stamp m ++ flat_map (write_checks S.wide K nodes m) (range_with_len 0 (slice_index m 5))

-- the fault of the first check that fails
abbrev pub first_fault : List Check → Option Fault
first_fault [] = None
first_fault (c ∷ cs) = if c.0 then Some c.1 else first_fault cs

-- what a reader answers by it: the fault or, without one, x
abbrev pub judged : {A : Type 0} → Option Fault → A → Result A Fault
judged None x = Ok x
judged (Some f) x = Err f

-- what the header says
abbrev pub header_in : List ℕ → Header
header_in m = record {
  origin = record { suite = slice_index m 3; slot = slice_index m 4; snapshot = number (between 6 10 m) };
  writes = slice_index m 5;
}

-- the version and what the header says, unless the length is wrong
abbrev pub raw_header_in : List ℕ → Option (ℕ × Header)
raw_header_in m = if wrong_length m then None else Some (slice_index m 2, header_in m)

-- what reading answers: the first fault or, without one, what the header says
abbrev pub read_answer : {T : Type 0} → SummaryKind → SettingKind T → ℕ → ℕ → List ℕ → List ℕ → Result Header Fault
read_answer S K suites stamp nodes m = judged (first_fault (checks S K suites stamp nodes m)) (header_in m)

-- the bytes of the summary: W from byte 10 on, or as many as there are
abbrev pub summary_in : ℕ → List ℕ → List ℕ
summary_in W m = between header_width (header_width + W) m

-- write i, if the header counts it, the message holds it whole, and its setting reads
abbrev pub write_in : {T : Type 0} → SummaryKind → SettingKind T → List ℕ → ℕ → Option (Write T)
write_in S K m i =
    if nat_lt i (slice_index m 5) && nat_le (write_start S.wide K.wide (i + 1)) (length m)
    then option_map (λ s. record { node = node_in S.wide K.wide m i; setting = s }) (K.reading (setting_in S.wide K.wide m i))
    else None

-- without a fault no check fails, and a fault is that of a failing check before which none fails
abbrev pub ExactFault : List Check → Result Header Fault → Type 0
ExactFault cs (Ok _) = AllByRecursion (λ c. c.0 ≡ false) cs
ExactFault cs (Err f) = (k : ℕ) × (k < length cs) × HoldsAt (λ c. c ≡ (true, f)) cs k × ((j : ℕ) → j < k → HoldsAt (λ c. c.0 ≡ false) cs j)

-- what holds of a message without a fault
pub record Faultless {T : Type 0} (S : SummaryKind) (K : SettingKind T) (suites stamp : ℕ) (nodes m : List ℕ) : Type 0 where
  pub suite_there : (1 ≤ slice_index m 3) × (slice_index m 3 ≤ suites)
  pub slot_there : (1 ≤ slice_index m 4) × (slice_index m 4 ≤ slots_each)
  pub few_writes : (1 ≤ slice_index m 5) × (slice_index m 5 ≤ most_writes)
  pub whole : length m ≡ message_length S.wide K.wide (slice_index m 5)
  pub snapshot_in : number (between 6 10 m) ≤ stamp
  pub summary_whole : length (summary_in S.wide m) ≡ S.wide
  pub each : (i : ℕ) → i < slice_index m 5 → (w : Write T) × (write_in S K m i ≡ Some w) × (w.node ≡ node_in S.wide K.wide m i) × ContainsAt nodes w.node
  pub different : (i j : ℕ) → i < j → j < slice_index m 5 → node_in S.wide K.wide m i ≢ node_in S.wide K.wide m j
