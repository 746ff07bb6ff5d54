-- Composing a message, with a summary of the kind S and settings of the kind K.
--
--   Numbered          a write's node number is one of 64 bits
--   header_bytes      the first ten bytes
--   write_bytes       the bytes of one write
--   message           the whole message
--   composed          what composing answers: the message's length, or the first thing that does not fit
--   misfit_words      what a misfit prints as
--   Composes          what holds where a message of n bytes is composed
--   buffer_after      what the buffer holds then
use Rattle.std.specs.Prelude.{◌≡◌, ℕ, ◌-◌, ◌≤◌, if◌then◌else◌, List, ◌∷◌, ◌++◌, length, drop, Ok, Err, Result, nat_lt, codes}
use Rattle.number_bytes.specs.Bytes.{Number, big_endian}
use Rattle.limits.specs.Limits.{most_suites, slots_each, most_reads, most_writes, longest_message, outside}
use Rattle.messages.specs.Layout.{version, message_length}
use Rattle.messages.specs.declared.compose.Misfit.{Misfit}
use Rattle.messages.specs.declared.compose.Misfit.TheVariants.{Suite, Slot, Reads, Writes, Buffer}
use Rattle.messages.specs.declared.parts.Origin.{Origin}
use Rattle.messages.specs.declared.parts.Write.{Write}
use Rattle.settings.specs.Kinds.{SettingKind}
use Rattle.std.specs.List.{flat_map}
use Rattle.summaries.specs.Kinds.{SummaryKind}

-- the node number of a write is one of 64 bits
abbrev pub Numbered : {T : Type 0} → Write T → Type 0
Numbered w = Number w.node

-- the first ten bytes of a message of n bytes with w writes: length, version, suite, slot, write count, snapshot
abbrev pub header_bytes : ℕ → Origin → ℕ → List ℕ
header_bytes n from w = big_endian 2 (n - 2) ++ (version ∷ from.suite ∷ from.slot ∷ w ∷ big_endian 4 from.snapshot)

-- the bytes of one write: the node's number, then the setting
abbrev pub write_bytes : {T : Type 0} → SettingKind T → Write T → List ℕ
write_bytes K w = big_endian 8 w.node ++ K.form w.setting

-- the whole message
abbrev pub message : {T : Type 0} → SummaryKind → SettingKind T → Origin → List ℕ → List (Write T) → List ℕ
message S K from reads writes =
    header_bytes (message_length S.wide K.wide (length writes)) from (length writes) ++ (S.packed reads ++ flat_map (write_bytes K) writes)

-- what composing answers, for so many reads and writes and so many bytes of buffer
abbrev pub composed : {T : Type 0} → SummaryKind → SettingKind T → Origin → ℕ → ℕ → ℕ → Result ℕ Misfit
composed S K from reads writes room =
    if outside most_suites from.suite then Err Suite
    else if outside slots_each from.slot then Err Slot
    else if nat_lt most_reads reads then Err Reads
    else if outside most_writes writes then Err Writes
    else if nat_lt room (message_length S.wide K.wide writes) then Err Buffer
    else Ok (message_length S.wide K.wide writes)

-- what a misfit prints as
abbrev pub misfit_words : Misfit → List ℕ
misfit_words Suite = codes "the suite is not 1 to 8"
misfit_words Slot = codes "the slot is not 1 to 4"
misfit_words Reads = codes "a move reads at most 32 nodes"
misfit_words Writes = codes "a message has 1 to 16 writes"
misfit_words Buffer = codes "the message is too long"

-- what holds where a message of n bytes is composed
pub record Composes {T : Type 0} (S : SummaryKind) (K : SettingKind T) (from : Origin) (reads writes room n : ℕ) : Type 0 where
  pub suite_there : (1 ≤ from.suite) × (from.suite ≤ most_suites)
  pub slot_there : (1 ≤ from.slot) × (from.slot ≤ slots_each)
  pub few_reads : reads ≤ most_reads
  pub few_writes : (1 ≤ writes) × (writes ≤ most_writes)
  pub length_is : n ≡ message_length S.wide K.wide writes
  pub enough : n ≤ room
  pub short : n ≤ longest_message

-- what the buffer holds then: the message and the rest as it was or, where something does not fit, what it held
abbrev pub buffer_after : Result ℕ Misfit → List ℕ → List ℕ → List ℕ
buffer_after (Ok n) message buffer = message ++ drop n buffer
buffer_after (Err _) message buffer = buffer
