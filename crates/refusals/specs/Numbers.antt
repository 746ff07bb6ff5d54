-- The refusals by number.
--
--   refusal_number      the number of a refusal
use Rattle.std.specs.Prelude.{ℕ}
use Rattle.refusals.specs.declared.Refusal.{Refusal}
use Rattle.refusals.specs.declared.Refusal.TheVariants.{SuiteCount, NodeCount, RepeatedNode, MemorySize, NoSuchSlot, SlotState, UnknownNode, MoveFull, NoVersion, LineFull, NothingWaiting, AllTaken, NotRuled, MessageLength, NoSuchMessage, SummarySize}

-- the number by which documents and programs name a refusal
abbrev pub refusal_number : Refusal → ℕ
refusal_number SuiteCount = 1
refusal_number NodeCount = 2
refusal_number RepeatedNode = 3
refusal_number MemorySize = 4
refusal_number NoSuchSlot = 5
refusal_number SlotState = 6
refusal_number UnknownNode = 7
refusal_number MoveFull = 8
refusal_number NoVersion = 9
refusal_number LineFull = 10
refusal_number NothingWaiting = 11
refusal_number AllTaken = 12
refusal_number NotRuled = 13
refusal_number MessageLength = 14
refusal_number NoSuchMessage = 15
refusal_number SummarySize = 16
