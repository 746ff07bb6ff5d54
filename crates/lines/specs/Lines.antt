-- What a line means, and what its calls answer and leave, for every line.
--
--   LineState        what a line means
--   with_at          a function with another value at one point
--   waiting_up_to    how many messages wait for the suites 1 to u
--   waiting_count    how many messages wait
--   held             how many messages a line holds
--   unusable         whether the limit is 0 or above 4,096
--   empty_line       what a line of this limit means that holds nothing
--   AllowedLength    the length that a message may have
--   Lawful           what holds of every line at any moment
--   offer_check      whether an offer is refused, and why, by the numbers that this depends on
--   offer_answer     what offering answers
--   offered          the message at the end of its suite's waiting list
--   after_offer      what a line means after an offer
--   settle_check     whether a settle is refused, and why, by the numbers that this depends on
--   settle_answer    what settling answers
--   settled          the first message that waits for a suite, at the end of the agreed list
--   Serves           that a settle served this suite
--   Settles          what a settle does
--   count_check      what counting answers, by the numbers that this depends on
--   count_answer     what counting answers
--   fetch_check      what fetching answers, by the numbers that this depends on
--   message_number   the agreed message of a number
--   fetch_answer     what fetching answers
--   after_fetch      what the buffer holds after a fetch
--   KeepsAgreed      what could be fetched is fetched the same afterwards
use Rattle.std.specs.Prelude.{◌≡◌, ℕ, zero, suc, ◌+◌, ◌-◌, ◌<◌, ◌≤◌, Bool, true, if◌then◌else◌, List, [], ◌∷◌, ◌++◌, length, take, drop, Ok, Err, Result, OnOk, ◌==◌, nat_le, nat_lt, slice_index_or}
use Rattle.limits.specs.Limits.{most_suites, most_held, longest_message, outside}
use Rattle.refusals.specs.declared.Refusal.{Refusal}
use Rattle.refusals.specs.declared.Refusal.TheVariants.{MemorySize, NoSuchSlot, LineFull, NothingWaiting, MessageLength, NoSuchMessage}
use Rattle.std.specs.List.{AllByRecursion}

-- what a line means: the agreed messages, in their order; for each suite the messages that wait, the first offered first;
-- and how many messages it can hold
pub record LineState : Type 0 where
  pub agreed : List (List ℕ)
  pub waiting : ℕ → List (List ℕ)
  pub limit : ℕ

-- f, but x at u
unfoldable pub with_at : {X : Type 0} → (ℕ → X) → ℕ → X → ℕ → X
with_at f u x v = if v == u then x else f v

-- how many messages wait for the suites 1 to u, all together
unfoldable pub waiting_up_to : ℕ → (ℕ → List (List ℕ)) → ℕ
waiting_up_to zero waiting = 0
waiting_up_to (suc u) waiting = waiting_up_to u waiting + length (waiting (suc u))

-- how many messages wait
abbrev pub waiting_count : LineState → ℕ
waiting_count m = waiting_up_to most_suites m.waiting

-- how many messages a line holds, agreed and waiting ones together
abbrev pub held : LineState → ℕ
held m = length m.agreed + waiting_count m

-- whether the limit is 0 or above 4,096
abbrev pub unusable : ℕ → Bool
unusable limit = outside most_held limit

-- a line of this limit that holds nothing
abbrev pub empty_line : ℕ → LineState
empty_line limit = record { agreed = []; waiting = λ u. []; limit = limit }

-- the length that a message may have
abbrev pub AllowedLength : List ℕ → Type 0
AllowedLength message = (1 ≤ length message) × (length message ≤ longest_message)

-- what holds of every line at any moment: it holds at most as many messages as its limit says, every message that it holds
-- has a length that a message may have, and nothing waits for a suite that is not 1 to 8
pub record Lawful (m : LineState) : Type 0 where
  pub within_limit : held m ≤ m.limit
  pub agreed_fit : AllByRecursion AllowedLength m.agreed
  pub waiting_fit : (u : ℕ) → AllByRecursion AllowedLength (m.waiting u)
  pub suites_only : (u : ℕ) → outside most_suites u ≡ true → m.waiting u ≡ []

-- ---- offer

-- whether an offer is refused, and why: an offer to a line with this limit that holds `total` messages, for this suite, of a
-- message with so many bytes
abbrev pub offer_check : ℕ → ℕ → ℕ → ℕ → Result (Unit {0}) Refusal
offer_check limit total suite bytes =
    if unusable limit then Err MemorySize
    else if outside most_suites suite then Err NoSuchSlot
    else if nat_le limit total then Err LineFull
    else if outside longest_message bytes then Err MessageLength
    else Ok tt

-- what offering answers
abbrev pub offer_answer : LineState → ℕ → List ℕ → Result (Unit {0}) Refusal
offer_answer m suite message = offer_check m.limit (held m) suite (length message)

-- the message stands at the end of its suite's waiting list
abbrev pub offered : LineState → ℕ → List ℕ → LineState
offered m suite message = record {
  agreed = m.agreed;
  waiting = with_at m.waiting suite (m.waiting suite ++ message ∷ []);
  limit = m.limit;
}

-- what a line means after an offer that was answered so
abbrev pub after_offer : Result (Unit {0}) Refusal → LineState → ℕ → List ℕ → LineState
after_offer (Ok _) m suite message = offered m suite message
after_offer (Err _) m suite message = m

-- ---- settle

-- whether a settle is refused, and why: a settle of a line with this limit where so many messages wait
abbrev pub settle_check : ℕ → ℕ → Result (Unit {0}) Refusal
settle_check limit waiting =
    if unusable limit then Err MemorySize else if waiting == 0 then Err NothingWaiting else Ok tt

-- what settling answers
abbrev pub settle_answer : LineState → Result (Unit {0}) Refusal
settle_answer m = settle_check m.limit (waiting_count m)

-- the first message that waits for the suite went to the end of the agreed list
abbrev pub settled : LineState → ℕ → LineState
settled m suite = record {
  agreed = m.agreed ++ take 1 (m.waiting suite);
  waiting = with_at m.waiting suite (drop 1 (m.waiting suite));
  limit = m.limit;
}

-- a settle served this suite, for which a message waited
pub record Serves (before after : LineState) (suite : ℕ) : Type 0 where
  pub a_suite : (1 ≤ suite) × (suite ≤ most_suites)
  pub waits : 0 < length (before.waiting suite)
  pub after_it : after ≡ settled before suite

-- what a settle does that was answered so: it serves some suite, or changes nothing
abbrev pub Settles : Result (Unit {0}) Refusal → LineState → LineState → Type 0
Settles (Ok _) before after = (suite : ℕ) × Serves before after suite
Settles (Err _) before after = after ≡ before

-- ---- count

-- what counting answers on a line with this limit where so many messages are agreed
abbrev pub count_check : ℕ → ℕ → Result ℕ Refusal
count_check limit agreed = if unusable limit then Err MemorySize else Ok agreed

-- what counting answers
abbrev pub count_answer : LineState → Result ℕ Refusal
count_answer m = count_check m.limit (length m.agreed)

-- ---- fetch

-- what fetching number k answers on a line with this limit where so many messages are agreed, if message k has `bytes` bytes
-- and the buffer has `room`
abbrev pub fetch_check : ℕ → ℕ → ℕ → ℕ → ℕ → Result ℕ Refusal
fetch_check limit agreed k bytes room =
    if unusable limit then Err MemorySize
    else if outside agreed k then Err NoSuchMessage
    else if nat_lt room bytes then Err NoSuchMessage
    else Ok bytes

-- the agreed message of this number; the first has number 1
abbrev pub message_number : LineState → ℕ → List ℕ
message_number m k = slice_index_or m.agreed (k - 1) []

-- what fetching answers
abbrev pub fetch_answer : LineState → ℕ → ℕ → Result ℕ Refusal
fetch_answer m k room = fetch_check m.limit (length m.agreed) k (length (message_number m k)) room

-- what the buffer holds after a fetch that was answered so: the message and its own rest, or what it held
abbrev pub after_fetch : Result ℕ Refusal → List ℕ → List ℕ → List ℕ
after_fetch (Ok n) message buffer = message ++ drop n buffer
after_fetch (Err _) message buffer = buffer

-- ---- what is agreed stays

-- what could be fetched is fetched the same afterwards: the same message under its number, into buffers of the same lengths
abbrev pub KeepsAgreed : LineState → LineState → Type 0
KeepsAgreed before after =
    (k room : ℕ)
    → OnOk (fetch_answer before k room) ((fetch_answer after k room ≡ fetch_answer before k room) × (message_number after k ≡ message_number before k))
