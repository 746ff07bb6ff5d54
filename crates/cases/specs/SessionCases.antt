-- Worked cases of a session, as one list: each is a session just made, over an empty line, and the calls that are then made, with the
-- answers that the rules give, the first call first. A setting is a colour, and the summary the exact list. Messages are settled as a
-- first-come line would, in the order of offering, and each settle is listed with the suite that it serves.
--
--   start_of                a session just made over an empty line
--   two_suites              two suites with the nodes 7 and 9, over a line of 32 places
--   slot                    a slot of a suite
--   commits, clashes        a suite takes a message, and rules so
--   lifted                  a colour with this lift, gamma 0 and gain 0
--   Case                    a session just made, and what happens then
--   one_move                one move on its way through both suites
--   crossing                two moves, each of which writes what the other read
--   blind_writes            two moves that write a node that neither read
--   landing                 a move of another suite commits while one is open
--   read_on                 the open move only reads
--   too_late                the open move writes something too
--   opened_then_changed     a move is opened, and then its node is changed
--   four_snapshots          four open moves, each with another version of one node
--   read_limit              a move reads 32 nodes, and not one more
--   full_line               a line of one place
--   all_cases               the list
--   Happens                 a case is a history
--   SessionCases            all of them are; the message that one of them offers, and how two reads are packed
use Rattle.std.specs.Prelude.{◌≡◌, ℕ, ◌+◌, ◌*◌, List, [], ◌∷◌, ◌++◌, map, reverse, length, take, replicate}
use Rattle.std.specs.List.{range_with_len, AllByRecursion}
use Rattle.cases.specs.Examples.{zeros}
use Rattle.history.specs.Events.{began, read, wrote, closed, abandoned, collected, Event, at, settled, took, declined}
use Rattle.history.specs.Runs.{Run, Made}
use Rattle.history.specs.declared.call.Call.TheVariants.{Read, Commit as CommitOf, Collect, Settle}
use Rattle.session.specs.declared.suite_slot.SuiteSlot.{SuiteSlot}
use Rattle.limits.specs.Limits.{slots_each, most_writes}
use Rattle.lines.specs.Lines.{empty_line}
use Rattle.refusals.specs.declared.Refusal.TheVariants.{SlotState, MoveFull, LineFull, NothingWaiting, NotRuled}
use Rattle.session.specs.Making.{new_session, filled}
use Rattle.session.specs.States.{World}
use Rattle.session.specs.declared.ruling.CommitAnswer.TheVariants.{Sent, ReadOnly, Clash as ClashAtHome}
use Rattle.session.specs.declared.ruling.Outcome.TheVariants.{Clash, Commit}
use Rattle.session.specs.declared.ruling.Ruling.TheVariants.{Decided}
use Rattle.settings.specs.Colours.{colours, colour_of, starting_colour}
use Rattle.settings.specs.declared.colour.Colour.{Colour}
use Rattle.summaries.specs.ExactLists.{exact_list, packed_exact}

-- a session of so many suites with these nodes, just made over an empty line of so many places
abbrev pub start_of : ℕ → List ℕ → ℕ → World Colour
start_of suites nodes limit = record {
  session = new_session suites nodes;
  places = filled colours suites nodes;
  writes = replicate (suites * (slots_each * most_writes)) (record { node = 0; setting = starting_colour });
  line = empty_line limit;
}

abbrev pub two_suites : World Colour
two_suites = start_of 2 (7 ∷ 9 ∷ []) 32

abbrev pub slot : ℕ → ℕ → SuiteSlot
slot u s = record { suite = u; slot = s }

-- suite u takes a message, and commits it under the stamp t
abbrev pub commits : ℕ → ℕ → Event Colour
commits u t = took u (Decided (Commit t))

-- suite u takes a message, and rules it a clash at the node n
abbrev pub clashes : ℕ → ℕ → Event Colour
clashes u n = took u (Decided (Clash n))

-- the colour n 0 0
abbrev pub lifted : ℕ → Colour
lifted n = colour_of n 0 0

-- a session just made, and what happens then
pub record Case : Type 0 where
  pub start : World Colour
  pub events : List (Event Colour)

-- suite 1 reads node 7 and changes it to 1 -1 0. The ruling is there to collect once suite 1 itself has taken the message, and only once
abbrev pub one_move : Case
one_move = record {
  start = two_suites;
  events =
      at 1 1 (began 0)
      ∷ at 1 1 (read 7 starting_colour)
      ∷ at 1 1 (wrote 7 (colour_of 1 0xffffffff 0))
      ∷ at 1 1 (closed Sent)
      ∷ settled 1
      ∷ commits 2 1
      ∷ declined (Collect (slot 1 1)) NotRuled
      ∷ commits 1 1
      ∷ at 1 1 (collected (Commit 1))
      ∷ declined (Collect (slot 1 1)) SlotState
      ∷ [];
}

-- of two moves, each of which writes what the other read, the one that is agreed first commits; the other clashes at the node that it
-- read and the first one wrote, at both suites
abbrev pub crossing : Case
crossing = record {
  start = two_suites;
  events =
      at 1 1 (began 0)
      ∷ at 2 1 (began 0)
      ∷ at 1 1 (read 7 starting_colour)
      ∷ at 1 1 (wrote 9 (lifted 1))
      ∷ at 2 1 (read 9 starting_colour)
      ∷ at 2 1 (wrote 7 (lifted 2))
      ∷ at 1 1 (closed Sent)
      ∷ at 2 1 (closed Sent)
      ∷ settled 1
      ∷ settled 2
      ∷ commits 1 1
      ∷ commits 2 1
      ∷ clashes 1 9
      ∷ clashes 2 9
      ∷ at 1 1 (collected (Commit 1))
      ∷ at 2 1 (collected (Clash 9))
      ∷ [];
}

-- two moves that write a node that neither read both commit, and the later one stands
abbrev pub blind_writes : Case
blind_writes = record {
  start = two_suites;
  events =
      at 1 1 (began 0)
      ∷ at 2 1 (began 0)
      ∷ at 1 1 (wrote 7 (lifted 1))
      ∷ at 2 1 (wrote 7 (lifted 2))
      ∷ at 1 1 (closed Sent)
      ∷ at 2 1 (closed Sent)
      ∷ settled 1
      ∷ settled 2
      ∷ commits 1 1
      ∷ commits 1 2
      ∷ commits 2 1
      ∷ commits 2 2
      ∷ at 1 1 (collected (Commit 1))
      ∷ at 2 1 (collected (Commit 2))
      ∷ at 1 1 (began 2)
      ∷ at 1 1 (read 7 (lifted 2))
      ∷ at 2 1 (began 2)
      ∷ at 2 1 (read 7 (lifted 2))
      ∷ [];
}

-- a move of suite 1 that writes node 7 is committed at suite 2
abbrev pub landing : List (Event Colour)
landing = at 1 1 (began 0) ∷ at 1 1 (wrote 7 (lifted 1)) ∷ at 1 1 (closed Sent) ∷ settled 1 ∷ commits 2 1 ∷ []

-- a move that is open then reads as before, and if it wrote nothing, its commit gives its snapshot
abbrev pub read_on : Case
read_on = record {
  start = two_suites;
  events =
      at 2 1 (began 0)
      ∷ at 2 1 (read 7 starting_colour)
      ∷ landing
      ++ at 2 1 (read 7 starting_colour)
      ∷ at 2 1 (closed (ReadOnly 0))
      ∷ [];
}

-- if it wrote something, its commit gives the node that it read and the other wrote, and offers nothing
abbrev pub too_late : Case
too_late = record {
  start = two_suites;
  events =
      at 2 1 (began 0)
      ∷ at 2 1 (read 7 starting_colour)
      ∷ landing
      ++ at 2 1 (read 7 starting_colour)
      ∷ at 2 1 (wrote 9 (lifted 2))
      ∷ at 2 1 (closed (ClashAtHome 7))
      ∷ declined Settle NothingWaiting
      ∷ [];
}

-- a move is opened in slot t + 1 of suite 1, and then suite 2 changes node 7 to the colour t + 1 0 0 under the next stamp
abbrev pub opened_then_changed : ℕ → List (Event Colour)
opened_then_changed t =
    at 1 (t + 1) (began t)
    ∷ at 2 (t + 1) (began t)
    ∷ at 2 (t + 1) (wrote 7 (lifted (t + 1)))
    ∷ at 2 (t + 1) (closed Sent)
    ∷ settled 2
    ∷ commits 1 (t + 1)
    ∷ commits 2 (t + 1)
    ∷ []

-- four moves read the four versions that they were opened with, and the next one the fifth
abbrev pub four_snapshots : Case
four_snapshots = record {
  start = two_suites;
  events =
      opened_then_changed 0
      ++ (opened_then_changed 1 ++ (opened_then_changed 2 ++ (opened_then_changed 3
      ++ at 1 1 (read 7 starting_colour)
      ∷ at 1 2 (read 7 (lifted 1))
      ∷ at 1 3 (read 7 (lifted 2))
      ∷ at 1 4 (read 7 (lifted 3))
      ∷ at 1 1 (closed (ReadOnly 0))
      ∷ at 1 1 (began 4)
      ∷ at 1 1 (read 7 (lifted 4))
      ∷ [])));
}

-- of the nodes 1 to 33 a move reads the first 32; the next is one too many, and the first is read again
abbrev pub read_limit : Case
read_limit = record {
  start = start_of 1 (range_with_len 1 33) 32;
  events =
      at 1 1 (began 0)
      ∷ map (λ n. at 1 1 (read n starting_colour)) (range_with_len 1 32)
      ++ declined (Read (slot 1 1) 33) MoveFull
      ∷ at 1 1 (read 1 starting_colour)
      ∷ [];
}

-- a line of one place is full with one message, whether it waits or is agreed. A move that finds the line full stays open; one that wrote
-- nothing needs no place
abbrev pub full_line : Case
full_line = record {
  start = start_of 2 (7 ∷ 9 ∷ []) 1;
  events =
      at 1 1 (began 0)
      ∷ at 1 1 (wrote 7 (lifted 1))
      ∷ at 1 2 (began 0)
      ∷ at 1 2 (wrote 9 (lifted 2))
      ∷ at 1 3 (began 0)
      ∷ at 1 3 (read 7 starting_colour)
      ∷ at 1 1 (closed Sent)
      ∷ declined (CommitOf (slot 1 2)) LineFull
      ∷ at 1 2 (read 9 (lifted 2))
      ∷ at 1 3 (closed (ReadOnly 0))
      ∷ settled 1
      ∷ declined (CommitOf (slot 1 2)) LineFull
      ∷ at 1 2 abandoned
      ∷ [];
}

abbrev pub all_cases : List Case
all_cases =
    one_move ∷ crossing ∷ blind_writes ∷ read_on ∷ too_late ∷ four_snapshots ∷ read_limit ∷ full_line ∷ []

-- the case is a history: its session was just made, and the rules answer every call as it is listed
abbrev pub Happens : Case → Type 0
Happens c = Made colours c.start × ((end : World Colour) × Run exact_list colours c.start (reverse c.events) end)

-- all cases are histories; the message that one of them offers, and how two reads are packed
pub record SessionCases : Type 0 where
  pub happen : AllByRecursion Happens all_cases
  -- after the first commit of `one_move` its message waits: 287 bytes, the first ten of which are these
  pub first_message :
      (w : World Colour)
      × (m : List ℕ)
      × Run exact_list colours one_move.start (reverse (take 4 one_move.events)) w
      × (w.line.waiting 1 ≡ m ∷ [])
      × (take 10 m ≡ 0x01 ∷ 0x1d ∷ 0x01 ∷ 0x01 ∷ 0x01 ∷ 0x01 ∷ 0x00 ∷ 0x00 ∷ 0x00 ∷ 0x00 ∷ [])
      × (length m ≡ 287)
  -- the nodes 7 and 9 as an exact list: two numbers, 7, 9, and 240 zeros
  pub seven_and_nine : packed_exact (7 ∷ 9 ∷ []) ≡ 2 ∷ (zeros 7 ++ (7 ∷ (zeros 7 ++ (9 ∷ zeros 240))))
