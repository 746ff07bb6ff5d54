-- Worked examples of a session's rules in memory that no history leads to, and of what each call answers in each state of a slot, as facts
-- about the definitions.
--
--   place           a place with this stamp, and a colour of this lift
--   blank           write places that nothing was written to
--   foreign         a session of one suite with the node 7, in given memory
--   every_state     its slots: idle, open, sent and ruled
--   held            its places of node 7
--   by_state        what a call answers in slot 1, 2, 3 and 4
--   sent_message    a message of a move in a slot, which read node 7 and writes it
--   RuleExamples    the examples
use Rattle.std.specs.Prelude.{◌≡◌, ℕ, List, [], ◌∷◌, map, replicate, Some, None, Ok, Err, Result}
use Rattle.std.specs.List.{range_with_len}
use Rattle.lines.specs.Lines.{LineState, empty_line}
use Rattle.messages.specs.Causes.{fault}
use Rattle.messages.specs.declared.fault.Cause.TheVariants.{Snapshot}
use Rattle.messages.specs.declared.parts.Write.{Write}
use Rattle.refusals.specs.declared.Refusal.{Refusal}
use Rattle.refusals.specs.declared.Refusal.TheVariants.{SuiteCount, NodeCount, RepeatedNode, MemorySize, NoSuchSlot, SlotState as WrongState, UnknownNode, MoveFull, NoVersion, LineFull, NothingWaiting, AllTaken, NotRuled}
use Rattle.session.specs.Calls.{begin_call, read_call, write_call, commit_call, abandon_call, collect_call, settle_call, take_call, after_begin, after_make}
use Rattle.session.specs.Commits.{move_message}
use Rattle.session.specs.Making.{new_session, make_answer}
use Rattle.session.specs.Shares.{share_of}
use Rattle.session.specs.States.{SlotState, idle, opened, sent, ruled, World}
use Rattle.session.specs.Takes.{take_leaves}
use Rattle.session.specs.Versions.{visible, newest}
use Rattle.session.specs.declared.place.Place.{Place}
use Rattle.session.specs.declared.ruling.CommitAnswer.TheVariants.{Sent, ReadOnly, Clash as ClashAtHome}
use Rattle.session.specs.declared.ruling.Outcome.TheVariants.{Clash, Commit}
use Rattle.session.specs.declared.ruling.Ruling.TheVariants.{Void, Decided}
use Rattle.settings.specs.Colours.{colours, colour_of, starting_colour}
use Rattle.settings.specs.declared.colour.Colour.{Colour}
use Rattle.summaries.specs.ExactLists.{exact_list}

-- a place with this stamp, and a colour of this lift
abbrev pub place : ℕ → ℕ → Place Colour
place stamp lift = record { stamp = stamp; setting = colour_of lift 0 0 }

-- so many write places that nothing was written to
abbrev pub blank : ℕ → List (Write Colour)
blank n = replicate n (record { node = 0; setting = starting_colour })

-- a session of one suite at stamp 3, which has taken nothing, with the node 7, these places, slots and line
abbrev pub foreign : List (Place Colour) → List SlotState → LineState → World Colour
foreign places slots line = record {
  session = record { nodes = 7 ∷ []; suites = record { stamp = 3; taken = 0; slots = slots } ∷ [] };
  places = places;
  writes = blank 64;
  line = line;
}

-- slot 1 is idle, slot 2 open, slot 3 sent, slot 4 ruled
abbrev pub every_state : List SlotState
every_state = idle ∷ opened 3 [] 0 ∷ sent ∷ ruled (Commit 1) ∷ []

-- of equal stamps the first counts
abbrev pub held : List (Place Colour)
held = place 5 50 ∷ place 2 20 ∷ place 3 30 ∷ place 3 31 ∷ place 1 10 ∷ []

abbrev pub every_world : World Colour
every_world = foreign held every_state (empty_line 1)

-- what a call answers in slot 1, 2, 3 and 4
abbrev pub by_state : {A : Type 0} → (ℕ → Result A Refusal) → List (Result A Refusal)
by_state call = map call (1 ∷ 2 ∷ 3 ∷ 4 ∷ [])

-- a line of two places with these agreed messages
abbrev pub agreed_line : List (List ℕ) → LineState
agreed_line messages = record { agreed = messages; waiting = λ u. []; limit = 2 }

-- the message of a move of suite 1 in this slot, which read node 7 at this snapshot and writes it
abbrev pub sent_message : ℕ → ℕ → List ℕ
sent_message slot snapshot =
    move_message exact_list colours 1 slot snapshot (7 ∷ []) (record { node = 7; setting = starting_colour } ∷ [])

-- the world in which that message is agreed
abbrev pub taking : ℕ → ℕ → World Colour
taking slot snapshot = foreign held every_state (agreed_line (sent_message slot snapshot ∷ []))

-- suite 1's slots after it has taken that message, and ruled so
abbrev pub slots_after : World Colour → List SlotState
slots_after w = (take_leaves exact_list colours (7 ∷ []) 1 (λ n. 1) (Decided (Clash 7)) (share_of w 1)).suite.slots

pub record RuleExamples : Type 0 where
  -- making a session: the suites come first, then how many nodes, then a node twice, then the memory
  pub no_suite : make_answer {T = Colour} 0 [] [] [] (empty_line 0) ≡ Err SuiteCount
  pub nine_suites : make_answer {T = Colour} 9 [] [] [] (empty_line 0) ≡ Err SuiteCount
  pub no_node : make_answer {T = Colour} 8 [] [] [] (empty_line 0) ≡ Err NodeCount
  pub too_many_nodes : make_answer {T = Colour} 1 (7 ∷ range_with_len 1 64) [] [] (empty_line 0) ≡ Err NodeCount
  pub node_twice : make_answer {T = Colour} 1 (7 ∷ 8 ∷ 7 ∷ []) [] [] (empty_line 0) ≡ Err RepeatedNode
  pub places_short : make_answer 1 (7 ∷ []) (replicate 4 (place 9 9)) (blank 64) (empty_line 1) ≡ Err MemorySize
  pub writes_long : make_answer 1 (7 ∷ []) held (blank 65) (empty_line 1) ≡ Err MemorySize
  pub line_without_places : make_answer 1 (7 ∷ []) held (blank 64) (empty_line 0) ≡ Err MemorySize
  pub line_too_long : make_answer 1 (7 ∷ []) held (blank 64) (empty_line 4097) ≡ Err MemorySize
  pub made : make_answer 1 (7 ∷ []) held (blank 64) (empty_line 4096) ≡ Ok (new_session 1 (7 ∷ []))
  pub filled_then : after_make colours (Ok (new_session 1 (7 ∷ []))) 1 (7 ∷ []) held ≡ replicate 5 (place 0 0)
  pub kept_then : after_make colours (Err MemorySize) 1 (7 ∷ []) held ≡ held
  -- memory of the wrong size comes before a suite or slot that is not there, and that before the slot's state
  pub memory_first : begin_call (foreign (place 0 0 ∷ held) every_state (empty_line 1)) 9 9 ≡ Err MemorySize
  pub memory_before_settling : settle_call (foreign [] every_state (empty_line 1)) ≡ Err MemorySize
  pub memory_before_taking : take_call exact_list colours (foreign held every_state (empty_line 0)) 9 ≡ Err MemorySize
  pub no_such_suite : map (λ u. begin_call every_world u 2) (0 ∷ 2 ∷ []) ≡ Err NoSuchSlot ∷ Err NoSuchSlot ∷ []
  pub no_such_slot : map (λ s. begin_call every_world 1 s) (0 ∷ 5 ∷ []) ≡ Err NoSuchSlot ∷ Err NoSuchSlot ∷ []
  pub take_at_none : map (take_call exact_list colours every_world) (0 ∷ 2 ∷ []) ≡ Err NoSuchSlot ∷ Err NoSuchSlot ∷ []
  -- each call in a slot that is idle, open, sent, ruled
  pub begin_by_state : by_state (begin_call every_world 1) ≡ Ok 3 ∷ Err WrongState ∷ Err WrongState ∷ Err WrongState ∷ []
  pub read_by_state : by_state (λ s. read_call every_world 1 s 7) ≡ Err WrongState ∷ Ok (colour_of 30 0 0) ∷ Err WrongState ∷ Err WrongState ∷ []
  pub write_by_state : by_state (λ s. write_call every_world 1 s 7) ≡ Err WrongState ∷ Ok tt ∷ Err WrongState ∷ Err WrongState ∷ []
  pub commit_by_state :
      by_state (commit_call exact_list colours every_world 1) ≡ Err WrongState ∷ Ok (ReadOnly 3) ∷ Err WrongState ∷ Err WrongState ∷ []
  pub abandon_by_state : by_state (abandon_call every_world 1) ≡ Err WrongState ∷ Ok tt ∷ Err WrongState ∷ Err WrongState ∷ []
  pub collect_by_state : by_state (collect_call every_world 1) ≡ Err WrongState ∷ Err WrongState ∷ Err NotRuled ∷ Ok (Commit 1) ∷ []
  pub refused_begin : after_begin (begin_call every_world 1 2) every_world 1 2 ≡ every_world
  -- nodes, limits and versions: an unknown node comes first, then the move's own write, then its 33rd read, then a version that is not there
  pub unknown_to_read : read_call every_world 1 2 8 ≡ Err UnknownNode
  pub unknown_to_write : write_call every_world 1 2 8 ≡ Err UnknownNode
  pub one_read_more : read_call (foreign held (replicate 4 (opened 0 (range_with_len 8 32) 0)) (empty_line 1)) 1 1 7 ≡ Err MoveFull
  pub read_again : read_call (foreign held (replicate 4 (opened 1 (7 ∷ range_with_len 8 31) 0)) (empty_line 1)) 1 1 7 ≡ Ok (colour_of 10 0 0)
  pub no_version : read_call (foreign held (replicate 4 (opened 0 [] 0)) (empty_line 1)) 1 1 7 ≡ Err NoVersion
  pub one_write_more : write_call (foreign held (replicate 4 (opened 3 [] 16)) (empty_line 1)) 1 1 7 ≡ Err MoveFull
  pub own_write :
      read_call (record (foreign held (replicate 4 (opened 0 (range_with_len 8 32) 1)) (empty_line 1)) { writes = replicate 64 (record { node = 7; setting = colour_of 70 0 0 }) }) 1 1 7
      ≡ Ok (colour_of 70 0 0)
  pub newest_first : newest held ≡ Some (0, place 5 50)
  pub seen_first : visible 3 held ≡ Some (2, place 3 30)
  pub seen_below : visible 2 held ≡ Some (1, place 2 20)
  pub none_seen : visible 0 held ≡ None
  -- a commit is checked at home, and then the line may be full
  pub home_clash :
      commit_call exact_list colours (foreign held (replicate 4 (opened 4 (7 ∷ []) 1)) (record (agreed_line []) { limit = 1; agreed = [] ∷ [] })) 1 1 ≡ Ok (ClashAtHome 7)
  pub line_full :
      commit_call exact_list colours (foreign held (replicate 4 (opened 5 (7 ∷ []) 1)) (record (agreed_line []) { limit = 1; agreed = [] ∷ [] })) 1 1 ≡ Err LineFull
  pub sent_then : commit_call exact_list colours (foreign held (replicate 4 (opened 5 (7 ∷ []) 1)) (empty_line 1)) 1 1 ≡ Ok Sent
  -- nothing to settle, and nothing to take
  pub nothing_waits : settle_call every_world ≡ Err NothingWaiting
  pub nothing_agreed : take_call exact_list colours every_world 1 ≡ Err AllTaken
  -- a message with a fault, here with a snapshot above the stamp, is taken, and changes nothing else: its slot stays sent
  pub void : take_call exact_list colours (taking 3 4) 1 ≡ Ok (Void (fault Snapshot 6))
  pub void_leaves :
      take_leaves exact_list colours (7 ∷ []) 1 (λ n. 1) (Void (fault Snapshot 6)) (share_of (taking 3 4) 1)
      ≡ record (share_of (taking 3 4) 1) { suite = record { stamp = 3; taken = 1; slots = every_state } }
  -- node 7 is newest at 5: at snapshot 3 a message that read it is a clash, and its slot is ruled if it was sent, and in no other state
  pub clash : take_call exact_list colours (taking 3 3) 1 ≡ Ok (Decided (Clash 7))
  pub own_slot_ruled : slots_after (taking 3 3) ≡ idle ∷ opened 3 [] 0 ∷ ruled (Clash 7) ∷ ruled (Commit 1) ∷ []
  pub idle_stays : slots_after (taking 1 3) ≡ every_state
  pub open_stays : slots_after (taking 2 3) ≡ every_state
  pub ruled_stays : slots_after (taking 4 3) ≡ every_state
