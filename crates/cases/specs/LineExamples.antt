-- Worked examples of the line, as facts about its definitions.
--
--   one_byte        a message of one byte
--   with_offers     a line after offers, each for a suite, refused ones included
--   five            offers for the suites 3, 1, 1, 8 and 2
--   five_offers     a line of five places after offers for the suites 3, 1, 1, 8 and 2
--   served_in_turn  a line after so many settles by turn, the first from this turn on
--   served          a line after settles that served these suites
--   LineExamples    the examples
use Rattle.std.specs.Prelude.{◌≡◌, ℕ, zero, suc, List, [], ◌∷◌, ◌++◌, map, drop, replicate, Ok, Err}
use Rattle.lines.specs.Lines.{LineState, empty_line, settled, Serves, offer_answer, after_offer, settle_answer, count_answer, fetch_answer, message_number, after_fetch, KeepsAgreed}
use Rattle.lines.specs.Orders.{Offered, lane, queue_after_offer, arrivals, ServesHead, suite_after, turn_picks, ServesTurn}
use Rattle.lines.specs.Places.{places_in, rest}
use Rattle.refusals.specs.declared.Refusal.TheVariants.{MemorySize, NoSuchSlot, LineFull, NothingWaiting, MessageLength, NoSuchMessage}

-- a message of one byte, for a suite
abbrev pub one_byte : ℕ → ℕ → Offered
one_byte suite b = record { suite = suite; message = b ∷ [] }

-- a line after offers, refused ones included
abbrev pub with_offers : List Offered → LineState → LineState
with_offers [] m = m
with_offers (o ∷ os) m = with_offers os (after_offer (offer_answer m o.suite o.message) m o.suite o.message)

-- offers for the suites 3, 1, 1, 8 and 2
abbrev pub five : List Offered
five = one_byte 3 0x3a ∷ one_byte 1 0x1a ∷ one_byte 1 0x1b ∷ one_byte 8 0x8a ∷ one_byte 2 0x2a ∷ []

-- a line of five places after these
abbrev pub five_offers : LineState
five_offers = with_offers five (empty_line 5)

-- a line after n settles by turn, the first from this turn on
abbrev pub served_in_turn : ℕ → ℕ → LineState → LineState
served_in_turn zero turn m = m
served_in_turn (suc n) turn m =
    served_in_turn n (suite_after (turn_picks m.waiting turn) 1) (settled m (turn_picks m.waiting turn))

-- a line after settles that served these suites
abbrev pub served : List ℕ → LineState → LineState
served [] m = m
served (u ∷ us) m = served us (settled m u)

-- the orders of both lines, which refusal comes first, what the calls answer, and where places end
pub record LineExamples : Type 0 where
  -- served as they were offered, the messages are agreed in the order of offering
  pub by_offers : (served (map (λ o. o.suite) five) five_offers).agreed ≡ (0x3a ∷ []) ∷ (0x1a ∷ []) ∷ (0x1b ∷ []) ∷ (0x8a ∷ []) ∷ (0x2a ∷ []) ∷ []
  -- suite 1 has the turn, then 2; 3 and 8 follow past suites with nothing, and then it is suite 1's turn again
  pub by_turns : (served_in_turn 5 1 five_offers).agreed ≡ (0x1a ∷ []) ∷ (0x2a ∷ []) ∷ (0x3a ∷ []) ∷ (0x8a ∷ []) ∷ (0x1b ∷ []) ∷ []
  -- from turn 4 on, suite 8 comes first; from 2 on, suite 2
  pub from_four : turn_picks five_offers.waiting 4 ≡ 8
  pub from_two : turn_picks five_offers.waiting 2 ≡ 2
  -- a first-come line settles the head of the queue, which is for suite 3; all messages then stand as they did, and the
  -- next offer is the queue's last
  pub head_served : ServesHead five (drop 1 five) five_offers (settled five_offers 3)
  pub still_in_order : arrivals (settled five_offers 3) (drop 1 five) ≡ arrivals five_offers five
  pub one_more : queue_after_offer (Ok tt) (drop 1 five) 4 (0x4a ∷ []) ≡ drop 1 five ++ one_byte 4 0x4a ∷ []
  -- a turn line passes over the suites 4 to 7, serves suite 8, and then it is suite 1's turn
  pub turn_served : ServesTurn 4 1 five_offers (settled five_offers 8)
  -- no settle of this line serves suite 4, for which nothing waits, and none of any line suite 0
  pub never_4 : (after : LineState) → Serves five_offers after 4 → ⊥
  pub never_0 : (before after : LineState) → Serves before after 0 → ⊥
  -- what waits for suite 1 is the same in the queue and in the line
  pub waiting_for_1 : five_offers.waiting 1 ≡ lane 1 five
  pub waiting_for_4 : five_offers.waiting 4 ≡ []
  -- an unusable line comes before a wrong suite, that before a full line, and that before a wrong length
  pub unusable_first : offer_answer (empty_line 0) 9 [] ≡ Err MemorySize
  pub most_places : offer_answer (empty_line 4096) 9 [] ≡ Err NoSuchSlot
  pub too_many_places : offer_answer (empty_line 4097) 9 [] ≡ Err MemorySize
  pub suite_next : offer_answer five_offers 0 [] ≡ Err NoSuchSlot
  pub full_then : offer_answer five_offers 8 [] ≡ Err LineFull
  pub no_bytes : offer_answer (empty_line 1) 8 [] ≡ Err MessageLength
  pub longest_goes : offer_answer (empty_line 1) 8 (replicate 1162 0) ≡ Ok tt
  pub one_too_long : offer_answer (empty_line 1) 8 (replicate 1163 0) ≡ Err MessageLength
  -- an unusable line comes before nothing to settle, and before a message that is not there
  pub no_settle : settle_answer (empty_line 0) ≡ Err MemorySize
  pub no_count : count_answer (empty_line 4097) ≡ Err MemorySize
  pub no_fetch : fetch_answer (empty_line 0) 0 0 ≡ Err MemorySize
  -- nothing waits in an empty line; what is agreed is counted, and fetched into a buffer that is long enough
  pub nothing_to_settle : settle_answer (empty_line 1) ≡ Err NothingWaiting
  pub one_agreed : count_answer (served (8 ∷ []) five_offers) ≡ Ok 1
  pub fetched : fetch_answer (served (8 ∷ []) five_offers) 1 1 ≡ Ok 1
  pub rest_kept : after_fetch (Ok 1) (message_number (served (8 ∷ []) five_offers) 1) (0 ∷ 1 ∷ 2 ∷ []) ≡ 0x8a ∷ 1 ∷ 2 ∷ []
  pub buffer_too_short : fetch_answer (served (8 ∷ []) five_offers) 1 0 ≡ Err NoSuchMessage
  pub message_zero : fetch_answer (served (8 ∷ []) five_offers) 0 9 ≡ Err NoSuchMessage
  pub not_agreed_yet : fetch_answer (served (8 ∷ []) five_offers) 2 9 ≡ Err NoSuchMessage
  -- a line that no longer has what was agreed, or has another message in its place, keeps nothing
  pub never_lost : KeepsAgreed (served (8 ∷ []) five_offers) five_offers → ⊥
  pub never_another : KeepsAgreed (served (8 ∷ []) five_offers) (served (3 ∷ []) five_offers) → ⊥
  -- a place has 1,168 bytes; what is left of the bytes is no place
  pub no_place : places_in (replicate 1167 0) ≡ 0
  pub one_place : places_in (replicate 1168 0) ≡ 1
  pub still_one : places_in (replicate 2335 0) ≡ 1
  pub past_it : rest (replicate 1168 0 ++ 7 ∷ 8 ∷ []) ≡ 7 ∷ 8 ∷ []
