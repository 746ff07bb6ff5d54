-- In which order the two lines settle.
--
--   Offered               a message that was offered, with its suite
--   lane                  what waits for a suite, of a queue of offered messages
--   queue_after_offer     the queue of all that waits, after an offer
--   arrivals              all messages: what is agreed, then the queue
--   arrivals_after_offer  all messages after an offer
--   ServesHead            that a settle served the head of the queue
--   FirstComeOrder        what a settle of a first-come line does
--   suite_after           the suite so many after another; after 8 comes 1
--   steps_to              how many suites after another a suite comes
--   first_that            the first number from d on that passes a test, of k numbers
--   turn_picks            the suite that a turn line serves
--   ServesTurn            that a settle served the first suite from the turn on for which a message waited
--   ByTurn                what a settle of a turn line does
use Rattle.std.specs.Prelude.{◌≡◌, ℕ, zero, suc, ◌+◌, ◌-◌, ◌<◌, Bool, if◌then◌else◌, List, [], ◌∷◌, ◌++◌, map, length, Ok, Err, Result, ◌==◌, nat_le, nat_lt}
use Rattle.limits.specs.Limits.{most_suites}
use Rattle.refusals.specs.declared.Refusal.{Refusal}
use Rattle.lines.specs.Lines.{LineState, settled}

-- a message that was offered, with its suite
pub record Offered : Type 0 where
  pub suite : ℕ
  pub message : List ℕ

-- what waits for suite u, of a queue of offered messages
abbrev pub lane : ℕ → List Offered → List (List ℕ)
lane u [] = []
lane u (o ∷ os) = if u == o.suite then o.message ∷ lane u os else lane u os

-- ---- one queue of all that waits, in the order of offering

-- the queue after an offer that was answered so
abbrev pub queue_after_offer : Result (Unit {0}) Refusal → List Offered → ℕ → List ℕ → List Offered
queue_after_offer (Ok _) queue suite message = queue ++ record { suite = suite; message = message } ∷ []
queue_after_offer (Err _) queue suite message = queue

-- all messages that the line holds, what is agreed first, then the queue
abbrev pub arrivals : LineState → List Offered → List (List ℕ)
arrivals m queue = m.agreed ++ map (λ o. o.message) queue

-- all messages after an offer that was answered so: one more at the end, or as they were
abbrev pub arrivals_after_offer : Result (Unit {0}) Refusal → List (List ℕ) → List ℕ → List (List ℕ)
arrivals_after_offer (Ok _) all message = all ++ message ∷ []
arrivals_after_offer (Err _) all message = all

-- the head of the queue is settled: its suite is the one served, and its message is agreed next
pub record ServesHead (queue queue' : List Offered) (before after : LineState) : Type 0 where
  pub head : Offered
  pub first : queue ≡ head ∷ queue'
  pub served : after ≡ settled before head.suite
  pub agreed_next : after.agreed ≡ before.agreed ++ head.message ∷ []

-- what a settle of a first-come line does that was answered so
abbrev pub FirstComeOrder : Result (Unit {0}) Refusal → List Offered → List Offered → LineState → LineState → Type 0
FirstComeOrder (Ok _) queue queue' before after = ServesHead queue queue' before after
FirstComeOrder (Err _) queue queue' before after = queue' ≡ queue

-- ---- the turn line

-- the suite d after another, for d up to 8; after 8 comes 1
abbrev pub suite_after : ℕ → ℕ → ℕ
suite_after suite d = if nat_le (suite + d) most_suites then suite + d else suite + d - most_suites

-- how many suites after the turn a suite comes, where 1 comes after 8
abbrev pub steps_to : ℕ → ℕ → ℕ
steps_to turn suite = if nat_le turn suite then suite - turn else suite + most_suites - turn

-- the first of the k numbers from d on that passes the test, or the number after them
abbrev pub first_that : (ℕ → Bool) → ℕ → ℕ → ℕ
first_that test zero d = d
first_that test (suc k) d = if test d then d else first_that test k (d + 1)

-- the suite that is served: the first with a waiting message, from the turn upwards and round
unfoldable pub turn_picks : (ℕ → List (List ℕ)) → ℕ → ℕ
turn_picks waiting turn =
    suite_after turn (first_that (λ d. nat_lt 0 (length (waiting (suite_after turn d)))) most_suites 0)

-- that suite is served, nothing waits for the suites from the turn up to it, and the turn passes to the suite after it
pub record ServesTurn (turn turn' : ℕ) (before after : LineState) : Type 0 where
  pub served : after ≡ settled before (turn_picks before.waiting turn)
  pub passed_over : (d : ℕ) → d < steps_to turn (turn_picks before.waiting turn) → before.waiting (suite_after turn d) ≡ []
  pub passed_on : turn' ≡ suite_after (turn_picks before.waiting turn) 1

-- what a settle of a turn line does that was answered so
abbrev pub ByTurn : Result (Unit {0}) Refusal → ℕ → ℕ → LineState → LineState → Type 0
ByTurn (Ok _) turn turn' before after = ServesTurn turn turn' before after
ByTurn (Err _) turn turn' before after = turn' ≡ turn
