-- What making calls promises, by the law of a session.
--
--   Reached         some history leads to this world
--   Stepped         a call is an event that the rules allow
--   Performed       what one call is, in every history that leads to it
--   PerformedAll    what a list of calls is, in every history that leads to it
--   UnlessMoved     what holds unless a call changed the line
--   exchanged       a script with its answers
--   calls_of        the calls of a script
--   RanOrRefused    what running a script answers, by what making its session does
--   Ran             what a session and the calls of a script are, from the making on
use Rattle.std.specs.Prelude.{◌≡◌, ℕ, List, [], ◌∷◌, ◌++◌, length, map, reverse, Some, Ok, Err, Result, ⊤}
use Rattle.history.specs.Events.{Event, call_of, answer_of}
use Rattle.history.specs.Laws.{Isolation, Lawful}
use Rattle.history.specs.Runs.{Step, Run, Made}
use Rattle.history.specs.declared.call.Answer.{Answer}
use Rattle.history.specs.declared.call.Answer.TheVariants.{Committed, Settled}
use Rattle.history.specs.declared.call.Call.{Call}
use Rattle.history.specs.declared.run.Exchange.{Exchange}
use Rattle.lines.specs.Lines.{LineState, empty_line}
use Rattle.messages.specs.declared.parts.Write.{Write}
use Rattle.refusals.specs.declared.Refusal.{Refusal}
use Rattle.session.specs.Making.{make_answer, new_session, filled}
use Rattle.session.specs.States.{SessionState, World}
use Rattle.session.specs.Steps.{world}
use Rattle.session.specs.declared.place.Place.{Place}
use Rattle.session.specs.declared.ruling.CommitAnswer.TheVariants.{Sent}
use Rattle.settings.specs.Kinds.{SettingKind}
use Rattle.summaries.specs.Kinds.{SummaryKind}

module _ {T : Type 0} (S : SummaryKind) (K : SettingKind T) where
  -- some history leads to this world: calls, from a session just made over an empty line
  pub record Reached (w : World T) : Type 0 where
    pub start : World T
    pub made : Made K start
    pub events : List (Event T)
    pub run : Run S K start events w

  -- a call that is answered so and leaves this is an event that the rules allow
  pub record Stepped (call : Call T) (answer : Result (Answer T) Refusal) (w w' : World T) : Type 0 where
    pub event : Event T
    pub is_call : call_of event ≡ call
    pub is_answer : answer_of event ≡ answer
    pub step : Step S K w event w'

  -- a call that is answered so and leaves this: the event that it is, which says what suite a settle served, and the step, which says what
  -- places a take overwrote; and whatever history led to it, with this event it leads on, and is lawful. Two suites have only the line in common.
  pub record Performed (call : Call T) (answer : Result (Answer T) Refusal) (w w' : World T) : Type 0 where
    pub stepped : Stepped call answer w w'
    pub isolation : Isolation S K
    pub lawful : (start : World T) → Made K start → (es : List (Event T)) → Run S K start es w →
        Run S K start (stepped.event ∷ es) w' × Lawful S K start (stepped.event ∷ es) w'

  -- calls that were answered so, one after the other, and leave this: the events that they are, the latest first; and whatever history led
  -- to them, with these events it leads on, and is lawful
  pub record PerformedAll (calls : List (Call T)) (answers : List (Result (Answer T) Refusal)) (w w' : World T) : Type 0 where
    pub events : List (Event T)
    pub are_calls : map call_of (reverse events) ≡ calls
    pub are_answers : map answer_of (reverse events) ≡ answers
    pub run : Run S K w events w'
    pub isolation : Isolation S K
    pub lawful : (start : World T) → Made K start → (es : List (Event T)) → Run S K start es w →
        Run S K start (events ++ es) w' × Lawful S K start (events ++ es) w'

-- what holds unless the call was a settle or a commit that sent a message, accepted
abbrev pub UnlessMoved : {T : Type 0} → Result (Answer T) Refusal → Type 0 → Type 0
UnlessMoved (Ok Settled) P = ⊤
UnlessMoved (Ok (Committed Sent)) P = ⊤
UnlessMoved answer P = P

module _ {T : Type 0} where
  -- a script with these answers to its calls
  unfoldable pub exchanged : List (Exchange T) → List (Result (Answer T) Refusal) → List (Exchange T)
  exchanged [] answers = []
  exchanged (x ∷ xs) [] = x ∷ xs
  exchanged (x ∷ xs) (a ∷ answers) = record { call = x.call; answer = Some a } ∷ exchanged xs answers

  -- the calls of a script
  abbrev pub calls_of : List (Exchange T) → List (Call T)
  calls_of script = map (λ x. x.call) script

-- running gives a session exactly if making one does, and else the same refusal
abbrev pub RanOrRefused : {A : Type 0} → Result A Refusal → Result SessionState Refusal → Type 0
RanOrRefused (Ok a) (Ok made) = ⊤
RanOrRefused (Err why) made = made ≡ Err why
RanOrRefused (Ok a) (Err why) = ⊥

-- a session was made with this memory over this line, and then all calls of a script, which has their answers now, lead to this world.
-- Where the line was empty, the calls are a history from the making on, and it is lawful
pub record Ran {T : Type 0} (S : SummaryKind) (K : SettingKind T) (suites : ℕ) (nodes : List ℕ) (places : List (Place T)) (writes : List (Write T)) (line : LineState)
    (script script' : List (Exchange T)) (w' : World T) : Type 0 where
  pub accepted : make_answer suites nodes places writes line ≡ Ok (new_session suites nodes)
  pub answers : List (Result (Answer T) Refusal)
  pub as_many : length answers ≡ length script
  pub exchanges : script' ≡ exchanged script answers
  pub all : PerformedAll S K (calls_of script) answers (world (new_session suites nodes) (filled K suites nodes) writes line) w'
  pub made : line ≡ empty_line line.limit → Made K (world (new_session suites nodes) (filled K suites nodes) writes line)
  pub lawful : line ≡ empty_line line.limit → Lawful S K (world (new_session suites nodes) (filled K suites nodes) writes line) all.events w'
