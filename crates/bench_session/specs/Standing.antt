-- How a bench stands between two lines, and what it answers to each.
--
--   Standing        what a bench holds: its session, if it has one, the session's memory, and its line
--   standing        that of these parts
--   Stands          what always holds of it
--   made_reply      what making a session answers
--   Makes           what it leaves
--   AnswersBy       what a line is answered by a bench with this session, and what it leaves
--   Answers         the same, by a bench
use Rattle.std.specs.Prelude.{◌≡◌, ℕ, ◌*◌, List, length, replicate, if◌then◌else◌, Some, None, Option}
use Rattle.bench_lines.specs.Commands.{Asked, session, call}
use Rattle.bench_lines.specs.Replies.{reply_of}
use Rattle.bench_lines.specs.declared.reply.Reply.{Reply}
use Rattle.bench_lines.specs.declared.reply.Reply.TheVariants.{Okay, No, Bad}
use Rattle.history.specs.Performing.{Reached, Performed}
use Rattle.history.specs.Runs.{answer}
use Rattle.limits.specs.Limits.{most_suites, most_nodes, slots_each, most_writes, outside}
use Rattle.lines.specs.Lines.{LineState, empty_line, unusable}
use Rattle.messages.specs.declared.parts.Write.{Write}
use Rattle.refusals.specs.declared.Refusal.TheVariants.{SuiteCount, NodeCount, RepeatedNode, MemorySize}
use Rattle.session.specs.Making.{new_session, filled, repeated}
use Rattle.session.specs.States.{SessionState}
use Rattle.session.specs.Steps.{world}
use Rattle.session.specs.declared.place.Place.{Place}
use Rattle.settings.specs.Colours.{colours}
use Rattle.settings.specs.declared.colour.Colour.{Colour}
use Rattle.summaries.specs.ExactLists.{exact_list}

-- what a bench holds: its session, if it has one, the session's memory, and its line
pub record Standing : Type 0 where
  pub made : Option SessionState
  pub places : List (Place Colour)
  pub writes : List (Write Colour)
  pub line : LineState

abbrev pub standing : Option SessionState → List (Place Colour) → List (Write Colour) → LineState → Standing
standing made places writes line = record { made = made; places = places; writes = writes; line = line }

-- what always holds of it: before it has a session its line is empty, and after that some history has led to where it stands
abbrev pub Stands : Option SessionState → List (Place Colour) → List (Write Colour) → LineState → Type 0
Stands None places writes line = line ≡ empty_line line.limit
Stands (Some s) places writes line = Reached exact_list colours (world s places writes line)

-- what making a session answers: the first refusal, or that it is done. The memory has the size that it needs
abbrev pub made_reply : LineState → ℕ → List ℕ → Reply
made_reply line suites nodes =
    if outside most_suites suites then No SuiteCount
    else if outside most_nodes (length nodes) then No NodeCount
    else if repeated nodes then No RepeatedNode
    else if unusable line.limit then No MemorySize
    else Okay

-- what making a session leaves that was answered so: the session, its places filled, and write places that all hold the starting colour for
-- node 0; or everything as it was
abbrev pub Makes : Reply → ℕ → List ℕ → Standing → Standing → Type 0
Makes Okay suites nodes before now =
    (now.made ≡ Some (new_session suites nodes))
    × (now.places ≡ filled colours suites nodes)
    × (now.writes ≡ replicate (suites * (slots_each * most_writes)) (record { node = 0; setting = colours.start }))
    × (now.line ≡ before.line)
Makes _ suites nodes before now = now ≡ before

-- what a line that asks for this, or for nothing, is answered by a bench with this session, or with none yet, and what it leaves. A session
-- is made once, its calls come after that, and everything else is bad
abbrev pub AnswersBy : Option SessionState → Option Asked → Standing → Reply → Standing → Type 0
AnswersBy None (Some (session suites nodes)) before reply now = (reply ≡ made_reply before.line suites nodes) × Makes reply suites nodes before now
AnswersBy (Some s) (Some (call c)) before reply now =
    (s' : SessionState)
    × (now.made ≡ Some s')
    × (reply_of (answer exact_list colours (world s before.places before.writes before.line) c) ≡ Some reply)
    × Performed exact_list colours c (answer exact_list colours (world s before.places before.writes before.line) c)
    (world s before.places before.writes before.line) (world s' now.places now.writes now.line)
AnswersBy made asks before reply now = (reply ≡ Bad) × (now ≡ before)

abbrev pub Answers : Standing → Option Asked → Reply → Standing → Type 0
Answers before asks reply now = AnswersBy before.made asks before reply now
