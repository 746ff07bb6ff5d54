-- Making a session.
--
--   repeated         whether a number stands twice in a list
--   new_suite        a suite at first
--   new_session      a session at first
--   make_answer      what making a session answers
--   filled           the setting places then
use Rattle.std.specs.Prelude.{ℕ, ◌*◌, Bool, false, if◌then◌else◌, ◌||◌, List, [], ◌∷◌, length, replicate, Ok, Err, Result}
use Rattle.limits.specs.Limits.{most_suites, most_nodes, places_each, slots_each, outside}
use Rattle.lines.specs.Lines.{LineState}
use Rattle.messages.specs.Reading.{known}
use Rattle.messages.specs.declared.parts.Write.{Write}
use Rattle.refusals.specs.declared.Refusal.{Refusal}
use Rattle.refusals.specs.declared.Refusal.TheVariants.{SuiteCount, NodeCount, RepeatedNode, MemorySize}
use Rattle.session.specs.States.{idle, SuiteState, SessionState, unfit}
use Rattle.session.specs.declared.place.Place.{Place}
use Rattle.settings.specs.Kinds.{SettingKind}

-- whether a number stands twice in the list
abbrev pub repeated : List ℕ → Bool
repeated [] = false
repeated (n ∷ ns) = known ns n || repeated ns

-- a suite at first: stamp 0, nothing taken, its slots idle
abbrev pub new_suite : SuiteState
new_suite = record { stamp = 0; taken = 0; slots = replicate slots_each idle }

-- a session of so many suites with these nodes at first
abbrev pub new_session : ℕ → List ℕ → SessionState
new_session suites nodes = record { nodes = nodes; suites = replicate suites new_suite }

-- the setting places of such a session at first: stamp 0 and the starting setting
abbrev pub filled : {T : Type 0} → SettingKind T → ℕ → List ℕ → List (Place T)
filled K suites nodes = replicate (suites * length nodes * places_each) (record { stamp = 0; setting = K.start })

-- what making a session answers
abbrev pub make_answer : {T : Type 0} → ℕ → List ℕ → List (Place T) → List (Write T) → LineState → Result SessionState Refusal
make_answer suites nodes places writes line =
    if outside most_suites suites then Err SuiteCount
    else if outside most_nodes (length nodes) then Err NodeCount
    else if repeated nodes then Err RepeatedNode
    else if unfit (record { session = new_session suites nodes; places = places; writes = writes; line = line }) then Err MemorySize
    else Ok (new_session suites nodes)
