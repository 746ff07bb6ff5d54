-- What a line over handed bytes holds and means, of the type that the code has for it.
--
--   handed         the handed bytes, as the line holds them
--   contents       what is agreed and what waits, both in order; how many places there are
--   line_of        what it means, as a line
--   arrivals_of    all messages, the agreed ones and then those that wait
--   turn_of        the suite whose turn it is, of a turn line
use Rattle.std.specs.Prelude.{ℕ, List}
use Rattle.std.specs.Borrow.{MutBor}
use Rattle.lines.specs.Lines.{LineState}
use Rattle.lines.specs.Orders.{arrivals}
use Rattle.lines.specs.Stores.{Stored, stored, state_of}
use Rattle.lines.specs.declared.store.Store.{Store}
use Rattle.lines.specs.declared.turn.InTurn.{InTurn}

module _ {R : Type 0} where
  -- the handed bytes, as the line holds them
  abbrev pub handed : Store R → MutBor (List ℕ)
  handed s = s.bytes

  -- what is agreed and what waits, both in order; how many places there are
  abbrev pub contents : Store R → Stored
  contents s = stored (handed s).now s.agreed s.waiting

  -- what it means, as a line
  abbrev pub line_of : Store R → LineState
  line_of s = state_of (contents s)

  -- all messages, the agreed ones and then those that wait
  abbrev pub arrivals_of : Store R → List (List ℕ)
  arrivals_of s = arrivals (line_of s) (contents s).queue

-- the suite whose turn it is, of a turn line
abbrev pub turn_of : Store InTurn → ℕ
turn_of l = l.rule.turn.number
