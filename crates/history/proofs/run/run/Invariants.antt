use Rattle.std.proofs.Common.{◌≡◌, List, Result, length, take}
use Rattle.history.specs.Performing.{PerformedAll, exchanged, calls_of}
use Rattle.history.specs.declared.call.Answer.{Answer}
use Rattle.refusals.specs.declared.Refusal.{Refusal}
use Rattle.session.specs.Making.{new_session, filled}
use Rattle.session.specs.Steps.{world}
use Rattle.history.proofs.run.run.Given as goal

-- so far: the first calls are made, and have their answers
abbrev pub invariant-loop-i : goal.invariant-loop-i
invariant-loop-i g l =
    (answers : List (Result (Answer g.row.T.Denot) Refusal))
    × (length answers ≡ l.i)
    × (l.script ≡ exchanged l.initial.script answers)
    × PerformedAll g.S.Summary.kind g.T.Setting.kind (calls_of (take l.i l.initial.script)) answers
    (world (new_session l.suites l.nodes) (filled g.T.Setting.kind l.suites l.nodes) l.initial.writes (g.L.Line.state l.initial.line))
    (world l.session l.places l.writes (g.L.Line.state l.line))
