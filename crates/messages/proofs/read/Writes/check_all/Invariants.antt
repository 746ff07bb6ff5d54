use Rattle.std.proofs.Common.{◌≡◌, ◌-◌}
use Rattle.messages.specs.Reading.{write_checks, first_fault}
use Rattle.std.specs.List.{range_with_len, flat_map}
use Rattle.messages.proofs.read.Writes.check_all.Given as goal

-- the writes from here on decide
abbrev pub invariant-loop-i : goal.invariant-loop-i
invariant-loop-i g l =
    first_fault (flat_map (write_checks g.S.Summary.kind.wide g.T.Setting.kind l.nodes l.self.message.now) (range_with_len l.i (l.self.count - l.i)))
    ≡ first_fault (flat_map (write_checks g.S.Summary.kind.wide g.T.Setting.kind l.nodes l.self.message.now) (range_with_len 0 l.self.count))
