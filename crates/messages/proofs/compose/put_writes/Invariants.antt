use Rattle.std.proofs.Common.{◌≡◌, ◌*◌, take}
use Rattle.messages.specs.Composing.{write_bytes, Numbered}
use Rattle.messages.specs.Layout.{write_width}
use Rattle.std.specs.List.{flat_map, AllByRecursion}
use Rattle.messages.proofs.compose.put_writes.Given as goal

-- so far: the records up to here
abbrev pub invariant-loop-i : goal.invariant-loop-i
invariant-loop-i g l = record {
  numbers : AllByRecursion Numbered (take l.i l.writes);
  region : take (l.i * write_width g.T.Setting.kind.wide) l.region ≡ flat_map (write_bytes g.T.Setting.kind) (take l.i l.writes);
}
