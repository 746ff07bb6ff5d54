use Rattle.std.proofs.Common.{◌≡◌, Some, vec_items}
use Rattle.bench_lines.proofs.Forms.{numbers_before}
use Rattle.bench_lines.specs.Commands.{make_at, make_in, numbers_of}
use Rattle.texts.specs.Texts.{left}
use Rattle.bench_lines.proofs.command.read_making.Given as goal

-- what is asked for: the suites, the nodes so far and those that the fields left write
abbrev pub invariant-loop-field : goal.invariant-loop-field
invariant-loop-field l =
    record {
      can : (goal.iterator-loop-field).can_next l.field-iterator;
      finite : (goal.iterator-loop-field).is_finite l.field-iterator;
      asks : make_in (left l.fn.fields) ≡ make_at (Some l.suites) (numbers_before (vec_items l.nodes) (numbers_of (left l.field-iterator)));
    }
