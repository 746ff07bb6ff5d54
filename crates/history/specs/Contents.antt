-- What a move has read and written, by its calls: what its message holds.
--
--   last_write      the latest setting that these calls wrote for a node
--   reads_of        the nodes that these calls entered among the reads
--   writes_of       what they wrote
use Rattle.std.specs.Prelude.{ℕ, if◌then◌else◌, List, [], ◌∷◌, Some, None, Option, ◌==◌}
use Rattle.history.specs.Events.{Did, read, wrote}
use Rattle.messages.specs.declared.parts.Write.{Write}
use Rattle.session.specs.Slots.{with_write, entered}

module _ {T : Type 0} where
  -- the latest setting that these calls, the latest of which is the first of the list, wrote for the node n
  unfoldable pub last_write : List (Did T) → ℕ → Option T
  last_write [] n = None
  last_write (wrote m x ∷ ds) n = if m == n then Some x else last_write ds n
  last_write (_ ∷ ds) n = last_write ds n

  -- the nodes that they read, the one that was read first first; reads of nodes that they had written do not count
  unfoldable pub reads_of : List (Did T) → List ℕ
  reads_of [] = []
  reads_of (read n x ∷ ds) = entered (reads_of ds) n (last_write ds n)
  reads_of (_ ∷ ds) = reads_of ds

  -- each node that they wrote with its latest setting, the node that was written first first
  unfoldable pub writes_of : List (Did T) → List (Write T)
  writes_of [] = []
  writes_of (wrote n x ∷ ds) = with_write (writes_of ds) n x
  writes_of (_ ∷ ds) = writes_of ds
