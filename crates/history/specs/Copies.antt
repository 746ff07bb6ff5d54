-- The one copy: a grade with one setting for each node, which is fed the committed moves, one whole move after the other, in the order
-- of their stamps.
--
--   done_on         a copy after the calls of a move
--   ReadsOn         the reads among these calls answer what the copy has, when the calls are done on it one after the other
--   fed             a copy after a move, if there is one
--   copy            the copy after the moves with the stamps 1 to t
use Rattle.std.specs.Prelude.{◌≡◌, ℕ, zero, suc, List, [], ◌∷◌, None, Some, Option, ⊤}
use Rattle.lines.specs.Lines.{with_at}
use Rattle.history.specs.Events.{Did, read, wrote, Event}
use Rattle.history.specs.Moves.{Move, committed_move}
use Rattle.settings.specs.Kinds.{SettingKind}

module _ {T : Type 0} where
  -- a copy after these calls, the latest of which is the first of the list: a write replaces the node's setting, and nothing else changes
  -- anything
  unfoldable pub done_on : (ℕ → T) → List (Did T) → ℕ → T
  done_on c [] = c
  done_on c (wrote n x ∷ ds) = with_at (done_on c ds) n x
  done_on c (_ ∷ ds) = done_on c ds

  -- the calls are done on the copy one after the other, and each read of a node answers the setting that the copy then has
  abbrev pub ReadsOn : (ℕ → T) → List (Did T) → Type 0
  ReadsOn c [] = ⊤
  ReadsOn c (read n x ∷ ds) = (x ≡ done_on c ds n) × ReadsOn c ds
  ReadsOn c (_ ∷ ds) = ReadsOn c ds

  -- a copy after a move is done on it, if there is one
  abbrev pub fed : (ℕ → T) → Option (Move T) → ℕ → T
  fed c None = c
  fed c (Some move) = done_on c move.calls

  -- the copy after the moves that were committed under the stamps 1 to t: at first every node has the starting setting
  unfoldable pub copy : SettingKind T → List (Event T) → ℕ → ℕ → T
  copy K es zero = λ n. K.start
  copy K es (suc t) = fed (copy K es t) (committed_move es (suc t))
