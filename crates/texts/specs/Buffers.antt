-- A line of text that is gathered byte by byte.
--
--   Gathered           the bytes kept, the most that may be kept, and whether there were more
--   gathered           what a line buffer has gathered
--   nothing_gathered   nothing yet
--   gathered_of        what is gathered of a line of these bytes
--   Gathers            what a read of a line gathers, whatever its answer
--   gathered_more      one byte more
--   after_push         what is gathered after a push that was answered so
--   gathered_more_all  some bytes more, each in its turn
--   after_extend       what is gathered after they were all taken at once, if that was answered so
--   is_newline         whether a byte ends a line
--   whole_line         the line, unless there were more bytes than may be kept
use Rattle.std.specs.Prelude.{◌≡◌, ◌≢◌, ℕ, Bool, true, false, if◌then◌else◌, List, [], ◌∷◌, ◌++◌, length, take, All, Some, None, Ok, Err, OnErr, vec_items, Option, Result, nat_lt, ◌==◌}
use Rattle.std.specs.Io.KnownBytes.{Consumes}
use Rattle.std.specs.declared.alloc.AllocError.{AllocError}
use Rattle.texts.specs.declared.buffer.LineBuffer.{LineBuffer}

-- the bytes kept, the most that may be kept, and whether there were more
pub record Gathered : Type 0 where
  pub bytes : List ℕ
  pub most : ℕ
  pub over : Bool

-- what a line buffer has gathered
abbrev pub gathered : LineBuffer → Gathered
gathered l = record { bytes = vec_items l.bytes; most = l.most; over = l.over }

-- nothing yet
abbrev pub nothing_gathered : ℕ → Gathered
nothing_gathered most = record { bytes = []; most = most; over = false }

-- what is gathered of a line of these bytes: the first of them, and whether they are more than may be kept
abbrev pub gathered_of : ℕ → List ℕ → Gathered
gathered_of most line = record { bytes = take most line; most = most; over = nat_lt most (length line) }

-- what a read of a line gathers, whatever its answer: bytes that are no newline, and on an error just those that the
-- input has lost, where its bytes are known
abbrev pub Gathers : {X E : Type 0} → Result X E → Option (List ℕ) → Option (List ℕ) → ℕ → Gathered → Type 0
Gathers answer known rest most g =
    (line : List ℕ) × All (λ b. b ≢ 10) line × (g ≡ gathered_of most line) × OnErr answer (Consumes known rest line)

-- one byte more: it is kept where there is room, and else there were more than may be kept
abbrev pub gathered_more : Gathered → ℕ → Gathered
gathered_more g b = record {
  bytes = if nat_lt (length g.bytes) g.most then g.bytes ++ b ∷ [] else g.bytes;
  most = g.most;
  over = if nat_lt (length g.bytes) g.most then g.over else true;
}

-- what is gathered after a push that was answered so
abbrev pub after_push : Result (Unit {0}) AllocError → Gathered → ℕ → Gathered
after_push (Ok _) g b = gathered_more g b
after_push (Err _) g b = g

-- some bytes more, each in its turn
abbrev pub gathered_more_all : Gathered → List ℕ → Gathered
gathered_more_all g [] = g
gathered_more_all g (b ∷ bs) = gathered_more_all (gathered_more g b) bs

-- what is gathered after they were all taken at once, if that was answered so
abbrev pub after_extend : Result (Unit {0}) AllocError → Gathered → List ℕ → Gathered
after_extend (Ok _) g bs = gathered_more_all g bs
after_extend (Err _) g bs = g

-- whether a byte ends a line
abbrev pub is_newline : ℕ → Bool
is_newline b = b == 10

-- the line, unless there were more bytes than may be kept
abbrev pub whole_line : Gathered → Option (List ℕ)
whole_line g = if g.over then None else Some g.bytes
