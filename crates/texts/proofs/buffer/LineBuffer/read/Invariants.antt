use Rattle.std.proofs.Common.{◌≡◌, ◌≢◌, ℕ, List, All}
use Rattle.std.specs.Io.KnownBytes.{Consumes}
use Rattle.texts.specs.Buffers.{gathered, gathered_of}
use Rattle.texts.proofs.buffer.LineBuffer.read.Given as goal

-- so far: what the input has lost is gathered, and has no newline
abbrev pub invariant-loop : goal.invariant-loop
invariant-loop g l =
    (line : List ℕ) × All (λ b. b ≢ 10) line × (gathered l.self ≡ gathered_of l.fn.self.most line)
    × Consumes (g.R.Read.remaining l.fn.input) (g.R.Read.remaining l.input) line
