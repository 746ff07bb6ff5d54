-- What a kind of summary is.
--
--   SummaryKind     a kind of summary, by its meaning
use Rattle.std.specs.Prelude.{ℕ, Bool, List}

-- a kind of summary: its width, whether bytes of that width name a node, and the bytes packed from a list of node numbers
pub record SummaryKind : Type 0 where
  pub wide : ℕ
  pub names : List ℕ → ℕ → Bool
  pub packed : List ℕ → List ℕ
