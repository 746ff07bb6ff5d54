-- What always holds of a session.
--
--   Shape           it has 1 to 8 suites, and 1 to 64 nodes, which are different
use Rattle.std.specs.Prelude.{◌≡◌, ℕ, ◌≤◌, false, List, length}
use Rattle.limits.specs.Limits.{most_suites, most_nodes}
use Rattle.session.specs.Making.{repeated}
use Rattle.session.specs.States.{SuiteState}

-- it has 1 to 8 suites, and 1 to 64 nodes, which are different
pub record Shape (nodes : List ℕ) (suites : List SuiteState) : Type 0 where
  pub some_suites : 1 ≤ length suites
  pub few_suites : length suites ≤ most_suites
  pub some_nodes : 1 ≤ length nodes
  pub few_nodes : length nodes ≤ most_nodes
  pub different : repeated nodes ≡ false
