use Rattle.lines.specs.Stores.{stored, state_of}
use Rattle.lines.proofs.store.Store.limit.Goals as goal

pub returns-clause-line : goal.returns-clause-line
unfolding stored state_of
returns-clause-line g c = c.count.ensures
