use Rattle.lines.proofs.Meanings.{lawful_store}
use Rattle.lines.proofs.turn.TurnLine.settle.Goals as goal

pub returns-in_err-check_settle-clause-law : goal.returns-in_err-check_settle-clause-law
returns-in_err-check_settle-clause-law c = search lawful_store

pub returns-clause-law : goal.returns-clause-law
returns-clause-law c = search lawful_store
