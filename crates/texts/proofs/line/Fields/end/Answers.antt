use Rattle.texts.proofs.Spaces.{none_left}
use Rattle.texts.proofs.line.Fields.end.Goals as goal

pub returns : goal.returns
returns c = none_left c.args.self.now.rest c.is_none.result c.is_none.ensures
