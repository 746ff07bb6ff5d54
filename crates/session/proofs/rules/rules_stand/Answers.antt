use Rattle.session.proofs.Standing.{stand}
use Rattle.session.proofs.rules.rules_stand.Goals as goal

pub returns : goal.returns
returns g c = stand g.S.Summary.kind g.T.Setting.kind
