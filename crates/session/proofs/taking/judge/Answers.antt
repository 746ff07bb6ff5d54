use Rattle.session.proofs.Overwriting.{placeable}
use Rattle.session.proofs.taking.judge.Goals as goal

pub returns-in-Some-clause-fine : goal.returns-in-Some-clause-fine
returns-in-Some-clause-fine g c = placeable g.S.Summary.kind g.T.Setting.kind c.args.suites c.args.stamp c.args.nodes.now c.args.message.now c.in_ok-header.ensures.whole

pub returns-in-None-clause-fine : goal.returns-in-None-clause-fine
returns-in-None-clause-fine g c = placeable g.S.Summary.kind g.T.Setting.kind c.args.suites c.args.stamp c.args.nodes.now c.args.message.now c.in_ok-header.ensures.whole
