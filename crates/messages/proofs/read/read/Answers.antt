use Rattle.std.proofs.Common.{Ok, rules}
use Rattle.messages.proofs.Faultlessness.{read_first, read_whole}
use Rattle.messages.proofs.read.read.Goals as goal

pub returns-in_err-header-clause-first : goal.returns-in_err-header-clause-first
returns-in_err-header-clause-first g c = read_first g.S.Summary.kind g.T.Setting.kind c.args.suites c.args.stamp c.args.nodes.now c.args.message.now c.from_residual.result (search rules)

pub returns-in_err-check_all-clause-first : goal.returns-in_err-check_all-clause-first
returns-in_err-check_all-clause-first g c = read_first g.S.Summary.kind g.T.Setting.kind c.args.suites c.args.stamp c.args.nodes.now c.args.message.now c.from_residual-in_err-check_all.result (search rules)

pub returns-clause-first : goal.returns-clause-first
returns-clause-first g c = read_first g.S.Summary.kind g.T.Setting.kind c.args.suites c.args.stamp c.args.nodes.now c.args.message.now (Ok c.in_ok-header.header) (search rules)

pub returns-clause-whole : goal.returns-clause-whole
returns-clause-whole g c = read_whole g.S.Summary.kind g.T.Setting.kind c.args.suites c.args.stamp c.args.nodes.now c.args.message.now (Ok c.in_ok-header.header) (search rules)
