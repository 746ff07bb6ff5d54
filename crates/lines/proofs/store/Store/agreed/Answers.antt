use Rattle.std.proofs.Common.{sym}
use Rattle.lines.proofs.Meanings.{sound_of}
use Rattle.lines.specs.StoreLaws.{agreed_count}
use Rattle.lines.proofs.store.Store.agreed.Goals as goal

pub returns-clause-line : goal.returns-clause-line
returns-clause-line g c = sym (agreed_count _ _ _ (sound_of c.args.self.now))
