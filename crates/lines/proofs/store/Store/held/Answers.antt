use Rattle.std.proofs.Common.{sym}
use Rattle.lines.proofs.Meanings.{sound_of}
use Rattle.lines.specs.StoreLaws.{held_total}
use Rattle.lines.proofs.store.Store.held.Goals as goal

pub returns-clause-line : goal.returns-clause-line
returns-clause-line g c = sym (held_total _ _ _ (sound_of c.args.self.now))
