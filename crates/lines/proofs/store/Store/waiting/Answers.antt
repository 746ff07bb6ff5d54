use Rattle.std.proofs.Common.{sym}
use Rattle.lines.proofs.Meanings.{sound_of}
use Rattle.lines.specs.StoreLaws.{waiting_total}
use Rattle.lines.proofs.store.Store.waiting.Goals as goal

pub returns-clause-line : goal.returns-clause-line
returns-clause-line g c = sym (waiting_total _ _ _ (sound_of c.args.self.now))

pub returns-clause-queue : goal.returns-clause-queue
returns-clause-queue g c = sym (sound_of c.args.self.now).queue_long
