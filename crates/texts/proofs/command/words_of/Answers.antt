use Rattle.std.proofs.Common.{subst}
use Rattle.std.proofs.lemmas.Iterator.{YieldsList}
use Rattle.std.proofs.lemmas.Iterator.Consumers.{map_from_collect}
use Rattle.texts.proofs.Words.{gives, word, all_fields}
use Rattle.texts.proofs.command.words_of.Goals as goal

pub returns : goal.returns
returns c =
    map_from_collect c.collect.result c.collect.ensures.ran (subst (YieldsList gives word c.new.result) c.new.ensures (all_fields c.new.result))
