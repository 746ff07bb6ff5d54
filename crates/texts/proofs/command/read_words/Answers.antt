use Rattle.std.proofs.Common.{map, sym, ap, subst, ◌∙◌}
use Rattle.std.proofs.lemmas.Iterator.{YieldsList, items_from_drains}
use Rattle.texts.specs.Texts.{fields_of}
use Rattle.texts.proofs.Words.{gives, word, all_fields, read_in}
use Rattle.texts.proofs.command.read_words.Goals as goal

pub returns-in-Ok : goal.returns-in-Ok
returns-in-Ok g c =
    let (it, words, same, drained, items) = c.in-Ok.ensures.ran in
    let fields = fields_of c.args.line.now in
    let yields = subst (YieldsList gives word c.new.result) c.new.ensures (all_fields c.new.result) in
    let all = items_from_drains words drained (subst (λ s. YieldsList gives word s fields) (sym same) yields) in
    read_in g.C.FromWords.from_words_gives fields c.from_words.result
    (subst (λ ws. g.C.FromWords.from_words_gives ws c.from_words.result) (ap (map word) (c.as_slice.ensures.value ∙ items) ∙ all) c.from_words.ensures)
