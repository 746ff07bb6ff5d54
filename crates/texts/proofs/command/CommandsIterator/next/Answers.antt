use Rattle.std.proofs.Common.{refl, ap, rules, inr}
use Rattle.texts.specs.Buffers.{gathered}
use Rattle.texts.proofs.Words.{known_line}
use Rattle.texts.proofs.command.CommandsIterator.next.Goals as goal

pub returns-in-Ok-clause-steps : goal.returns-in-Ok-clause-steps
returns-in-Ok-clause-steps g c =
    let read = c.in-Ok-true.ensures in
    let line = read.gathers in
    let known = known_line _ _ _ _ c.in-Ok-true.field-0-test read.some read.line in
    let most = ap (λ gathered. gathered.most) line.2 in
    (refl, most, (search rules, (gathered c.read.new.self, ((line.0, line.1, line.2), known), c.in-Ok.ensures.told), read.rest))

pub returns-in-Err-command_of-clause-steps : goal.returns-in-Err-command_of-clause-steps
returns-in-Err-command_of-clause-steps g c =
    let read = c.in-Ok-true.ensures in
    let line = read.gathers in
    let known = known_line _ _ _ _ c.in-Ok-true.field-0-test read.some read.line in
    let most = ap (λ gathered. gathered.most) line.2 in
    (refl, most, (search rules, inr (search rules, (gathered c.read.new.self, ((line.0, line.1, line.2), known), c.in-Err-command_of.ensures.fails), read.rest)))
