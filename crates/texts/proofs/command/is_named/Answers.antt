use Rattle.std.proofs.Common.{sym, ◌∙◌}
use Rattle.texts.proofs.Words.{not_named}
use Rattle.texts.proofs.command.is_named.Goals as goal

pub returns-else-starts_with : goal.returns-else-starts_with
returns-else-starts_with c =
    c.if-starts_with.false ∙ sym (not_named c.args.form.now c.args.name.now (sym c.starts_with.ensures.value ∙ c.if-starts_with.false))
