use Rattle.std.proofs.Common.{◌≡◌, length, ap, ◌∙◌}
use Rattle.settings.specs.Links.{link_reading}
use Rattle.settings.specs.LinkLaws.{reads_node}
use Rattle.settings.proofs.links.LinkSetting.read.Goals as goal

pub returns-in-1 : goal.returns-in-1
returns-in-1 c =
    let form = c.in_ok-form.ensures.cases in
    let wide : length c.in_ok-form.form.now ≡ 9 = ap length form.same ∙ form.long in
    record { answer = reads_node c.in_ok-form.form.now _ wide c.in-1.is c.in_ok-number.ensures ∙ ap link_reading form.same }
