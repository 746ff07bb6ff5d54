use Rattle.std.proofs.Common.{◌≡◌, true, eqb, length, Some, sym, ap, ◌∙◌, arith}
use Rattle.settings.specs.Colours.{colour_reading}
use Rattle.settings.specs.ColourLaws.{count_at}
use Rattle.settings.specs.Same.{same_colour}
use Rattle.std.proofs.lemmas.Bool.{eq-eqb, cond-true}
use Rattle.settings.proofs.colours.ColourSetting.read.Goals as goal

pub returns : goal.returns
returns c =
    let form = c.in_ok-form.ensures.cases in
    let bs = c.in_ok-form.form.now in
    let wide : length bs ≡ 12 = ap length form.same ∙ form.long in
    let test : eqb (length bs) 12 ≡ true = eq-eqb (length bs) 12 wide in
    let lift = count_at bs 0 _ _ (sym c.in_ok-u32_at.ensures) (omega arith) c.cast_signed-lift.ensures c.cast_signed-lift.type_inv in
    let gamma = count_at bs 4 _ _ (sym c.in_ok-u32_at-2.ensures) (omega arith) c.cast_signed-gamma.ensures c.cast_signed-gamma.type_inv in
    let gain = count_at bs 8 _ _ (sym c.in_ok-u32_at-3.ensures) (omega arith) c.cast_signed-gain.ensures c.cast_signed-gain.type_inv in
    record { answer = ap Some (same_colour _ _ lift gamma gain) ∙ sym (cond-true _ _ _ test) ∙ ap colour_reading form.same }
