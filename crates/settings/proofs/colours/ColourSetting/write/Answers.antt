use Rattle.std.proofs.Common.{rules, ◌≡◌, true, eqb, ◌++◌, length, sym, ap, ◌∙◌, ap₂}
use Rattle.settings.specs.ColourLaws.{three_parts, four_of_bits}
use Rattle.std.proofs.lemmas.Bool.{eq-eqb, cond-true}
use Rattle.settings.proofs.colours.ColourSetting.write.Goals as goal

pub returns-clause-region : goal.returns-clause-region
returns-clause-region c =
    let it = c.args.self.now in
    let one = c.copy_from_slice.ensures.after ∙ c.to_be_bytes.ensures ∙ four_of_bits it.lift it.lift_fits in
    let two = c.copy_from_slice-2.ensures.after ∙ c.to_be_bytes-2.ensures ∙ four_of_bits it.gamma it.gamma_fits in
    let three = c.copy_from_slice-3.ensures.after ∙ c.to_be_bytes-3.ensures ∙ four_of_bits it.gain it.gain_fits in
    let wide : length c.args.region.now ≡ 12 = search rules in
    let test : eqb (length c.args.region.now) 12 ≡ true = eq-eqb (length c.args.region.now) 12 wide in
    let form : length c.in_ok-form.field-0.now ≡ 12 = search rules in
    three_parts c.in_ok-form.field-0.now _ _ _ form (ap length one) (ap length two) (ap length three)
    ∙ ap₂ ◌++◌ one (ap₂ ◌++◌ two three)
    ∙ sym (cond-true _ _ _ test)
