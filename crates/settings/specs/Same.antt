-- Two settings with equal numbers are equal: that the numbers fit has one proof at most.
use Rattle.std.specs.Prelude.{◌≡◌, ◌^◌, ◌<◌}
use mathlib.Core.HLevel.{is_prop→PathP}
use Rattle.std.proofs.Math.Bridge.{le_prop}
use Rattle.std.specs.Int.Signed.{mag}
use Rattle.settings.specs.declared.colour.Colour.{Colour}
use Rattle.settings.specs.declared.link.NodeNumber.{NodeNumber}

pub same_node : (a b : NodeNumber) → a.number ≡ b.number → a ≡ b
same_node a b e = λ i. record { number = e i; fits = is_prop→PathP (λ j. e j < 2 ^ 64) (λ j. le_prop) a.fits b.fits i }

pub same_colour : (a b : Colour) → a.lift ≡ b.lift → a.gamma ≡ b.gamma → a.gain ≡ b.gain → a ≡ b
same_colour a b e f g = λ i. record {
  lift = e i;
  gamma = f i;
  gain = g i;
  lift_fits = is_prop→PathP (λ j. mag (e j) < 2 ^ 31) (λ j. le_prop) a.lift_fits b.lift_fits i;
  gamma_fits = is_prop→PathP (λ j. mag (f j) < 2 ^ 31) (λ j. le_prop) a.gamma_fits b.gamma_fits i;
  gain_fits = is_prop→PathP (λ j. mag (g j) < 2 ^ 31) (λ j. le_prop) a.gain_fits b.gain_fits i;
}
