use Rattle.std.proofs.Common.{refl}
use Rattle.summaries.specs.Blooms.{position}
use Rattle.summaries.specs.Hashes.{times, xor_shifted, word, mixed, taken_in, finished, murmur2}
use Rattle.cases.proofs.examples_stand.Goals as goal

pub returns : goal.returns
unfolding position murmur2 finished taken_in mixed word xor_shifted times
returns c = record {
  no_numbers = refl;
  first_hash = refl;
  second_hash = refl;
  positions = refl;
  one_colour = refl;
  longest = refl;
  longest_is = refl;
}
