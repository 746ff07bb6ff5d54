use Rattle.std.proofs.Common.{refl}
use Rattle.summaries.specs.Hashes.{times, xor_shifted, finished}
use Rattle.summaries.proofs.murmur2.finish.Goals as goal

pub returns : goal.returns
unfolding finished times xor_shifted
returns c = refl
