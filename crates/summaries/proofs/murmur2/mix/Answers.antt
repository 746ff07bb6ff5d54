use Rattle.std.proofs.Common.{refl}
use Rattle.summaries.specs.Hashes.{times, xor_shifted, mixed}
use Rattle.summaries.proofs.murmur2.mix.Goals as goal

pub returns : goal.returns
unfolding mixed times xor_shifted
returns c = refl
