use Rattle.std.proofs.Common.{ap}
use lib.Bits.{bit_xor}
use Rattle.summaries.specs.Hashes.{times, taken_in}
use Rattle.summaries.proofs.murmur2.take_in.Goals as goal

pub returns : goal.returns
unfolding taken_in times
returns c = ap (bit_xor (times c.args.h)) c.mix.ensures
