use Rattle.std.proofs.Common.{ap, ◌∙◌, ap₂}
use lib.Bits.{bit_xor}
use Rattle.summaries.proofs.Words.{first_word, second_word}
use Rattle.summaries.specs.Hashes.{taken_in, finished, murmur2}
use Rattle.summaries.proofs.murmur2.murmur2.Goals as goal

pub returns : goal.returns
unfolding murmur2
returns c =
    let n = c.args.number in
    let first = c.from_le_bytes.ensures ∙ first_word n _ c.to_be_bytes.ensures in
    let second = c.from_le_bytes-2.ensures ∙ second_word n _ c.to_be_bytes.ensures in
    let middle = c.take_in-middle.ensures ∙ ap (taken_in (bit_xor c.args.seed 8)) first in
    c.finish.ensures ∙ ap finished (c.take_in.ensures ∙ ap₂ taken_in middle second)
