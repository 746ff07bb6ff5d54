-- Worked examples, as facts about the definitions.
--
--   zeros        so many zero bytes
--   Examples     the examples
use Rattle.std.specs.Prelude.{◌≡◌, ℕ, List, [], ◌∷◌, map, replicate}
use Rattle.limits.specs.Limits.{longest_message}
use Rattle.messages.specs.Layout.{message_length}
use Rattle.std.specs.List.{range_with_len}
use Rattle.summaries.specs.Blooms.{position}
use Rattle.summaries.specs.ExactLists.{packed_exact}
use Rattle.summaries.specs.Hashes.{murmur2}

-- n zero bytes
abbrev pub zeros : ℕ → List ℕ
zeros n = replicate n 0

-- the exact list, the hash with a seed, a node's positions in a Bloom summary, and two lengths
pub record Examples : Type 0 where
  -- no numbers as an exact list: zeros
  pub no_numbers : packed_exact [] ≡ zeros 257
  -- node 7: its hash with seed 0, its hash with that as the seed, and its twelve positions
  pub first_hash : murmur2 7 0 ≡ 1353732916
  pub second_hash : murmur2 7 1353732916 ≡ 1468389308
  pub positions : map (position 7) (range_with_len 0 12) ≡ 308 ∷ 240 ∷ 172 ∷ 104 ∷ 36 ∷ 480 ∷ 412 ∷ 344 ∷ 276 ∷ 208 ∷ 140 ∷ 72 ∷ []
  -- one colour written, with an exact list; and the longest message
  pub one_colour : message_length 257 12 1 ≡ 287
  pub longest : message_length 512 32 16 ≡ longest_message
  pub longest_is : longest_message ≡ 1162
