-- Four bytes as a word, the lowest first.
use Rattle.std.proofs.Common.{◌≡◌, ℕ, ◌+◌, ◌*◌, List, [], ◌∷◌, get_or, ap, ◌∙◌, arith}
use Rattle.number_bytes.specs.Bytes.{big_endian}
use Rattle.std.specs.List.{between}
use Rattle.summaries.specs.Hashes.{word}

word_of_four : (a b c d : ℕ) → a + b * 256 + c * 65536 + d * 16777216 ≡ word (a ∷ b ∷ c ∷ d ∷ [])
unfolding word
word_of_four a b c d = omega arith

-- the first and the second word of a number's eight bytes
pub first_word : (n : ℕ) (bs : List ℕ) → bs ≡ big_endian 8 n →
    get_or bs 0 0 + get_or bs 1 0 * 256 + get_or bs 2 0 * 65536 + get_or bs 3 0 * 16777216 ≡ word (between 0 4 (big_endian 8 n))
first_word n bs e =
    ap (λ xs. get_or xs 0 0 + get_or xs 1 0 * 256 + get_or xs 2 0 * 65536 + get_or xs 3 0 * 16777216) e ∙ word_of_four _ _ _ _

pub second_word : (n : ℕ) (bs : List ℕ) → bs ≡ big_endian 8 n →
    get_or bs 4 0 + get_or bs 5 0 * 256 + get_or bs 6 0 * 65536 + get_or bs 7 0 * 16777216 ≡ word (between 4 8 (big_endian 8 n))
second_word n bs e =
    ap (λ xs. get_or xs 4 0 + get_or xs 5 0 * 256 + get_or xs 6 0 * 65536 + get_or xs 7 0 * 16777216) e ∙ word_of_four _ _ _ _
