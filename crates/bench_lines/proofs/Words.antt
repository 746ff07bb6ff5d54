-- Words that are joined by single spaces are the fields of the line.
use Rattle.std.proofs.Common.{◌≡◌, ℕ, ◌∷◌, [], ◌++◌, List, Bool, true, false, true≢false, not, ◌&&◌, eqb, ℤ, pos, negsuc, ◌<◌, ◌^◌, suc, refl, sym, ap, ap₂, ◌∙◌, lit<, arith, decimal, map}
use Rattle.std.proofs.lemmas.Bool.{and_parts, cond-false}
use Rattle.std.specs.Fmt.{signed_decimal}
use Rattle.std.specs.Int.Signed.{mag}
use Rattle.std.specs.List.{AllByRecursion, join_with_byte, list_all}
use Rattle.texts.specs.Texts.{before_first, fields_of, is_digit, is_empty}
use Rattle.bench_lines.proofs.Numerals.{decimal_writes, digit_is_not}

-- whether a byte is no space
abbrev no_space : ℕ → Bool
no_space b = not (eqb b 32)

-- a word, which has no space
abbrev pub Word : List ℕ → Type 0
Word w = list_all no_space w ≡ true

not_true : (t : Bool) → not t ≡ true → t ≡ false
not_true true h = absurd (true≢false (sym h))
not_true false h = refl

-- a word that begins with this byte
word_parts : (b : ℕ) (w : List ℕ) → Word (b ∷ w) → (eqb b 32 ≡ false) × Word w
word_parts b w h =
    let parts = and_parts (no_space b) (list_all no_space w) h in
    (not_true (eqb b 32) parts.0, parts.1)

-- ---- the fields of a line

fields_of_word : (w : List ℕ) → Word w → fields_of w ≡ w ∷ []
fields_of_word [] h = refl
fields_of_word (b ∷ w) h =
    let parts = word_parts b w h in
    cond-false (eqb b 32) _ _ parts.0 ∙ ap (before_first b) (fields_of_word w parts.1)

fields_of_more : (w line : List ℕ) → Word w → fields_of (w ++ 32 ∷ line) ≡ w ∷ fields_of line
fields_of_more [] line h = refl
fields_of_more (b ∷ w) line h =
    let parts = word_parts b w h in
    cond-false (eqb b 32) _ _ parts.0 ∙ ap (before_first b) (fields_of_more w line parts.1)

pub fields_of_words : (ws : List (List ℕ)) → AllByRecursion Word ws → is_empty ws ≡ false → fields_of (join_with_byte 32 ws) ≡ ws
fields_of_words [] h some = absurd (true≢false some)
fields_of_words (w ∷ []) h some = fields_of_word w h.0
fields_of_words (w ∷ v ∷ ws) h some =
    fields_of_more w (join_with_byte 32 (v ∷ ws)) h.0 ∙ ap (λ fs. w ∷ fs) (fields_of_words (v ∷ ws) h.1 refl)

-- ---- numbers are words

digits_word : (ds : List ℕ) → list_all is_digit ds ≡ true → Word ds
digits_word [] h = refl
digits_word (d ∷ ds) h =
    let parts = and_parts (is_digit d) (list_all is_digit ds) h in
    ap₂ (λ space rest. not space && rest) (digit_is_not d 32 parts.0 (lit< tt)) (digits_word ds parts.1)

pub number_word : (n : ℕ) → n < 2 ^ 64 → Word (decimal n)
number_word n h = digits_word (decimal n) (decimal_writes n h).digits

pub signed_word : (z : ℤ) → mag z < 2 ^ 31 → Word (signed_decimal z)
signed_word (pos n) h = number_word n (omega arith)
signed_word (negsuc n) h = number_word (suc n) (omega arith)

pub number_words : (ns : List ℕ) → AllByRecursion (λ n. n < 2 ^ 64) ns → AllByRecursion Word (map decimal ns)
number_words [] h = tt
number_words (n ∷ ns) h = (number_word n h.0, number_words ns h.1)
