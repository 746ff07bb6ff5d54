-- Hexadecimal digits in pairs.
use Rattle.std.proofs.Common.{◌≡◌, ℕ, zero, suc, ◌+◌, ◌*◌, ◌/◌, ◌%◌, ◌≤◌, ◌<◌, Bool, true, false, true≢false, cond, ◌&&◌, All, leb, eqb, List, [], ◌∷◌, ◌++◌, length, map, get_or, drop, set, Some, None, refl, sym, ap, ap₂, subst, ◌∙◌, arith}
use lib.Seq.{paste}
use Rattle.std.specs.List.{list_all}
use Rattle.std.specs.Simd.{first_chunks}
use Rattle.std.proofs.lemmas.Bool.{le-leb, lt-leb, cond-true, cond-false}
use Rattle.std.proofs.lemmas.List.{length-map, get_or-map}
use Rattle.std.proofs.lemmas.List.Edits.{paste_more, paste_all}
use Rattle.std.proofs.lemmas.List.Elements.{All-nil, All-cons}
use Rattle.std.proofs.ByRecursion.{All-get_or, Decides-by_and}
use Rattle.std.proofs.lemmas.Option.{cond_some}
use Rattle.texts.specs.Texts.{is_hex, hex_value, pair_value, pairs, hex_of, hex_within, written_over}

-- ---- one of them

pub every_get_or : (test : ℕ → Bool) (xs : List ℕ) (i : ℕ) → i < length xs → list_all test xs ≡ true →
    test (get_or xs i 0) ≡ true
every_get_or test xs i h e =
    let all = (Decides-by_and test (λ x. test x ≡ true) (list_all test) (λ x. (λ p. p, λ p. p)) refl (λ _ _. refl) xs).0 e in
    All-get_or (λ x. test x ≡ true) xs i 0 h all

pub get_or_pairs : (text : List ℕ) (i : ℕ) → 2 * i + 1 < length text →
    get_or (pairs text) i 0 ≡ hex_value (get_or text (2 * i) 0) * 16 + hex_value (get_or text (2 * i + 1) 0)
get_or_pairs [] i h = absurd (omega arith)
get_or_pairs (a ∷ []) i h = absurd (omega arith)
get_or_pairs (a ∷ b ∷ bs) zero h = refl
get_or_pairs (a ∷ b ∷ bs) (suc i) h =
    let at : ℕ → ℕ = λ k. get_or (a ∷ b ∷ bs) k 0 in
    let first : suc (suc (2 * i)) ≡ 2 * suc i = omega arith in
    let second : suc (suc (2 * i + 1)) ≡ 2 * suc i + 1 = omega arith in
    get_or_pairs bs i (omega arith) ∙ ap₂ (λ x y. hex_value x * 16 + hex_value y) (ap at first) (ap at second)

-- ---- all of them

-- the bytes of the pairs are those of the text
pub map_pair_value : (text : List ℕ) → map pair_value (first_chunks 2 (length text / 2) text) ≡ pairs text
map_pair_value [] = refl
map_pair_value (a ∷ []) = refl
map_pair_value (a ∷ b ∷ bs) =
    let more : length (a ∷ b ∷ bs) / 2 ≡ suc (length bs / 2) = omega arith in
    ap (λ k. map pair_value (first_chunks 2 k (a ∷ b ∷ bs))) more ∙ ap (λ l. pair_value (a ∷ b ∷ []) ∷ l) (map_pair_value bs)

-- whether a pair has digits only
abbrev IsHexPair : List ℕ → Type 0
IsHexPair pair = list_all is_hex pair ≡ true

-- each does, if the text does
pub pairs_are_hex : (text : List ℕ) → list_all is_hex text ≡ true → All IsHexPair (first_chunks 2 (length text / 2) text)
pairs_are_hex [] all = All-nil IsHexPair
pairs_are_hex (a ∷ []) all = All-nil IsHexPair
pairs_are_hex (a ∷ b ∷ bs) all =
    let more : length (a ∷ b ∷ bs) / 2 ≡ suc (length bs / 2) = omega arith in
    let split = go (is_hex a) (is_hex b) (list_all is_hex bs) all in
    subst (λ k. All IsHexPair (first_chunks 2 k (a ∷ b ∷ bs))) (sym more)
    (All-cons IsHexPair (a ∷ b ∷ []) (first_chunks 2 (length bs / 2) bs) split.0 (pairs_are_hex bs split.1))
  where
    go : (p q r : Bool) → (p && (q && r)) ≡ true → ((p && (q && true)) ≡ true) × (r ≡ true)
    go true true r e = (refl, e)
    go true false r e = absurd (true≢false (sym e))
    go false q r e = absurd (true≢false (sym e))

-- what a text writes, if it is digits and none is left over
pub hex_of_even : (text rest : List ℕ) → true ≡ eqb (length rest) 0 → length rest ≡ length text % 2 →
    true ≡ list_all is_hex text → hex_of text ≡ Some (pairs text)
hex_of_even text rest none left all =
    ap₂ (λ p q. cond (p && q) (Some (pairs text)) None) (ap (λ k. eqb k 0) (sym left) ∙ sym none) (sym all)

-- what a text writes that writes bs, if there is room for them
hex_within_of : (room : ℕ) (text bs : List ℕ) → Some bs ≡ hex_of text →
    hex_within room text ≡ cond (leb (length bs) room) (Some bs) None
hex_within_of room text bs e =
    ap₂ (λ xs o. cond (leb (length xs) room) o None) (cond_some _ _ _ (sym e)).1 (sym e)

pub hex_within_some : (room : ℕ) (text : List ℕ) (ps : List (List ℕ)) → Some (map pair_value ps) ≡ hex_of text →
    length ps ≤ room → hex_within room text ≡ Some (map pair_value ps)
hex_within_some room text ps e h =
    hex_within_of room text _ e ∙ cond-true (leb (length (map pair_value ps)) room) _ _ (le-leb _ _ (omega (arith, length-map ps pair_value)))

-- a byte for two digits
length_pairs : (text : List ℕ) → length (pairs text) ≡ length text / 2
length_pairs [] = refl
length_pairs (a ∷ []) = refl
length_pairs (a ∷ b ∷ bs) = omega (arith, length_pairs bs)

-- nothing, if there is no room for as many bytes
pub hex_within_not : (room : ℕ) (text : List ℕ) → room < length text / 2 → hex_within room text ≡ None
hex_within_not room text h =
    cond-false (leb (length (pairs text)) room) _ _ (lt-leb _ _ (omega (arith, length_pairs text)))

-- one more byte is written over the front of d
pub write_more : (d out : List ℕ) (ps : List (List ℕ)) (i byte : ℕ) → i < length d → i < length ps →
    byte ≡ pair_value (get_or ps i []) → out ≡ paste d 0 (map pair_value ps) i →
    set out i byte ≡ paste d 0 (map pair_value ps) (i + 1)
write_more d out ps i byte room inside is e =
    let place : i ≡ 0 + i = omega arith in
    ap₂ (λ xs x. set xs i x) e (is ∙ sym (get_or-map pair_value ps i [] 0 inside))
    ∙ ap (λ j. set (paste d 0 (map pair_value ps) i) j (get_or (map pair_value ps) i 0)) place
    ∙ paste_more d 0 (map pair_value ps) i 0 (omega arith) (omega (arith, length-map ps pair_value))

pub write_all : (d out : List ℕ) (ps : List (List ℕ)) (i : ℕ) → i ≡ length ps →
    out ≡ paste d 0 (map pair_value ps) i → out ≡ written_over (Some (map pair_value ps)) d
write_all d out ps i at e =
    let all : i ≡ length (map pair_value ps) = at ∙ sym (length-map ps pair_value) in
    e ∙ paste_all d 0 (map pair_value ps) i all ∙ ap (λ k. map pair_value ps ++ drop k d) (omega arith)
