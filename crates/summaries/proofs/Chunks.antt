-- The numbers of an exact list, as its bytes are cut into chunks.
use Rattle.std.proofs.Common.{◌≡◌, ℕ, zero, suc, ◌+◌, ◌-◌, ◌*◌, ◌<◌, min, List, length, take, drop, get_or, Decides, [], ◌∷◌, sym, ap, refl, ◌==◌, ◌∙◌, suc-mul, add_comm, zero-mul, arith}
use Rattle.std.proofs.ByRecursion.{All-take, All-drop}
use Rattle.std.proofs.lemmas.Bool.Decides.{same_from_decides, Decides-like, Decides-by_or, Decides-eqb}
use Rattle.std.proofs.lemmas.List.{drop-drop, length-take-le, get_or-take}
use Rattle.std.proofs.lemmas.List.Edits.{length-between}
use Rattle.std.proofs.lemmas.Nat.{le_bytes_8}
use Rattle.std.specs.Int.{from_le_bytes}
use mir.Syntax.{w64}
use Rattle.std.specs.List.{HoldsAt, AllByRecursion, between, list_any}
use Rattle.std.specs.Simd.{first_chunks}
use Rattle.number_bytes.specs.Bytes.{Byte, Number, big_endian, number}
use Rattle.number_bytes.proofs.Numbers.{number_big_endian, big_endian_number, bytes_big_endian}
use Rattle.summaries.specs.ExactLaws.{among_decides}
use Rattle.summaries.specs.ExactLists.{number_in, names_exact}

-- ---- chunks

-- how many they are
length_chunks : (n k : ℕ) (xs : List ℕ) → length (first_chunks n k xs) ≡ k
length_chunks n zero xs = omega arith
length_chunks n (suc k) xs = ap suc (length_chunks n k (drop n xs))

-- chunk i
nth_chunk : (n k : ℕ) (xs : List ℕ) (i : ℕ) (d : List ℕ) → i < k → get_or (first_chunks n k xs) i d ≡ take n (drop (i * n) xs)
nth_chunk n zero xs i d below = absurd (omega arith)
nth_chunk n (suc k) xs zero d below = ap (λ j. take n (drop j xs)) (sym (zero-mul n))
nth_chunk n (suc k) xs (suc i) d below =
    nth_chunk n k (drop n xs) i d (omega arith)
    ∙ ap (take n) (drop-drop (i * n) n xs)
    ∙ ap (λ j. take n (drop j xs)) (add_comm n (i * n) ∙ sym (suc-mul i n))

-- ---- numbers

-- each byte of the list, and 0 behind it
each_byte : (bs : List ℕ) → AllByRecursion Byte bs → (i : ℕ) → get_or bs i 0 < 256
each_byte [] all i = omega arith
each_byte (b ∷ bs) all zero = all.0
each_byte (b ∷ bs) all (suc i) = each_byte bs all.1 i

-- eight bytes that read, the lowest first, as those of n do are those of n
turned_same : (bs : List ℕ) (n : ℕ) → length bs ≡ 8 → AllByRecursion Byte bs → Number n → from_le_bytes w64 bs ≡ from_le_bytes w64 (big_endian 8 n) → number bs ≡ n
turned_same bs n long small fits e =
    let read = from_le_bytes w64 bs in
    let back = le_bytes_8 bs read long (each_byte bs small) refl in
    let written = le_bytes_8 (big_endian 8 n) read refl (each_byte (big_endian 8 n) (bytes_big_endian 8 n)) e in
    ap number (sym back ∙ written) ∙ number_big_endian 8 n fits

-- the bytes of number k, behind the count
bytes_there : (bs : List ℕ) (k : ℕ) (d : List ℕ) → length bs ≡ 257 → k < 32 → get_or (first_chunks 8 32 (drop 1 bs)) k d ≡ between (1 + 8 * k) (1 + 8 * k + 8) bs
bytes_there bs k d long below =
    let there : drop (k * 8) (drop 1 bs) ≡ drop (1 + 8 * k) bs = drop-drop (k * 8) 1 bs ∙ ap (λ j. drop j bs) (omega arith) in
    let eight : 8 ≡ 1 + 8 * k + 8 - (1 + 8 * k) = omega arith in
    nth_chunk 8 32 (drop 1 bs) k d below ∙ ap (take 8) there ∙ ap (λ j. take j (drop (1 + 8 * k) bs)) eight

-- whether any of the numbers in the list is the node
pub any_number : (bs : List ℕ) (n : ℕ) (all : List (List ℕ)) → length bs ≡ 257 → AllByRecursion Byte bs → Number n →
    all ≡ take (min (get_or bs 0 0) 32) (first_chunks 8 32 (drop 1 bs)) →
    list_any (λ x. from_le_bytes w64 x == from_le_bytes w64 (big_endian 8 n)) all ≡ names_exact bs n
any_number bs n all long small fits is = same_from_decides _ _ (Decides-like _ there back listed) (among_decides bs n count)
  where
    turned : ℕ
    turned = from_le_bytes w64 (big_endian 8 n)

    count : ℕ
    count = min (get_or bs 0 0) 32

    many : length all ≡ count
    many = ap length is ∙ length-take-le count (first_chunks 8 32 (drop 1 bs)) (omega (arith, length_chunks 8 32 (drop 1 bs)))

    eight : ℕ → List ℕ
    eight k = between (1 + 8 * k) (1 + 8 * k + 8) bs

    at : (k : ℕ) (d : List ℕ) → k < count → get_or all k d ≡ eight k
    at k d below = ap (λ xs. get_or xs k d) is ∙ get_or-take count (first_chunks 8 32 (drop 1 bs)) k d below ∙ bytes_there bs k d long (omega arith)

    whole : (k : ℕ) → k < count → length (eight k) ≡ 8
    whole k below = length-between bs (1 + 8 * k) (1 + 8 * k + 8) (omega arith) ∙ omega arith

    bytes : (k : ℕ) → AllByRecursion Byte (eight k)
    bytes k = All-take Byte _ _ (All-drop Byte (1 + 8 * k) bs small)

    listed : Decides (list_any (λ x. from_le_bytes w64 x == turned) all) ((k : ℕ) × (k < length all) × HoldsAt (λ x. from_le_bytes w64 x ≡ turned) all k)
    listed =
        Decides-by_or (λ x. from_le_bytes w64 x == turned) (λ x. from_le_bytes w64 x ≡ turned) (list_any (λ x. from_le_bytes w64 x == turned))
        (λ x. Decides-eqb (from_le_bytes w64 x) turned) refl (λ _ _. refl) all

    there : (k : ℕ) × (k < length all) × HoldsAt (λ x. from_le_bytes w64 x ≡ turned) all k → (k : ℕ) × (k < count) × (number_in bs k ≡ n)
    there f =
        let below : f.0 < count = omega (arith, f.1, many) in
        (f.0, below, turned_same (eight f.0) n (whole f.0 below) (bytes f.0) fits (sym (ap (from_le_bytes w64) (at f.0 [] below)) ∙ f.2 []))

    back : (k : ℕ) × (k < count) × (number_in bs k ≡ n) → (k : ℕ) × (k < length all) × HoldsAt (λ x. from_le_bytes w64 x ≡ turned) all k
    back f =
        let written = sym (big_endian_number 8 (eight f.0) (whole f.0 f.1) (bytes f.0)) ∙ ap (big_endian 8) f.2 in
        (f.0, omega (arith, f.1, many), λ d. ap (from_le_bytes w64) (at f.0 d f.1 ∙ written))
