-- The laws of numbers written as bytes, each way and back, and what a slice's bytes write.
use Rattle.std.proofs.Common.{◌≡◌, ℕ, zero, suc, ◌+◌, ◌-◌, ◌*◌, ◌/◌, ◌%◌, ◌^◌, ◌<◌, ◌≤◌, List, [], ◌∷◌, length, get_or, take, drop, replicate, sym, refl, ap, ◌∙◌, subst, ap₂, add_assoc, mod-lt, mod-eq_of_lt, mul_assoc, add-mul, zero-mul, div-one, arith, lit<}
use native.Mathlib.Nat.{mod-one, pow-succ', one-le-pow}
use lib.Arith.{mod-mul}
use Rattle.std.specs.List.{between, AllByRecursion}
use Rattle.std.specs.Int.Digits as digits
use Rattle.std.proofs.lemmas.Int.Digits.{number_lt}
use Rattle.std.proofs.lemmas.List.{drop_more}
use Rattle.number_bytes.specs.Bytes.{Byte, byte_of, big_endian, number}

pub length_big_endian : (k n : ℕ) → length (big_endian k n) ≡ k
length_big_endian zero n = refl
length_big_endian (suc k) n = ap suc (length_big_endian k n)

-- the k elements from `at` on, one by one
abbrev row : List ℕ → ℕ → ℕ → List ℕ
row xs at zero = []
row xs at (suc k) = get_or xs at 0 ∷ row xs (at + 1) k

take_row : (k : ℕ) (xs : List ℕ) (at : ℕ) → at + k ≤ length xs → take k (drop at xs) ≡ row xs at k
take_row zero xs at h = refl
take_row (suc k) xs at h =
    let inside : at < length xs = omega arith in
    ap (take (suc k)) (drop_more xs at 0 inside) ∙ ap (λ ys. get_or xs at 0 ∷ ys) (take_row k xs (at + 1) (omega arith))

pub between_row : (k : ℕ) (xs : List ℕ) (at : ℕ) → at + k ≤ length xs → between at (at + k) xs ≡ row xs at k
between_row k xs at h =
    let width : at + k - at ≡ k = omega arith in
    ap (λ n. take n (drop at xs)) width ∙ take_row k xs at h

pub number_of_two : (xs : List ℕ) (at : ℕ) → at + 2 ≤ length xs → number (between at (at + 2) xs) ≡ get_or xs at 0 * 256 + get_or xs (at + 1) 0
number_of_two xs at h = ap number (between_row 2 xs at h) ∙ omega arith

pub number_of_four : (xs : List ℕ) (at : ℕ) → at + 4 ≤ length xs →
    number (between at (at + 4) xs)
    ≡ get_or xs at 0 * 16777216 + get_or xs (at + 1) 0 * 65536 + get_or xs (at + 2) 0 * 256 + get_or xs (at + 3) 0
number_of_four xs at h = ap number (between_row 4 xs at h) ∙ simp add_assoc (omega arith)

pub number_of_eight : (xs : List ℕ) (at : ℕ) → at + 8 ≤ length xs →
    number (between at (at + 8) xs)
    ≡ get_or xs at 0 * 72057594037927936 + get_or xs (at + 1) 0 * 281474976710656 + get_or xs (at + 2) 0 * 1099511627776
    + get_or xs (at + 3) 0 * 4294967296 + get_or xs (at + 4) 0 * 16777216 + get_or xs (at + 5) 0 * 65536
    + get_or xs (at + 6) 0 * 256 + get_or xs (at + 7) 0
number_of_eight xs at h = ap number (between_row 8 xs at h) ∙ simp add_assoc (omega arith)

-- ---- a number, written and read

pow_positive : (k : ℕ) → 0 < 256 ^ k
pow_positive k = one-le-pow k 256 (lit< tt)

byte_of_is : (k n : ℕ) → byte_of k n ≡ n / 256 ^ k % 256
byte_of_is zero n = ap (λ m. m % 256) (sym (div-one n))
byte_of_is (suc k) n = refl

number_after_big_endian : (k a n : ℕ) → digits.number_from_digits_after 256 a (big_endian k n) ≡ a * 256 ^ k + n % 256 ^ k
number_after_big_endian zero a n = omega (arith, mod-one n)
number_after_big_endian (suc k) a n =
    let step = number_after_big_endian k (a * 256 + byte_of k n) n in
    let low : n % (256 * 256 ^ k) ≡ (n / 256 ^ k % 256) * 256 ^ k + n % 256 ^ k = mod-mul n (lit< tt) (pow_positive k) in
    let high : (a * 256 + byte_of k n) * 256 ^ k ≡ a * 256 * 256 ^ k + byte_of k n * 256 ^ k = add-mul (a * 256) (byte_of k n) (256 ^ k) in
    let group : a * 256 * 256 ^ k ≡ a * (256 * 256 ^ k) = mul_assoc a 256 (256 ^ k) in
    step ∙ ap (λ m. m + n % 256 ^ k) (high ∙ ap (λ m. m + byte_of k n * 256 ^ k) group)
    ∙ ap (λ b. a * (256 * 256 ^ k) + b * 256 ^ k + n % 256 ^ k) (byte_of_is k n)
    ∙ add_assoc (a * (256 * 256 ^ k)) _ _
    ∙ ap (λ m. a * (256 * 256 ^ k) + m) (sym low)
    ∙ ap (λ p. a * p + n % p) (sym (pow-succ' 256 k))

-- what is written reads back, if it fits the bytes
pub number_big_endian : (k n : ℕ) → n < 256 ^ k → number (big_endian k n) ≡ n
number_big_endian k n h = number_after_big_endian k 0 n ∙ omega (arith, mod-eq_of_lt h, zero-mul (256 ^ k))

pub bytes_big_endian : (k n : ℕ) → AllByRecursion Byte (big_endian k n)
bytes_big_endian zero n = tt
bytes_big_endian (suc zero) n = (mod-lt n (lit< tt), tt)
bytes_big_endian (suc (suc k)) n = (mod-lt (n / 256 ^ suc k) (lit< tt), bytes_big_endian (suc k) n)

same_number : (a b : ℕ) (xs ys : List ℕ) → AllByRecursion Byte xs → AllByRecursion Byte ys → length xs ≡ length ys →
    digits.number_from_digits_after 256 a xs ≡ digits.number_from_digits_after 256 b ys → (a ≡ b) × (xs ≡ ys)
same_number a b [] [] p q l e = (e, refl)
same_number a b [] (y ∷ ys) p q l e = absurd (omega arith)
same_number a b (x ∷ xs) [] p q l e = absurd (omega arith)
same_number a b (x ∷ xs) (y ∷ ys) p q l e =
    let rest = same_number (a * 256 + x) (b * 256 + y) xs ys p.1 q.1 (omega arith) e in
    let small : x < 256 = p.0 in
    let other : y < 256 = q.0 in
    let sum : a * 256 + x ≡ b * 256 + y = rest.0 in
    let same : x ≡ y = omega arith in
    (omega arith, ap₂ (λ z zs. z ∷ zs) same rest.1)

-- bytes are what their number writes
pub big_endian_number : (k : ℕ) (bs : List ℕ) → length bs ≡ k → AllByRecursion Byte bs → big_endian k (number bs) ≡ bs
big_endian_number k bs l h =
    let small : number bs < 256 ^ k = subst (λ n. number bs < 256 ^ n) l (number_lt 256 bs h) in
    (same_number 0 0 (big_endian k (number bs)) bs (bytes_big_endian k (number bs)) h (length_big_endian k (number bs) ∙ sym l)
    (number_big_endian k (number bs) small)).1

pub bytes_zeros : (k : ℕ) → AllByRecursion Byte (replicate k 0)
bytes_zeros zero = tt
bytes_zeros (suc k) = (lit< tt, bytes_zeros k)
