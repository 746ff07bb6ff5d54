-- The Bloom summary: which bits packing sets, and the laws of a summary.
use Rattle.std.specs.Prelude.{◌≡◌, ℕ, zero, suc, ◌+◌, ◌*◌, ◌/◌, ◌%◌, ◌^◌, ◌<◌, Bool, true, false, ◌||◌, List, [], ◌∷◌, length, replicate, Decides, fold, ◌==◌, nat_eq, slice_index, refl}
use Rattle.std.proofs.Common.{sym, ap, ap₂, ◌∙◌, mod-lt, arith, lit<, add-one}
use Rattle.std.proofs.Math.Bool.{or_assoc, or_comm, or-false}
use Rattle.std.proofs.Math.Nat.{zero-div}
use Rattle.number_bytes.specs.Bytes.{Byte}
use Rattle.number_bytes.proofs.Numbers.{bytes_zeros}
use Rattle.std.proofs.lemmas.Nat.{or_lt, pow_below}
use Rattle.std.proofs.ByRecursion.{All-set}
use Rattle.std.proofs.lemmas.List.{length-set}
use Rattle.std.proofs.lemmas.Bool.{both_ways, and_from}
use Rattle.std.proofs.lemmas.Bool.Decides.{Decides-at, Decides-eqb, Decides-below_or, Decides-below_and, Decides-by_or}
use Rattle.std.specs.List.{ContainsAt, AllByRecursion}
use Rattle.summaries.specs.Bits.{bit_with}
use Rattle.summaries.specs.Blooms as blooms
use Rattle.summaries.specs.Blooms.{hashes, position, with_bit, has_bit, marked, packed_bloom, names_bloom, IsPosition, SetsExactly}
use Rattle.summaries.specs.Hashes.{murmur2}

-- ---- positions

pub position_below : (n i : ℕ) → position n i < 512
unfolding position
position_below n i = mod-lt _ (lit< tt)

pub position_is : (n i a b : ℕ) → a ≡ murmur2 n 0 → b ≡ murmur2 n a → (a + i * b) % 512 ≡ position n i
unfolding position
position_is n i a b first second = ap₂ (λ x y. (x + i * y) % 512) first (second ∙ ap (murmur2 n) first)

-- ---- which bits are set

-- whether q is one of the first i positions of n, and of some listed node
abbrev hits : ℕ → ℕ → ℕ → Bool
hits q n zero = false
hits q n (suc i) = q == position n i || hits q n i

abbrev hit_by : ℕ → List ℕ → Bool
hit_by q [] = false
hit_by q (n ∷ ns) = hits q n hashes || hit_by q ns

length_marked : (n i : ℕ) (bs : List ℕ) → length (marked n i bs) ≡ length bs
length_marked n zero bs = refl
length_marked n (suc i) bs = length-set (marked n i bs) _ _ ∙ length_marked n i bs

bits_marked : (q n i : ℕ) (bs : List ℕ) → length bs ≡ 64 → has_bit q (marked n i bs) ≡ (hits q n i || has_bit q bs)
bits_marked q n zero bs l = refl
bits_marked q n (suc i) bs l =
    bit_with q (position n i) (marked n i bs) (omega (arith, position_below n i, length_marked n i bs))
    ∙ ap (λ b. (q == position n i) || b) (bits_marked q n i bs l)
    ∙ sym (or_assoc (q == position n i) (hits q n i) (has_bit q bs))

-- the bytes after some nodes more
abbrev packing : List ℕ → List ℕ → List ℕ
packing bs ns = fold (λ xs n. marked n hashes xs) bs ns

length_packing : (ns bs : List ℕ) → length (packing bs ns) ≡ length bs
length_packing [] bs = refl
length_packing (n ∷ ns) bs = length_packing ns (marked n hashes bs) ∙ length_marked n hashes bs

bits_packing : (q : ℕ) (ns bs : List ℕ) → length bs ≡ 64 → has_bit q (packing bs ns) ≡ (hit_by q ns || has_bit q bs)
bits_packing q [] bs l = refl
bits_packing q (n ∷ ns) bs l =
    bits_packing q ns (marked n hashes bs) (length_marked n hashes bs ∙ l)
    ∙ ap (λ b. hit_by q ns || b) (bits_marked q n hashes bs l)
    ∙ sym (or_assoc (hit_by q ns) (hits q n hashes) (has_bit q bs))
    ∙ ap (λ b. b || has_bit q bs) (or_comm (hit_by q ns) (hits q n hashes))

get_or_zeros : (k i : ℕ) → ◌≡◌ {A = ℕ} (slice_index (replicate k 0) i) 0
get_or_zeros zero i = refl
get_or_zeros (suc k) zero = refl
get_or_zeros (suc k) (suc i) = get_or_zeros k i

no_bit : (q : ℕ) → has_bit q (replicate 64 0) ≡ false
no_bit q = ap (λ n. nat_eq (n / 2 ^ (q % 8) % 2) 1) (get_or_zeros 64 (q / 8)) ∙ ap (λ n. nat_eq (n % 2) 1) (zero-div (2 ^ (q % 8)))

hits_decides : (q n : ℕ) → Decides (hits q n hashes) (IsPosition q n)
hits_decides q n =
    Decides-below_or (λ i. nat_eq q (position n i)) (λ i. q ≡ position n i) (hits q n) (λ i. Decides-eqb q (position n i)) refl (λ _. refl) hashes

-- packing sets exactly the positions of the listed nodes
pub packs_exactly : (ns : List ℕ) → SetsExactly ns (packed_bloom ns)
packs_exactly ns q =
    Decides-at (has_bit q (packed_bloom ns)) (hit_by q ns)
    (bits_packing q ns (replicate 64 0) refl ∙ ap (λ b. hit_by q ns || b) (no_bit q) ∙ or-false (hit_by q ns))
    (Decides-by_or (λ n. hits q n hashes) (IsPosition q) (hit_by q) (hits_decides q) refl (λ _ _. refl) ns)

-- ---- what a query finds

pub all_set_decides : (bs : List ℕ) (n k : ℕ) → Decides (blooms.all_set bs n k) ((i : ℕ) → i < k → has_bit (position n i) bs ≡ true)
all_set_decides bs n k =
    Decides-below_and (λ i. has_bit (position n i) bs) (λ i. has_bit (position n i) bs ≡ true) (blooms.all_set bs n) (λ _. (λ e. e, λ e. e)) refl
    (λ _. refl) k

pub all_set_more : (bs : List ℕ) (n i : ℕ) → has_bit (position n i) bs ≡ true → blooms.all_set bs n i ≡ true → blooms.all_set bs n (i + 1) ≡ true
all_set_more bs n i here before = ap (blooms.all_set bs n) (add-one i) ∙ and_from (has_bit (position n i) bs) (blooms.all_set bs n i) here before

pub one_not_set : (bs : List ℕ) (n i : ℕ) → i < hashes → has_bit (position n i) bs ≡ false → names_bloom bs n ≡ false
one_not_set bs n i inside here = by (names_bloom bs n) refl
  where
    by : (b : Bool) → names_bloom bs n ≡ b → names_bloom bs n ≡ false
    by false e = e
    by true e = absurd (both_ways (has_bit (position n i) bs) here ((all_set_decides bs n hashes).0 e i inside))

-- ---- the laws

pub packed_wide : (ns : List ℕ) → length (packed_bloom ns) ≡ 64
packed_wide ns = length_packing ns (replicate 64 0)

byte_at : (bs : List ℕ) (i : ℕ) → AllByRecursion Byte bs → slice_index bs i < 256
byte_at [] i h = lit< tt
byte_at (b ∷ bs) zero h = h.0
byte_at (b ∷ bs) (suc i) h = byte_at bs i h.1

bytes_marked : (n i : ℕ) (bs : List ℕ) → AllByRecursion Byte bs → AllByRecursion Byte (marked n i bs)
bytes_marked n zero bs h = h
bytes_marked n (suc i) bs h =
    let before = bytes_marked n i bs h in
    let p = position n i in
    All-set Byte (marked n i bs) (p / 8) _ (or_lt 8 _ (2 ^ (p % 8)) (byte_at (marked n i bs) (p / 8) before) (pow_below (p % 8) 8 (mod-lt p (lit< tt)))) before

bytes_packing : (ns bs : List ℕ) → AllByRecursion Byte bs → AllByRecursion Byte (packing bs ns)
bytes_packing [] bs h = h
bytes_packing (n ∷ ns) bs h = bytes_packing ns (marked n hashes bs) (bytes_marked n hashes bs h)

pub packed_bytes : (ns : List ℕ) → AllByRecursion Byte (packed_bloom ns)
packed_bytes ns = bytes_packing ns (replicate 64 0) (bytes_zeros 64)

pub listed_named : (ns : List ℕ) (n : ℕ) → ContainsAt ns n → names_bloom (packed_bloom ns) n ≡ true
listed_named ns n h =
    (all_set_decides (packed_bloom ns) n hashes).1
    (λ i inside. (packs_exactly ns (position n i)).1 (h.0, h.1, λ d. (i, inside, ap (λ m. position m i) (sym (h.2 d)))))

pub none_named : (n : ℕ) → names_bloom (packed_bloom []) n ≡ false
none_named n = one_not_set (replicate 64 0) n 0 (lit< tt) (no_bit (position n 0))
