-- The exact list: what packing writes, what a query finds, and the laws of a summary.
use Rattle.std.proofs.lemmas.Bool.{ne_eqb, or_from}
use Rattle.std.specs.Prelude.{◌≡◌, ℕ, suc, ◌+◌, ◌-◌, ◌*◌, ◌<◌, ◌≤◌, min, List, [], ◌∷◌, ◌++◌, length, take, drop, replicate, Decides, nat_eq, slice_index, slice_set, refl, ◌≢◌, false, ◌==◌}
use Rattle.std.proofs.Common.{sym, ap, ◌∙◌, mul_comm, arith, add-one}
use borrow.Rule.Slice.PartMut.{put_mid}
use Rattle.number_bytes.specs.Bytes.{Byte, Number, big_endian, number}
use Rattle.number_bytes.proofs.Numbers.{length_big_endian, bytes_big_endian, number_big_endian, bytes_zeros}
use Rattle.number_bytes.proofs.Parts.{put_last, length_joined, nth_joined}
use Rattle.limits.specs.Limits.{most_reads}
use Rattle.std.proofs.ByRecursion.{All-append, All-get_or}
use Rattle.std.proofs.lemmas.List.{flat_map_more, take_more, take_more_set, length-append, length-replicate, get_or_default}
use Rattle.std.proofs.lemmas.Slice.{take-put_mid}
use Rattle.std.proofs.lemmas.Bool.Decides.{Decides-eqb, Decides-below_or}
use Rattle.std.specs.List.{AllByRecursion}
use Rattle.summaries.specs.ExactLists.{numbers, packed_exact, number_in, among, NamesExactly}

-- ---- what packing writes

pub length_numbers : (ns : List ℕ) → length (numbers ns) ≡ 8 * length ns
length_numbers ns = length_joined (big_endian 8) 8 (length_big_endian 8) ns ∙ mul_comm (length ns) 8

-- one number more, written at its place
pub put_number : (ns region first piece : List ℕ) (at i : ℕ) → i < length ns → at + 8 ≤ length region →
    piece ≡ big_endian 8 (slice_index ns i) → take at region ≡ first ++ numbers (take i ns) →
    take (at + 8) (put_mid at (at + 8 - at) region piece) ≡ first ++ numbers (take (i + 1) ns)
put_number ns region first piece at i inside room is before =
    take-put_mid at (at + 8 - at) region piece (at + 8) (ap (λ k. at + k) (sym (ap length is))) (omega arith)
    ∙ ap (λ xs. xs ++ piece) before
    ∙ ap (λ xs. (first ++ numbers (take i ns)) ++ xs) is
    ∙ flat_map_more (big_endian 8) first (take i ns) (slice_index ns i)
    ∙ ap (λ xs. first ++ numbers xs) (sym (take_more ns i 0 inside))

-- the whole region: the count, the numbers, the zeros
pub packed_region : (ns region done rest : List ℕ) (n : ℕ) → n ≡ length ns → length ns ≤ 32 → length region ≡ 257 → length done ≡ 257 →
    take (1 + 8 * n) done ≡ take 1 (slice_set region 0 n) ++ numbers ns → rest ≡ replicate (257 - (1 + 8 * n)) 0 →
    put_mid (1 + 8 * n) (257 - (1 + 8 * n)) done rest ≡ packed_exact ns
packed_region ns region done rest n is few wide long front zeros =
    let first : take 1 (slice_set region 0 n) ≡ n ∷ [] = take_more_set region 0 n (omega arith) in
    let left : 257 - (1 + 8 * n) ≡ 8 * most_reads - 8 * length ns = omega arith in
    put_last (1 + 8 * n) (257 - (1 + 8 * n)) done rest (omega arith)
    ∙ ap (λ xs. xs ++ rest) (front ∙ ap (λ xs. xs ++ numbers ns) first)
    ∙ ap (λ xs. n ∷ (numbers ns ++ xs)) (zeros ∙ ap (λ k. replicate k 0) left)
    ∙ ap (λ k. k ∷ (numbers ns ++ replicate (8 * most_reads - 8 * length ns) 0)) is

-- ---- what a query finds

-- a node is among the first c numbers exactly if one of them is the node
pub among_decides : (bs : List ℕ) (n c : ℕ) → Decides (among bs n c) ((k : ℕ) × (k < c) × (number_in bs k ≡ n))
among_decides bs n c =
    Decides-below_or (λ k. nat_eq (number_in bs k) n) (λ k. number_in bs k ≡ n) (among bs n) (λ k. Decides-eqb (number_in bs k) n) refl (λ _. refl) c

pub among_more : (bs : List ℕ) (n i : ℕ) → (number_in bs i ≢ n) → among bs n i ≡ false → among bs n (i + 1) ≡ false
among_more bs n i other before =
    ap (among bs n) (add-one i) ∙ or_from (number_in bs i == n) (among bs n i) (ne_eqb (number_in bs i) n other) before

-- ---- the laws

pub packed_wide : (ns : List ℕ) → length ns ≤ 32 → length (packed_exact ns) ≡ 257
packed_wide ns few = let whole = length_numbers ns in simp (length-append, length-replicate) (omega arith)

bytes_numbers : (ns : List ℕ) → AllByRecursion Byte (numbers ns)
bytes_numbers [] = tt
bytes_numbers (n ∷ ns) = All-append Byte (big_endian 8 n) (numbers ns) (bytes_big_endian 8 n) (bytes_numbers ns)

pub packed_bytes : (ns : List ℕ) → length ns ≤ 32 → AllByRecursion Byte (packed_exact ns)
packed_bytes ns few = (omega arith, All-append Byte (numbers ns) _ (bytes_numbers ns) (bytes_zeros _))

-- number k, at its place among the bytes
nth_bytes : (ns tail : List ℕ) (k : ℕ) → k < length ns → take 8 (drop (8 * k) (numbers ns ++ tail)) ≡ big_endian 8 (slice_index ns k)
nth_bytes ns tail k h =
    ap (λ j. take 8 (drop j (numbers ns ++ tail))) (mul_comm 8 k) ∙ nth_joined (big_endian 8) 8 (length_big_endian 8) ns tail k 0 h

pub number_in_packed : (ns : List ℕ) (k : ℕ) → AllByRecursion Number ns → k < length ns → number_in (packed_exact ns) k ≡ slice_index ns k
number_in_packed ns k small h =
    let width : 1 + 8 * k + 8 - (1 + 8 * k) ≡ 8 = omega arith in
    let place : 1 + 8 * k ≡ suc (8 * k) = omega arith in
    ap (λ j. number (take j (drop (1 + 8 * k) (packed_exact ns)))) width
    ∙ ap (λ j. number (take 8 (drop j (packed_exact ns)))) place
    ∙ ap number (nth_bytes ns _ k h)
    ∙ number_big_endian 8 (slice_index ns k) (All-get_or Number ns k 0 h small)

-- bytes packed from a list name exactly the numbers of the list
pub names_packed : (ns : List ℕ) → length ns ≤ 32 → AllByRecursion Number ns → NamesExactly ns (packed_exact ns)
names_packed ns few small n =
    let count : min (length ns) most_reads ≡ length ns = omega arith in
    let found = among_decides (packed_exact ns) n (min (length ns) most_reads) in (
      λ e. let k = found.0 e in
          let inside : k.0 < length ns = omega (arith, k.1) in
          (k.0, inside, λ d. get_or_default ns k.0 d 0 inside ∙ sym (number_in_packed ns k.0 small inside) ∙ k.2),
      λ h. found.1 (h.0, omega (arith, h.1), number_in_packed ns h.0 small h.1 ∙ h.2 0),
    )
