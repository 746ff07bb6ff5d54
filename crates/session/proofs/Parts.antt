-- A part of a list of a given width: what the part and the rest are after the part is replaced or one element is set, and why the
-- parts of equal width do not meet.
use Rattle.std.proofs.Common.{◌≡◌, ℕ, ◌+◌, ◌-◌, ◌*◌, ◌<◌, ◌≤◌, ◌≢◌, ◌⊎◌, inl, inr, List, ◌++◌, length, take, drop, set, sym, ap, ◌∙◌, arith}
use Rattle.session.specs.Shares.{replaced}
use Rattle.std.proofs.lemmas.Bool.{cases_lt}
use Rattle.std.proofs.lemmas.List.{append_assoc, length-append, length-take, length-drop, take_at, drop_at, take-take, take-append-le, drop-set-add, drop-set-lt, take-set-le}
use Rattle.std.proofs.lemmas.List.Edits.{length-between}
use Rattle.std.proofs.lemmas.Slice.{between_is, drop-append-drop}
use Rattle.std.specs.List.{between}

-- the part with index i ends where the next begins, or before
part_before : (i j width : ℕ) → i < j → i * width + width ≤ j * width
part_before i j width h = grind arith

-- two parts with different indices do not meet
pub parts_apart : (i j width : ℕ) → i ≢ j → (i * width + width ≤ j * width) ⊎ (j * width + width ≤ i * width)
parts_apart i j width other = by (cases_lt i j)
  where
    by : (i < j) ⊎ (j ≤ i) → (i * width + width ≤ j * width) ⊎ (j * width + width ≤ i * width)
    by (inl h) = inl (part_before i j width h)
    by (inr h) = inr (part_before j i width (omega arith))

-- a part with an index below the count is inside
pub part_inside : (i count width : ℕ) → i < count → i * width + width ≤ count * width
part_inside i count width h = part_before i count width h

module _ {X : Type 0} where
  pub length_part : (xs : List X) (at width : ℕ) → at + width ≤ length xs → length (between at (at + width) xs) ≡ width
  length_part xs at width inside = let long = length-between xs at (at + width) inside in omega arith

  pub length_replaced : (xs : List X) (at width : ℕ) (part : List X) → at + width ≤ length xs → length part ≡ width →
      length (replaced xs at part) ≡ length xs
  length_replaced xs at width part inside long =
      let n = length part in
      let all = length-append (take at xs) (part ++ drop (at + n) xs) in
      let rest = length-append part (drop (at + n) xs) in
      omega (arith, length-take at xs, length-drop (at + n) xs)

  pub part_is : (xs : List X) (at width : ℕ) → between at (at + width) xs ≡ take width (drop at xs)
  part_is xs at width = let n : at + width - at ≡ width = omega arith in ap (λ k. take k (drop at xs)) n

  -- a replaced part is what it is replaced with
  pub part_replaced : (xs : List X) (at width : ℕ) (part : List X) → at + width ≤ length xs → length part ≡ width →
      between at (at + width) (replaced xs at part) ≡ part
  part_replaced xs at width part inside long =
      part_is (replaced xs at part) at width
      ∙ ap (take width) (drop_at (take at xs) (part ++ drop (at + length part) xs) at (omega (arith, length-take at xs)))
      ∙ take_at part (drop (at + length part) xs) width long

  -- and a part that it does not meet stays
  pub part_elsewhere : (xs : List X) (at b width : ℕ) (part : List X) → at + width ≤ length xs → length part ≡ width →
      (b + width ≤ at) ⊎ (at + width ≤ b) → between b (b + width) (replaced xs at part) ≡ between b (b + width) xs
  part_elsewhere xs at b width part inside long (inl before) =
      let rest = part ++ drop (at + length part) xs in
      between_is (take at xs ++ rest) b (b + width)
      ∙ ap (drop b) (take-append-le (b + width) (take at xs) rest (omega (arith, length-take at xs)) ∙ take-take (b + width) at xs before)
      ∙ sym (between_is xs b (b + width))
  part_elsewhere xs at b width part inside long (inr behind) =
      let end : length (take at xs ++ part) ≡ at + length part = omega (arith, length-append (take at xs) part, length-take at xs) in
      ap (take (b + width - b))
      (ap (drop b) (sym (append_assoc (take at xs) part (drop (at + length part) xs)))
      ∙ drop-append-drop (at + length part) xs (take at xs ++ part) b (omega arith) end)

  -- setting an element that it does not have leaves a part as it was
  pub part_set_elsewhere : (xs : List X) (i b width : ℕ) (x : X) → (i < b) ⊎ (b + width ≤ i) →
      between b (b + width) (set xs i x) ≡ between b (b + width) xs
  part_set_elsewhere xs i b width x (inl before) = ap (take (b + width - b)) (drop-set-lt b xs i x before)
  part_set_elsewhere xs i b width x (inr behind) =
      let at : b + (i - b) ≡ i = omega arith in
      ap (λ k. between b (b + width) (set xs k x)) (sym at)
      ∙ ap (take (b + width - b)) (drop-set-add b xs (i - b) x)
      ∙ take-set-le (b + width - b) (drop b xs) (i - b) x (omega arith)
