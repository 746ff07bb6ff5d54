-- What a write to the bytes of one place leaves of all the bytes: that place as written, and everything else.
use Rattle.std.proofs.Common.{◌≡◌, ℕ, ◌+◌, ◌-◌, ◌*◌, ◌/◌, ◌<◌, ◌⊎◌, List, length, take, drop, sym, ap, ◌∙◌, ap₂, inl, inr, arith}
use borrow.Rule.Slice.PartMut.{put_mid}
use Rattle.number_bytes.proofs.Parts.{length_put}
use Rattle.lines.specs.Places.{cell, places_in, ChangedAt}
use Rattle.std.proofs.lemmas.List.Edits.{length-between}
use Rattle.std.proofs.lemmas.Slice.{between_is, between-put_mid, take-put_mid_below, drop-put_mid}
use Rattle.std.proofs.lemmas.Bool.{cases_order}
use Rattle.std.specs.List.{between}

module _ (bs written : List ℕ) (p : ℕ) (there : p < places_in bs) (whole : length written ≡ 1168) where
  -- the bytes of a part, as the checker counts them
  abbrev k : ℕ
  k = 1168 * p + 1168 - 1168 * p

  abbrev after : List ℕ
  after = put_mid (1168 * p) k bs written

  long : length after ≡ length bs
  long = length_put (1168 * p) k bs written (omega arith) (omega arith)

  cell_written : cell after p ≡ written
  unfolding cell
  cell_written = between-put_mid (1168 * p) k bs written (1168 * p + 1168) (omega arith) (omega arith)

  other_cell : (q : ℕ) → (q ≡ p → ⊥) → cell after q ≡ cell bs q
  unfolding cell
  other_cell q other = by (cases_order q p)
    where
      by : (q ≡ p) ⊎ ((q < p) ⊎ (p < q)) → cell after q ≡ cell bs q
      by (inl e) = absurd (other e)
      by (inr (inl below)) =
          between_is after (1168 * q) (1168 * q + 1168)
          ∙ ap (drop (1168 * q)) (take-put_mid_below (1168 * p) k bs written (1168 * q + 1168) (omega arith) (omega arith))
          ∙ sym (between_is bs (1168 * q) (1168 * q + 1168))
      by (inr (inr above)) =
          ap (take (1168 * q + 1168 - 1168 * q)) (drop-put_mid (1168 * p) k bs written (1168 * q) (omega arith) (omega arith) (omega arith))

  changed_at : ChangedAt bs after p
  changed_at = record {
    len = long;
    others = λ q _ other. other_cell q other;
    beyond =
        ap (λ n. drop (1168 * n) after) (ap (λ n. n / 1168) long)
        ∙ drop-put_mid (1168 * p) k bs written (1168 * places_in bs) (omega arith) (omega arith) (omega arith);
  }

-- the same, of a range of the bytes that is a place's
module _ (bs written : List ℕ) (p from to : ℕ) (there : p < places_in bs) (from_is : from ≡ 1168 * p) (to_is : to ≡ 1168 * p + 1168)
    (long : length written ≡ length (between from to bs)) where
  whole : length written ≡ 1168
  whole = omega (arith, long, length-between bs from to (omega arith))

  pub range_is : between from to bs ≡ cell bs p
  unfolding cell
  range_is = ap₂ (λ a b. between a b bs) from_is to_is

  pub range_written : cell (put_mid from (to - from) bs written) p ≡ written
  range_written = rw (from_is, to_is) (cell_written bs written p there whole)

  pub range_changed : ChangedAt bs (put_mid from (to - from) bs written) p
  range_changed = rw (from_is, to_is) (changed_at bs written p there whole)
