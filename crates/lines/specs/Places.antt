-- The bytes of a line's places. A place has six bytes of the line's own, then room for a message: the message's length
-- (bytes 0, 1), its suite (2), a spare byte (3) and a link (4, 5), which has nothing to do with the message in the place.
-- The links of all places, read one after the other, are the order of the places.
--
--   link_in         the link in a place's bytes
--   length_in       the length of the message in a place's bytes
--   offered_in      the message with its suite
--   cell            the bytes of one place
--   places_in       how many whole places some bytes have
--   places_used     how many of them a line uses
--   link_at         the link of a place
--   offered_at      the message in a place, with its suite
--   order           the places in their order
--   row             what stands in the places, in their order
--   rest            the bytes past the last whole place
--   ChangedAt       only the bytes of one place were changed
--   exchange        two neighbours swapped
--   brought         an element brought forward to a place, and those from there on one place back
--   Reordered       only the order of the places was changed
--   LinksInside     every link is a place
--   LinksApart      no place is linked twice
use Rattle.std.specs.Prelude.{◌≡◌, ℕ, ◌+◌, ◌*◌, ◌/◌, ◌<◌, min, List, ◌∷◌, ◌++◌, map, length, take, drop, ◌≢◌, slice_index, slice_index_or, slice_set}
use Rattle.number_bytes.specs.Bytes.{number}
use Rattle.limits.specs.Limits.{line_place, line_header, longest_message, most_held}
use Rattle.std.specs.List.{between, range_with_len}
use Rattle.lines.specs.Orders.{Offered}

-- the link in a place's bytes
unfoldable pub link_in : List ℕ → ℕ
link_in c = number (between 4 6 c)

-- the length of the message in a place's bytes: what the first two say, but no more than there is room for
unfoldable pub length_in : List ℕ → ℕ
length_in c = min (number (between 0 2 c)) longest_message

-- the message in a place's bytes, with its suite
unfoldable pub offered_in : List ℕ → Offered
offered_in c = record { suite = slice_index c 2; message = between line_header (line_header + length_in c) c }

-- the bytes of place p; the first is place 0
unfoldable pub cell : List ℕ → ℕ → List ℕ
cell bs p = between (line_place * p) (line_place * p + line_place) bs

-- how many whole places there are
abbrev pub places_in : List ℕ → ℕ
places_in bs = length bs / line_place

-- how many of them are used: no more than a line may have
abbrev pub places_used : List ℕ → ℕ
places_used bs = min (places_in bs) most_held

-- the link of place p
abbrev pub link_at : List ℕ → ℕ → ℕ
link_at bs p = link_in (cell bs p)

-- the message in place p, with its suite
abbrev pub offered_at : List ℕ → ℕ → Offered
offered_at bs p = offered_in (cell bs p)

-- the places in their order
unfoldable pub order : List ℕ → List ℕ
order bs = map (link_at bs) (range_with_len 0 (places_used bs))

-- what stands in the places, in their order
unfoldable pub row : List ℕ → List Offered
row bs = map (offered_at bs) (order bs)

-- the bytes past the last whole place
abbrev pub rest : List ℕ → List ℕ
rest bs = drop (line_place * places_in bs) bs

-- only the bytes of place p were changed
pub record ChangedAt (bs bs' : List ℕ) (p : ℕ) : Type 0 where
  pub len : length bs' ≡ length bs
  pub others : (q : ℕ) → q < places_in bs → (q ≢ p) → cell bs' q ≡ cell bs q
  pub beyond : rest bs' ≡ rest bs

-- elements i and i + 1 are swapped
abbrev pub exchange : ℕ → List ℕ → List ℕ
exchange i xs = slice_set (slice_set xs i (slice_index xs (i + 1))) (i + 1) (slice_index xs i)

-- element `from` stands at `to`, and those from `to` on up to it one position further back
abbrev pub brought : {X : Type 0} → X → ℕ → ℕ → List X → List X
brought d to from xs = take to xs ++ slice_index_or xs from d ∷ (between to from xs ++ drop (from + 1) xs)

-- only the order of the places was changed, to this one
pub record Reordered (bs bs' : List ℕ) (places : List ℕ) : Type 0 where
  pub len : length bs' ≡ length bs
  pub order_is : order bs' ≡ places
  pub messages : (p : ℕ) → p < places_used bs → offered_at bs' p ≡ offered_at bs p
  pub beyond : rest bs' ≡ rest bs

-- every link is a place
abbrev pub LinksInside : List ℕ → Type 0
LinksInside bs = (i : ℕ) → i < places_used bs → slice_index (order bs) i < places_used bs

-- no place is linked twice
abbrev pub LinksApart : List ℕ → Type 0
LinksApart bs =
    (i j : ℕ) → (i < places_used bs) × (j < places_used bs) × (slice_index (order bs) i ≡ slice_index (order bs) j) → i ≡ j
