-- The store of both lines: the order of places cut into agreed ones, waiting ones in the order of offering, and free ones.
--
--   nothing        no message, for no suite
--   Sound          an offered message is for a suite, and has a length that a message may have
--   AllSound       so are the first of the row
--   Good           what always holds of the bytes and the two counts of a store
--   Stored         what a store means
--   stored         what the bytes and the two counts mean
--   empty          an empty store
--   state_of       what such a store means, as a line
--   stored_offer   after an offer
--   stored_settle  after a message of the queue was settled
--   FirstOfSuite   none before it in the queue is for its suite
use Rattle.std.specs.Prelude.{ℕ, ◌+◌, ◌<◌, ◌≤◌, List, [], ◌∷◌, ◌++◌, map, length, take, Result, ◌≢◌, slice_index_or}
use Rattle.limits.specs.Limits.{most_suites, longest_message}
use Rattle.refusals.specs.declared.Refusal.{Refusal}
use Rattle.std.specs.List.{between, remove}
use Rattle.lines.specs.Lines.{LineState}
use Rattle.lines.specs.Orders.{Offered, lane, queue_after_offer}
use Rattle.lines.specs.Places.{places_in, places_used, row, LinksInside, LinksApart}

-- no message, for no suite
abbrev pub nothing : Offered
nothing = record { suite = 0; message = [] }

-- it is for a suite from 1 to 8, and has a length that a message may have
abbrev pub Sound : Offered → Type 0
Sound o = (1 ≤ o.suite) × (o.suite ≤ most_suites) × (1 ≤ length o.message) × (length o.message ≤ longest_message)

-- the first k of the row are sound
abbrev pub AllSound : List ℕ → ℕ → Type 0
AllSound bs k = (i : ℕ) → i < k → Sound (slice_index_or (row bs) i nothing)

-- what always holds of the bytes and the two counts
pub record Good (bs : List ℕ) (agreed waiting : ℕ) : Type 0 where
  pub room : agreed + waiting ≤ places_used bs
  pub inside : LinksInside bs
  pub apart : LinksApart bs
  pub sound : AllSound bs (agreed + waiting)

-- what a store means: what is agreed, what waits, both in order; how many places there are
pub record Stored : Type 0 where
  pub agreed : List Offered
  pub queue : List Offered
  pub limit : ℕ

-- what the bytes and the two counts mean
unfoldable pub stored : List ℕ → ℕ → ℕ → Stored
stored bs agreed waiting = record {
  agreed = take agreed (row bs);
  queue = between agreed (agreed + waiting) (row bs);
  limit = places_in bs;
}

-- an empty store over these bytes
abbrev pub empty : List ℕ → Stored
empty bs = record { agreed = []; queue = []; limit = places_in bs }

-- what such a store means, as a line
unfoldable pub state_of : Stored → LineState
state_of s = record { agreed = map (λ o. o.message) s.agreed; waiting = λ u. lane u s.queue; limit = s.limit }

-- the store after an offer that was answered so
abbrev pub stored_offer : Result (Unit {0}) Refusal → Stored → ℕ → List ℕ → Stored
stored_offer r s suite message = record {
  agreed = s.agreed;
  queue = queue_after_offer r s.queue suite message;
  limit = s.limit;
}

-- the store after message k of the queue was settled
abbrev pub stored_settle : Stored → ℕ → Stored
stored_settle s k = record {
  agreed = s.agreed ++ slice_index_or s.queue k nothing ∷ [];
  queue = remove s.queue k;
  limit = s.limit;
}

-- none before k in the queue is for the suite that k is for
abbrev pub FirstOfSuite : List Offered → ℕ → Type 0
FirstOfSuite queue k = (j : ℕ) → j < k → (slice_index_or queue j nothing).suite ≢ (slice_index_or queue k nothing).suite
