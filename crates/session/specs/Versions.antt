-- The kept versions (places) of a node: which one a reader with a snapshot sees, and which one is the newest.
--
--   better          the first place or the best of those behind it, whichever has the higher stamp
--   best            the place with the highest stamp of those whose stamp passes a test, the first of equals, and its index
--   visible         the place that is read at a snapshot
--   newest          the place with the highest stamp
--   newest_stamp    its stamp
--   versions_of     the places of a node
--   with_version    the places with another one at an index of a node's
use Rattle.std.specs.Prelude.{ℕ, ◌+◌, Bool, true, false, if◌then◌else◌, List, [], ◌∷◌, ◌++◌, take, drop, Some, None, Option, ◌==◌, nat_le, slice_set}
use Rattle.limits.specs.Limits.{places_each}
use Rattle.session.specs.declared.place.Place.{Place}

module _ {T : Type 0} where
  -- the place p with index 0, if its stamp passes the test, or the best of the places behind it, whichever has the higher stamp; of
  -- equals p
  abbrev pub better : Bool → Place T → Option (ℕ × Place T) → Option (ℕ × Place T)
  better true p None = Some (0, p)
  better true p (Some b) = if nat_le b.1.stamp p.stamp then Some (0, p) else Some (b.0 + 1, b.1)
  better false p None = None
  better false p (Some b) = Some (b.0 + 1, b.1)

  -- the place with the highest stamp of those whose stamp passes the test, the first of equals: its index and itself
  unfoldable pub best : (ℕ → Bool) → List (Place T) → Option (ℕ × Place T)
  best passes [] = None
  best passes (p ∷ ps) = better (passes p.stamp) p (best passes ps)

  -- the place that is read at a snapshot: the highest stamp that is not above it
  abbrev pub visible : ℕ → List (Place T) → Option (ℕ × Place T)
  visible snapshot ps = best (λ stamp. nat_le stamp snapshot) ps

  -- the place with the highest stamp
  abbrev pub newest : List (Place T) → Option (ℕ × Place T)
  newest ps = best (λ stamp. true) ps

  -- the stamp of the newest place, 0 where there is no place
  abbrev pub newest_stamp : List (Place T) → ℕ
  newest_stamp ps = stamp_in (newest ps)
    where
      stamp_in : Option (ℕ × Place T) → ℕ
      stamp_in None = 0
      stamp_in (Some b) = b.1.stamp

  -- of a suite's places the five of the node n; none where the session has no such node
  unfoldable pub versions_of : List ℕ → List (Place T) → ℕ → List (Place T)
  versions_of [] places n = []
  versions_of (x ∷ xs) places n = if x == n then take places_each places else versions_of xs (drop places_each places) n

  -- a suite's places with p at index j of the five of the node n
  unfoldable pub with_version : List ℕ → List (Place T) → ℕ → ℕ → Place T → List (Place T)
  with_version [] places n j p = places
  with_version (x ∷ xs) places n j p =
      if x == n then slice_set places j p else take places_each places ++ with_version xs (drop places_each places) n j p
