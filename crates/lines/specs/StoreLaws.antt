-- The law of a line, of every store: from what always holds of the bytes and the two counts.
--
--   length_order, length_row              how many places have an order, and how much stands in them
--   lane_fits, lane_empty, lanes_long     what holds of the lanes of a queue of sound messages
--   SoundStore                            what always holds of a store, by what it means and how much it holds
--   sound_store                           it follows from what always holds of the bytes and the two counts
--   agreed_count, waiting_total, held_total, limit_is    how much such a line holds
--   lawful, lawful_line                   such a line is lawful
use Rattle.std.specs.Prelude.{◌≡◌, ℕ, zero, suc, ◌+◌, ◌<◌, ◌≤◌, Bool, true, false, cond, List, [], ◌∷◌, length, get_or, take, eqb, refl}
use Rattle.std.proofs.Common.{sym, ap, ◌∙◌, subst, arith}
use Rattle.limits.proofs.Ranges.{not_outside_from}
use Rattle.limits.specs.Limits.{outside}
use Rattle.lines.specs.Lines.{waiting_up_to, held, AllowedLength, Lawful}
use Rattle.lines.specs.Orders.{Offered, lane}
use Rattle.lines.specs.Places.{places_used, link_at, offered_at, order, row}
use Rattle.lines.specs.Stores.{Sound, nothing, Good, Stored, stored, state_of}
use Rattle.std.proofs.lemmas.List.Edits.{length-between, get_or-between}
use Rattle.std.proofs.lemmas.List.FromFn.{length-range_with_len}
use Rattle.std.proofs.ByRecursion.{All-from_get_or, All-get_or, All-map, All-weaker}
use Rattle.std.proofs.lemmas.List.{length-map, length-take-le, get_or-take}
use Rattle.std.proofs.lemmas.Bool.{ne_eqb, cond-false, both_ways}
use Rattle.std.proofs.lemmas.Bool.Decides.{nat_tests}
use Rattle.std.specs.List.{between, range_with_len, AllByRecursion}

-- ---- the row

pub length_order : (bs : List ℕ) → length (order bs) ≡ places_used bs
unfolding order
length_order bs = length-map (range_with_len 0 (places_used bs)) (link_at bs) ∙ length-range_with_len 0 (places_used bs)

pub length_row : (bs : List ℕ) → length (row bs) ≡ places_used bs
unfolding row
length_row bs = length-map (order bs) (offered_at bs) ∙ length_order bs

-- ---- what holds of a queue of sound messages

pub lane_fits : (q : List Offered) (u : ℕ) → AllByRecursion Sound q → AllByRecursion AllowedLength (lane u q)
lane_fits [] u h = tt
lane_fits (o ∷ os) u h = by (eqb u o.suite) (lane_fits os u h.1)
  where
    by : (t : Bool) → AllByRecursion AllowedLength (lane u os) → AllByRecursion AllowedLength (cond t (o.message ∷ lane u os) (lane u os))
    by true fits = ((h.0.2, h.0.3), fits)
    by false fits = fits

-- a suite that none of them is for has nothing waiting
pub lane_empty : (q : List Offered) (u : ℕ) → ((j : ℕ) → j < length q → (get_or q j nothing).suite ≡ u → ⊥) → lane u q ≡ []
lane_empty [] u none = refl
lane_empty (o ∷ os) u none =
    cond-false _ _ _ (ne_eqb u o.suite (λ e. none 0 (omega arith) (sym e)))
    ∙ lane_empty os u (λ j small e. none (suc j) (omega arith) e)

-- all lanes together are as long as the queue
pub lanes_long : (q : List Offered) → AllByRecursion Sound q → waiting_up_to 8 (λ u. lane u q) ≡ length q
unfolding waiting_up_to
lanes_long [] h = none 8
  where
    none : (n : ℕ) → waiting_up_to n (λ u. []) ≡ 0
    none zero = refl
    none (suc n) = omega (arith, none n)
lanes_long (o ∷ os) h =
    more 8 ∙ ap (λ n. n + cond (outside 8 o.suite) 0 1) (lanes_long os h.1)
    ∙ ap (λ t. length os + cond t 0 1) (not_outside_from 8 o.suite h.0.0 h.0.1)
    ∙ omega arith
  where
    longer : (t : Bool) (u : ℕ) → length (cond t (o.message ∷ lane u os) (lane u os)) ≡ length (lane u os) + cond t 1 0
    longer true u = omega arith
    longer false u = omega arith

    -- of the suites 1 to n, the lane of its own suite alone is one longer
    more : (n : ℕ) → waiting_up_to n (λ u. lane u (o ∷ os)) ≡ waiting_up_to n (λ u. lane u os) + cond (outside n o.suite) 0 1
    more zero = grind (arith, nat_tests)
    more (suc n) =
        let rest = more n in
        let one = longer (eqb (suc n) o.suite) (suc n) in
        grind (arith, nat_tests)

-- ---- the store

-- what always holds of a store, by what it means and how much it holds
pub record SoundStore (s : Stored) (agreed waiting : ℕ) : Type 0 where
  pub agreed_long : length s.agreed ≡ agreed
  pub queue_long : length s.queue ≡ waiting
  pub room : agreed + waiting ≤ s.limit
  pub agreed_sound : AllByRecursion Sound s.agreed
  pub queue_sound : AllByRecursion Sound s.queue

pub sound_store : (bs : List ℕ) (a w : ℕ) → Good bs a w → SoundStore (stored bs a w) a w
unfolding stored
sound_store bs a w good =
    let room : a + w ≤ length (row bs) = omega (arith, good.room, length_row bs) in
    let agreed_long : length (take a (row bs)) ≡ a = length-take-le a (row bs) (omega arith) in
    let queue_long : length (between a (a + w) (row bs)) ≡ w = omega (arith, length-between (row bs) a (a + w) room) in
    record {
      agreed_long = agreed_long;
      queue_long = queue_long;
      room = omega (arith, good.room);
      agreed_sound = All-from_get_or Sound (take a (row bs)) nothing
          (λ i h. subst Sound (sym (get_or-take a (row bs) i nothing (omega arith))) (good.sound i (omega arith)));
      queue_sound = All-from_get_or Sound (between a (a + w) (row bs)) nothing
          (λ i h. subst Sound (sym (get_or-between (row bs) a (a + w) i nothing (omega arith))) (good.sound (a + i) (omega arith)));
    }

module _ (s : Stored) (a w : ℕ) (fine : SoundStore s a w) where
  pub agreed_count : length (state_of s).agreed ≡ a
  unfolding state_of
  agreed_count = length-map s.agreed (λ o. o.message) ∙ fine.agreed_long

  pub waiting_total : waiting_up_to 8 (state_of s).waiting ≡ w
  unfolding state_of
  waiting_total = lanes_long s.queue fine.queue_sound ∙ fine.queue_long

  pub held_total : held (state_of s) ≡ a + w
  held_total = omega (arith, agreed_count, waiting_total)

  pub limit_is : (state_of s).limit ≡ s.limit
  unfolding state_of
  limit_is = refl

  pub lawful : Lawful (state_of s)
  unfolding state_of
  lawful = record {
    within_limit = omega (arith, held_total, limit_is, fine.room);
    agreed_fit =
        All-map AllowedLength (λ o. o.message) s.agreed (All-weaker Sound (λ o. AllowedLength o.message) (λ o h. (h.2, h.3)) s.agreed fine.agreed_sound);
    waiting_fit = λ u. lane_fits s.queue u fine.queue_sound;
    suites_only = λ u out. lane_empty s.queue u
        (λ j h e.
        let sound : Sound (get_or s.queue j nothing) = All-get_or Sound s.queue j nothing h fine.queue_sound in
        both_ways (outside 8 u) (not_outside_from 8 u (omega arith) (omega arith)) out);
  }

-- a line over bytes and counts of which holds what always does
pub lawful_line : (bs : List ℕ) (a w : ℕ) → Good bs a w → Lawful (state_of (stored bs a w))
lawful_line bs a w good = lawful (stored bs a w) a w (sound_store bs a w good)
