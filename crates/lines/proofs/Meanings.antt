-- What a store means as a line, by what it holds: its law, and its state after an offer and after a settle.
use Rattle.std.proofs.Common.{◌≡◌, ℕ, ◌<◌, List, [], ◌∷◌, ◌++◌, map, length, get_or, take, Ok, sym, refl, ap, ◌∙◌, arith}
use Rattle.lines.proofs.Lanes.{lane_push, lane_first, lane_removed}
use Rattle.lines.specs.StoreLaws.{SoundStore, sound_store, lawful_line}
use Rattle.lines.specs.Lines.{empty_line, Lawful, offered, settled, Serves}
use Rattle.lines.specs.Orders.{Offered, arrivals}
use Rattle.lines.specs.Places.{places_in}
use Rattle.lines.specs.Stores.{Sound, nothing, Stored, state_of, empty, stored_offer, stored_settle, FirstOfSuite}
use Rattle.lines.specs.Views.{handed, contents}
use Rattle.lines.specs.declared.store.Store.{Store}
use Rattle.std.proofs.Math.ListN.{get_or-map}
use Rattle.std.proofs.ByRecursion.{All-get_or}
use Rattle.std.proofs.lemmas.List.{append_assoc, map-append}

-- a store is lawful, as a line
pub lawful_store : {R : Type 0} (s : Store R) → Lawful (state_of (contents s))
lawful_store s = lawful_line (handed s).now s.agreed s.waiting s.good

pub waiting_sound : (s : Stored) (a w : ℕ) → SoundStore s a w → (k : ℕ) → k < w → Sound (get_or s.queue k nothing)
waiting_sound s a w fine k small = All-get_or Sound s.queue k nothing (omega (arith, fine.queue_long)) fine.queue_sound

pub state_message : (s : Stored) (k : ℕ) → get_or (state_of s).agreed k [] ≡ (get_or s.agreed k nothing).message
unfolding state_of
state_message s k = get_or-map (λ o. o.message) s.agreed k nothing

-- a store is as it always is
pub sound_of : {R : Type 0} (s : Store R) → SoundStore (contents s) s.agreed s.waiting
sound_of s = sound_store (handed s).now s.agreed s.waiting s.good

pub state_empty : (bs : List ℕ) → state_of (empty bs) ≡ empty_line (places_in bs)
unfolding state_of
state_empty bs = refl

pub state_offer : (s : Stored) (suite : ℕ) (message : List ℕ) →
    state_of (stored_offer (Ok tt) s suite message) ≡ offered (state_of s) suite message
unfolding state_of
state_offer s suite message =
    λ i. record {
      agreed = (state_of s).agreed;
      waiting = λ u. lane_push s.queue (record { suite = suite; message = message }) u i;
      limit = s.limit;
    }

-- ---- all messages in the order of offering

pub arrivals_more : (s : Stored) (o : Offered) → arrivals (state_of s) (s.queue ++ o ∷ []) ≡ arrivals (state_of s) s.queue ++ o.message ∷ []
arrivals_more s o =
    ap (λ ms. (state_of s).agreed ++ ms) (map-append (λ p. p.message) s.queue (o ∷ []))
    ∙ sym (append_assoc (state_of s).agreed (map (λ p. p.message) s.queue) (o.message ∷ []))

-- ---- settled

pub agreed_settle : (s : Stored) (k : ℕ) →
    (state_of (stored_settle s k)).agreed ≡ (state_of s).agreed ++ (get_or s.queue k nothing).message ∷ []
unfolding state_of
agreed_settle s k = map-append (λ o. o.message) s.agreed (get_or s.queue k nothing ∷ [])

module _ (s : Stored) (a w k : ℕ) (fine : SoundStore s a w) (small : k < w) (first : FirstOfSuite s.queue k) where
  abbrev served : ℕ
  served = (get_or s.queue k nothing).suite

  there : k < length s.queue
  there = omega (arith, fine.queue_long)

  pub state_settle : state_of (stored_settle s k) ≡ settled (state_of s) served
  unfolding state_of
  state_settle =
      let head = lane_first s.queue k there first in
      λ i. record {
        agreed = (agreed_settle s k ∙ ap (λ xs. map (λ o. o.message) s.agreed ++ xs) (sym (ap (take 1) head))) i;
        waiting = λ u. lane_removed s.queue k u there first i;
        limit = s.limit;
      }

  pub serves : Serves (state_of s) (state_of (stored_settle s k)) served
  unfolding state_of
  serves =
      let sound = waiting_sound s a w fine k small in
      record {
        a_suite = (sound.0, sound.1);
        waits = let e = ap length (lane_first s.queue k there first) in omega arith;
        after_it = state_settle;
      }
