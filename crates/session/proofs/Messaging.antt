-- The room that a move has: when a write is one too many, and that its message always fits the buffer.
use Rattle.std.proofs.Common.{◌≡◌, ℕ, ◌≤◌, ◌<◌, Bool, true, false, not, ◌&&◌, leb, List, length, take, drop, Ok, Result, is_some, refl, ap, subst, ◌∙◌, arith}
use Rattle.limits.specs.Limits.{most_writes}
use Rattle.messages.specs.Composing.{buffer_after}
use Rattle.messages.specs.declared.compose.Misfit.{Misfit}
use Rattle.messages.specs.declared.parts.Write.{Write}
use Rattle.session.proofs.Writing.{place_in, place_within, place_there}
use Rattle.session.specs.Slots.{own}
use Rattle.std.specs.Result.{IfOk}
use Rattle.std.proofs.lemmas.Bool.{le-leb}
use Rattle.std.proofs.lemmas.List.{take_at}

module _ {T : Type 0} (ws : List (Write T)) (n : ℕ) (few : length ws ≤ most_writes) where
  -- without a place for the write, it is one too many
  pub no_room : most_writes ≤ place_in ws n → (not (is_some (own ws n)) && leb most_writes (length ws)) ≡ true
  no_room past = by (is_some (own ws n)) (place_there ws n)
    where
      all : length ws ≡ most_writes
      all = let within = place_within ws n in omega arith

      by : (b : Bool) → (b ≡ true → place_in ws n < length ws) → (not b && leb most_writes (length ws)) ≡ true
      by true there = let inside = there refl in absurd (omega arith)
      by false there = le-leb most_writes (length ws) (omega (arith, all))

-- what stands at the front of a buffer that a message was composed in
pub composed_front : (r : Result ℕ Misfit) (n : ℕ) (m old new : List ℕ) → r ≡ Ok n → new ≡ buffer_after r m old → length m ≡ n → take n new ≡ m
composed_front r n m old new ok is long = ap (take n) (is ∙ ap (λ x. buffer_after x m old) ok) ∙ take_at m (drop n old) n long

-- what holds of an answer, once it is known
pub if_ok : {A E : Type 0} (r : Result A E) (a : A) (P : A → Type 0) → r ≡ Ok a → IfOk r P → P a
if_ok r a P ok h = subst (λ x. IfOk x P) ok h
