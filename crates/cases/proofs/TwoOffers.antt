-- An empty line of two places, after an offer for suite 3 and one for suite 1: both are accepted, and so is a settle; a
-- turn line then agrees suite 1's message.
use Rattle.std.proofs.Common.{◌≡◌, ℕ, ◌/◌, List, [], ◌∷◌, ◌++◌, length, drop, Ok, Result, ap, ◌∙◌}
use Rattle.limits.specs.Limits.{line_place}
use Rattle.refusals.specs.declared.Refusal.{Refusal}
use Rattle.lines.specs.Lines.{LineState, waiting_up_to, with_at, empty_line, offered, offer_answer, settle_answer, settled, fetch_answer, message_number, after_fetch}
use Rattle.lines.specs.Orders.{turn_picks}
use Rattle.lines.specs.Places.{places_in}

-- the line after both offers
two : LineState
two = offered (offered (empty_line 2) 3 (0x3a ∷ [])) 1 (0x1a ∷ [])

module _ (bs : List ℕ) (long : length bs ≡ 2338) (m : LineState) (made : m ≡ empty_line (places_in bs)) where
  is_empty : m ≡ empty_line 2
  is_empty = made ∙ ap (λ n. empty_line (n / line_place)) long

  pub first_goes : offer_answer m 3 (0x3a ∷ []) ≡ Ok tt
  unfolding waiting_up_to
  first_goes = ap (λ l. offer_answer l 3 (0x3a ∷ [])) is_empty

  module _ (m' : LineState) (one : m' ≡ offered m 3 (0x3a ∷ [])) where
    has_one : m' ≡ offered (empty_line 2) 3 (0x3a ∷ [])
    has_one = one ∙ ap (λ l. offered l 3 (0x3a ∷ [])) is_empty

    pub second_goes : offer_answer m' 1 (0x1a ∷ []) ≡ Ok tt
    unfolding waiting_up_to with_at
    second_goes = ap (λ l. offer_answer l 1 (0x1a ∷ [])) has_one

    module _ (m'' : LineState) (both : m'' ≡ offered m' 1 (0x1a ∷ [])) where
      has_two : m'' ≡ two
      unfolding two
      has_two = both ∙ ap (λ l. offered l 1 (0x1a ∷ [])) has_one

      pub settle_goes : settle_answer m'' ≡ Ok tt
      unfolding waiting_up_to with_at two
      settle_goes = ap settle_answer has_two

      module _ (turn : ℕ) (first : turn ≡ 1) (done : LineState) (served : done ≡ settled m'' (turn_picks m''.waiting turn)) where
        is_done : done ≡ settled two (turn_picks two.waiting 1)
        is_done = served ∙ ap (λ t. settled m'' (turn_picks m''.waiting t)) first ∙ ap (λ l. settled l (turn_picks l.waiting 1)) has_two

        pub fetched : (room : ℕ) → room ≡ 4 → fetch_answer done 1 room ≡ Ok 1
        unfolding waiting_up_to with_at turn_picks two
        fetched room enough = ap (fetch_answer done 1) enough ∙ ap (λ l. fetch_answer l 1 4) is_done

        pub copied : (buffer : List ℕ) (r : Result ℕ Refusal) → r ≡ Ok 1 → after_fetch r (message_number done 1) buffer ≡ 0x1a ∷ drop 1 buffer
        unfolding waiting_up_to with_at turn_picks two
        copied buffer r ok =
            ap (λ a. after_fetch a (message_number done 1) buffer) ok ∙ ap (λ l. message_number l 1 ++ drop 1 buffer) is_done
