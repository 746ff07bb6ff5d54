use Rattle.std.proofs.Common.{◌≡◌, ℕ, zero, suc, ◌<◌, [], refl, arith}
use Rattle.lines.specs.Lines.{with_at, waiting_up_to}
use Rattle.lines.specs.Orders.{suite_after, turn_picks}
use Rattle.cases.specs.LineExamples.{one_byte, five_offers}
use Rattle.cases.proofs.line_examples_stand.Goals as goal

-- nothing waits for the suites 4 to 7
none_up_to_7 : (d : ℕ) → d < 4 → five_offers.waiting (suite_after 4 d) ≡ []
unfolding with_at waiting_up_to
none_up_to_7 zero few = refl
none_up_to_7 (suc zero) few = refl
none_up_to_7 (suc (suc zero)) few = refl
none_up_to_7 (suc (suc (suc zero))) few = refl
none_up_to_7 (suc (suc (suc (suc d)))) few = absurd (omega arith)

pub returns : goal.returns
unfolding with_at waiting_up_to turn_picks
returns c = record {
  by_offers = refl;
  by_turns = refl;
  from_four = refl;
  from_two = refl;
  head_served = record { head = one_byte 3 0x3a; first = refl; served = refl; agreed_next = refl };
  still_in_order = refl;
  one_more = refl;
  turn_served = record { served = refl; passed_over = none_up_to_7; passed_on = refl };
  never_4 = λ after h. let none = h.waits in absurd (omega arith);
  never_0 = λ before after h. absurd (omega (arith, h.a_suite));
  waiting_for_1 = refl;
  waiting_for_4 = refl;
  unusable_first = refl;
  most_places = refl;
  too_many_places = refl;
  suite_next = refl;
  full_then = refl;
  no_bytes = refl;
  longest_goes = refl;
  one_too_long = refl;
  no_settle = refl;
  no_count = refl;
  no_fetch = refl;
  nothing_to_settle = refl;
  one_agreed = refl;
  fetched = refl;
  rest_kept = refl;
  buffer_too_short = refl;
  message_zero = refl;
  not_agreed_yet = refl;
  never_lost = λ kept. let gone = (kept 1 1).0 in absurd cc;
  never_another = λ kept. let other = (kept 1 1).1 in absurd cc;
  no_place = refl;
  one_place = refl;
  still_one = refl;
  past_it = refl;
}
