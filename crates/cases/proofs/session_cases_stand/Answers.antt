use Rattle.std.proofs.Common.{◌≡◌, Bool, List, [], ◌∷◌, reverse, take, Result, slice_index_or, refl}
use Rattle.std.specs.List.{range_with_len}
use Rattle.cases.proofs.ComputedRuns.{listed, answers, end_of, run_of, by_the_rules, can_serve, next, allowed, leaves_next}
use Rattle.cases.proofs.MadeStarts.{just_made}
use Rattle.cases.proofs.session_cases_stand.Goals as goal
use Rattle.cases.specs.SessionCases.{two_suites, Case, one_move, crossing, blind_writes, read_on, too_late, four_snapshots, read_limit, full_line}
use Rattle.cases.specs.WrongRules.{the_rules}
use Rattle.history.specs.Events.{Event}
use Rattle.history.specs.Runs.{Run, Made}
use Rattle.history.specs.declared.call.Answer.{Answer}
use Rattle.lines.specs.Lines.{with_at, waiting_up_to}
use Rattle.refusals.specs.declared.Refusal.{Refusal}
use Rattle.session.specs.Choosing.{first_spare, first_unread}
use Rattle.session.specs.States.{World}
use Rattle.session.specs.Versions.{best, versions_of, with_version}
use Rattle.settings.specs.Colours.{colours}
use Rattle.settings.specs.declared.colour.Colour.{Colour}
use Rattle.summaries.specs.ExactLists.{exact_list}

two_made : Made colours two_suites
two_made = just_made 2 (7 ∷ 9 ∷ []) 32 refl refl

-- what the calls of these events are answered by the rules, and the world after them
abbrev given : World Colour → List (Event Colour) → List (Result (Answer Colour) Refusal × Bool)
given w es = answers the_rules next allowed w es

abbrev after : World Colour → List (Event Colour) → World Colour
after w es = end_of the_rules next allowed w es

-- where the answers are the listed ones, the events are a run
run : (start : World Colour) (es : List (Event Colour)) → given start es ≡ listed es → Run exact_list colours start (reverse es) (after start es)
run start es same = by_the_rules start (reverse es) (after start es) (run_of the_rules next allowed leaves_next start es same)

runs : (c : Case) → given c.start c.events ≡ listed c.events → (end : World Colour) × Run exact_list colours c.start (reverse c.events) end
runs c same = (after c.start c.events, run c.start c.events same)

pub returns : goal.returns
unfolding with_at waiting_up_to best versions_of with_version can_serve first_spare first_unread next allowed answers end_of
returns c = record {
  happen = (
    (two_made, runs one_move refl),
    (
      (two_made, runs crossing refl),
      (
        (two_made, runs blind_writes refl),
        (
          (two_made, runs read_on refl),
          (
            (two_made, runs too_late refl),
            (
              (two_made, runs four_snapshots refl),
              (
                (just_made 1 (range_with_len 1 33) 32 refl refl, runs read_limit refl),
                (
                  (just_made 2 (7 ∷ 9 ∷ []) 1 refl refl, runs full_line refl),
                  tt,
                ),
              ),
            ),
          ),
        ),
      ),
    ),
  );
  first_message =
      let sent = take 4 one_move.events in
      let w = after one_move.start sent in
      (w, slice_index_or (w.line.waiting 1) 0 [], run one_move.start sent refl, refl, refl, refl);
  seven_and_nine = refl;
}
