use Rattle.std.proofs.Common.{[], ◌∷◌, reverse, refl}
use Rattle.cases.proofs.ComputedRuns.{answers, end_of, run_of, by_the_rules, are_by_the_rules, can_serve, next, allowed, leaves_next}
use Rattle.cases.proofs.MadeStarts.{just_made}
use Rattle.cases.proofs.NotLawful.{seen_unlawful, gone_unlawful, both_unlawful}
use Rattle.cases.proofs.WrongRuns.{next_by_oldest, leaves_oldest}
use Rattle.cases.proofs.wrong_rules.wrong_rules_break_the_law.Goals as goal
use Rattle.cases.specs.SessionCases.{Case}
use Rattle.cases.specs.WrongRules.{Rules, RunBy, reads_newest, overwrites_oldest, never_rules, seen_too_early, gone_too_early, both_committed, Breaks}
use Rattle.history.specs.Laws.{Lawful, Law}
use Rattle.history.specs.Runs.{Made}
use Rattle.lines.specs.Lines.{with_at, waiting_up_to}
use Rattle.session.specs.Choosing.{first_spare, first_unread}
use Rattle.session.specs.States.{World}
use Rattle.session.specs.Versions.{best, versions_of, with_version}
use Rattle.settings.specs.Colours.{colours}
use Rattle.settings.specs.declared.colour.Colour.{Colour}
use Rattle.summaries.specs.ExactLists.{exact_list}

module _ (rules : Rules) (c : Case) (made : Made colours c.start) (law : Law exact_list colours) where
  -- a history that a rule set gives and that is not lawful breaks the law
  breaks : (end : World Colour) → RunBy rules c.start (reverse c.events) end →
      ((now : World Colour) → Lawful exact_list colours c.start (reverse c.events) now → ⊥) → Breaks rules c
  breaks end run unlawful = record {
    made = made;
    given = (end, run);
    broken = unlawful;
    never_given = λ now run. unlawful now (law.lawful c.start made (reverse c.events) now run);
  }

pub returns : goal.returns
unfolding with_at waiting_up_to best versions_of with_version first_spare first_unread can_serve next allowed answers end_of next_by_oldest
returns c =
    let law = c.law_holds.ensures in record {
      by_the_rules = λ start es w. (by_the_rules start es w, are_by_the_rules start es w);
      newest_read = breaks reads_newest seen_too_early (just_made 2 (7 ∷ 9 ∷ []) 32 refl refl) law _
          (run_of reads_newest next allowed leaves_next seen_too_early.start seen_too_early.events refl) seen_unlawful;
      oldest_overwritten = breaks overwrites_oldest gone_too_early (just_made 1 (7 ∷ []) 32 refl refl) law _
          (run_of overwrites_oldest next_by_oldest allowed leaves_oldest gone_too_early.start gone_too_early.events refl) gone_unlawful;
      never_ruled = breaks never_rules both_committed (just_made 2 (7 ∷ 9 ∷ []) 32 refl refl) law _
          (run_of never_rules next allowed leaves_next both_committed.start both_committed.events refl) both_unlawful;
    }
