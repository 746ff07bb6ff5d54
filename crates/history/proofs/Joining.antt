-- A run after a run is one run, and a run of more events is a run of the earlier ones and then one of the later ones.
use Rattle.std.proofs.Common.{List, [], ◌∷◌, ◌++◌, sym, refl, subst}
use Rattle.history.specs.Events.{Event}
use Rattle.history.specs.Runs.{Run}
use Rattle.session.specs.States.{World}
use Rattle.settings.specs.Kinds.{SettingKind}
use Rattle.summaries.specs.Kinds.{SummaryKind}

module _ {T : Type 0} (S : SummaryKind) (K : SettingKind T) (start : World T) where
  pub run_append : (v w : World T) (es fs : List (Event T)) → Run S K start es v → Run S K v fs w → Run S K start (fs ++ es) w
  run_append v w es [] before after = subst (Run S K start es) (sym after) before
  run_append v w es (f ∷ fs) before (u, after, step) = (u, run_append v u es fs before after, step)

  pub run_split : (w : World T) (es fs : List (Event T)) → Run S K start (fs ++ es) w → (v : World T) × Run S K start es v × Run S K v fs w
  run_split w es [] run = (w, run, refl)
  run_split w es (f ∷ fs) (u, run, step) =
      let (v, before, after) = run_split u es fs run in
      (v, before, (u, after, step))
