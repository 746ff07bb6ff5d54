-- What an accepted call at a slot leaves of its suite's share.
use Rattle.std.proofs.Common.{◌≡◌, ℕ, refl}
use Rattle.history.specs.Events.{Did, began, read, wrote, closed, abandoned, collected}
use Rattle.session.specs.Commits.{commit_leaves}
use Rattle.history.specs.Runs.{left_by}
use Rattle.session.specs.Shares.{Share, share_of, with_share}
use Rattle.session.specs.States.{World}
use Rattle.session.specs.Slots.{begin_leaves, read_leaves, write_leaves, abandon_leaves, collect_leaves}
use Rattle.settings.specs.Kinds.{SettingKind}
use Rattle.summaries.specs.Kinds.{SummaryKind}

abbrev pub effect : {T : Type 0} → SummaryKind → SettingKind T → ℕ → ℕ → Did T → Share T → Share T
effect S K u s (began snapshot) = begin_leaves s snapshot
effect S K u s (read n x) = read_leaves s n x
effect S K u s (wrote n x) = write_leaves s n x tt
effect S K u s (closed answer) = commit_leaves S K u s answer
effect S K u s abandoned = abandon_leaves s tt
effect S K u s (collected outcome) = collect_leaves s outcome

-- such a call leaves that share put back
pub left_is : {T : Type 0} (S : SummaryKind) (K : SettingKind T) (w : World T) (u s : ℕ) (did : Did T) →
    left_by S K w u s did ≡ with_share w u (effect S K u s did (share_of w u))
left_is S K w u s (began snapshot) = refl
left_is S K w u s (read n x) = refl
left_is S K w u s (wrote n x) = refl
left_is S K w u s (closed answer) = refl
left_is S K w u s abandoned = refl
left_is S K w u s (collected outcome) = refl
