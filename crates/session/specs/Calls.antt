-- The calls of a session as they are made, on the world, with suites and slots by their numbers: what each answers, the first refusal
-- down the table included, and what it leaves. An accepted call leaves what its rule says, and a refused one everything as it was.
--
--   begin_call      what begin answers
--   after_begin     what it leaves
--   read_call       and so on
--   after_read
--   write_call
--   after_write
--   commit_call
--   after_commit
--   abandon_call
--   after_abandon
--   collect_call
--   after_collect
--   settle_call
--   AfterSettle     what settle leaves, if it served this suite
--   take_call
--   TakeLeaves      what a take leaves that ruled so
--   AfterTake       what take leaves
--   after_make      the setting places after making a session
use Rattle.std.specs.Prelude.{◌≡◌, ℕ, if◌then◌else◌, List, length, Err, Result}
use Rattle.lines.specs.Lines.{settle_answer, Serves}
use Rattle.refusals.specs.declared.Refusal.{Refusal}
use Rattle.refusals.specs.declared.Refusal.TheVariants.{MemorySize}
use Rattle.session.specs.Commits.{commit_answer, commit_leaves}
use Rattle.session.specs.Making.{filled}
use Rattle.session.specs.Shares.{share_of, with_share, check_suite, at_share, at_slot, left_at}
use Rattle.session.specs.Slots.{begin_answer, begin_leaves, read_answer, read_leaves, write_answer, write_leaves, abandon_answer, abandon_leaves, collect_answer, collect_leaves}
use Rattle.session.specs.States.{SessionState, World, unfit, after, After}
use Rattle.session.specs.Takes.{take_answer, take_leaves, Spares}
use Rattle.session.specs.declared.place.Place.{Place}
use Rattle.session.specs.declared.ruling.CommitAnswer.{CommitAnswer}
use Rattle.session.specs.declared.ruling.Outcome.{Outcome}
use Rattle.session.specs.declared.ruling.Ruling.{Ruling}
use Rattle.settings.specs.Kinds.{SettingKind}
use Rattle.summaries.specs.Kinds.{SummaryKind}

module _ {T : Type 0} where
  -- begin in slot s of suite u
  abbrev pub begin_call : World T → ℕ → ℕ → Result ℕ Refusal
  begin_call w u s = at_slot w u s (begin_answer s)

  abbrev pub after_begin : Result ℕ Refusal → World T → ℕ → ℕ → World T
  after_begin answer w u s = left_at answer w u (begin_leaves s)

  -- read of the node n there
  abbrev pub read_call : World T → ℕ → ℕ → ℕ → Result T Refusal
  read_call w u s n = at_slot w u s (read_answer w.session.nodes s n)

  abbrev pub after_read : Result T Refusal → World T → ℕ → ℕ → ℕ → World T
  after_read answer w u s n = left_at answer w u (read_leaves s n)

  -- write of the setting x for the node n there
  abbrev pub write_call : World T → ℕ → ℕ → ℕ → Result (Unit {0}) Refusal
  write_call w u s n = at_slot w u s (write_answer w.session.nodes s n)

  abbrev pub after_write : Result (Unit {0}) Refusal → World T → ℕ → ℕ → ℕ → T → World T
  after_write answer w u s n x = left_at answer w u (write_leaves s n x)

  -- abandon there
  abbrev pub abandon_call : World T → ℕ → ℕ → Result (Unit {0}) Refusal
  abandon_call w u s = at_slot w u s (abandon_answer s)

  abbrev pub after_abandon : Result (Unit {0}) Refusal → World T → ℕ → ℕ → World T
  after_abandon answer w u s = left_at answer w u (abandon_leaves s)

  -- collect there
  abbrev pub collect_call : World T → ℕ → ℕ → Result Outcome Refusal
  collect_call w u s = at_slot w u s (collect_answer s)

  abbrev pub after_collect : Result Outcome Refusal → World T → ℕ → ℕ → World T
  after_collect answer w u s = left_at answer w u (collect_leaves s)

  -- settle: the memories first, and then what the line answers
  abbrev pub settle_call : World T → Result (Unit {0}) Refusal
  settle_call w = if unfit w then Err MemorySize else settle_answer w.line

  -- the first message that waited for suite u, which is the line's choice, is agreed, and nothing but the line has changed
  abbrev pub AfterSettle : Result (Unit {0}) Refusal → ℕ → World T → World T → Type 0
  AfterSettle answer u w w' = After answer (λ _ x. Serves w.line x.line u × (x ≡ record w { line = x.line })) w w'

  -- making a session answers `make_answer`. The setting places are filled then; the write places and the line are as they were
  abbrev pub after_make : SettingKind T → Result SessionState Refusal → ℕ → List ℕ → List (Place T) → List (Place T)
  after_make K answer suites nodes places = after answer (λ _. filled K suites nodes) places

module _ {T : Type 0} (S : SummaryKind) (K : SettingKind T) where
  -- commit in slot s of suite u
  abbrev pub commit_call : World T → ℕ → ℕ → Result CommitAnswer Refusal
  commit_call w u s = at_slot w u s (commit_answer S K w.session.nodes u s)

  abbrev pub after_commit : Result CommitAnswer Refusal → World T → ℕ → ℕ → World T
  after_commit answer w u s = left_at answer w u (commit_leaves S K u s)

  -- take at suite u
  abbrev pub take_call : World T → ℕ → Result Ruling Refusal
  take_call w u = at_share (check_suite w u) w u (take_answer S K (length w.session.suites) w.session.nodes)

  -- its own slot has the outcome, and a commit is applied; which spare places it overwrites is left free
  abbrev pub TakeLeaves : World T → ℕ → Ruling → World T → Type 0
  TakeLeaves w u ruling w' =
      (chosen : ℕ → ℕ)
      × Spares S K w.session.nodes chosen ruling (share_of w u)
      × (w' ≡ with_share w u (take_leaves S K w.session.nodes u chosen ruling (share_of w u)))

  abbrev pub AfterTake : Result Ruling Refusal → ℕ → World T → World T → Type 0
  AfterTake answer u w w' = After answer (TakeLeaves w u) w w'
