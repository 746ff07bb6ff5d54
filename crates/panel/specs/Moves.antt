-- What the calls of a move answer, by what the session answers. A move is its suite and slot.
--
--   begun             what begin answers
--   committed         what commit answers
--   UnlessSent        what holds unless a commit sent a message
--   handed_back       what collect answers
--   left_by_begin     what begin leaves
--   left_by_commit    what commit leaves
--   left_by_collect   what collect leaves
use Rattle.std.specs.Prelude.{ℕ, Ok, Err, Result}
use Rattle.std.specs.Result.{result_map_both}
use Rattle.panel.specs.declared.committed.Committed.{Committed}
use Rattle.panel.specs.declared.committed.Committed.TheVariants.{Sent, Ended, Refused}
use Rattle.panel.specs.declared.committed.End.TheVariants.{ReadOnly as Reading, Clash as Clashing}
use Rattle.refusals.specs.declared.Refusal.{Refusal}
use Rattle.session.specs.Calls.{begin_call, after_begin, commit_call, after_commit, collect_call, after_collect}
use Rattle.session.specs.States.{World}
use Rattle.session.specs.declared.ruling.CommitAnswer.{CommitAnswer}
use Rattle.session.specs.declared.ruling.CommitAnswer.TheVariants.{Sent as Sending, ReadOnly, Clash}
use Rattle.session.specs.declared.ruling.Outcome.{Outcome}
use Rattle.session.specs.declared.suite_slot.SuiteSlot.{SuiteSlot}
use Rattle.settings.specs.Kinds.{SettingKind}
use Rattle.summaries.specs.Kinds.{SummaryKind}

-- begin gives the open move with its snapshot
abbrev pub begun : SuiteSlot → Result ℕ Refusal → Result (SuiteSlot × ℕ) Refusal
begun move answer = result_map_both (λ snapshot. (move, snapshot)) (λ why. why) answer

-- commit gives the sent move, says how the move ended, or hands it back
abbrev pub committed : SuiteSlot → Result CommitAnswer Refusal → Committed
committed move (Ok Sending) = Sent move
committed move (Ok (ReadOnly snapshot)) = Ended (Reading snapshot)
committed move (Ok (Clash n)) = Ended (Clashing n)
committed move (Err why) = Refused move why

-- what holds unless a message was sent
abbrev pub UnlessSent : Committed → Type 0 → Type 0
UnlessSent (Sent move) P = Unit {0}
UnlessSent answer P = P

-- collect gives the outcome, or hands the sent move back
abbrev pub handed_back : SuiteSlot → Result Outcome Refusal → Result Outcome (SuiteSlot × Refusal)
handed_back move answer = result_map_both (λ outcome. outcome) (λ why. (move, why)) answer

-- begin, commit and collect leave what the session's own calls leave in slot s of suite u
module _ {T : Type 0} where
  abbrev pub left_by_begin : World T → ℕ → ℕ → World T
  left_by_begin w u s = after_begin (begin_call w u s) w u s

  abbrev pub left_by_commit : SummaryKind → SettingKind T → World T → ℕ → ℕ → World T
  left_by_commit S K w u s = after_commit S K (commit_call S K w u s) w u s

  abbrev pub left_by_collect : World T → ℕ → ℕ → World T
  left_by_collect w u s = after_collect (collect_call w u s) w u s
