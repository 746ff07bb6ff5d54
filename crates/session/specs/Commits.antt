-- Commit: the answers "read" and "clash", and else the move's message, which is offered to the line.
--
--   is_newer         whether a node was committed after a snapshot, as far as a suite knows
--   sending          what a commit answers that offers its message
--   after_check      what a commit of a move that wrote something answers
--   move_message     the message of a move
--   commit_in        what commit answers
--   commit_answer
--   with_message     the line with the message of the move in a slot
--   commit_leaves
--   UnlessSent       what holds unless a message was sent
use Rattle.std.specs.Prelude.{ℕ, Bool, if◌then◌else◌, List, Some, None, Ok, Err, Option, Result, find, ◌==◌, nat_lt, ⊤}
use Rattle.lines.specs.Lines.{LineState, offer_answer, offered}
use Rattle.messages.specs.Composing.{message}
use Rattle.messages.specs.declared.parts.Write.{Write}
use Rattle.refusals.specs.declared.Refusal.{Refusal}
use Rattle.refusals.specs.declared.Refusal.TheVariants.{SlotState as WrongState}
use Rattle.session.specs.Shares.{Share, slot_of, with_slot}
use Rattle.session.specs.Slots.{own_writes}
use Rattle.session.specs.States.{SlotState, idle, opened, sent}
use Rattle.session.specs.Versions.{newest_stamp, versions_of}
use Rattle.session.specs.declared.place.Place.{Place}
use Rattle.session.specs.declared.ruling.CommitAnswer.{CommitAnswer}
use Rattle.session.specs.declared.ruling.CommitAnswer.TheVariants.{Sent, ReadOnly, Clash}
use Rattle.settings.specs.Kinds.{SettingKind}
use Rattle.summaries.specs.Kinds.{SummaryKind}

-- whether the newest version of the node n at a suite is above the snapshot
abbrev pub is_newer : {T : Type 0} → List ℕ → List (Place T) → ℕ → ℕ → Bool
is_newer nodes places snapshot n = nat_lt snapshot (newest_stamp (versions_of nodes places n))

-- what a commit answers whose offer is answered so
abbrev pub sending : Result (Unit {0}) Refusal → Result CommitAnswer Refusal
sending (Ok _) = Ok Sent
sending (Err why) = Err why

-- what a commit of a move that wrote something answers: "clash" with the earliest read that is newer than the snapshot or, without
-- one, what becomes of the offer
abbrev pub after_check : Option ℕ → Result (Unit {0}) Refusal → Result CommitAnswer Refusal
after_check (Some n) offer = Ok (Clash n)
after_check None offer = sending offer

module _ {T : Type 0} (S : SummaryKind) (K : SettingKind T) where
  -- the message of a move in slot s of suite u
  abbrev pub move_message : ℕ → ℕ → ℕ → List ℕ → List (Write T) → List ℕ
  move_message u s snapshot reads ws = message S K (record { suite = u; slot = s; snapshot = snapshot }) reads ws

  -- commit asks for an open slot
  abbrev pub commit_in : List ℕ → Share T → ℕ → ℕ → SlotState → Result CommitAnswer Refusal
  commit_in nodes share u s (opened snapshot reads written) =
      if written == 0
      then Ok (ReadOnly snapshot)
      else after_check (find (is_newer nodes share.places snapshot) reads)
      (offer_answer share.line u (move_message u s snapshot reads (own_writes share s written)))
  commit_in nodes share u s _ = Err WrongState

  -- a commit in slot s of suite u
  abbrev pub commit_answer : List ℕ → ℕ → ℕ → Share T → Result CommitAnswer Refusal
  commit_answer nodes u s share = commit_in nodes share u s (slot_of share s)

  -- the line with the message of the move, if the slot has an open one
  abbrev pub with_message : Share T → ℕ → ℕ → SlotState → LineState
  with_message share u s (opened snapshot reads written) =
      offered share.line u (move_message u s snapshot reads (own_writes share s written))
  with_message share u s _ = share.line

  -- after "sent" the slot is sent and the message waits in the line; after "read" and "clash" the slot is idle
  abbrev pub commit_leaves : ℕ → ℕ → CommitAnswer → Share T → Share T
  commit_leaves u s Sent share = record (with_slot share s sent) { line = with_message share u s (slot_of share s) }
  commit_leaves u s (ReadOnly snapshot) share = with_slot share s idle
  commit_leaves u s (Clash n) share = with_slot share s idle

-- what holds unless a commit is answered with "sent"
abbrev pub UnlessSent : Result CommitAnswer Refusal → Type 0 → Type 0
UnlessSent (Ok Sent) P = ⊤
UnlessSent answer P = P
