-- The calls at a slot that ask nothing of the line: begin, read, write, abandon, collect. Each has a rule, which says what the call
-- answers by the state that the slot is in, and says what an accepted call leaves of the suite's share.
--
--   first_write       where the write places of a slot begin
--   own_writes        the writes of the move in a slot
--   own               the setting that the move wrote for a node, if it did
--   with_write        writes, with one more
--   begin_in          what begin answers: the snapshot
--   begin_answer
--   begin_leaves
--   kept_version      the setting of the version that a read sees
--   read_open         what a read of one of the session's nodes answers in an open slot
--   read_in           what read answers
--   read_answer
--   entered           the reads after a read of a node
--   read_into         the slot after a read
--   read_leaves
--   write_in          what write answers
--   write_answer
--   write_at          which of the slot's write places a write takes
--   write_into        the share after a write
--   write_leaves
--   abandon_in        what abandon answers
--   abandon_answer
--   abandon_leaves
--   collect_in        what collect answers
--   collect_answer
--   collect_leaves
use Rattle.std.specs.Prelude.{ℕ, ◌+◌, ◌-◌, ◌*◌, max, if◌then◌else◌, not, ◌&&◌, List, [], ◌∷◌, ◌++◌, length, is_some, Some, None, Ok, Err, Option, Result, option_map, find, ◌==◌, nat_le, slice_set}
use Rattle.std.specs.List.{between, position_or_len}
use Rattle.limits.specs.Limits.{most_reads, most_writes}
use Rattle.messages.specs.Reading.{known}
use Rattle.messages.specs.declared.parts.Write.{Write}
use Rattle.refusals.specs.declared.Refusal.{Refusal}
use Rattle.refusals.specs.declared.Refusal.TheVariants.{SlotState as WrongState, UnknownNode, MoveFull, NoVersion, NotRuled}
use Rattle.session.specs.Shares.{Share, slot_of, with_slot}
use Rattle.session.specs.States.{SlotState, idle, opened, sent, ruled}
use Rattle.session.specs.Versions.{visible, versions_of}
use Rattle.session.specs.declared.place.Place.{Place}
use Rattle.session.specs.declared.ruling.Outcome.{Outcome}

-- where the write places of slot s begin, in its suite's part
abbrev pub first_write : ℕ → ℕ
first_write s = (s - 1) * most_writes

-- begin asks for an idle slot, and gives the suite's stamp as the snapshot
abbrev pub begin_in : ℕ → SlotState → Result ℕ Refusal
begin_in stamp idle = Ok stamp
begin_in stamp _ = Err WrongState

-- abandon asks for an open slot
abbrev pub abandon_in : SlotState → Result (Unit {0}) Refusal
abandon_in (opened snapshot reads written) = Ok tt
abandon_in _ = Err WrongState

-- collect asks for a slot whose move was ruled on, and gives the outcome
abbrev pub collect_in : SlotState → Result Outcome Refusal
collect_in (ruled outcome) = Ok outcome
collect_in sent = Err NotRuled
collect_in _ = Err WrongState

module _ {T : Type 0} where
  -- the writes of the move in slot s that has written so many nodes
  abbrev pub own_writes : Share T → ℕ → ℕ → List (Write T)
  own_writes share s written = between (first_write s) (first_write s + written) share.writes

  -- the setting that was written for the node n, if one was
  abbrev pub own : List (Write T) → ℕ → Option T
  own ws n = option_map (λ w. w.setting) (find (λ w. w.node == n) ws)

  -- the writes with one more: in the place of the one of the same node or, without one, at the end
  unfoldable pub with_write : List (Write T) → ℕ → T → List (Write T)
  with_write [] n x = record { node = n; setting = x } ∷ []
  with_write (w ∷ ws) n x = if w.node == n then record { node = n; setting = x } ∷ ws else w ∷ with_write ws n x

  -- ---- begin

  -- a begin in slot s
  abbrev pub begin_answer : ℕ → Share T → Result ℕ Refusal
  begin_answer s share = begin_in share.suite.stamp (slot_of share s)

  -- the slot is open, with nothing read and nothing written
  abbrev pub begin_leaves : ℕ → ℕ → Share T → Share T
  begin_leaves s snapshot share = with_slot share s (opened snapshot [] 0)

  -- ---- read

  -- the setting of the version that is read, if there is one
  abbrev pub kept_version : Option (ℕ × Place T) → Result T Refusal
  kept_version None = Err NoVersion
  kept_version (Some v) = Ok v.1.setting

  -- the move's own setting of the node, if it wrote one; else the version at the snapshot, unless the node would be one read too many
  abbrev pub read_open : List ℕ → List (Place T) → ℕ → List ℕ → ℕ → Option T → Result T Refusal
  read_open nodes places snapshot reads n (Some setting) = Ok setting
  read_open nodes places snapshot reads n None =
      if not (known reads n) && nat_le most_reads (length reads)
      then Err MoveFull
      else kept_version (visible snapshot (versions_of nodes places n))

  -- read asks for an open slot and one of the session's nodes
  abbrev pub read_in : List ℕ → Share T → ℕ → ℕ → SlotState → Result T Refusal
  read_in nodes share s n (opened snapshot reads written) =
      if not (known nodes n)
      then Err UnknownNode
      else read_open nodes share.places snapshot reads n (own (own_writes share s written) n)
  read_in nodes share s n _ = Err WrongState

  -- a read of the node n in slot s
  abbrev pub read_answer : List ℕ → ℕ → ℕ → Share T → Result T Refusal
  read_answer nodes s n share = read_in nodes share s n (slot_of share s)

  -- the reads after a read of n: with n at the end, unless it is there or the move wrote it
  abbrev pub entered : List ℕ → ℕ → Option T → List ℕ
  entered reads n (Some setting) = reads
  entered reads n None = if known reads n then reads else reads ++ n ∷ []

  -- an open slot has the node among its reads then
  abbrev pub read_into : Share T → ℕ → ℕ → SlotState → SlotState
  read_into share s n (opened snapshot reads written) = opened snapshot (entered reads n (own (own_writes share s written) n)) written
  read_into share s n state = state

  -- nothing but the slot changes
  abbrev pub read_leaves : ℕ → ℕ → T → Share T → Share T
  read_leaves s n setting share = with_slot share s (read_into share s n (slot_of share s))

  -- ---- write

  -- write asks for an open slot and one of the session's nodes, and for room, unless the move has written the node before
  abbrev pub write_in : List ℕ → Share T → ℕ → ℕ → SlotState → Result (Unit {0}) Refusal
  write_in nodes share s n (opened snapshot reads written) =
      if not (known nodes n)
      then Err UnknownNode
      else if not (is_some (own (own_writes share s written) n)) && nat_le most_writes written
      then Err MoveFull
      else Ok tt
  write_in nodes share s n _ = Err WrongState

  -- a write of the node n in slot s
  abbrev pub write_answer : List ℕ → ℕ → ℕ → Share T → Result (Unit {0}) Refusal
  write_answer nodes s n share = write_in nodes share s n (slot_of share s)

  -- the slot's write place that a write of n takes: the one that has n or, where none has, the next
  abbrev pub write_at : Share T → ℕ → ℕ → ℕ → ℕ
  write_at share s n written = position_or_len (λ w. w.node == n) (own_writes share s written)

  -- the write stands in its write place, and the move has as many writes as that place asks for, or as it had
  abbrev pub write_into : Share T → ℕ → ℕ → T → SlotState → Share T
  write_into share s n setting (opened snapshot reads written) =
      let at = write_at share s n written in
      record (with_slot share s (opened snapshot reads (max written (at + 1)))) {
        writes = slice_set share.writes (first_write s + at) (record { node = n; setting = setting });
      }
  write_into share s n setting _ = share

  -- nothing but the slot and the write place changes
  abbrev pub write_leaves : ℕ → ℕ → T → Unit {0} → Share T → Share T
  write_leaves s n setting _ share = write_into share s n setting (slot_of share s)

  -- ---- abandon

  -- an abandon in slot s
  abbrev pub abandon_answer : ℕ → Share T → Result (Unit {0}) Refusal
  abandon_answer s share = abandon_in (slot_of share s)

  -- the slot is idle
  abbrev pub abandon_leaves : ℕ → Unit {0} → Share T → Share T
  abandon_leaves s _ share = with_slot share s idle

  -- ---- collect

  -- a collect in slot s
  abbrev pub collect_answer : ℕ → Share T → Result Outcome Refusal
  collect_answer s share = collect_in (slot_of share s)

  -- the slot is idle
  abbrev pub collect_leaves : ℕ → Outcome → Share T → Share T
  collect_leaves s outcome share = with_slot share s idle
