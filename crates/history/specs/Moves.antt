-- The moves of a history, as its events show them: what each did, what was sent, in which order it was agreed, and how it was ruled on.
-- Lists of events and calls have the latest first.
--
--   Move            a move: where it was made, its snapshot and what it did
--   commits_as      which agreed message was committed, after one more ruling
--   with_call       a move with one more call
--   continued       the open move of a slot after an accepted call
--   open_move       the move that is open in a slot
--   sends           the moves that an accepted call sends
--   sent_by         the moves that a suite sent, the first one first
--   served          how many settles served a suite
--   agreed          the moves whose messages are agreed, in their order
--   rulings         the rulings of a suite, the first one first
--   from_slot       whether a move was made in a slot
--   takes           how many takes of a suite were accepted
--   committed_position   which agreed message was committed under a stamp
--   committed_move  the move that was committed under a stamp
use Rattle.std.specs.Prelude.{ℕ, suc, Bool, if◌then◌else◌, ◌&&◌, List, [], ◌∷◌, ◌++◌, length, take, drop, Some, None, Option, option_and_then, option_to_list, ◌==◌, slice_get}
use Rattle.history.specs.Events.{Did, began, read, wrote, closed, Event, at, settled, took}
use Rattle.session.specs.declared.ruling.CommitAnswer.TheVariants.{Sent}
use Rattle.session.specs.declared.ruling.Outcome.TheVariants.{Commit}
use Rattle.session.specs.declared.ruling.Ruling.{Ruling}
use Rattle.session.specs.declared.ruling.Ruling.TheVariants.{Decided}

-- a move: the suite and the slot that it is made in, its snapshot, and its accepted reads and writes, with the answers of the reads, the
-- latest first. What else is called in its slot until that is idle again, refused calls included, does nothing to a copy, so it is left out
pub record Move (T : Type 0) : Type 0 where
  pub suite : ℕ
  pub slot : ℕ
  pub snapshot : ℕ
  pub calls : List (Did T)

-- k, if the ruling is a commit under this stamp; else what it was
abbrev pub commits_as : ℕ → ℕ → Ruling → Option ℕ → Option ℕ
commits_as stamp k (Decided (Commit t)) before = if t == stamp then Some k else before
commits_as stamp k _ before = before

module _ {T : Type 0} where
  -- the move with one more accepted call
  abbrev pub with_call : Did T → Option (Move T) → Option (Move T)
  with_call did None = None
  with_call did (Some m) = Some (record m { calls = did ∷ m.calls })

  -- the move that is open in slot s of suite u after an accepted call at it: a begin opens one, reads and writes belong to it, and commit and
  -- abandon end it; collect finds none
  abbrev pub continued : ℕ → ℕ → Did T → Option (Move T) → Option (Move T)
  continued u s (began snapshot) move = Some (record { suite = u; slot = s; snapshot = snapshot; calls = [] })
  continued u s (read n x) move = with_call (read n x) move
  continued u s (wrote n x) move = with_call (wrote n x) move
  continued u s _ move = None

  -- the move that is open in slot s of suite u after these events
  unfoldable pub open_move : List (Event T) → ℕ → ℕ → Option (Move T)
  open_move [] u s = None
  open_move (at v r did ∷ es) u s = if v == u && r == s then continued v r did (open_move es u s) else open_move es u s
  open_move (_ ∷ es) u s = open_move es u s

  -- the moves that an accepted call at slot s of suite u sends, if this is the move that was open there
  abbrev pub sends : Did T → Option (Move T) → List (Move T)
  sends (closed Sent) move = option_to_list move
  sends _ move = []

  -- the moves whose commits suite u answered with "sent", the first one first
  unfoldable pub sent_by : List (Event T) → ℕ → List (Move T)
  sent_by [] u = []
  sent_by (at v s did ∷ es) u = if v == u then sent_by es u ++ sends did (open_move es v s) else sent_by es u
  sent_by (_ ∷ es) u = sent_by es u

  -- how many settles served suite u
  unfoldable pub served : List (Event T) → ℕ → ℕ
  served [] u = 0
  served (settled v ∷ es) u = if v == u then suc (served es u) else served es u
  served (_ ∷ es) u = served es u

  -- the moves whose messages are agreed, in their order: as the messages of a suite are settled in the order of offering, the settle
  -- that is the j-th to serve a suite agrees the j-th move that the suite sent
  unfoldable pub agreed : List (Event T) → List (Move T)
  agreed [] = []
  agreed (settled v ∷ es) = agreed es ++ take 1 (drop (served es v) (sent_by es v))
  agreed (_ ∷ es) = agreed es

  -- the rulings of suite u, the first one first: the k-th is on the k-th agreed message
  unfoldable pub rulings : List (Event T) → ℕ → List Ruling
  rulings [] u = []
  rulings (took v ruling ∷ es) u = if v == u then rulings es u ++ ruling ∷ [] else rulings es u
  rulings (_ ∷ es) u = rulings es u

  -- whether the move was made in slot s of suite u
  abbrev pub from_slot : ℕ → ℕ → Move T → Bool
  from_slot u s m = m.suite == u && m.slot == s

  -- how many takes of suite u were accepted
  abbrev pub takes : List (Event T) → ℕ → ℕ
  takes es u = length (rulings es u)

  -- which agreed message was committed under a stamp: how many are agreed before it, which is how many the suite had taken whose take
  -- ruled so
  unfoldable pub committed_position : List (Event T) → ℕ → Option ℕ
  committed_position [] stamp = None
  committed_position (took v ruling ∷ es) stamp = commits_as stamp (takes es v) ruling (committed_position es stamp)
  committed_position (_ ∷ es) stamp = committed_position es stamp

  -- the move that was committed under a stamp: it sent that message
  abbrev pub committed_move : List (Event T) → ℕ → Option (Move T)
  committed_move es stamp = option_and_then (slice_get (agreed es)) (committed_position es stamp)
