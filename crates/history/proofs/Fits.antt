-- How a world stands to the events that led to it: what its suites hold and what its line holds, by the moves that the events show.
-- N are the session's nodes and U is the number of its suites; `ms` are the moves whose messages are agreed, in their order, and
-- `rl u` the rulings of suite u. Each suite is the replica after as many of these moves as it has ruled on.
use Rattle.std.proofs.Common.{◌≡◌, ℕ, ◌+◌, ◌-◌, ◌<◌, ◌≤◌, false, List, [], length, get_or, Some, None, Option}
use Rattle.std.specs.Prelude.{option_map, slice_get}
use Rattle.std.specs.List.{between, AllByRecursion, ContainsAt}
use Rattle.history.specs.Contents.{last_write, reads_of, writes_of}
use Rattle.session.proofs.Reading.{Sendable}
use Rattle.history.proofs.Replicas.{Replica, rules_on, replica}
use Rattle.session.proofs.Shares.{Sized}
use Rattle.history.specs.Copies.{ReadsOn}
use Rattle.history.specs.Moves.{Move}
use Rattle.lines.specs.Lines.{LineState, unusable, held}
use Rattle.messages.specs.declared.parts.Write.{Write}
use Rattle.session.specs.Commits.{move_message}
use Rattle.session.specs.Shares.{share_of}
use Rattle.session.specs.Slots.{first_write}
use Rattle.session.specs.States.{SlotState, idle, opened, sent, ruled, SuiteState, World}
use Rattle.session.specs.Versions.{visible, newest, versions_of}
use Rattle.session.specs.declared.place.Place.{Place}
use Rattle.session.specs.declared.ruling.Outcome.TheVariants.{Commit}
use Rattle.session.specs.declared.ruling.Ruling.{Ruling}
use Rattle.session.specs.declared.ruling.Ruling.TheVariants.{Decided}
use Rattle.settings.specs.Kinds.{SettingKind}
use Rattle.summaries.specs.Kinds.{SummaryKind}

-- the settings of a replica
abbrev pub settings : {T : Type 0} → Replica T → ℕ → T
settings r n = (r.newest n).setting

-- the writes in the write places of slot s
abbrev pub writes_at : {T : Type 0} → List (Write T) → ℕ → ℕ → List (Write T)
writes_at writes s written = between (first_write s) (first_write s + written) writes

module _ {T : Type 0} (S : SummaryKind) (K : SettingKind T) (N : List ℕ) (U : ℕ) where
  -- a move that is open or sent: its snapshot is the stamp of the replica after `from` messages, which some suite has taken; it read on
  -- that replica, and its reads and writes are of the session's nodes, and not too many
  pub record GoodMove (ms : List (Move T)) (rl : ℕ → List Ruling) (top : ℕ) (m : Move T) : Type 0 where
    pub from : ℕ
    pub snapshot : m.snapshot ≡ (replica S K N ms from).stamp
    pub below : from ≤ top
    pub taker : ℕ
    pub there : (1 ≤ taker) × (taker ≤ U)
    pub taken : from ≤ length (rl taker)
    pub reads : ReadsOn (settings (replica S K N ms from)) m.calls
    pub few_reads : length (reads_of m.calls) ≤ 32
    pub known_reads : AllByRecursion (ContainsAt N) (reads_of m.calls)
    pub few_writes : length (writes_of m.calls) ≤ 16
    pub known_writes : AllByRecursion (λ w. ContainsAt N w.node) (writes_of m.calls)

  -- these bytes are the message of the move
  pub record Carries (bytes : List ℕ) (m : Move T) : Type 0 where
    pub there : m.suite ≤ U
    pub fit : Sendable N m.suite m.slot m.snapshot (reads_of m.calls) (writes_of m.calls)
    pub is : bytes ≡ move_message S K m.suite m.slot m.snapshot (reads_of m.calls) (writes_of m.calls)

  -- a slot that is open holds the move that is open there, and the places show it the replica of its snapshot, but for the nodes that it
  -- has written; `mine` are the rulings of its suite
  pub record OpenFits (ms : List (Move T)) (rl : ℕ → List Ruling) (mine : List Ruling) (places : List (Place T)) (writes : List (Write T))
      (s t : ℕ) (nodes : List ℕ) (written : ℕ) (o : Option (Move T)) : Type 0 where
    pub move : Move T
    pub is : o ≡ Some move
    pub snapshot : move.snapshot ≡ t
    pub reads : reads_of move.calls ≡ nodes
    pub own : writes_at writes s written ≡ writes_of move.calls
    pub count : length (writes_of move.calls) ≡ written
    pub good : GoodMove ms rl (length mine) move
    pub sees : (n : ℕ) → ContainsAt N n → last_write move.calls n ≡ None →
        option_map (λ b. b.1) (visible t (versions_of N places n)) ≡ Some ((replica S K N ms good.from).newest n)

  abbrev pub SlotFits : List (Move T) → (ℕ → List Ruling) → List Ruling → List (Place T) → List (Write T) → ℕ → SlotState → Option (Move T) → Type 0
  SlotFits ms rl mine places writes s idle o = o ≡ None
  SlotFits ms rl mine places writes s (opened t nodes written) o = OpenFits ms rl mine places writes s t nodes written o
  SlotFits ms rl mine places writes s sent o = o ≡ None
  SlotFits ms rl mine places writes s (ruled outcome) o = o ≡ None

  -- a suite with the rulings `mine`; `o s` is the move that is open in its slot s
  pub record SuiteFits (ms : List (Move T)) (rl : ℕ → List Ruling) (mine : List Ruling) (o : ℕ → Option (Move T)) (suite : SuiteState)
      (places : List (Place T)) (writes : List (Write T)) : Type 0 where
    pub four : length suite.slots ≡ 4
    pub taken : suite.taken ≡ length mine
    pub within : length mine ≤ length ms
    pub stamp : suite.stamp ≡ (replica S K N ms (length mine)).stamp
    pub newest_is : (n : ℕ) → ContainsAt N n → option_map (λ b. b.1) (newest (versions_of N places n)) ≡ Some ((replica S K N ms (length mine)).newest n)
    pub below : (n : ℕ) → ContainsAt N n → AllByRecursion (λ p. p.stamp ≤ suite.stamp) (versions_of N places n)
    pub slots : (s : ℕ) → (1 ≤ s) × (s ≤ 4) → SlotFits ms rl mine places writes s (get_or suite.slots (s - 1) idle) (o s)
    pub ruled_so : (k : ℕ) (m : Move T) → k < length mine → slice_get ms k ≡ Some m →
        slice_get mine k ≡ Some (Decided (rules_on S K N (replica S K N ms k) m))

  -- the line: its agreed messages carry the moves of `ms`, and what waits for suite u the moves of `pend u`
  pub record LineFits (ms : List (Move T)) (rl : ℕ → List Ruling) (pend : ℕ → List (Move T)) (line : LineState) : Type 0 where
    pub usable : unusable line.limit ≡ false
    pub holds : held line ≤ line.limit
    pub agreed_long : length line.agreed ≡ length ms
    pub agreed_is : (k : ℕ) (m : Move T) → slice_get ms k ≡ Some m → Carries (get_or line.agreed k []) m × GoodMove ms rl k m
    pub waiting_long : (u : ℕ) → (1 ≤ u) × (u ≤ 8) → length (line.waiting u) ≡ length (pend u)
    pub waiting_is : (u : ℕ) → (1 ≤ u) × (u ≤ 8) → (k : ℕ) (m : Move T) → slice_get (pend u) k ≡ Some m →
        Carries (get_or (line.waiting u) k []) m × GoodMove ms rl (length ms) m

  -- the world; `ca t` is the number of the agreed message that was committed under the stamp t
  pub record Fits (ms : List (Move T)) (rl : ℕ → List Ruling) (o : ℕ → ℕ → Option (Move T)) (pend : ℕ → List (Move T)) (ca : ℕ → Option ℕ)
      (w : World T) : Type 0 where
    pub suites : length w.session.suites ≡ U
    pub few_suites : U ≤ 8
    pub sized : Sized w
    pub line : LineFits ms rl pend w.line
    pub each : (u : ℕ) → (1 ≤ u) × (u ≤ U) → SuiteFits ms rl (rl u) (o u) (share_of w u).suite (share_of w u).places (share_of w u).writes
    pub commits : (u k t : ℕ) (m : Move T) → (1 ≤ u) × (u ≤ U) → k < length (rl u) → slice_get ms k ≡ Some m →
        rules_on S K N (replica S K N ms k) m ≡ Commit t → ca t ≡ Some k
    pub committed : (t k : ℕ) → ca t ≡ Some k →
        (u : ℕ) × ((1 ≤ u) × (u ≤ U)) × (k < length (rl u)) × (m : Move T) × (slice_get ms k ≡ Some m) × (rules_on S K N (replica S K N ms k) m ≡ Commit t)
