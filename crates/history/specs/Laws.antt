-- The law of a session: what holds of every history, that is, of every list of calls, with any arguments, some of them refused, from a
-- session just made over an empty line, whichever suite each settle serves and whichever spare place each commit overwrites. It holds for
-- every kind of setting and of summary that shows the laws of its kind. Lists of events have the latest first.
--
--   There           there is such a suite
--   state_of        a suite
--   newest_of       the newest version of a node at a suite
--   SameShape       two worlds have the same nodes, and suites and memories of the same sizes
--   WrittenAfter    a node was committed after a snapshot
--   Closes          what the answers of a commit say
--   Collects        what the outcome that a collect gives says
--   Isolation       two suites have only the line in common
--   Moment          a moment of a history
--   MessageOf       bytes are the message of a move
--   IsClash         a node makes a message a clash
--   Lawful          what holds of a history
--   Law             the law
use Rattle.std.specs.Prelude.{◌≡◌, ℕ, suc, ◌+◌, ◌<◌, ◌≤◌, ◌≢◌, ◌↔◌, true, false, List, [], ◌∷◌, ◌++◌, length, Some, Option, option_map, unwrap_or, slice_get, count_by, IsSome}
use Rattle.std.specs.List.{ContainsAt}
use Rattle.history.specs.Contents.{last_write, reads_of, writes_of}
use Rattle.history.specs.Copies.{copy, ReadsOn}
use Rattle.history.specs.Events.{read, closed, collected, Event, at, settled, took, declined, call_of, suite_of}
use Rattle.history.specs.Moves.{Move, open_move, sent_by, from_slot, agreed, rulings, takes, committed_position, committed_move}
use Rattle.history.specs.Runs.{answer, Step, Run, Made}
use Rattle.history.specs.declared.call.Call.{Call}
use Rattle.history.specs.declared.call.Call.TheVariants.{Read, Settle}
use Rattle.session.specs.declared.suite_slot.SuiteSlot.{SuiteSlot}
use Rattle.limits.specs.Limits.{slots_each}
use Rattle.lines.specs.Lines.{message_number}
use Rattle.messages.specs.Reading.{header_in, summary_in}
use Rattle.messages.specs.Returning.{Returned}
use Rattle.messages.specs.declared.fault.Fault.{Fault}
use Rattle.refusals.specs.declared.Refusal.TheVariants.{NoVersion}
use Rattle.session.specs.Commits.{move_message}
use Rattle.session.specs.Shares.{share_of}
use Rattle.session.specs.States.{SuiteState, World}
use Rattle.session.specs.Takes.{next_message}
use Rattle.session.specs.Versions.{newest, versions_of}
use Rattle.session.specs.declared.place.Place.{Place}
use Rattle.session.specs.declared.ruling.CommitAnswer.{CommitAnswer}
use Rattle.session.specs.declared.ruling.CommitAnswer.TheVariants.{Sent, ReadOnly, Clash as ClashAtHome}
use Rattle.session.specs.declared.ruling.Outcome.{Outcome}
use Rattle.session.specs.declared.ruling.Outcome.TheVariants.{Clash, Commit}
use Rattle.session.specs.declared.ruling.Ruling.{Ruling}
use Rattle.session.specs.declared.ruling.Ruling.TheVariants.{Void, Decided}
use Rattle.settings.specs.Kinds.{SettingKind}
use Rattle.summaries.specs.Kinds.{SummaryKind}

module _ {T : Type 0} where
  -- there is a suite u in the session
  abbrev pub There : World T → ℕ → Type 0
  There w u = (1 ≤ u) × (u ≤ length w.session.suites)

  -- suite u
  abbrev pub state_of : World T → ℕ → SuiteState
  state_of w u = (share_of w u).suite

  -- the newest version of the node n at suite u: its stamp and its setting
  abbrev pub newest_of : World T → ℕ → ℕ → Option (Place T)
  newest_of w u n = option_map (λ b. b.1) (newest (versions_of w.session.nodes (share_of w u).places n))

  -- the same nodes, and as many suites, setting places and write places
  pub record SameShape (w v : World T) : Type 0 where
    pub nodes : w.session.nodes ≡ v.session.nodes
    pub suites : length w.session.suites ≡ length v.session.suites
    pub places : length w.places ≡ length v.places
    pub writes : length w.writes ≡ length v.writes

  -- a move with a stamp above the snapshot, and not above this stamp, wrote the node n
  abbrev pub WrittenAfter : List (Event T) → ℕ → ℕ → ℕ → Type 0
  WrittenAfter es snapshot stamp n =
      (t : ℕ) × (snapshot < t) × (t ≤ stamp) × (m : Move T) × (committed_move es t ≡ Some m) × IsSome (last_write m.calls n)

  -- what a commit of the move says that is answered so, at a suite with this stamp
  abbrev pub Closes : List (Event T) → ℕ → Move T → CommitAnswer → Type 0
  Closes es stamp m (ReadOnly snapshot) = (writes_of m.calls ≡ []) × (snapshot ≡ m.snapshot)
  Closes es stamp m (ClashAtHome n) =
      (writes_of m.calls ≢ [])
      × (i : ℕ)
      × (slice_get (reads_of m.calls) i ≡ Some n)
      × WrittenAfter es m.snapshot stamp n
      × ((j x : ℕ) → j < i → slice_get (reads_of m.calls) j ≡ Some x → WrittenAfter es m.snapshot stamp x → ⊥)
  Closes es stamp m Sent = (writes_of m.calls ≢ []) × ((n : ℕ) → ContainsAt (reads_of m.calls) n → WrittenAfter es m.snapshot stamp n → ⊥)

  -- what a collect in slot s of suite u after these events gives: the suite's ruling on the latest agreed move of the slot; and as many moves
  -- of the slot are agreed as it has sent
  abbrev pub Collects : List (Event T) → ℕ → ℕ → Outcome → Type 0
  Collects es u s outcome =
      (k : ℕ)
      × (m : Move T)
      × (slice_get (agreed es) k ≡ Some m)
      × (from_slot u s m ≡ true)
      × (slice_get (rulings es u) k ≡ Some (Decided outcome))
      × ((j : ℕ) (x : Move T) → k < j → slice_get (agreed es) j ≡ Some x → from_slot u s x ≡ false)
      × (count_by (from_slot u s) (sent_by es u) ≡ count_by (from_slot u s) (agreed es))

module _ {T : Type 0} (S : SummaryKind) (K : SettingKind T) where
  -- two suites have only the line in common, in any memory
  pub record Isolation : Type 0 where
    -- a call at a suite is answered by the suite's share alone: its own record, its own part of the memories, and the line
    pub answers : (w v : World T) (call : Call T) (u : ℕ) → suite_of call ≡ Some u → SameShape w v → share_of w u ≡ share_of v u →
        answer S K w call ≡ answer S K v call
    -- what it leaves of that share depends on nothing else either
    pub leaves : (w v w' : World T) (e : Event T) (u : ℕ) → suite_of (call_of e) ≡ Some u → SameShape w v → share_of w u ≡ share_of v u →
        Step S K w e w' → (v' : World T) × Step S K v e v' × (share_of v' u ≡ share_of w' u)
    -- and it leaves every other suite's record and part of the memories as they were, as a settle leaves every suite's
    pub others : (w w' : World T) (e : Event T) (u : ℕ) → (suite_of (call_of e) ≢ Some u) → There w u → Step S K w e w' →
        share_of w' u ≡ record (share_of w u) { line = w'.line }
    -- a settle is answered by the line alone, and what it leaves of the line depends on nothing else
    pub settles : (w v : World T) → SameShape w v → w.line ≡ v.line →
        (answer S K w Settle ≡ answer S K v Settle)
        × ((w' : World T) (u : ℕ) → Step S K w (settled u) w' → (v' : World T) × Step S K v (settled u) v' × (v'.line ≡ w'.line))

  -- a moment of the history with these events that leads from `start` to `now`: the world then, the events before it and those after it
  pub record Moment (start : World T) (es : List (Event T)) (now : World T) : Type 0 where
    pub then : World T
    pub earlier : List (Event T)
    pub later : List (Event T)
    pub events : es ≡ later ++ earlier
    pub before : Run S K start earlier then
    pub after : Run S K then later now

  -- these bytes are the message of the move, which a slot of one of so many suites sent
  pub record MessageOf (suites : ℕ) (bytes : List ℕ) (m : Move T) : Type 0 where
    pub suite_there : (1 ≤ m.suite) × (m.suite ≤ suites)
    pub slot_there : (1 ≤ m.slot) × (m.slot ≤ slots_each)
    pub is : bytes ≡ move_message S K m.suite m.slot m.snapshot (reads_of m.calls) (writes_of m.calls)
    -- reading it gives all its fields back
    pub returns : Returned S K (record { suite = m.suite; slot = m.slot; snapshot = m.snapshot }) (reads_of m.calls) (writes_of m.calls) bytes

  -- the summary of the message names the node n, which was committed after the message's snapshot, as a suite with this stamp knows
  abbrev pub IsClash : List (Event T) → ℕ → List ℕ → ℕ → Type 0
  IsClash es stamp message n =
      (S.names (summary_in S.wide message) n ≡ true) × WrittenAfter es (header_in message).origin.snapshot stamp n

  -- what holds of the history with these events that leads from a session just made to the world `now`
  pub record Lawful (start : World T) (es : List (Event T)) (now : World T) : Type 0 where
    -- suites that have taken equally many messages, at whatever moments, have equal stamps, and every node has an equal newest setting
    -- under an equal stamp there
    pub agree : (p q : Moment start es now) (u v : ℕ) → There start u → There start v → takes p.earlier u ≡ takes q.earlier v →
        ((state_of p.then u).stamp ≡ (state_of q.then v).stamp)
        × ((n : ℕ) → ContainsAt start.session.nodes n → newest_of p.then u n ≡ newest_of q.then v n)
    -- the k-th rulings of any two suites are equal
    pub same_rulings : (u v k : ℕ) → There start u → There start v → k < takes es u → k < takes es v → slice_get (rulings es u) k ≡ slice_get (rulings es v) k
    -- no take is void
    pub no_void : (earlier later : List (Event T)) (u : ℕ) (fault : Fault) → es ≡ later ++ took u (Void fault) ∷ earlier → ⊥
    -- no read is refused for want of a version
    pub no_missing : (earlier later : List (Event T)) (slot : SuiteSlot) (n : ℕ) → es ≡ later ++ declined (Read slot n) NoVersion ∷ earlier → ⊥
    -- an accepted read of a node gives the latest setting that its own move wrote for the node or, without one, what the commits up to
    -- the move's snapshot left
    pub reads : (earlier later : List (Event T)) (u s n : ℕ) (x : T) → es ≡ later ++ at u s (read n x) ∷ earlier →
        (m : Move T) × (open_move earlier u s ≡ Some m) × (x ≡ unwrap_or (last_write m.calls n) (copy K es m.snapshot n))
    -- the agreed messages are those of the moves that the counting of events says are agreed, one for one
    pub carried : (length now.line.agreed ≡ length (agreed es))
        × ((k : ℕ) (m : Move T) → slice_get (agreed es) k ≡ Some m → MessageOf (length start.session.suites) (message_number now.line (k + 1)) m)
    -- at every moment a suite has taken as many of them as it had takes accepted: its k-th accepted take is on the k-th agreed message
    pub counted : (p : Moment start es now) (u : ℕ) → There start u → (state_of p.then u).taken ≡ takes p.earlier u
    -- a stamp belongs to one agreed message: every take that rules to commit under it is on that message, which some move sent
    pub one_move : (earlier later : List (Event T)) (u t : ℕ) → es ≡ later ++ took u (Decided (Commit t)) ∷ earlier →
        (1 ≤ t) × (committed_position es t ≡ Some (takes earlier u)) × (m : Move T) × (committed_move es t ≡ Some m)
    -- every stamp from 1 to a suite's own belongs to a move
    pub stamps : (u t : ℕ) → There start u → 1 ≤ t → t ≤ (state_of now u).stamp → (m : Move T) × (committed_move es t ≡ Some m)
    -- a committed move, done alone after all lower stamps, reads the same; what it leaves is the next copy
    pub serial : (t : ℕ) (m : Move T) → committed_move es (suc t) ≡ Some m → ReadsOn (copy K es t) m.calls
    -- every suite, at any moment, has the copy of its stamp as its newest settings
    pub copies : (p : Moment start es now) (u n : ℕ) → There start u → ContainsAt start.session.nodes n →
        option_map (λ place. place.setting) (newest_of p.then u n) ≡ Some (copy K es (state_of p.then u).stamp n)
    -- a move whose commit gave "read" reads the same right after its snapshot
    pub read_only : (earlier later : List (Event T)) (u s t : ℕ) → es ≡ later ++ at u s (closed (ReadOnly t)) ∷ earlier →
        (m : Move T) × (open_move earlier u s ≡ Some m) × (t ≡ m.snapshot) × ReadsOn (copy K es t) m.calls
    -- a take rules a clash exactly when the message's summary names a node of the session that was committed after its snapshot, and it
    -- gives the first such node, in the session's order
    pub exact : (p : Moment start es now) (more : List (Event T)) (u : ℕ) (ruling : Ruling) → p.later ≡ more ++ took u ruling ∷ [] →
        let stamp = (state_of p.then u).stamp in
        let message = next_message (share_of p.then u) in
        (((n : ℕ) × (ruling ≡ Decided (Clash n))) ↔ ((n : ℕ) × ContainsAt start.session.nodes n × IsClash es stamp message n))
        × ((n : ℕ) → ruling ≡ Decided (Clash n) →
        (i : ℕ) × (slice_get start.session.nodes i ≡ Some n) × IsClash es stamp message n
        × ((j m : ℕ) → j < i → slice_get start.session.nodes j ≡ Some m → IsClash es stamp message m → ⊥))
    -- a commit says "read" exactly of a move that wrote nothing, "clash" with the first node among its reads that was committed after its
    -- snapshot, as far as its suite has taken, and "sent" if there is none
    pub closes : (p : Moment start es now) (more : List (Event T)) (u s : ℕ) (answer : CommitAnswer) → p.later ≡ more ++ at u s (closed answer) ∷ [] →
        (m : Move T) × (open_move p.earlier u s ≡ Some m) × Closes es (state_of p.then u).stamp m answer
    -- a collect gives its suite's ruling on the latest agreed message that its slot sent, and every message that the slot sent is agreed then
    pub collected : (earlier later : List (Event T)) (u s : ℕ) (outcome : Outcome) → es ≡ later ++ at u s (collected outcome) ∷ earlier → Collects earlier u s outcome
    -- no call is stuck: whatever call comes next, the rules have an answer to it and leave something
    pub next : (call : Call T) → (e : Event T) × (call_of e ≡ call) × (after : World T) × Step S K now e after

  -- the law: suites have only the line in common, and every history is lawful
  pub record Law : Type 0 where
    pub isolation : Isolation
    pub lawful : (start : World T) → Made K start → (es : List (Event T)) (now : World T) → Run S K start es now → Lawful start es now
