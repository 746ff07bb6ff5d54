-- Three rule sets that are the rules of a session in all but one clause, and break the law. Each gives a history that is not lawful, which
-- the rules therefore never give. Settings are colours, and the summary is the exact list.
--
--   Rules                   what a rule set answers to a call, and what an event leaves by it
--   the_rules               the rules of a session
--   StepBy                  an event that a rule set allows
--   RunBy                   events that it allows, one after the other
--   at_snapshot             a slot whose move has another snapshot
--   newest_answer           the answers, but a read gives the newest version
--   reads_newest            the rules, but with these answers
--   oldest                  the place with the lowest stamp
--   OldestLeaves            what an event leaves, but a commit overwrites the oldest versions
--   overwrites_oldest       the rules, but an event leaves this
--   never_clash             a ruling, but a commit in place of a clash
--   never_answer            the answers, but a take never rules a clash
--   never_rules             the rules, but with these answers
--   seen_too_early          a read gives what another move committed after the snapshot
--   changed                 a move changes a node
--   gone_too_early          a read finds no version
--   both_committed          two moves commit that cannot have been done one after the other
--   Breaks                  a rule set gives a history that is not lawful
--   WrongRulesBreakTheLaw   the three rule sets do
use Rattle.std.specs.Prelude.{◌≡◌, ℕ, ◌+◌, List, [], ◌∷◌, ◌++◌, flat_map, length, reverse, take, nat_le, Result, ◌↔◌}
use Rattle.std.specs.List.{range_with_len, list_all, position_or_len}
use Rattle.cases.specs.SessionCases.{start_of, two_suites, slot, commits, lifted, Case, crossing, landing}
use Rattle.history.specs.Events.{began, read, wrote, closed, collected, Event, at, settled, took, declined, call_of, answer_of}
use Rattle.history.specs.Laws.{Lawful}
use Rattle.history.specs.Runs.{answer, Leaves, Run, Made}
use Rattle.session.specs.Steps.{told}
use Rattle.history.specs.declared.call.Answer.{Answer}
use Rattle.history.specs.declared.call.Answer.TheVariants.{Setting, Taken}
use Rattle.history.specs.declared.call.Call.{Call}
use Rattle.history.specs.declared.call.Call.TheVariants.{Read, Take}
use Rattle.refusals.specs.declared.Refusal.{Refusal}
use Rattle.refusals.specs.declared.Refusal.TheVariants.{NoVersion}
use Rattle.session.specs.Shares.{Share, share_of, with_share, slot_of, check_suite, at_share, at_slot}
use Rattle.session.specs.Slots.{read_in}
use Rattle.session.specs.States.{SlotState, opened, World}
use Rattle.session.specs.Takes.{take_answer, take_leaves}
use Rattle.session.specs.Versions.{newest_stamp, versions_of}
use Rattle.session.specs.declared.place.Place.{Place}
use Rattle.session.specs.declared.ruling.CommitAnswer.TheVariants.{Sent}
use Rattle.session.specs.declared.ruling.Outcome.TheVariants.{Clash, Commit}
use Rattle.session.specs.declared.ruling.Ruling.{Ruling}
use Rattle.session.specs.declared.ruling.Ruling.TheVariants.{Decided}
use Rattle.settings.specs.Colours.{colours}
use Rattle.settings.specs.declared.colour.Colour.{Colour}
use Rattle.summaries.specs.ExactLists.{exact_list}

-- ---- rule sets

-- a rule set: what it answers to a call, and what an event leaves by it
pub record Rules : Type 1 where
  pub answers : World Colour → Call Colour → Result (Answer Colour) Refusal
  pub leaves : World Colour → Event Colour → World Colour → Type 0

-- the rules of a session
abbrev pub the_rules : Rules
the_rules = record { answers = answer exact_list colours; leaves = Leaves exact_list colours }

-- an event that a rule set allows: its call is answered so, and it leaves this
abbrev pub StepBy : Rules → World Colour → Event Colour → World Colour → Type 0
StepBy rules w e w' = (rules.answers w (call_of e) ≡ answer_of e) × rules.leaves w e w'

-- events that it allows, one after the other, the latest first
abbrev pub RunBy : Rules → World Colour → List (Event Colour) → World Colour → Type 0
RunBy rules start [] w = w ≡ start
RunBy rules start (e ∷ es) w = (v : World Colour) × RunBy rules start es v × StepBy rules v e w

-- ---- a read gives the newest version

-- a slot whose move, if one is open, has another snapshot
abbrev pub at_snapshot : ℕ → SlotState → SlotState
at_snapshot snapshot (opened old reads written) = opened snapshot reads written
at_snapshot snapshot state = state

-- the answers, but a read answers as if the snapshot of its move was the stamp of the node's newest version
abbrev pub newest_answer : World Colour → Call Colour → Result (Answer Colour) Refusal
newest_answer w (Read of_move n) = told Setting (at_slot w of_move.suite of_move.slot read_newest)
  where
    read_newest : Share Colour → Result Colour Refusal
    read_newest share =
        let nodes = w.session.nodes in
        read_in nodes share of_move.slot n (at_snapshot (newest_stamp (versions_of nodes share.places n)) (slot_of share of_move.slot))
newest_answer w call = answer exact_list colours w call

abbrev pub reads_newest : Rules
reads_newest = record the_rules { answers = newest_answer }

-- ---- a commit overwrites the oldest versions

-- the index of the place with the lowest stamp, the first of equals
abbrev pub oldest : List (Place Colour) → ℕ
oldest ps = position_or_len (λ p. list_all (λ q. nat_le p.stamp q.stamp) ps) ps

-- what an event leaves, but a commit overwrites the oldest version of each node that it writes, whether or not an open move would read it
abbrev pub OldestLeaves : World Colour → Event Colour → World Colour → Type 0
OldestLeaves w (took u ruling) w' =
    let nodes = w.session.nodes in
    let share = share_of w u in
    w' ≡ with_share w u (take_leaves exact_list colours nodes u (λ n. oldest (versions_of nodes share.places n)) ruling share)
OldestLeaves w e w' = Leaves exact_list colours w e w'

abbrev pub overwrites_oldest : Rules
overwrites_oldest = record the_rules { leaves = OldestLeaves }

-- ---- a take never rules a clash

-- a ruling of a suite with this stamp, but a commit under the next stamp in place of a clash
abbrev pub never_clash : ℕ → Ruling → Ruling
never_clash stamp (Decided (Clash n)) = Decided (Commit (stamp + 1))
never_clash stamp ruling = ruling

-- the answers, but a take commits every message that has no fault, under the suite's next stamp
abbrev pub never_answer : World Colour → Call Colour → Result (Answer Colour) Refusal
never_answer w (Take u) = told Taken (at_share (check_suite w u) w u take_commits)
  where
    take_commits : Share Colour → Result Ruling Refusal
    take_commits share =
        told (never_clash share.suite.stamp) (take_answer exact_list colours (length w.session.suites) w.session.nodes share)
never_answer w call = answer exact_list colours w call

abbrev pub never_rules : Rules
never_rules = record the_rules { answers = never_answer }

-- ---- the histories

-- a move of suite 1 commits at suite 2 while a move of suite 2 is open, and the open move reads what it wrote
abbrev pub seen_too_early : Case
seen_too_early = record { start = two_suites; events = at 2 1 (began 0) ∷ landing ++ at 2 1 (read 7 (lifted 1)) ∷ [] }

-- the move in slot 2 of suite 1 changes node 7 to the colour t + 1 0 0 under the next stamp
abbrev pub changed : ℕ → List (Event Colour)
changed t =
    at 1 2 (began t)
    ∷ at 1 2 (wrote 7 (lifted (t + 1)))
    ∷ at 1 2 (closed Sent)
    ∷ settled 1
    ∷ commits 1 (t + 1)
    ∷ at 1 2 (collected (Commit (t + 1)))
    ∷ []

-- while a move is open in slot 1, node 7 is changed five times, and the version that the open move would read is gone
abbrev pub gone_too_early : Case
gone_too_early = record {
  start = start_of 1 (7 ∷ []) 32;
  events = at 1 1 (began 0) ∷ flat_map changed (range_with_len 0 5) ++ declined (Read (slot 1 1) 7) NoVersion ∷ [];
}

-- of two moves, each of which writes what the other read, both commit, so that whichever came first, the other one read too early a version
abbrev pub both_committed : Case
both_committed = record { start = two_suites; events = take 10 crossing.events ++ commits 1 1 ∷ commits 1 2 ∷ [] }

-- ---- they break the law

-- the rule set gives a history that is not lawful
pub record Breaks (rules : Rules) (c : Case) : Type 0 where
  -- its session was just made over an empty line, as the law asks
  pub made : Made colours c.start
  -- the rule set answers every call as it is listed, and allows what it leaves
  pub given : (end : World Colour) × RunBy rules c.start (reverse c.events) end
  -- the law promises something else of these events, whatever world they lead to
  pub broken : (now : World Colour) → Lawful exact_list colours c.start (reverse c.events) now → ⊥
  -- so the rules of a session never give them
  pub never_given : (end : World Colour) → Run exact_list colours c.start (reverse c.events) end → ⊥

-- the three rule sets break the law
pub record WrongRulesBreakTheLaw : Type 0 where
  -- the runs by the rules of a session are its runs
  pub by_the_rules : (start : World Colour) (es : List (Event Colour)) (w : World Colour) → RunBy the_rules start es w ↔ Run exact_list colours start es w
  -- what is promised of reads (`reads` in the law) does not hold
  pub newest_read : Breaks reads_newest seen_too_early
  -- a read is refused for want of a version (`no_missing`)
  pub oldest_overwritten : Breaks overwrites_oldest gone_too_early
  -- a committed move, done alone after all lower stamps, reads something else (`serial`)
  pub never_ruled : Breaks never_rules both_committed
