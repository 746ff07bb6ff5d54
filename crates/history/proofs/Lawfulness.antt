-- Every history is lawful. This is the root of the proof. The way there:
--
-- A replica is a stamp and each node's newest version (Replicas). After k agreed moves it is the same wherever they are taken, its stamps
-- grow, and a node's version stays while its stamp does (ReplicaSteps, ReplicaLaws). A world fits the events before it if each suite is the
-- replica of as many moves as it has ruled on, each open move sees the replica of its snapshot, and the line carries the moves that counting
-- says it does (Fits). A session just made fits (Starting), and every accepted call leaves what fits: those at a slot (Changing, SlotSteps,
-- SlotCalls, WriteCalls, Sending), settle (Settling), take (Ruling, Applying, Taking). So all worlds of a history fit (Standing, Histories), and what
-- the law says is read off the replicas (Refusing, Clashing, Exactness, here). What a slot's state says of the moves that
-- it sent (Owing, SentMoves, OwingSteps) gives what a collect gives (Collecting). That suites have only the line in common is Isolating, and
-- that no call is stuck Stepping.
use Rattle.std.proofs.Common.{◌≡◌, ℕ, suc, ◌+◌, ◌-◌, ◌<◌, ◌≤◌, cond, List, [], ◌∷◌, ◌++◌, length, get_or, Some, sym, refl, ap, ◌∙◌, subst, arith, append_assoc}
use Rattle.std.proofs.ByRecursion.{All-get_or, All-weaker}
use Rattle.std.proofs.lemmas.Bool.{eq-eqb}
use Rattle.std.proofs.lemmas.List.{length_push}
use Rattle.std.specs.Prelude.{slice_get, option_map, unwrap_or}
use Rattle.std.specs.List.{ContainsAt}
use Rattle.history.proofs.Checking.{closes}
use Rattle.history.proofs.Exactness.{exact}
use Rattle.history.proofs.ContentLaws.{reads_carried}
use Rattle.history.proofs.Elements.{get_there}
use Rattle.history.proofs.Growing.{good_higher}
use Rattle.history.proofs.Fits.{settings, GoodMove}
use Rattle.history.proofs.Histories.{at_world, numbers_at, standing, stands, rep, copy_at, committed_is, committed_from, takes_by, get_agreed, same_replica, suite, stamp_at, newest_at}
use Rattle.history.proofs.Isolating.{isolation}
use Rattle.history.proofs.Joining.{run_split}
use Rattle.history.proofs.Collecting.{collect_gives}
use Rattle.history.proofs.Stepping.{next_step}
use Rattle.history.proofs.Refusing.{never_missing}
use Rattle.history.proofs.Closing.{closes_if}
use Rattle.history.proofs.ReplicaLaws.{serial_reads}
use Rattle.history.proofs.ReplicaSteps.{stamp_reached}
use Rattle.history.proofs.Replicas.{Replica, rules_on, replica, commit_stamp}
use Rattle.history.proofs.Ruling.{rules_if}
use Rattle.history.proofs.SlotCalls.{read_gives}
use Rattle.history.proofs.Standing.{Standing}
use Rattle.history.specs.Contents.{last_write, reads_of, writes_of}
use Rattle.history.specs.Copies.{copy, ReadsOn}
use Rattle.history.specs.Events.{read, closed, collected, Event, at, took, declined}
use Rattle.messages.specs.Returning.{Returned}
use Rattle.session.proofs.Reading.{given_back}
use Rattle.history.specs.Laws.{There, Collects, Moment, MessageOf, Lawful, Law, state_of, newest_of}
use Rattle.history.specs.Moves.{Move, open_move, agreed, rulings, takes, committed_position, committed_move}
use Rattle.history.specs.Runs.{Step, Run, Made}
use Rattle.history.specs.declared.call.Call.TheVariants.{Read}
use Rattle.session.specs.declared.suite_slot.SuiteSlot.{SuiteSlot}
use Rattle.lines.specs.Lines.{message_number}
use Rattle.refusals.specs.declared.Refusal.TheVariants.{NoVersion}
use Rattle.messages.specs.declared.fault.Fault.{Fault}
use Rattle.number_bytes.specs.Bytes.{Number}
use Rattle.session.proofs.KindLaws.{SettingLaws, SummaryLaws}
use Rattle.session.specs.States.{World}
use Rattle.session.specs.declared.ruling.CommitAnswer.TheVariants.{ReadOnly}
use Rattle.session.specs.declared.ruling.Outcome.{Outcome}
use Rattle.session.specs.declared.ruling.Outcome.TheVariants.{Commit}
use Rattle.session.specs.declared.ruling.Ruling.{Ruling}
use Rattle.session.specs.declared.ruling.Ruling.TheVariants.{Void, Decided}
use Rattle.settings.specs.Kinds.{SettingKind}
use Rattle.summaries.specs.Kinds.{SummaryKind}

module _ {T : Type 0} (S : SummaryKind) (K : SettingKind T) (of_S : SummaryLaws S) (of_K : SettingLaws K) (start : World T) (made : Made K start)
    (es : List (Event T)) (now : World T) (run : Run S K start es now) where
  abbrev N : List ℕ
  N = start.session.nodes

  abbrev U : ℕ
  U = length start.session.suites

  abbrev r : ℕ → Replica T
  r k = rep S K of_S of_K start made es now run k

  st : Standing S K N U es now
  st = stands S K of_S of_K start made es now run

  within : (u : ℕ) → There start u → takes es u ≤ length (agreed es)
  within u there = (st.fits.each u there).within

  copies_at : (v k n : ℕ) → There start v → k ≤ takes es v → copy K es (r k).stamp n ≡ settings (r k) n
  copies_at v k n there low = copy_at S K of_S of_K start made es now run v k n there low

  -- ---- the world in which an event happened

  module _ (e : Event T) (earlier later : List (Event T)) (split : es ≡ later ++ e ∷ earlier) where
    pub record Happened : Type 0 where
      pub then : World T
      pub after : World T
      pub before : Run S K start earlier then
      pub step : Step S K then e after

    happened : Happened
    happened =
        let (v, (w, before, step), after) = run_split S K start now (e ∷ earlier) later (subst (λ l. Run S K start l now) split run) in
        record { then = w; after = v; before = before; step = step }

    -- more had happened before than before the event
    past : es ≡ (later ++ e ∷ []) ++ earlier
    past = split ∙ sym (append_assoc later (e ∷ []) earlier)

    abbrev then : World T
    then = happened.then

    stood : Standing S K then.session.nodes U earlier then
    stood = at_world S K of_S of_K start made earlier then (standing S K of_S of_K start made earlier then happened.before)

    nodes_then : then.session.nodes ≡ N
    nodes_then = (standing S K of_S of_K start made earlier then happened.before).nodes

    -- what a replica was then
    replica_then : (k : ℕ) → k ≤ length (agreed earlier) → replica S K then.session.nodes (agreed earlier) k ≡ r k
    replica_then k low =
        ap (λ ns. replica S K ns (agreed earlier) k) nodes_then ∙ same_replica S K of_S of_K start made es now run (later ++ e ∷ []) earlier past k low

    -- the copy of the snapshot of a move that was open then
    copy_then : (m : Move T) (g : GoodMove S K then.session.nodes U (agreed earlier) (rulings earlier) (length (agreed earlier)) m) (n : ℕ) →
        copy K es m.snapshot n ≡ settings (replica S K then.session.nodes (agreed earlier) g.from) n
    copy_then m g n =
        let same = replica_then g.from g.below in
        let low = takes_by S K of_S of_K start made es now run (later ++ e ∷ []) earlier past g.taker in
        ap (λ t. copy K es t n) (g.snapshot ∙ ap (λ q. q.stamp) same)
        ∙ copies_at g.taker g.from n g.there (omega (arith, g.taken, low))
        ∙ ap (λ q. settings q n) (sym same)

  -- a suite's rulings are one more after a take
  one_more : (earlier : List (Event T)) (u : ℕ) (ruling : Ruling) → takes (took u ruling ∷ earlier) u ≡ takes earlier u + 1
  unfolding rulings
  one_more earlier u ruling =
      ap (λ b. length (cond b (rulings earlier u ++ ruling ∷ []) (rulings earlier u))) (eq-eqb u u refl) ∙ length_push (rulings earlier u) ruling

  -- ---- one promise after the other

  agree : (p q : Moment S K start es now) (u v : ℕ) → There start u → There start v → takes p.earlier u ≡ takes q.earlier v →
      ((state_of p.then u).stamp ≡ (state_of q.then v).stamp) × ((n : ℕ) → ContainsAt N n → newest_of p.then u n ≡ newest_of q.then v n)
  agree p q u v there there' same = (
    stamp_at S K of_S of_K start made es now run p.later p.earlier p.events p.then p.before u there
        ∙ ap (λ k. (r k).stamp) same
        ∙ sym (stamp_at S K of_S of_K start made es now run q.later q.earlier q.events q.then q.before v there'),
    λ n h.
        newest_at S K of_S of_K start made es now run p.later p.earlier p.events p.then p.before u there n h
        ∙ ap (λ k. Some ((r k).newest n)) same
        ∙ sym (newest_at S K of_S of_K start made es now run q.later q.earlier q.events q.then q.before v there' n h),
  )

  same_rulings : (u v k : ℕ) → There start u → There start v → k < takes es u → k < takes es v → slice_get (rulings es u) k ≡ slice_get (rulings es v) k
  same_rulings u v k there there' low low' =
      let found = get_there (agreed es) k (omega (arith, within u there)) in
      (st.fits.each u there).ruled_so k found.0 low found.1 ∙ sym ((st.fits.each v there').ruled_so k found.0 low' found.1)

  no_void : (earlier later : List (Event T)) (u : ℕ) (fault : Fault) → es ≡ later ++ took u (Void fault) ∷ earlier → ⊥
  no_void earlier later u fault split =
      let h = happened (took u (Void fault)) earlier later split in
      let s = stood (took u (Void fault)) earlier later split in
      let rules = rules_if S K of_S of_K U (agreed earlier) (rulings earlier) (open_move earlier) s.pending (committed_position earlier) h.then s.fits
      (numbers_at S K of_S of_K start made h.then (nodes_then (took u (Void fault)) earlier later split)) u (Void fault) h.step.answered in
      let void = rules.ruled in
      cc

  no_missing : (earlier later : List (Event T)) (slot : SuiteSlot) (n : ℕ) → es ≡ later ++ declined (Read slot n) NoVersion ∷ earlier → ⊥
  no_missing earlier later slot n split =
      let e = declined (Read slot n) NoVersion in
      let h = happened e earlier later split in
      let s = stood e earlier later split in
      never_missing S K U (agreed earlier) (rulings earlier) (open_move earlier) s.pending (committed_position earlier) h.then s.fits slot n h.step.answered

  reads : (earlier later : List (Event T)) (u s n : ℕ) (x : T) → es ≡ later ++ at u s (read n x) ∷ earlier →
      (m : Move T) × (open_move earlier u s ≡ Some m) × (x ≡ unwrap_or (last_write m.calls n) (copy K es m.snapshot n))
  reads earlier later u s n x split =
      let e = at u s (read n x) in
      let h = happened e earlier later split in
      let s' = stood e earlier later split in
      let gives = read_gives S K U (agreed earlier) (rulings earlier) (open_move earlier) s'.pending (committed_position earlier) h.then s'.fits u s n x h.step.answered in
      let m = gives.fit.move in
      let good = good_higher S K h.then.session.nodes U (agreed earlier) (rulings earlier) (length (rulings earlier u)) (length (agreed earlier)) m
      (s'.fits.each u gives.there).within gives.fit.good in
      (m, gives.fit.is, gives.gives ∙ ap (unwrap_or (last_write m.calls n)) (sym (copy_then e earlier later split m good n)))

  carried : (length now.line.agreed ≡ length (agreed es))
      × ((k : ℕ) (m : Move T) → slice_get (agreed es) k ≡ Some m → MessageOf S K U (message_number now.line (k + 1)) m)
  carried = (
    st.fits.line.agreed_long,
    λ k m e.
        let c = (st.fits.line.agreed_is k m e).0 in
        let place : k + 1 - 1 ≡ k = omega arith in
        let is = ap (λ i. get_or now.line.agreed i []) place ∙ c.is in
        record {
          suite_there = (c.fit.suite_there.0, c.there);
          slot_there = c.fit.slot_there;
          is = is;
          returns = subst (Returned S K _ (reads_of m.calls) (writes_of m.calls)) (sym is) (given_back S K of_S of_K c.fit made.numbers);
        },
  )

  one_move : (earlier later : List (Event T)) (u t : ℕ) → es ≡ later ++ took u (Decided (Commit t)) ∷ earlier →
      (1 ≤ t) × (committed_position es t ≡ Some (takes earlier u)) × (m : Move T) × (committed_move es t ≡ Some m)
  one_move earlier later u t split =
      let e = took u (Decided (Commit t)) in
      let h = happened e earlier later split in
      let s = stood e earlier later split in
      let rules = rules_if S K of_S of_K U (agreed earlier) (rulings earlier) (open_move earlier) s.pending (committed_position earlier) h.then s.fits
      (numbers_at S K of_S of_K start made h.then (nodes_then e earlier later split)) u (Decided (Commit t)) h.step.answered in
      let k = takes earlier u in
      let ruled : rules_on S K h.then.session.nodes (replica S K h.then.session.nodes (agreed earlier) k) rules.move ≡ Commit t = (let d = rules.ruled in cc) in
      let same = replica_then e earlier later split k (s.fits.each u rules.there).within in
      let ruled' : rules_on S K N (r k) rules.move ≡ Commit t =
      sym (ap (λ ns. rules_on S K ns (replica S K h.then.session.nodes (agreed earlier) k) rules.move) (nodes_then e earlier later split)
      ∙ ap (λ q. rules_on S K N q rules.move) same)
      ∙ ruled in
      let is = get_agreed S K of_S of_K start made es now run (later ++ e ∷ []) earlier (past e earlier later split) k rules.move rules.is in
      let low = takes_by S K of_S of_K start made es now run later (e ∷ earlier) split u in
      let both = committed_is S K of_S of_K start made es now run u k t rules.move rules.there (omega (arith, low, one_more earlier u (Decided (Commit t)))) is ruled' in
      let next = commit_stamp S K N (r k) rules.move t ruled' in
      (omega arith, both.0, rules.move, both.1)

  counted : (p : Moment S K start es now) (u : ℕ) → There start u → (state_of p.then u).taken ≡ takes p.earlier u
  counted p u there = (suite S K of_S of_K start made es now run p.later p.earlier p.events p.then p.before u there).taken

  stamps : (u t : ℕ) → There start u → 1 ≤ t → t ≤ (state_of now u).stamp → (m : Move T) × (committed_move es t ≡ Some m)
  stamps u t there low high =
      let suite = st.fits.each u there in
      let (j, below, m, is, commit) = stamp_reached S K N (agreed es) (takes es u) t low (omega (arith, suite.stamp)) in
      (m, (committed_is S K of_S of_K start made es now run u j t m there below is commit).1)

  serial : (t : ℕ) (m : Move T) → committed_move es (suc t) ≡ Some m → ReadsOn (copy K es t) m.calls
  serial t m h =
      let c = committed_from S K of_S of_K start made es now run (suc t) m h in
      let k = c.position in
      let good = (st.fits.line.agreed_is k m c.is).1 in
      let next = commit_stamp S K N (r k) m (suc t) c.ruled in
      let same : (r k).stamp ≡ t = omega arith in
      let numbers = All-weaker (ContainsAt N) Number (λ n there. numbered n there) (reads_of m.calls) good.known_reads in
      let on_replica = serial_reads S K N (agreed es) good.from k (suc t) m good.below c.ruled good.snapshot good.reads good.known_reads
      (λ n there. of_S.listed_are_named (reads_of m.calls) n good.few_reads numbers there) in
      reads_carried (settings (r k)) (copy K es t) m.calls on_replica
      (λ n there. sym (copies_at c.suite k n c.there (omega (arith, c.taken))) ∙ ap (λ x. copy K es x n) same)
    where
      numbered : (n : ℕ) → ContainsAt N n → Number n
      numbered n there = subst Number (there.2 n) (All-get_or Number N there.0 n there.1 made.numbers)

  copies : (p : Moment S K start es now) (u n : ℕ) → There start u → ContainsAt N n →
      option_map (λ place. place.setting) (newest_of p.then u n) ≡ Some (copy K es (state_of p.then u).stamp n)
  copies p u n there h =
      let k = takes p.earlier u in
      ap (option_map (λ place. place.setting)) (newest_at S K of_S of_K start made es now run p.later p.earlier p.events p.then p.before u there n h)
      ∙ ap Some (sym (copies_at u k n there (takes_by S K of_S of_K start made es now run p.later p.earlier p.events u)))
      ∙ ap (λ t. Some (copy K es t n)) (sym (stamp_at S K of_S of_K start made es now run p.later p.earlier p.events p.then p.before u there))

  read_only : (earlier later : List (Event T)) (u s t : ℕ) → es ≡ later ++ at u s (closed (ReadOnly t)) ∷ earlier →
      (m : Move T) × (open_move earlier u s ≡ Some m) × (t ≡ m.snapshot) × ReadsOn (copy K es t) m.calls
  read_only earlier later u s t split =
      let e = at u s (closed (ReadOnly t)) in
      let h = happened e earlier later split in
      let s' = stood e earlier later split in
      let only = closes_if S K U (agreed earlier) (rulings earlier) (open_move earlier) s'.pending (committed_position earlier) h.then s'.fits u s (ReadOnly t) h.step.answered in
      let same = only.fit.snapshot ∙ only.gives.1 in
      let m = only.fit.move in
      let good = good_higher S K h.then.session.nodes U (agreed earlier) (rulings earlier) (length (rulings earlier u)) (length (agreed earlier)) m
      (s'.fits.each u only.there).within only.fit.good in (
        m,
        only.fit.is,
        sym same,
        subst (λ x. ReadsOn (copy K es x) m.calls) same
            (reads_carried (settings (replica S K h.then.session.nodes (agreed earlier) good.from)) (copy K es m.snapshot) m.calls good.reads
            (λ n there. sym (copy_then e earlier later split m good n))),
      )

  gives : (earlier later : List (Event T)) (u s : ℕ) (outcome : Outcome) → es ≡ later ++ at u s (collected outcome) ∷ earlier → Collects earlier u s outcome
  gives earlier later u s outcome split =
      let h = happened (at u s (collected outcome)) earlier later split in
      collect_gives S K of_S of_K start made earlier h.then h.after h.before u s outcome h.step

  lawful : Lawful S K start es now
  lawful = record {
    agree = agree;
    same_rulings = same_rulings;
    no_void = no_void;
    no_missing = no_missing;
    reads = reads;
    carried = carried;
    counted = counted;
    one_move = one_move;
    stamps = stamps;
    serial = serial;
    copies = copies;
    read_only = read_only;
    exact = exact S K of_S of_K start made es now run;
    closes = closes S K of_S of_K start made es now run;
    collected = gives;
    next = next_step S K now (λ u there. omega (arith, (st.fits.each u (there.0, omega (arith, there.1, st.fits.suites))).four));
  }

pub law : {T : Type 0} (S : SummaryKind) (K : SettingKind T) → SummaryLaws S → SettingLaws K → Law S K
law S K of_S of_K = record {
  isolation = isolation S K;
  lawful = λ start made es now run. lawful S K of_S of_K start made es now run;
}
