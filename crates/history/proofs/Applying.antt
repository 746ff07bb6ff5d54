-- What a take leaves of its suite: the suite is the next replica, and each open move still sees the replica of its snapshot, as no place that
-- it would read is overwritten.
use Rattle.std.proofs.Common.{◌≡◌, ℕ, suc, ◌+◌, ◌-◌, ◌*◌, ◌<◌, ◌≤◌, ◌⊎◌, inl, inr, Bool, true, false, cond, not, ◌&&◌, eqb, List, [], ◌∷◌, ◌++◌, length, get_or, is_some, Some, None, Option, sym, refl, ap, ◌∙◌, subst, add-one, arith}
use Rattle.std.proofs.ByRecursion.{All-weaker}
use Rattle.std.proofs.lemmas.Bool.{eqb-true, eqb-false, cases_lt}
use Rattle.std.proofs.lemmas.Option.{slice_get_within}
use Rattle.std.proofs.lemmas.List.{length_push}
use Rattle.std.specs.Prelude.{slice_get, ◌≢◌, option_map, find}
use Rattle.std.specs.List.{AllByRecursion, ContainsAt}
use Rattle.history.proofs.ContentLaws.{own_is_last, writes_different}
use Rattle.history.proofs.Elements.{get_more, get_last}
use Rattle.history.proofs.Fits.{OpenFits, SlotFits, SuiteFits, Fits}
use Rattle.history.proofs.Growing.{Grown, good_grown}
use Rattle.history.proofs.ReplicaSteps.{replica_next, stamps_grow}
use Rattle.history.proofs.Replicas.{Replica, newer_version, applied, rules_on, after_move, replica, commit_stamp}
use Rattle.history.proofs.Ruling.{Rules}
use Rattle.history.specs.Contents.{last_write, writes_of}
use Rattle.history.specs.Moves.{Move}
use Rattle.messages.specs.declared.parts.Write.{Write}
use Rattle.number_bytes.specs.Bytes.{Number}
use Rattle.session.proofs.KindLaws.{SettingLaws, SummaryLaws}
use Rattle.session.proofs.Outcomes.{length_with_outcome, outcome_at}
use Rattle.session.proofs.Placing.{length_versions, placed_version, versions_placed}
use Rattle.session.proofs.Reading.{writes_of_move}
use Rattle.session.proofs.Shares.{length_share_places}
use Rattle.session.proofs.Versions.{stamps_weaken, stamps_set, visible_kept, newest_set}
use Rattle.session.specs.Shares.{Share, share_of}
use Rattle.session.specs.Slots.{own_writes, own}
use Rattle.session.specs.States.{SlotState, idle, opened, sent, ruled as ruled_, World}
use Rattle.session.specs.Takes.{with_outcome, ruled_if_sent, decided_stamp, next_message, placed, is_at, would_read, Spare, writes_in, decided_places, Spares}
use Rattle.session.specs.Versions.{visible, newest, versions_of}
use Rattle.session.specs.declared.place.Place.{Place}
use Rattle.session.specs.declared.ruling.Outcome.{Outcome}
use Rattle.session.specs.declared.ruling.Outcome.TheVariants.{Clash, Commit}
use Rattle.session.specs.declared.ruling.Ruling.{Ruling}
use Rattle.session.specs.declared.ruling.Ruling.TheVariants.{Decided}
use Rattle.settings.specs.Kinds.{SettingKind}
use Rattle.summaries.specs.Kinds.{SummaryKind}

-- what holds of the nodes of all writes holds of a node that has one
own_all : {T : Type 0} (P : ℕ → Type 0) (ws : List (Write T)) (n : ℕ) (x : T) → own ws n ≡ Some x → AllByRecursion (λ w. P w.node) ws → P n
own_all P [] n x h all = cc
own_all {T} P (w ∷ ws) n x h all = by (eqb w.node n) refl h (λ e. own_all P ws n x e all.1)
  where
    by : (b : Bool) → eqb w.node n ≡ b → option_map (λ v. v.setting) (cond b (Some w) (find (λ v. eqb v.node n) ws)) ≡ Some x → (own ws n ≡ Some x → P n) → P n
    by true e h later = subst P (eqb-true w.node n e) all.0
    by false e h later = later h

module _ {T : Type 0} (S : SummaryKind) (K : SettingKind T) (of_S : SummaryLaws S) (of_K : SettingLaws K) (U : ℕ) (ms : List (Move T)) (rl : ℕ → List Ruling)
    (o : ℕ → ℕ → Option (Move T)) (pend : ℕ → List (Move T)) (ca : ℕ → Option ℕ)
    (w : World T) (f : Fits S K w.session.nodes U ms rl o pend ca w) (numbers : AllByRecursion Number w.session.nodes) (u : ℕ)
    (r : Ruling) (g : Rules S K of_S of_K U ms rl o pend ca w f numbers u r) (chosen : ℕ → ℕ) where
  abbrev N : List ℕ
  N = w.session.nodes

  abbrev share : Share T
  share = share_of w u

  abbrev k : ℕ
  k = length (rl u)

  abbrev q : Replica T
  q = replica S K N ms k

  abbrev ws : List (Write T)
  ws = writes_of g.move.calls

  pub here : (1 ≤ u) × (u ≤ length w.session.suites)
  here = (g.there.0, omega (arith, g.there.1, f.suites))

  pub long : length share.places ≡ length N * 5
  long = length_share_places w u f.sized here

  writes_there : writes_in S K (next_message share) ≡ ws
  writes_there = ap (writes_in S K) g.carries.is ∙ writes_of_move S K of_S of_K g.carries.fit numbers

  abbrev versions : ℕ → List (Place T)
  versions n = versions_of N share.places n

  -- a node's versions after a ruling
  abbrev versions_then : Outcome → ℕ → List (Place T)
  versions_then (Clash c) n = versions n
  versions_then (Commit t) n = placed_version t (chosen n) (own ws n) (versions n)

  -- the chosen places of the written nodes
  pub chosen_spare : (t : ℕ) → Spares S K N chosen (Decided (Commit t)) share → AllByRecursion (λ v. Spare N share v.node (chosen v.node)) ws
  chosen_spare t spares = subst (AllByRecursion (λ v. Spare N share v.node (chosen v.node))) writes_there spares

  versions_after : (out : Outcome) → Spares S K N chosen (Decided out) share → (n : ℕ) →
      versions_of N (decided_places S K out N chosen (next_message share) share.places) n ≡ versions_then out n
  versions_after (Clash c) spares n = refl
  versions_after (Commit t) spares n =
      let all = chosen_spare t spares in
      let small : AllByRecursion (λ v. chosen v.node < 5) ws = All-weaker (λ v. Spare N share v.node (chosen v.node)) (λ v. chosen v.node < 5) (λ v h. h.0) ws all in
      subst (λ xs. versions_of N (placed N chosen t share.places xs) n ≡ versions_then (Commit t) n) (sym writes_there)
      (versions_placed N chosen t share.places ws n long small (writes_different g.move.calls) g.carries.fit.known_writes)

  -- the next replica
  replica_after : (out : Outcome) → rules_on S K N q g.move ≡ out → replica S K N ms (suc k) ≡ applied out q ws
  unfolding after_move
  replica_after out e = replica_next S K N ms k g.move g.is ∙ ap (λ x. applied x q ws) e

  -- a commit's stamp is the suite's next
  stamp_next : (t : ℕ) → rules_on S K N q g.move ≡ Commit t → t ≡ share.suite.stamp + 1
  stamp_next t e = commit_stamp S K N q g.move t e ∙ ap (λ n. n + 1) (sym (f.each u g.there).stamp)

  newest_after : (out : Outcome) → rules_on S K N q g.move ≡ out → Spares S K N chosen (Decided out) share → (n : ℕ) → ContainsAt N n →
      option_map (λ b. b.1) (newest (versions_then out n)) ≡ Some ((applied out q ws).newest n)
  newest_after (Clash c) e spares n h = (f.each u g.there).newest_is n h
  newest_after (Commit t) e spares n h = by (own ws n) refl
    where
      by : (x : Option T) → own ws n ≡ x → option_map (λ b. b.1) (newest (placed_version t (chosen n) x (versions n))) ≡ Some (newer_version t x (q.newest n))
      by None i = (f.each u g.there).newest_is n h
      by (Some x) i =
          let spare = own_all (λ m. Spare N share m (chosen m)) ws n x i (chosen_spare t spares) in
          let next = stamp_next t e in
          let five = length_versions N share.places n h long in
          ap (option_map (λ b. b.1))
          (newest_set share.suite.stamp (versions n) (chosen n) (record { stamp = t; setting = x }) ((f.each u g.there).below n h) (omega arith) (omega (arith, spare.0)))

  below_after : (out : Outcome) → rules_on S K N q g.move ≡ out → (n : ℕ) → ContainsAt N n →
      AllByRecursion (λ p. p.stamp ≤ decided_stamp out share.suite.stamp) (versions_then out n)
  below_after (Clash c) e n h = (f.each u g.there).below n h
  below_after (Commit t) e n h = by (own ws n)
    where
      old : AllByRecursion (λ p. p.stamp ≤ t) (versions n)
      old = (let next = stamp_next t e in stamps_weaken share.suite.stamp t (versions n) ((f.each u g.there).below n h) (omega arith))

      by : (x : Option T) → AllByRecursion (λ p. p.stamp ≤ t) (placed_version t (chosen n) x (versions n))
      by None = old
      by (Some x) = stamps_set t (versions n) (chosen n) (record { stamp = t; setting = x }) old (omega arith)

  -- ---- an open slot

  module _ (s t₀ : ℕ) (slot : (1 ≤ s) × (s ≤ 4)) (nodes : List ℕ) (written : ℕ) (state : get_or share.suite.slots (s - 1) idle ≡ opened t₀ nodes written)
      (fit : OpenFits S K N U ms rl (rl u) share.places share.writes s t₀ nodes written (o u s)) where
    -- the version that it sees is not the one that is overwritten
    kept : (n x : ℕ) (v : ℕ × Place T) → Spare N share n x → last_write fit.move.calls n ≡ None → visible t₀ (versions n) ≡ Some v → v.0 ≢ x
    kept n x v spare none seen =
        let unread : (not (is_some (own (own_writes share s written) n)) && is_at x (visible t₀ (versions n))) ≡ false =
        subst (λ z. would_read N share n x s z ≡ false) state (spare.1 s slot) in
        let unwritten : own (own_writes share s written) n ≡ None = ap (λ l. own l n) fit.own ∙ own_is_last fit.move.calls n ∙ none in
        let test : eqb v.0 x ≡ false =
        sym (ap (λ z. not (is_some z) && is_at x (visible t₀ (versions n))) unwritten ∙ ap (is_at x) seen) ∙ unread in
        eqb-false v.0 x test

    low : t₀ ≤ share.suite.stamp
    low =
        let grow = stamps_grow S K N ms fit.good.from k fit.good.below in
        omega (arith, fit.snapshot, fit.good.snapshot, grow, (f.each u g.there).stamp)

    sees_after : (out : Outcome) → rules_on S K N q g.move ≡ out → Spares S K N chosen (Decided out) share → (n : ℕ) → ContainsAt N n →
        last_write fit.move.calls n ≡ None →
        option_map (λ b. b.1) (visible t₀ (versions_then out n)) ≡ Some ((replica S K N ms fit.good.from).newest n)
    sees_after (Clash c) e spares n h none = fit.sees n h none
    sees_after (Commit t) e spares n h none = by (own ws n) refl (visible t₀ (versions n)) refl
      where
        by : (x : Option T) → own ws n ≡ x → (v : Option (ℕ × Place T)) → visible t₀ (versions n) ≡ v →
            option_map (λ b. b.1) (visible t₀ (placed_version t (chosen n) x (versions n))) ≡ Some ((replica S K N ms fit.good.from).newest n)
        by None i v j = fit.sees n h none
        by (Some x) i None j = let clash = sym (ap (option_map (λ b. b.1)) j) ∙ fit.sees n h none in cc
        by (Some x) i (Some v) j =
            let spare = own_all (λ m. Spare N share m (chosen m)) ws n x i (chosen_spare t spares) in
            let next = stamp_next t e in
            let there = low in
            ap (option_map (λ b. b.1))
            (visible_kept t₀ (versions n) v.0 (chosen n) v.1 (record { stamp = t; setting = x }) j (kept n (chosen n) v spare none j) (omega arith))
            ∙ sym (ap (option_map (λ b. b.1)) j)
            ∙ fit.sees n h none

  -- ---- the suite

  -- the rulings of the suites then
  abbrev pub rulings_then : ℕ → List Ruling
  rulings_then v = cond (eqb u v) (rl v ++ r ∷ []) (rl v)

  more_rulings : (v : ℕ) → length (rl v) ≤ length (rulings_then v)
  more_rulings v = by (eqb u v)
    where
      by : (b : Bool) → length (rl v) ≤ length (cond b (rl v ++ r ∷ []) (rl v))
      by true = omega (arith, length_push (rl v) r)
      by false = omega arith

  pub grown : Grown S K N U ms rl ms rulings_then
  grown = record { longer = omega arith; same = λ j h. refl; get = λ j m low e. e; more = more_rulings }

  pub within : k < length ms
  within = slice_get_within ms k g.move g.is

  pub suite_after : (out : Outcome) → rules_on S K N q g.move ≡ out → (spares : Spares S K N chosen (Decided out) share) → (a b : ℕ) →
      SuiteFits S K N U ms rulings_then (rl u ++ r ∷ []) (o u)
      (record { stamp = decided_stamp out share.suite.stamp; taken = share.suite.taken + 1; slots = with_outcome u a b out share.suite.slots })
      (decided_places S K out N chosen (next_message share) share.places) share.writes
  suite_after out e spares a b =
      let suite = f.each u g.there in
      let more : length (rl u ++ r ∷ []) ≡ suc k = length_push (rl u) r ∙ add-one k in
      record {
        four = length_with_outcome u a b out share.suite.slots ∙ suite.four;
        taken = omega (arith, suite.taken, more);
        within = omega (arith, more, within);
        stamp = stamp_after out ∙ sym (ap (λ x. x.stamp) (replica_after out e)) ∙ ap (λ j. (replica S K N ms j).stamp) (sym more);
        newest_is = λ n h.
            ap (λ vs. option_map (λ b. b.1) (newest vs)) (versions_after out spares n)
            ∙ newest_after out e spares n h
            ∙ ap (λ x. Some (x.newest n)) (sym (replica_after out e))
            ∙ ap (λ j. Some ((replica S K N ms j).newest n)) (sym more);
        below = λ n h. subst (AllByRecursion (λ p. p.stamp ≤ decided_stamp out share.suite.stamp)) (sym (versions_after out spares n)) (below_after out e n h);
        slots = λ s h. slot s h (outcome_at u a b out share.suite.slots (s - 1));
        ruled_so = λ j m low i. ruled j m i (get_at j m i (omega (arith, more, low)));
      }
    where
      stamp_after : (out : Outcome) → decided_stamp out share.suite.stamp ≡ (applied out q ws).stamp
      stamp_after (Clash c) = (f.each u g.there).stamp
      stamp_after (Commit t) = refl

      get_at : (j : ℕ) (m : Move T) → slice_get ms j ≡ Some m → j ≤ k → (j < k) ⊎ (j ≡ k)
      get_at j m i h = by (cases_lt j k)
        where
          by : (j < k) ⊎ (k ≤ j) → (j < k) ⊎ (j ≡ k)
          by (inl l) = inl l
          by (inr l) = inr (omega arith)

      ruled : (j : ℕ) (m : Move T) → slice_get ms j ≡ Some m → (j < k) ⊎ (j ≡ k) →
          slice_get (rl u ++ r ∷ []) j ≡ Some (Decided (rules_on S K N (replica S K N ms j) m))
      ruled j m i (inl low) = get_more (rl u) (r ∷ []) j (Decided (rules_on S K N (replica S K N ms j) m)) ((f.each u g.there).ruled_so j m low i)
      ruled j m i (inr same) =
          let one : Some g.move ≡ Some m = sym g.is ∙ ap (slice_get ms) (sym same) ∙ i in
          let it : g.move ≡ m = cc in
          ap (slice_get (rl u ++ r ∷ [])) same
          ∙ get_last (rl u) r
          ∙ ap Some g.ruled
          ∙ ap (λ x. Some (Decided (rules_on S K N q x))) it
          ∙ ap (λ x. Some (Decided (rules_on S K N (replica S K N ms x) m))) (sym same)

      -- a slot with the state that it had
      as_before : (s : ℕ) (h : (1 ≤ s) × (s ≤ 4)) (state : SlotState) → get_or share.suite.slots (s - 1) idle ≡ state →
          SlotFits S K N U ms rl (rl u) share.places share.writes s state (o u s) →
          SlotFits S K N U ms rulings_then (rl u ++ r ∷ []) (decided_places S K out N chosen (next_message share) share.places) share.writes s state (o u s)
      as_before s h idle i fit = fit
      as_before s h (opened t nodes written) i fit = record {
        move = fit.move;
        is = fit.is;
        snapshot = fit.snapshot;
        reads = fit.reads;
        own = fit.own;
        count = fit.count;
        good = good_grown S K N U ms rl ms rulings_then grown k (length (rl u ++ r ∷ [])) fit.move (omega (arith, within)) (omega (arith, length_push (rl u) r)) fit.good;
        sees = λ n there none.
            ap (λ vs. option_map (λ b. b.1) (visible t vs)) (versions_after out spares n)
            ∙ sees_after s t h nodes written i fit out e spares n there none;
      }
      as_before s h sent i fit = fit
      as_before s h (ruled_ outcome) i fit = fit

      -- a slot that is ruled on, if it was sent
      when_sent : (s : ℕ) (state : SlotState) → SlotFits S K N U ms rulings_then (rl u ++ r ∷ []) (decided_places S K out N chosen (next_message share) share.places) share.writes s state (o u s) →
          SlotFits S K N U ms rulings_then (rl u ++ r ∷ []) (decided_places S K out N chosen (next_message share) share.places) share.writes s (ruled_if_sent out state) (o u s)
      when_sent s idle fit = fit
      when_sent s (opened t nodes written) fit = fit
      when_sent s sent fit = fit
      when_sent s (ruled_ outcome) fit = fit

      slot : (s : ℕ) → (1 ≤ s) × (s ≤ 4) →
          (get_or (with_outcome u a b out share.suite.slots) (s - 1) idle ≡ get_or share.suite.slots (s - 1) idle)
          ⊎ (get_or (with_outcome u a b out share.suite.slots) (s - 1) idle ≡ ruled_if_sent out (get_or share.suite.slots (s - 1) idle)) →
          SlotFits S K N U ms rulings_then (rl u ++ r ∷ []) (decided_places S K out N chosen (next_message share) share.places) share.writes s
          (get_or (with_outcome u a b out share.suite.slots) (s - 1) idle) (o u s)
      slot s h (inl same) =
          subst (λ z. SlotFits S K N U ms rulings_then (rl u ++ r ∷ []) (decided_places S K out N chosen (next_message share) share.places) share.writes s z (o u s)) (sym same)
          (as_before s h (get_or share.suite.slots (s - 1) idle) refl ((f.each u g.there).slots s h))
      slot s h (inr same) =
          subst (λ z. SlotFits S K N U ms rulings_then (rl u ++ r ∷ []) (decided_places S K out N chosen (next_message share) share.places) share.writes s z (o u s)) (sym same)
          (when_sent s (get_or share.suite.slots (s - 1) idle) (as_before s h (get_or share.suite.slots (s - 1) idle) refl ((f.each u g.there).slots s h)))
