-- In a history everything fits after every event, and the copy of a stamp is what the replicas of that stamp have.
use Rattle.std.proofs.Common.{◌≡◌, ℕ, ◌<◌, ◌≤◌, List, [], ◌∷◌, ◌++◌, length, Some, None, Option, sym, refl, ap, ◌∙◌, subst, arith}
use Rattle.std.specs.Prelude.{slice_get, option_map, option_and_then}
use Rattle.std.specs.List.{AllByRecursion, ContainsAt}
use Rattle.history.proofs.Elements.{get_more}
use Rattle.history.proofs.Fits.{settings, SuiteFits}
use Rattle.history.proofs.Joining.{run_split}
use Rattle.history.proofs.Prefixes.{agreed_more, takes_grow}
use Rattle.history.proofs.ReplicaLaws.{copy_is}
use Rattle.history.proofs.ReplicaSteps.{replica_more}
use Rattle.history.proofs.Replicas.{Replica, rules_on, replica}
use Rattle.history.proofs.Standing.{Standing, next_standing}
use Rattle.history.proofs.Starting.{start_standing}
use Rattle.history.specs.Copies.{copy}
use Rattle.history.specs.Events.{Event}
use Rattle.history.specs.Laws.{There, Moment, state_of, newest_of}
use Rattle.history.specs.Moves.{Move, open_move, agreed, rulings, takes, committed_position, committed_move}
use Rattle.history.specs.Runs.{Step, Run, Made}
use Rattle.number_bytes.specs.Bytes.{Number}
use Rattle.session.proofs.KindLaws.{SettingLaws, SummaryLaws}
use Rattle.session.specs.Shares.{share_of}
use Rattle.session.specs.States.{World}
use Rattle.session.specs.Versions.{newest, versions_of}
use Rattle.session.specs.declared.ruling.Outcome.TheVariants.{Commit}
use Rattle.settings.specs.Kinds.{SettingKind}
use Rattle.summaries.specs.Kinds.{SummaryKind}

module _ {T : Type 0} (S : SummaryKind) (K : SettingKind T) (of_S : SummaryLaws S) (of_K : SettingLaws K) (start : World T) (made : Made K start) where
  abbrev N : List ℕ
  N = start.session.nodes

  abbrev U : ℕ
  U = length start.session.suites

  -- the same, with the nodes that the world has itself
  pub at_world : (es : List (Event T)) (w : World T) → Standing S K N U es w → Standing S K w.session.nodes U es w
  at_world es w st = subst (λ n. Standing S K n U es w) (sym st.nodes) st

  pub numbers_at : (w : World T) → w.session.nodes ≡ N → AllByRecursion Number w.session.nodes
  numbers_at w same = subst (AllByRecursion Number) (sym same) made.numbers

  pub standing : (es : List (Event T)) (w : World T) → Run S K start es w → Standing S K N U es w
  standing [] w run = subst (Standing S K N U []) (sym run) (start_standing S K start made)
  standing (e ∷ es) w (v, run, step) =
      let before = standing es v run in
      subst (λ n. Standing S K n U (e ∷ es) w) before.nodes
      (next_standing S K of_S of_K U v (numbers_at v before.nodes) es (at_world es v before) e w step)

  module _ (es : List (Event T)) (now : World T) (run : Run S K start es now) where
    pub stands : Standing S K N U es now
    stands = standing es now run

    -- the replica after k of the agreed messages
    abbrev pub rep : ℕ → Replica T
    rep k = replica S K N (agreed es) k

    -- the copy of a stamp that a suite has reached
    pub copy_at : (v k n : ℕ) → There start v → k ≤ takes es v → copy K es (rep k).stamp n ≡ settings (rep k) n
    copy_at v k n there low =
        let within = (stands.fits.each v there).within in
        copy_is S K N es k (omega arith) (λ j m t below i r. stands.fits.commits v j t m there (omega arith) i r) n

    -- a message that was committed under a stamp
    pub committed_is : (v k t : ℕ) (m : Move T) → There start v → k < takes es v → slice_get (agreed es) k ≡ Some m → rules_on S K N (rep k) m ≡ Commit t →
        (committed_position es t ≡ Some k) × (committed_move es t ≡ Some m)
    committed_is v k t m there low i r =
        let at = stands.fits.commits v k t m there low i r in
        (at, ap (option_and_then (slice_get (agreed es))) at ∙ i)

    -- a move that was committed under a stamp, and where it is agreed
    pub record Committed (t : ℕ) (m : Move T) : Type 0 where
      pub position : ℕ
      pub suite : ℕ
      pub there : There start suite
      pub taken : position < takes es suite
      pub is : slice_get (agreed es) position ≡ Some m
      pub ruled : rules_on S K N (rep position) m ≡ Commit t

    pub committed_from : (t : ℕ) (m : Move T) → committed_move es t ≡ Some m → Committed t m
    committed_from t m h = by (committed_position es t) refl h
      where
        by : (o : Option ℕ) → committed_position es t ≡ o → option_and_then (slice_get (agreed es)) o ≡ Some m → Committed t m
        by None e h = cc
        by (Some k) e h =
            let found = stands.fits.committed t k e in
            let both : Some found.3 ≡ Some m = sym found.4 ∙ h in
            let same : found.3 ≡ m = cc in
            record {
              position = k;
              suite = found.0;
              there = found.1;
              taken = found.2;
              is = h;
              ruled = ap (rules_on S K N (rep k)) (sym same) ∙ found.5;
            }

    -- ---- an earlier moment

    module _ (later earlier : List (Event T)) (split : es ≡ later ++ earlier) where
      pub takes_by : (u : ℕ) → takes earlier u ≤ takes es u
      takes_by u = subst (λ l. takes earlier u ≤ takes l u) (sym split) (takes_grow u later earlier)

      pub get_agreed : (k : ℕ) (m : Move T) → slice_get (agreed earlier) k ≡ Some m → slice_get (agreed es) k ≡ Some m
      get_agreed k m h =
          let more = agreed_more later earlier in
          ap (λ l. slice_get (agreed l) k) split ∙ ap (λ l. slice_get l k) more.1 ∙ get_more (agreed earlier) more.0 k m h

      pub same_replica : (k : ℕ) → k ≤ length (agreed earlier) → replica S K N (agreed earlier) k ≡ rep k
      same_replica k low =
          let more = agreed_more later earlier in
          sym (ap (λ l. replica S K N (agreed l) k) split ∙ ap (λ l. replica S K N l k) more.1 ∙ replica_more S K N (agreed earlier) more.0 k low)

      module _ (then : World T) (before : Run S K start earlier then) (u : ℕ) (there : There start u) where
        abbrev pub suite : SuiteFits S K N U (agreed earlier) (rulings earlier) (rulings earlier u) (open_move earlier u) (share_of then u).suite (share_of then u).places (share_of then u).writes
        suite = (standing earlier then before).fits.each u there

        pub stamp_at : (state_of then u).stamp ≡ (rep (takes earlier u)).stamp
        stamp_at = suite.stamp ∙ ap (λ r. r.stamp) (same_replica (takes earlier u) suite.within)

        pub newest_at : (n : ℕ) → ContainsAt N n → newest_of then u n ≡ Some ((rep (takes earlier u)).newest n)
        newest_at n h =
            ap (λ ns. option_map (λ b. b.1) (newest (versions_of ns (share_of then u).places n))) (standing earlier then before).nodes
            ∙ suite.newest_is n h
            ∙ ap (λ r. Some (r.newest n)) (same_replica (takes earlier u) suite.within)

    -- ---- a moment

    module _ (p : Moment S K start es now) where
      pub stood_at : Standing S K p.then.session.nodes U p.earlier p.then
      stood_at = at_world p.earlier p.then (standing p.earlier p.then p.before)

      pub nodes_at : p.then.session.nodes ≡ N
      nodes_at = (standing p.earlier p.then p.before).nodes

      -- the event that comes next
      pub next_event : (e : Event T) (more : List (Event T)) → p.later ≡ more ++ e ∷ [] → (after : World T) × Step S K p.then e after
      next_event e more next =
          let (v, (w, same, step), rest) = run_split S K p.then now (e ∷ []) more (subst (λ l. Run S K p.then l now) next p.after) in
          (v, subst (λ x. Step S K x e v) same step)
