-- What a commit answers at home says of the nodes that its move read.
use Rattle.std.proofs.Common.{◌≡◌, ℕ, ◌≤◌, Bool, true, false, List, [], ◌∷◌, ◌++◌, length, find, slice_get, Some, sym, refl, ap, ◌∙◌, subst, arith}
use Rattle.std.proofs.ByRecursion.{All-get_or}
use Rattle.std.proofs.lemmas.Bool.{ltb-true, lt-ltb}
use Rattle.std.proofs.lemmas.Option.{slice_get_within, get_or_from_slice_get}
use Rattle.std.specs.Prelude.{◌≢◌}
use Rattle.std.specs.List.{ContainsAt}
use Rattle.history.proofs.Clashing.{written_from, written_above}
use Rattle.history.proofs.Closing.{CommitGives, Closes as Closing, closes_if}
use Rattle.history.proofs.Histories.{rep, stood_at, nodes_at, next_event, takes_by, stamp_at, same_replica}
use Rattle.history.proofs.Replicas.{Replica, replica}
use Rattle.history.proofs.Ruling.{stamp_same}
use Rattle.history.proofs.Standing.{Standing}
use Rattle.history.specs.Contents.{reads_of, writes_of}
use Rattle.history.specs.Events.{closed, Event, at}
use Rattle.history.specs.Laws.{Moment, WrittenAfter, Closes, state_of}
use Rattle.history.specs.Moves.{Move, open_move, agreed, rulings, takes, committed_position}
use Rattle.history.specs.Runs.{Run, Made}
use Rattle.session.proofs.Finding.{Found, found_if, none_passes}
use Rattle.session.proofs.KindLaws.{SettingLaws, SummaryLaws}
use Rattle.session.specs.Commits.{is_newer}
use Rattle.session.specs.Shares.{share_of}
use Rattle.session.specs.States.{World}
use Rattle.session.specs.declared.ruling.CommitAnswer.{CommitAnswer}
use Rattle.session.specs.declared.ruling.CommitAnswer.TheVariants.{Sent, ReadOnly, Clash}
use Rattle.session.specs.Versions.{newest_stamp, versions_of}
use Rattle.settings.specs.Kinds.{SettingKind}
use Rattle.summaries.specs.Kinds.{SummaryKind}

some_writes : {X : Type 0} (ws : List X) → length ws ≢ 0 → ws ≢ []
some_writes ws some none = some (ap length none)

no_writes : {X : Type 0} (ws : List X) → length ws ≡ 0 → ws ≡ []
no_writes [] h = refl
no_writes (w ∷ ws) h = absurd (omega arith)

module _ {T : Type 0} (S : SummaryKind) (K : SettingKind T) (of_S : SummaryLaws S) (of_K : SettingLaws K) (start : World T) (made : Made K start)
    (es : List (Event T)) (now : World T) (run : Run S K start es now) (p : Moment S K start es now) (more : List (Event T)) (u s : ℕ) (answer : CommitAnswer)
    (next : p.later ≡ more ++ at u s (closed answer) ∷ []) where
  abbrev U : ℕ
  U = length start.session.suites

  abbrev nodes : List ℕ
  nodes = p.then.session.nodes

  abbrev k : ℕ
  k = takes p.earlier u

  abbrev stood : Standing S K nodes U p.earlier p.then
  stood = stood_at S K of_S of_K start made es now run p

  closing : Closing S K U (agreed p.earlier) (rulings p.earlier) (open_move p.earlier) stood.pending (committed_position p.earlier) p.then stood.fits u s answer
  closing =
      closes_if S K U (agreed p.earlier) (rulings p.earlier) (open_move p.earlier) stood.pending (committed_position p.earlier) p.then stood.fits u s answer
      (next_event S K of_S of_K start made es now run p (at u s (closed answer)) more next).1.answered

  abbrev m : Move T
  m = closing.fit.move

  abbrev r : Replica T
  r = rep S K of_S of_K start made es now run k

  stamp_is : (state_of p.then u).stamp ≡ r.stamp
  stamp_is = stamp_at S K of_S of_K start made es now run p.later p.earlier p.events p.then p.before u closing.there

  low : k ≤ takes es u
  low = takes_by S K of_S of_K start made es now run p.later p.earlier p.events u

  -- the newest stamp of a node is the replica's
  newest_is : (n : ℕ) → ContainsAt nodes n → newest_stamp (versions_of nodes (share_of p.then u).places n) ≡ (r.newest n).stamp
  newest_is n there =
      let suite = stood.fits.each u closing.there in
      stamp_same nodes (share_of p.then u).places (replica S K nodes (agreed p.earlier) k) suite.newest_is n there
      ∙ ap (λ ns. ((replica S K ns (agreed p.earlier) k).newest n).stamp) (nodes_at S K of_S of_K start made es now run p)
      ∙ ap (λ q. (q.newest n).stamp) (same_replica S K of_S of_K start made es now run p.later p.earlier p.events k suite.within)

  abbrev newer : ℕ → Bool
  newer n = is_newer nodes (share_of p.then u).places closing.t n

  after : (n : ℕ) → ContainsAt nodes n → newer n ≡ true → WrittenAfter es m.snapshot (state_of p.then u).stamp n
  after n there h =
      let above = ltb-true closing.t _ h in
      subst (λ t. WrittenAfter es m.snapshot t n) (sym stamp_is)
      (written_from S K of_S of_K start made es now run u k n m.snapshot closing.there low (omega (arith, closing.fit.snapshot, above, newest_is n there)))

  before : (n : ℕ) → ContainsAt nodes n → WrittenAfter es m.snapshot (state_of p.then u).stamp n → newer n ≡ true
  before n there w =
      let above = written_above S K of_S of_K start made es now run u k n m.snapshot closing.there low (subst (λ t. WrittenAfter es m.snapshot t n) stamp_is w) in
      lt-ltb closing.t _ (omega (arith, closing.fit.snapshot, above, newest_is n there))

  -- the nodes that the move read are the session's
  known : (i n : ℕ) → slice_get (reads_of m.calls) i ≡ Some n → ContainsAt nodes n
  known i n h =
      subst (ContainsAt nodes) (get_or_from_slice_get (reads_of m.calls) i n 0 h)
      (All-get_or (ContainsAt nodes) (reads_of m.calls) i 0 (slice_get_within (reads_of m.calls) i n h) closing.fit.good.known_reads)

  known_at : (n : ℕ) → ContainsAt (reads_of m.calls) n → ContainsAt nodes n
  known_at n c = subst (ContainsAt nodes) (c.2 0) (All-get_or (ContainsAt nodes) (reads_of m.calls) c.0 0 c.1 closing.fit.good.known_reads)

  pub closes : (m' : Move T) × (open_move p.earlier u s ≡ Some m') × Closes es (state_of p.then u).stamp m' answer
  closes = (m, closing.fit.is, by answer closing.gives)
    where
      never : (x : ℕ) → newer x ≡ true → newer x ≡ false → ⊥
      never x e d = cc

      found : (n : ℕ) → find newer closing.nodes ≡ Some n → Found newer (reads_of m.calls) n
      found n h = found_if newer (reads_of m.calls) n (ap (find newer) closing.fit.reads ∙ h)

      by : (a : CommitAnswer) → CommitGives a closing.t closing.written (find newer closing.nodes) → Closes es (state_of p.then u).stamp m a
      by (ReadOnly snapshot) (none, same) = (no_writes (writes_of m.calls) (closing.fit.count ∙ none), sym (closing.fit.snapshot ∙ same))
      by (Clash n) (some, first) =
          let f = found n first in (
            some_writes (writes_of m.calls) (λ none. some (sym closing.fit.count ∙ none)),
            f.place,
            f.is,
            after n (known f.place n f.is) f.passes,
            λ j x less is w. never x (before x (known j x is) w) (f.first j x less is),
          )
      by Sent (some, none) = (
        some_writes (writes_of m.calls) (λ z. some (sym closing.fit.count ∙ z)),
        λ n c w.
            let fails = All-get_or (λ x. newer x ≡ false) (reads_of m.calls) c.0 0 c.1
            (none_passes newer (reads_of m.calls) (ap (find newer) closing.fit.reads ∙ none)) in
            never n (before n (known_at n c) w) (ap newer (sym (c.2 0)) ∙ fails),
      )
