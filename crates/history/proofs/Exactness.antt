-- A take rules a clash exactly if the message's summary names a node that was committed after its snapshot, and gives the first such node.
use Rattle.std.proofs.Common.{◌≡◌, ℕ, ◌<◌, ◌≤◌, Bool, true, false, ltb, List, [], ◌∷◌, ◌++◌, length, Some, sym, ap, ◌∙◌, subst}
use Rattle.std.proofs.lemmas.Bool.{ltb-true, lt-ltb, and_parts, and_from}
use Rattle.std.proofs.lemmas.Option.{slice_get_within, get_or_from_slice_get}
use Rattle.std.specs.Prelude.{slice_get, ◌↔◌}
use Rattle.std.specs.List.{AllByRecursion, ContainsAt}
use Rattle.history.proofs.Clashing.{test, clash_is, clash_from, written_from, written_above}
use Rattle.session.proofs.Finding.{Found}
use Rattle.history.proofs.Histories.{stood_at, nodes_at, next_event, numbers_at, rep, takes_by, same_replica, stamp_at}
use Rattle.history.proofs.Replicas.{Replica, rules_on, replica}
use Rattle.history.proofs.Ruling.{Rules, rules_if}
use Rattle.history.proofs.Standing.{Standing}
use Rattle.history.specs.Contents.{reads_of}
use Rattle.history.specs.Events.{Event, took}
use Rattle.history.specs.Laws.{Moment, WrittenAfter, IsClash, state_of}
use Rattle.history.specs.Moves.{Move, open_move, agreed, rulings, takes, committed_position}
use Rattle.history.specs.Runs.{Run, Made}
use Rattle.messages.specs.Reading.{header_in, summary_in}
use Rattle.number_bytes.specs.Bytes.{Number}
use Rattle.session.proofs.KindLaws.{SettingLaws, SummaryLaws}
use Rattle.session.proofs.Reading.{header_of_move, summary_of_move}
use Rattle.session.specs.Shares.{share_of}
use Rattle.session.specs.States.{World}
use Rattle.session.specs.Takes.{next_message}
use Rattle.session.specs.declared.ruling.Outcome.TheVariants.{Clash}
use Rattle.session.specs.declared.ruling.Ruling.{Ruling}
use Rattle.session.specs.declared.ruling.Ruling.TheVariants.{Decided}
use Rattle.settings.specs.Kinds.{SettingKind}
use Rattle.summaries.specs.Kinds.{SummaryKind}

module _ {T : Type 0} (S : SummaryKind) (K : SettingKind T) (of_S : SummaryLaws S) (of_K : SettingLaws K) (start : World T) (made : Made K start)
    (es : List (Event T)) (now : World T) (run : Run S K start es now) where
  abbrev N : List ℕ
  N = start.session.nodes

  abbrev U : ℕ
  U = length start.session.suites

  abbrev r : ℕ → Replica T
  r k = rep S K of_S of_K start made es now run k

  module _ (p : Moment S K start es now) (more : List (Event T)) (u : ℕ) (ruling : Ruling) (next : p.later ≡ more ++ took u ruling ∷ []) where
    abbrev stamp : ℕ
    stamp = (state_of p.then u).stamp

    abbrev message : List ℕ
    message = next_message (share_of p.then u)

    abbrev stood_then : Standing S K p.then.session.nodes U p.earlier p.then
    stood_then = stood_at S K of_S of_K start made es now run p

    abbrev same_nodes : p.then.session.nodes ≡ N
    same_nodes = nodes_at S K of_S of_K start made es now run p

    abbrev numbers_then : AllByRecursion Number p.then.session.nodes
    numbers_then = numbers_at S K of_S of_K start made p.then same_nodes

    rules : Rules S K of_S of_K U (agreed p.earlier) (rulings p.earlier) (open_move p.earlier) stood_then.pending (committed_position p.earlier) p.then stood_then.fits numbers_then u ruling
    rules = rules_if S K of_S of_K U (agreed p.earlier) (rulings p.earlier) (open_move p.earlier) stood_then.pending (committed_position p.earlier) p.then stood_then.fits numbers_then u ruling (next_event S K of_S of_K start made es now run p (took u ruling) more next).1.answered

    abbrev m : Move T
    m = rules.move

    abbrev k : ℕ
    k = takes p.earlier u

    ruled : ruling ≡ Decided (rules_on S K N (r k) m)
    ruled =
        rules.ruled
        ∙ ap (λ ns. Decided (rules_on S K ns (replica S K p.then.session.nodes (agreed p.earlier) k) m)) same_nodes
        ∙ ap (λ ns. Decided (rules_on S K N (replica S K ns (agreed p.earlier) k) m)) same_nodes
        ∙ ap (λ q. Decided (rules_on S K N q m))
        (same_replica S K of_S of_K start made es now run p.later p.earlier p.events k (stood_then.fits.each u rules.there).within)

    stamp_is : stamp ≡ (r k).stamp
    stamp_is = stamp_at S K of_S of_K start made es now run p.later p.earlier p.events p.then p.before u rules.there

    low : k ≤ takes es u
    low = takes_by S K of_S of_K start made es now run p.later p.earlier p.events u

    snapshot_is : (header_in message).origin.snapshot ≡ m.snapshot
    snapshot_is =
        ap (λ b. (header_in b).origin.snapshot) rules.carries.is
        ∙ ap (λ h. h.origin.snapshot) (header_of_move S K of_S of_K rules.carries.fit numbers_then)

    summary_is : summary_in S.wide message ≡ S.packed (reads_of m.calls)
    summary_is = ap (summary_in S.wide) rules.carries.is ∙ summary_of_move S K of_S of_K rules.carries.fit numbers_then

    -- a node makes the message a clash exactly if it passes the replica's test
    passes_if : (n : ℕ) → IsClash S K es stamp message n → test S K of_S of_K start made es now run (r k) m n ≡ true
    passes_if n (named, after) =
        let above = written_above S K of_S of_K start made es now run u k n m.snapshot rules.there low
        (subst (λ t. WrittenAfter es m.snapshot t n) stamp_is (subst (λ t. WrittenAfter es t stamp n) snapshot_is after)) in
        and_from (ltb m.snapshot ((r k).newest n).stamp) (S.names (S.packed (reads_of m.calls)) n) (lt-ltb m.snapshot ((r k).newest n).stamp above)
        (ap (λ b. S.names b n) (sym summary_is) ∙ named)

    if_passes : (n : ℕ) → test S K of_S of_K start made es now run (r k) m n ≡ true → IsClash S K es stamp message n
    if_passes n h =
        let parts = and_parts (ltb m.snapshot ((r k).newest n).stamp) (S.names (S.packed (reads_of m.calls)) n) h in
        let above = ltb-true m.snapshot ((r k).newest n).stamp parts.0 in (
          ap (λ b. S.names b n) summary_is ∙ parts.1,
          subst (λ t. WrittenAfter es t stamp n) (sym snapshot_is)
              (subst (λ t. WrittenAfter es m.snapshot t n) (sym stamp_is)
              (written_from S K of_S of_K start made es now run u k n m.snapshot rules.there low above)),
        )

    found : (n : ℕ) → ruling ≡ Decided (Clash n) → Found (test S K of_S of_K start made es now run (r k) m) N n
    found n h =
        let clash : rules_on S K N (r k) m ≡ Clash n = (let both = sym ruled ∙ h in cc) in
        clash_is S K of_S of_K start made es now run (r k) m n clash

    pub exact : (((n : ℕ) × (ruling ≡ Decided (Clash n))) ↔ ((n : ℕ) × ContainsAt N n × IsClash S K es stamp message n))
        × ((n : ℕ) → ruling ≡ Decided (Clash n) →
        (i : ℕ) × (slice_get N i ≡ Some n) × IsClash S K es stamp message n × ((j x : ℕ) → j < i → slice_get N j ≡ Some x → IsClash S K es stamp message x → ⊥))
    exact = (
      (
        λ (n, h). let f = found n h in (n, contained N f.place n f.is, if_passes n f.passes),
        λ (n, there, clash).
            let c = clash_from S K of_S of_K start made es now run (r k) m n there (passes_if n clash) in
            (c.0, ruled ∙ ap Decided c.1),
      ),
      λ n h. let f = found n h in (f.place, f.is, if_passes n f.passes, λ j x before is clash. never (passes_if x clash) (f.first j x before is)),
    )
      where
        never : {b : Bool} → b ≡ true → b ≡ false → ⊥
        never e d = cc

        contained : (xs : List ℕ) (i x : ℕ) → slice_get xs i ≡ Some x → ContainsAt xs x
        contained xs i x h = (i, slice_get_within xs i x h, λ d. get_or_from_slice_get xs i x d h)
