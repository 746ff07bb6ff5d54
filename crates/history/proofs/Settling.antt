-- Settle: the first message that waits for the suite served is the next agreed one, and everything fits.
use Rattle.std.proofs.Common.{◌≡◌, ℕ, suc, ◌+◌, ◌<◌, ◌≤◌, ◌⊎◌, inl, inr, Bool, true, false, cond, eqb, List, [], ◌∷◌, ◌++◌, length, take, drop, get_or, Some, Option, sym, refl, ap, ◌∙◌, subst, arith}
use Rattle.std.proofs.lemmas.Bool.{eqb-true, eqb-false}
use Rattle.std.proofs.lemmas.List.{get_or_append_left, get_or_push, length_push}
use Rattle.std.specs.Prelude.{slice_get}
use Rattle.history.proofs.Elements.{get_more}
use Rattle.history.proofs.Fits.{GoodMove, Carries, LineFits, Fits}
use Rattle.history.proofs.Growing.{Grown, good_grown, suite_grown}
use Rattle.history.proofs.Replicas.{rules_on}
use Rattle.history.proofs.ReplicaSteps.{replica_more}
use Rattle.history.proofs.Elements.{get_push}
use Rattle.std.proofs.lemmas.Option.{slice_get_within}
use Rattle.history.specs.Moves.{Move}
use Rattle.lines.specs.Lines.{LineState, settled}
use Rattle.session.proofs.LineFacts.{held_settled, waiting_settled, waiting_settled_other}
use Rattle.session.specs.Shares.{share_of}
use Rattle.session.specs.States.{World}
use Rattle.session.specs.declared.ruling.Ruling.{Ruling}
use Rattle.settings.specs.Kinds.{SettingKind}
use Rattle.summaries.specs.Kinds.{SummaryKind}

module _ {T : Type 0} (S : SummaryKind) (K : SettingKind T) (U : ℕ) (ms : List (Move T)) (rl : ℕ → List Ruling) (o : ℕ → ℕ → Option (Move T)) (pend : ℕ → List (Move T)) (ca : ℕ → Option ℕ)
    (w : World T) (f : Fits S K w.session.nodes U ms rl o pend ca w) (v : ℕ) (there : (1 ≤ v) × (v ≤ 8)) where
  abbrev N : List ℕ
  N = w.session.nodes

  -- what waits after a settle that served suite v
  abbrev pub waiting_then : ℕ → List (Move T)
  waiting_then x = cond (eqb v x) (drop 1 (pend x)) (pend x)

  module _ (m : Move T) (rest : List (Move T)) (b : List ℕ) (bs : List (List ℕ)) (first : pend v ≡ m ∷ rest) (waits : w.line.waiting v ≡ b ∷ bs) where
    abbrev more : List (Move T)
    more = ms ++ m ∷ []

    grown : Grown S K N U ms rl more rl
    grown = record {
      longer = omega (arith, length_push ms m);
      same = λ k h. replica_more S K N ms (m ∷ []) k h;
      get = λ k m' low e. by k m' low (get_push ms m k m' e);
      more = λ u. omega arith;
    }
      where
        by : (k : ℕ) (m' : Move T) → k < length ms → (slice_get ms k ≡ Some m') ⊎ ((k ≡ length ms) × (m ≡ m')) → slice_get ms k ≡ Some m'
        by k m' low (inl e) = e
        by k m' low (inr e) = let same = e.0 in absurd (omega arith)

    some : 0 < length (w.line.waiting v)
    some = omega (arith, ap length waits)

    abbrev line : LineState
    line = settled w.line v

    agreed_then : line.agreed ≡ w.line.agreed ++ b ∷ []
    agreed_then = ap (λ l. w.line.agreed ++ take 1 l) waits

    line_fits : LineFits S K N U more rl waiting_then line
    line_fits = record {
      usable = f.line.usable;
      holds = omega (arith, held_settled w.line v there.0 there.1 some, f.line.holds);
      agreed_long = ap length agreed_then ∙ length_push w.line.agreed b ∙ ap (λ n. n + 1) f.line.agreed_long ∙ sym (length_push ms m);
      agreed_is = λ k m' e. subst (λ l. Carries S K N U (get_or l k []) m' × GoodMove S K N U more rl k m') (sym agreed_then) (agreed k m' (get_push ms m k m' e));
      waiting_long = λ x h. long x h (eqb v x) refl;
      waiting_is = λ x h k m' e. waiting x h k m' (eqb v x) refl e;
    }
      where
        agreed : (k : ℕ) (m' : Move T) → (slice_get ms k ≡ Some m') ⊎ ((k ≡ length ms) × (m ≡ m')) →
            Carries S K N U (get_or (w.line.agreed ++ b ∷ []) k []) m' × GoodMove S K N U more rl k m'
        agreed k m' (inl e) =
            let old = f.line.agreed_is k m' e in
            let inside = slice_get_within ms k m' e in
            let same = get_or_append_left w.line.agreed (b ∷ []) [] k (omega (arith, f.line.agreed_long)) in
            (subst (λ l. Carries S K N U l m') (sym same) old.0, good_grown S K N U ms rl more rl grown k k m' (omega arith) (omega arith) old.1)
        agreed k m' (inr e) =
            let old = f.line.waiting_is v there 0 m (ap (λ l. slice_get l 0) first) in
            let bytes : get_or (w.line.waiting v) 0 [] ≡ get_or (w.line.agreed ++ b ∷ []) k [] =
            ap (λ l. get_or l 0 []) waits ∙ sym (get_or_push w.line.agreed b [] k (f.line.agreed_long ∙ sym e.0)) in
            subst (λ z. Carries S K N U (get_or (w.line.agreed ++ b ∷ []) k []) z × GoodMove S K N U more rl k z) e.1 (
              subst (λ l. Carries S K N U l m) bytes old.0,
              good_grown S K N U ms rl more rl grown (length ms) k m (omega arith) (omega (arith, e.0)) old.1,
            )

        long : (x : ℕ) → (1 ≤ x) × (x ≤ 8) → (c : Bool) → eqb v x ≡ c → length (line.waiting x) ≡ length (cond c (drop 1 (pend x)) (pend x))
        long x h true e =
            subst (λ y. length (line.waiting y) ≡ length (drop 1 (pend y))) (eqb-true v x e)
            (ap length (waiting_settled w.line v)
            ∙ ap (λ l. length (drop 1 l)) waits
            ∙ (let same = f.line.waiting_long v there in
            let less : length bs ≡ length rest = omega (arith, same, ap length waits, ap length first) in
            less)
            ∙ ap (λ l. length (drop 1 l)) (sym first))
        long x h false e = ap length (waiting_settled_other w.line v x (λ z. eqb-false v x e (sym z))) ∙ f.line.waiting_long x h

        waiting : (x : ℕ) → (1 ≤ x) × (x ≤ 8) → (k : ℕ) (m' : Move T) → (c : Bool) → eqb v x ≡ c → slice_get (cond c (drop 1 (pend x)) (pend x)) k ≡ Some m' →
            Carries S K N U (get_or (line.waiting x) k []) m' × GoodMove S K N U more rl (length more) m'
        waiting x h k m' true e i =
            let here : slice_get (drop 1 (pend v)) k ≡ Some m' = ap (λ y. slice_get (drop 1 (pend y)) k) (eqb-true v x e) ∙ i in
            let next : slice_get (pend v) (suc k) ≡ Some m' = ap (λ l. slice_get l (suc k)) first ∙ sym (ap (λ l. slice_get (drop 1 l) k) first) ∙ here in
            let old = f.line.waiting_is v there (suc k) m' next in
            let bytes : get_or (w.line.waiting v) (suc k) [] ≡ get_or (line.waiting v) k [] =
            ap (λ l. get_or l (suc k) []) waits
            ∙ sym (ap (λ l. get_or (drop 1 l) k []) waits)
            ∙ ap (λ l. get_or l k []) (sym (waiting_settled w.line v)) in
            subst (λ y. Carries S K N U (get_or (line.waiting y) k []) m' × GoodMove S K N U more rl (length more) m') (eqb-true v x e) (
              subst (λ l. Carries S K N U l m') bytes old.0,
              good_grown S K N U ms rl more rl grown (length ms) (length more) m' (omega arith) (omega (arith, length_push ms m)) old.1,
            )
        waiting x h k m' false e i =
            let old = f.line.waiting_is x h k m' i in
            let bytes : get_or (w.line.waiting x) k [] ≡ get_or (line.waiting x) k [] =
            ap (λ l. get_or l k []) (sym (waiting_settled_other w.line v x (λ z. eqb-false v x e (sym z)))) in (
              subst (λ l. Carries S K N U l m') bytes old.0,
              good_grown S K N U ms rl more rl grown (length ms) (length more) m' (omega arith) (omega (arith, length_push ms m)) old.1,
            )

    settled_so : Fits S K N U more rl o waiting_then ca (record w { line = line })
    settled_so = record {
      suites = f.suites;
      few_suites = f.few_suites;
      sized = record { places = f.sized.places; writes = f.sized.writes };
      line = line_fits;
      each = λ u h. suite_grown S K N U ms rl more rl grown (rl u) (share_of w u).places (share_of w u).writes (f.each u h).within (o u) (share_of w u).suite (f.each u h);
      commits = λ u k t m' h low e r.
          let inside : k < length ms = omega (arith, low, (f.each u h).within) in
          f.commits u k t m' h low (grown.get k m' inside e) (ap (λ q. rules_on S K N q m') (sym (grown.same k (omega arith))) ∙ r);
      committed = λ t k e.
          let old = f.committed t k e in
          let inside : k < length ms = omega (arith, old.2, (f.each old.0 old.1).within) in
          (old.0, old.1, old.2, old.3, get_more ms (m ∷ []) k old.3 old.4, ap (λ q. rules_on S K N q old.3) (grown.same k (omega arith)) ∙ old.5);
    }

  -- the first that waits is agreed
  pub settled_fits : 0 < length (w.line.waiting v) → Fits S K N U (ms ++ take 1 (pend v)) rl o waiting_then ca (record w { line = settled w.line v })
  settled_fits some = by (pend v) (w.line.waiting v) refl refl
    where
      by : (p : List (Move T)) (q : List (List ℕ)) → pend v ≡ p → w.line.waiting v ≡ q → Fits S K N U (ms ++ take 1 (pend v)) rl o waiting_then ca (record w { line = settled w.line v })
      by [] q d e = absurd (omega (arith, f.line.waiting_long v there, ap length d, some))
      by (m ∷ rest) [] d e = absurd (omega (arith, ap length e, some))
      by (m ∷ rest) (b ∷ bs) d e =
          subst (λ l. Fits S K N U (ms ++ take 1 l) rl o waiting_then ca (record w { line = settled w.line v })) (sym d) (settled_so m rest b bs d e)
