-- Take: after one that is accepted everything fits.
use Rattle.std.proofs.Common.{◌≡◌, ℕ, suc, ◌*◌, ◌<◌, ◌≤◌, ◌⊎◌, inl, inr, Bool, true, false, cond, eqb, List, [], ◌∷◌, ◌++◌, length, Some, Option, sym, refl, ap, ◌∙◌, subst, arith}
use Rattle.std.proofs.lemmas.Bool.{eqb-true, eqb-false, eq-eqb, ne_eqb, cases_lt}
use Rattle.std.proofs.lemmas.Option.{slice_get_within}
use Rattle.std.proofs.lemmas.List.{length_push}
use Rattle.std.specs.Prelude.{slice_get, slice_index, ◌≢◌}
use Rattle.std.specs.List.{AllByRecursion}
use Rattle.history.proofs.Applying.{rulings_then, grown, suite_after, long, here}
use Rattle.history.proofs.Changing.{Suite}
use Rattle.history.proofs.Fits.{SuiteFits, LineFits, Fits}
use Rattle.history.proofs.Growing.{good_grown, suite_grown}
use Rattle.history.proofs.ReplicaLaws.{commit_once}
use Rattle.history.proofs.Replicas.{rules_on, replica}
use Rattle.history.proofs.Ruling.{Rules}
use Rattle.history.specs.Moves.{Move, commits_as}
use Rattle.number_bytes.specs.Bytes.{Number}
use Rattle.session.proofs.KindLaws.{SettingLaws, SummaryLaws}
use Rattle.session.proofs.Placing.{length_placed}
use Rattle.session.proofs.Shares.{length_share_writes, same_share, other_share, sized_with, suites_with}
use Rattle.session.specs.Shares.{Share, share_of, with_share}
use Rattle.session.specs.States.{World}
use Rattle.session.specs.Takes.{next_message, writes_in, decided_places, take_leaves, Spares}
use Rattle.session.specs.declared.ruling.Outcome.{Outcome}
use Rattle.session.specs.declared.ruling.Outcome.TheVariants.{Clash, Commit}
use Rattle.session.specs.declared.ruling.Ruling.{Ruling}
use Rattle.session.specs.declared.ruling.Ruling.TheVariants.{Decided}
use Rattle.settings.specs.Kinds.{SettingKind}
use Rattle.summaries.specs.Kinds.{SummaryKind}

module _ {T : Type 0} (S : SummaryKind) (K : SettingKind T) (of_S : SummaryLaws S) (of_K : SettingLaws K) (U : ℕ) (ms : List (Move T)) (rl : ℕ → List Ruling)
    (o : ℕ → ℕ → Option (Move T)) (pend : ℕ → List (Move T)) (ca : ℕ → Option ℕ)
    (w : World T) (f : Fits S K w.session.nodes U ms rl o pend ca w) (numbers : AllByRecursion Number w.session.nodes) (u : ℕ)
    (r : Ruling) (g : Rules S K of_S of_K U ms rl o pend ca w f numbers u r) (chosen : ℕ → ℕ) where
  abbrev N : List ℕ
  N = w.session.nodes

  abbrev share : Share T
  share = share_of w u

  abbrev k : ℕ
  k = length (rl u)

  abbrev rl' : ℕ → List Ruling
  rl' = rulings_then S K of_S of_K U ms rl o pend ca w f numbers u r g chosen

  -- which message was committed under a stamp then
  abbrev pub commits_then : ℕ → Option ℕ
  commits_then t = commits_as t k r (ca t)

  rulings_here : rl' u ≡ rl u ++ r ∷ []
  rulings_here = ap (λ b. cond b (rl u ++ r ∷ []) (rl u)) (eq-eqb u u refl)

  rulings_other : (v : ℕ) → v ≢ u → rl' v ≡ rl v
  rulings_other v d = ap (λ b. cond b (rl v ++ r ∷ []) (rl v)) (ne_eqb u v (λ e. d (sym e)))

  line_then : LineFits S K N U ms rl' pend w.line
  line_then =
      let g' = grown S K of_S of_K U ms rl o pend ca w f numbers u r g chosen in
      record {
        usable = f.line.usable;
        holds = f.line.holds;
        agreed_long = f.line.agreed_long;
        agreed_is = λ j m e.
            let old = f.line.agreed_is j m e in
            let below = slice_get_within ms j m e in
            (old.0, good_grown S K N U ms rl ms rl' g' j j m (omega arith) (omega arith) old.1);
        waiting_long = f.line.waiting_long;
        waiting_is = λ v h j m e.
            let old = f.line.waiting_is v h j m e in
            (old.0, good_grown S K N U ms rl ms rl' g' (length ms) (length ms) m (omega arith) (omega arith) old.1);
      }

  -- ---- which message was committed under a stamp

  commit_is : (j t : ℕ) (m : Move T) → slice_get ms j ≡ Some m → rules_on S K N (replica S K N ms j) m ≡ Commit t → (ca t ≡ Some j) ⊎ (j ≡ k) →
      (out : Outcome) → rules_on S K N (replica S K N ms k) g.move ≡ out → commits_as t k (Decided out) (ca t) ≡ Some j
  commit_is j t m i e (inl old) (Clash c) d = old
  commit_is j t m i e (inr same) (Clash c) d =
      let one : Some g.move ≡ Some m = sym g.is ∙ ap (slice_get ms) (sym same) ∙ i in
      let it : g.move ≡ m = cc in
      let clash : Commit t ≡ Clash c =
      sym e
      ∙ ap (λ x. rules_on S K N (replica S K N ms x) m) same
      ∙ ap (rules_on S K N (replica S K N ms k)) (sym it)
      ∙ d in
      cc
  commit_is j t m i e from (Commit t₁) d = by (eqb t₁ t) refl from
    where
      by : (b : Bool) → eqb t₁ t ≡ b → (ca t ≡ Some j) ⊎ (j ≡ k) → cond b (Some k) (ca t) ≡ Some j
      by true h from = ap Some (commit_once S K N ms k j t g.move m g.is (d ∙ ap Commit (eqb-true t₁ t h)) i e)
      by false h (inl old) = old
      by false h (inr same) =
          let one : Some g.move ≡ Some m = sym g.is ∙ ap (slice_get ms) (sym same) ∙ i in
          let it : g.move ≡ m = cc in
          let both : Commit t₁ ≡ Commit t =
          sym d
          ∙ ap (rules_on S K N (replica S K N ms k)) it
          ∙ ap (λ x. rules_on S K N (replica S K N ms x) m) (sym same)
          ∙ e in
          let equal : t₁ ≡ t = cc in
          absurd (eqb-false t₁ t h equal)

  abbrev Committed : ℕ → ℕ → Type 0
  Committed t j = (v : ℕ) × ((1 ≤ v) × (v ≤ U)) × (j < length (rl' v)) × (m : Move T) × (slice_get ms j ≡ Some m) × (rules_on S K N (replica S K N ms j) m ≡ Commit t)

  committed_is : (t j : ℕ) (out : Outcome) → rules_on S K N (replica S K N ms k) g.move ≡ out → commits_as t k (Decided out) (ca t) ≡ Some j → Committed t j
  committed_is t j out d e = by out d e
    where
      before : ca t ≡ Some j → Committed t j
      before e =
          let old = f.committed t j e in
          let more = (grown S K of_S of_K U ms rl o pend ca w f numbers u r g chosen).more old.0 in
          (old.0, old.1, omega (arith, old.2, more), old.3, old.4, old.5)

      by : (out : Outcome) → rules_on S K N (replica S K N ms k) g.move ≡ out → commits_as t k (Decided out) (ca t) ≡ Some j → Committed t j
      by (Clash c) d e = before e
      by (Commit t₁) d e = now (eqb t₁ t) refl e
        where
          now : (b : Bool) → eqb t₁ t ≡ b → cond b (Some k) (ca t) ≡ Some j → Committed t j
          now true h e =
              let same : k ≡ j = cc in (
                u,
                g.there,
                omega (arith, same, ap length rulings_here, length_push (rl u) r),
                g.move,
                ap (slice_get ms) (sym same) ∙ g.is,
                ap (λ x. rules_on S K N (replica S K N ms x) g.move) (sym same) ∙ d ∙ ap Commit (eqb-true t₁ t h),
              )
          now false h e = before e

  -- ---- the world

  taken_so : (out : Outcome) → rules_on S K N (replica S K N ms k) g.move ≡ out → r ≡ Decided out → Spares S K N chosen (Decided out) share →
      Fits S K N U ms rl' o pend commits_then (with_share w u (take_leaves S K N u chosen (Decided out) share))
  taken_so out e is spares =
      let h = here S K of_S of_K U ms rl o pend ca w f numbers u r g chosen in
      let sh = take_leaves S K N u chosen (Decided out) share in
      let wide = places_long out spares in
      let writes = length_share_writes w u f.sized h in
      record {
        suites = suites_with w u sh ∙ f.suites;
        few_suites = f.few_suites;
        sized = sized_with w u f.sized h sh wide writes;
        line = line_then;
        each = λ v there. by v there (eqb u v) refl;
        commits = λ v j t m there low i d.
            ap (λ x. commits_as t k x (ca t)) is ∙ commit_is j t m i d (from v j t m there low i d (eqb u v) refl) out e;
        committed = λ t j i. committed_is t j out e (ap (λ x. commits_as t k x (ca t)) (sym is) ∙ i);
      }
    where
      places_long : (out : Outcome) → Spares S K N chosen (Decided out) share → length (decided_places S K out N chosen (next_message share) share.places) ≡ length N * 5
      places_long (Clash c) spares = long S K of_S of_K U ms rl o pend ca w f numbers u r g chosen
      places_long (Commit t) spares =
          let wide = long S K of_S of_K U ms rl o pend ca w f numbers u r g chosen in
          length_placed N chosen t share.places (writes_in S K (next_message share)) ∙ wide

      from : (v j t : ℕ) (m : Move T) → (1 ≤ v) × (v ≤ U) → j < length (rl' v) → slice_get ms j ≡ Some m → rules_on S K N (replica S K N ms j) m ≡ Commit t →
          (b : Bool) → eqb u v ≡ b → (ca t ≡ Some j) ⊎ (j ≡ k)
      from v j t m there low i d true e =
          let same : v ≡ u = sym (eqb-true u v e) in
          let less : j < suc k = omega (arith, low, ap (λ x. length (rl' x)) same, ap length rulings_here, length_push (rl u) r) in
          earlier less (cases_lt j k)
        where
          earlier : j < suc k → (j < k) ⊎ (k ≤ j) → (ca t ≡ Some j) ⊎ (j ≡ k)
          earlier less (inl h) = inl (f.commits u j t m g.there h i d)
          earlier less (inr h) = inr (omega arith)
      from v j t m there low i d false e =
          let less : j < length (rl v) = omega (arith, low, ap length (rulings_other v (λ z. eqb-false u v e (sym z)))) in
          inl (f.commits v j t m there less i d)

      by : (v : ℕ) → (1 ≤ v) × (v ≤ U) → (b : Bool) → eqb u v ≡ b →
          Suite S K N U ms rl' v (o v) (share_of (with_share w u (take_leaves S K N u chosen (Decided out) share)) v)
      by v there true same =
          let h = here S K of_S of_K U ms rl o pend ca w f numbers u r g chosen in
          let sh = take_leaves S K N u chosen (Decided out) share in
          let writes = length_share_writes w u f.sized h in
          subst (λ x. Suite S K N U ms rl' x (o x) (share_of (with_share w u sh) x)) (eqb-true u v same)
          (subst (Suite S K N U ms rl' u (o u)) (sym (same_share w u f.sized h sh (places_long out spares) writes))
          (subst (λ l. SuiteFits S K N U ms rl' l (o u) sh.suite sh.places sh.writes) (sym rulings_here)
          (suite_after S K of_S of_K U ms rl o pend ca w f numbers u r g chosen out e spares (slice_index (next_message share) 3) (slice_index (next_message share) 4))))
      by v there false same =
          let h = here S K of_S of_K U ms rl o pend ca w f numbers u r g chosen in
          let sh = take_leaves S K N u chosen (Decided out) share in
          let writes = length_share_writes w u f.sized h in
          let d : u ≢ v = eqb-false u v same in
          let there_v : (1 ≤ v) × (v ≤ length w.session.suites) = (there.0, omega (arith, there.1, f.suites)) in
          subst (Suite S K N U ms rl' v (o v)) (sym (other_share w u f.sized h sh (places_long out spares) writes v there_v d))
          (subst (λ l. SuiteFits S K N U ms rl' l (o v) (share_of w v).suite (share_of w v).places (share_of w v).writes) (sym (rulings_other v (λ z. d (sym z))))
          (suite_grown S K N U ms rl ms rl' (grown S K of_S of_K U ms rl o pend ca w f numbers u r g chosen) (rl v) (share_of w v).places (share_of w v).writes
          (f.each v there).within (o v) (share_of w v).suite (f.each v there)))

  pub took_fits : Spares S K N chosen r share → Fits S K N U ms rl' o pend commits_then (with_share w u (take_leaves S K N u chosen r share))
  took_fits spares =
      subst (λ z. Spares S K N chosen z share → Fits S K N U ms rl' o pend commits_then (with_share w u (take_leaves S K N u chosen z share))) (sym g.ruled)
      (taken_so (rules_on S K N (replica S K N ms k) g.move) refl g.ruled) spares
