-- After every event of a history everything fits what the events say.
use Rattle.std.proofs.Common.{◌&&◌, Some, None, Option, ◌≡◌, ℕ, suc, ◌<◌, Bool, true, false, cond, eqb, List, [], ◌∷◌, ◌++◌, length, take, drop, sym, refl, ap, ◌∙◌, subst, arith, append_assoc}
use Rattle.std.proofs.lemmas.Bool.{eqb-true}
use Rattle.std.proofs.lemmas.List.{length-append, length-take, append-nil, take-append-drop, drop_at}
use Rattle.std.specs.Prelude.{option_to_list}
use Rattle.std.specs.List.{AllByRecursion}
use Rattle.history.proofs.Fits.{Fits}
use Rattle.history.proofs.Ruling.{rules_if}
use Rattle.history.proofs.Sending.{Sends, sends_if, sent_fits, ended_fits}
use Rattle.history.proofs.WriteCalls.{wrote_fits}
use Rattle.history.proofs.Settling.{settled_fits}
use Rattle.history.proofs.SlotCalls.{began_fits, read_fits, abandoned_fits, collected_fits}
use Rattle.history.proofs.SlotSteps.{moves_then}
use Rattle.history.proofs.Taking.{took_fits}
use Rattle.history.specs.Events.{Did, began, read, wrote, closed, abandoned, collected, Event, at, settled, took, declined}
use Rattle.history.specs.Moves.{Move, with_call, continued, open_move, sends, sent_by, served, agreed, rulings, commits_as, committed_position}
use Rattle.history.specs.Runs.{Step}
use Rattle.lines.specs.Lines as line
use Rattle.number_bytes.specs.Bytes.{Number}
use Rattle.session.proofs.KindLaws.{SettingLaws, SummaryLaws}
use Rattle.session.specs.States.{World}
use Rattle.session.specs.declared.ruling.CommitAnswer.TheVariants.{Sent, ReadOnly, Clash as ClashAtHome}
use Rattle.session.specs.declared.ruling.Ruling.{Ruling}
use Rattle.settings.specs.Kinds.{SettingKind}
use Rattle.summaries.specs.Kinds.{SummaryKind}

-- a move that is open in a slot was made there
pub open_origin : {T : Type 0} (es : List (Event T)) (u s : ℕ) (m : Move T) → open_move es u s ≡ Some m → (m.suite ≡ u) × (m.slot ≡ s)
unfolding open_move
open_origin [] u s m h = cc
open_origin {T} (at v r did ∷ es) u s m h = by did (eqb v u) (eqb r s) refl refl (open_origin es u s) h
  where
    Before : Type 0
    Before = (n : Move T) → open_move es u s ≡ Some n → (n.suite ≡ u) × (n.slot ≡ s)

    -- a call leaves the suite and the slot of a move
    kept : (d : Did T) → Before → (o : Option (Move T)) → open_move es u s ≡ o → with_call d o ≡ Some m → (m.suite ≡ u) × (m.slot ≡ s)
    kept d before None e h = cc
    kept d before (Some n) e h =
        let same : record n { calls = d ∷ n.calls } ≡ m = cc in
        let from = before n e in
        (sym (ap (λ x. x.suite) same) ∙ from.0, sym (ap (λ x. x.slot) same) ∙ from.1)

    there : (d : Did T) → eqb v u ≡ true → eqb r s ≡ true → Before → continued v r d (open_move es u s) ≡ Some m → (m.suite ≡ u) × (m.slot ≡ s)
    there (began t) a b before h =
        let same : record { suite = v; slot = r; snapshot = t; calls = [] } ≡ m = cc in
        (sym (ap (λ x. x.suite) same) ∙ eqb-true v u a, sym (ap (λ x. x.slot) same) ∙ eqb-true r s b)
    there (read n x) a b before h = kept (read n x) before (open_move es u s) refl h
    there (wrote n x) a b before h = kept (wrote n x) before (open_move es u s) refl h
    there (closed answer) a b before h = cc
    there abandoned a b before h = cc
    there (collected outcome) a b before h = cc

    by : (d : Did T) (a b : Bool) → eqb v u ≡ a → eqb r s ≡ b → Before → cond (a && b) (continued v r d (open_move es u s)) (open_move es u s) ≡ Some m →
        (m.suite ≡ u) × (m.slot ≡ s)
    by d true true e i before h = there d e i before h
    by d true false e i before h = before m h
    by d false b e i before h = before m h
open_origin (settled v ∷ es) u s m h = open_origin es u s m h
open_origin (took v ruling ∷ es) u s m h = open_origin es u s m h
open_origin (declined call why ∷ es) u s m h = open_origin es u s m h

module _ {T : Type 0} (S : SummaryKind) (K : SettingKind T) (N : List ℕ) (U : ℕ) where
  -- the moves that a suite sent are those that are agreed and then those that wait
  pub record Standing (es : List (Event T)) (w : World T) : Type 0 where
    pub passed : ℕ → List (Move T)
    pub pending : ℕ → List (Move T)
    pub split : (u : ℕ) → sent_by es u ≡ passed u ++ pending u
    pub counted : (u : ℕ) → length (passed u) ≡ served es u
    pub nodes : w.session.nodes ≡ N
    pub fits : Fits S K N U (agreed es) (rulings es) (open_move es) pending (committed_position es) w

module _ {T : Type 0} (S : SummaryKind) (K : SettingKind T) (of_S : SummaryLaws S) (of_K : SettingLaws K) (U : ℕ) (w : World T) (numbers : AllByRecursion Number w.session.nodes)
    (es : List (Event T)) (st : Standing S K w.session.nodes U es w) where
  abbrev N : List ℕ
  N = w.session.nodes

  -- an accepted call at a slot that sends nothing
  quiet : (u s : ℕ) (d : Did T) → (sends d (open_move es u s) ≡ []) → (w' : World T) → w'.session.nodes ≡ N →
      Fits S K N U (agreed es) (rulings es) (moves_then (open_move es) u s d) st.pending (committed_position es) w' → Standing S K N U (at u s d ∷ es) w'
  unfolding open_move sent_by served agreed rulings committed_position
  quiet u s d none w' nodes fits = record {
    passed = st.passed;
    pending = st.pending;
    split = λ v. by v (eqb u v) ∙ st.split v;
    counted = st.counted;
    nodes = nodes;
    fits = fits;
  }
    where
      by : (v : ℕ) (b : Bool) → cond b (sent_by es v ++ sends d (open_move es u s)) (sent_by es v) ≡ sent_by es v
      by v true = ap (λ l. sent_by es v ++ l) none ∙ append-nil (sent_by es v)
      by v false = refl

  -- a commit that sends
  sent : (u s : ℕ) (w' : World T) → Step S K w (at u s (closed Sent)) w' →
      Sends S K U (agreed es) (rulings es) (open_move es) st.pending (committed_position es) w st.fits u s → Standing S K N U (at u s (closed Sent) ∷ es) w'
  unfolding open_move sent_by served agreed rulings committed_position
  sent u s w' step g = record {
    passed = st.passed;
    pending = λ v. cond (eqb u v) (st.pending v ++ g.fit.move ∷ []) (st.pending v);
    split = λ v. by v (eqb u v);
    counted = st.counted;
    nodes = ap (λ x. x.session.nodes) step.leaves;
    fits = subst (Fits S K N U (agreed es) (rulings es) (moves_then (open_move es) u s (closed Sent))
        (λ v. cond (eqb u v) (st.pending v ++ g.fit.move ∷ []) (st.pending v)) (committed_position es)) (sym step.leaves)
        (sent_fits S K U (agreed es) (rulings es) (open_move es) st.pending (committed_position es) w st.fits u s of_S of_K numbers (λ m e. open_origin es u s m e) g);
  }
    where
      by : (v : ℕ) (b : Bool) → cond b (sent_by es v ++ option_to_list (open_move es u s)) (sent_by es v) ≡ st.passed v ++ cond b (st.pending v ++ g.fit.move ∷ []) (st.pending v)
      by v true =
          ap (λ o. sent_by es v ++ option_to_list o) g.fit.is
          ∙ ap (λ l. l ++ g.fit.move ∷ []) (st.split v)
          ∙ append_assoc (st.passed v) (st.pending v) (g.fit.move ∷ [])
      by v false = st.split v

  slot_standing : (u s : ℕ) (d : Did T) (w' : World T) → Step S K w (at u s d) w' → Standing S K N U (at u s d ∷ es) w'
  slot_standing u s (began t) w' step =
      quiet u s (began t) refl w' (ap (λ x. x.session.nodes) step.leaves)
      (subst (Fits S K N U (agreed es) (rulings es) (moves_then (open_move es) u s (began t)) st.pending (committed_position es)) (sym step.leaves)
      (began_fits S K U (agreed es) (rulings es) (open_move es) st.pending (committed_position es) w st.fits u s t step.answered))
  slot_standing u s (read n x) w' step =
      quiet u s (read n x) refl w' (ap (λ x. x.session.nodes) step.leaves)
      (subst (Fits S K N U (agreed es) (rulings es) (moves_then (open_move es) u s (read n x)) st.pending (committed_position es)) (sym step.leaves)
      (read_fits S K U (agreed es) (rulings es) (open_move es) st.pending (committed_position es) w st.fits u s n x step.answered))
  slot_standing u s (wrote n x) w' step =
      quiet u s (wrote n x) refl w' (ap (λ x. x.session.nodes) step.leaves)
      (subst (Fits S K N U (agreed es) (rulings es) (moves_then (open_move es) u s (wrote n x)) st.pending (committed_position es)) (sym step.leaves)
      (wrote_fits S K U (agreed es) (rulings es) (open_move es) st.pending (committed_position es) w st.fits u s n x step.answered))
  slot_standing u s (closed Sent) w' step =
      sent u s w' step (sends_if S K U (agreed es) (rulings es) (open_move es) st.pending (committed_position es) w st.fits u s step.answered)
  slot_standing u s (closed (ReadOnly t)) w' step =
      quiet u s (closed (ReadOnly t)) refl w' (ap (λ x. x.session.nodes) step.leaves)
      (subst (Fits S K N U (agreed es) (rulings es) (moves_then (open_move es) u s (closed (ReadOnly t))) st.pending (committed_position es)) (sym step.leaves)
      (ended_fits S K U (agreed es) (rulings es) (open_move es) st.pending (committed_position es) w st.fits u s (ReadOnly t) (λ e. cc) step.answered))
  slot_standing u s (closed (ClashAtHome n)) w' step =
      quiet u s (closed (ClashAtHome n)) refl w' (ap (λ x. x.session.nodes) step.leaves)
      (subst (Fits S K N U (agreed es) (rulings es) (moves_then (open_move es) u s (closed (ClashAtHome n))) st.pending (committed_position es)) (sym step.leaves)
      (ended_fits S K U (agreed es) (rulings es) (open_move es) st.pending (committed_position es) w st.fits u s (ClashAtHome n) (λ e. cc) step.answered))
  slot_standing u s abandoned w' step =
      quiet u s abandoned refl w' (ap (λ x. x.session.nodes) step.leaves)
      (subst (Fits S K N U (agreed es) (rulings es) (moves_then (open_move es) u s abandoned) st.pending (committed_position es)) (sym step.leaves)
      (abandoned_fits S K U (agreed es) (rulings es) (open_move es) st.pending (committed_position es) w st.fits u s step.answered))
  slot_standing u s (collected outcome) w' step =
      quiet u s (collected outcome) refl w' (ap (λ x. x.session.nodes) step.leaves)
      (subst (Fits S K N U (agreed es) (rulings es) (moves_then (open_move es) u s (collected outcome)) st.pending (committed_position es)) (sym step.leaves)
      (collected_fits S K U (agreed es) (rulings es) (open_move es) st.pending (committed_position es) w st.fits u s outcome step.answered))

  settled_standing : (v : ℕ) (w' : World T) → Step S K w (settled v) w' → Standing S K N U (settled v ∷ es) w'
  unfolding open_move sent_by served agreed rulings committed_position
  settled_standing v w' step =
      let serves = step.leaves.0 in
      let is : w' ≡ record w { line = line.settled w.line v } = step.leaves.1 ∙ ap (λ l. record w { line = l }) serves.after_it in
      let waits = drop_at (st.passed v) (st.pending v) (served es v) (st.counted v) in
      let next : take 1 (drop (served es v) (sent_by es v)) ≡ take 1 (st.pending v) = ap (λ l. take 1 (drop (served es v) l)) (st.split v) ∙ ap (take 1) waits in
      record {
        passed = λ x. cond (eqb v x) (st.passed x ++ take 1 (st.pending x)) (st.passed x);
        pending = λ x. cond (eqb v x) (drop 1 (st.pending x)) (st.pending x);
        split = λ x. st.split x ∙ parts x (eqb v x);
        counted = λ x. count x (eqb v x) refl (omega (arith, st.fits.line.waiting_long v serves.a_suite, serves.waits));
        nodes = ap (λ x. x.session.nodes) is;
        fits = subst (Fits S K N U (agreed es ++ take 1 (drop (served es v) (sent_by es v))) (rulings es) (open_move es)
            (λ x. cond (eqb v x) (drop 1 (st.pending x)) (st.pending x)) (committed_position es)) (sym is)
            (subst (λ l. Fits S K N U (agreed es ++ l) (rulings es) (open_move es) (λ x. cond (eqb v x) (drop 1 (st.pending x)) (st.pending x)) (committed_position es)
            (record w { line = line.settled w.line v })) (sym next)
            (settled_fits S K U (agreed es) (rulings es) (open_move es) st.pending (committed_position es) w st.fits v serves.a_suite serves.waits));
      }
    where
      parts : (x : ℕ) (b : Bool) → st.passed x ++ st.pending x ≡ cond b (st.passed x ++ take 1 (st.pending x)) (st.passed x) ++ cond b (drop 1 (st.pending x)) (st.pending x)
      parts x true =
          sym (append_assoc (st.passed x) (take 1 (st.pending x)) (drop 1 (st.pending x)) ∙ ap (λ l. st.passed x ++ l) (take-append-drop 1 (st.pending x)))
      parts x false = refl

      count : (x : ℕ) (b : Bool) → eqb v x ≡ b → 0 < length (st.pending v) → length (cond b (st.passed x ++ take 1 (st.pending x)) (st.passed x)) ≡ cond b (suc (served es x)) (served es x)
      count x true e some =
          let same = eqb-true v x e in
          let here : 0 < length (st.pending x) = omega (arith, ap (λ y. length (st.pending y)) same, some) in
          let one = length-take 1 (st.pending x) in
          length-append (st.passed x) (take 1 (st.pending x)) ∙ omega (arith, one, here, st.counted x)
      count x false e some = st.counted x

  took_standing : (u : ℕ) (r : Ruling) (w' : World T) → Step S K w (took u r) w' → Standing S K N U (took u r ∷ es) w'
  unfolding open_move sent_by served agreed rulings committed_position
  took_standing u r w' step =
      let (chosen, spares, is) = step.leaves in
      let rules = rules_if S K of_S of_K U (agreed es) (rulings es) (open_move es) st.pending (committed_position es) w st.fits numbers u r step.answered in
      let fits = took_fits S K of_S of_K U (agreed es) (rulings es) (open_move es) st.pending (committed_position es) w st.fits numbers u r rules chosen spares in
      record {
        passed = st.passed;
        pending = st.pending;
        split = st.split;
        counted = st.counted;
        nodes = ap (λ x. x.session.nodes) is;
        fits = subst (Fits S K N U (agreed es) (λ v. cond (eqb u v) (rulings es v ++ r ∷ []) (rulings es v)) (open_move es) st.pending
            (λ t. commits_as t (length (rulings es u)) r (committed_position es t))) (sym is) fits;
      }

  pub next_standing : (e : Event T) (w' : World T) → Step S K w e w' → Standing S K N U (e ∷ es) w'
  unfolding open_move sent_by served agreed rulings committed_position
  next_standing (at u s d) w' step = slot_standing u s d w' step
  next_standing (settled v) w' step = settled_standing v w' step
  next_standing (took u r) w' step = took_standing u r w' step
  next_standing (declined call why) w' step = record {
    passed = st.passed;
    pending = st.pending;
    split = st.split;
    counted = st.counted;
    nodes = ap (λ x. x.session.nodes) step.leaves;
    fits = subst (Fits S K N U (agreed es) (rulings es) (open_move es) st.pending (committed_position es)) (sym step.leaves) st.fits;
  }
