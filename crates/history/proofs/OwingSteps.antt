-- After every event each slot's state says what its moves are (Owing), if it did before.
use Rattle.std.proofs.Common.{◌≡◌, ℕ, suc, ◌+◌, ◌-◌, ◌≤◌, ◌≢◌, ◌⊎◌, inl, inr, ◌&&◌, eqb, Bool, true, false, cond, max, List, [], ◌∷◌, ◌++◌, length, get_or, set, slice_index, count_by, Ok, sym, refl, ap, ◌∙◌, subst, arith}
use Rattle.std.proofs.lemmas.Bool.{eqb-true, eqb-false}
use Rattle.std.proofs.lemmas.List.{get_or-set_same, get_or-set_other}
use Rattle.std.specs.List.{AllByRecursion}
use Rattle.history.proofs.Accepting.{accepted_slot}
use Rattle.history.proofs.Owing.{taken_from, SlotOwes, at_rest, owes_agreed, owes_passed, owes_ruled}
use Rattle.history.proofs.Replicas.{rules_on, replica}
use Rattle.history.proofs.Ruling.{Rules, rules_if}
use Rattle.history.proofs.Sending.{sends_if}
use Rattle.history.proofs.SentMoves.{sent_same, sent_none, sent_one, agreed_sent}
use Rattle.history.proofs.SlotCalls.{read_gives}
use Rattle.history.proofs.Standing.{Standing}
use Rattle.history.specs.Events.{Did, began, read, wrote, closed, abandoned, collected, Event, at, settled, took, declined}
use Rattle.history.specs.Moves.{Move, open_move, sends, sent_by, agreed, rulings, committed_position, from_slot}
use Rattle.history.specs.Runs.{Step}
use Rattle.history.specs.declared.call.Answer.TheVariants.{Began, Written, Committed, Abandoned, Collected}
use Rattle.number_bytes.specs.Bytes.{Number}
use Rattle.session.proofs.KindLaws.{SettingLaws, SummaryLaws}
use Rattle.session.specs.Commits.{commit_in, commit_answer, commit_leaves}
use Rattle.session.specs.Shares.{Share, nobody, share_of, with_share, slot_of}
use Rattle.session.specs.Slots.{begin_in, begin_answer, begin_leaves, entered, own, own_writes, read_into, read_leaves, write_in, write_answer, write_at, write_into, write_leaves, abandon_in, abandon_answer, abandon_leaves, collect_in, collect_answer, collect_leaves}
use Rattle.session.specs.States.{SlotState, idle, opened, sent, ruled, World}
use Rattle.session.specs.Takes.{ruled_if_sent, with_outcome, take_leaves}
use Rattle.session.specs.declared.ruling.CommitAnswer.TheVariants.{Sent, ReadOnly, Clash as ClashAtHome}
use Rattle.session.specs.declared.ruling.Outcome.{Outcome}
use Rattle.session.specs.declared.ruling.Ruling.{Ruling}
use Rattle.settings.specs.Kinds.{SettingKind}
use Rattle.summaries.specs.Kinds.{SummaryKind}

module _ {T : Type 0} where
  -- the state of slot s of suite u says what the events say of its moves
  abbrev pub Owes : List (Event T) → World T → ℕ → ℕ → Type 0
  Owes es w u s = SlotOwes (from_slot u s) (agreed es) (rulings es u) (count_by (from_slot u s) (sent_by es u)) (slot_of (share_of w u) s)

  -- so does that of every slot
  abbrev pub AllOwe : ℕ → List (Event T) → World T → Type 0
  AllOwe U es w = (u s : ℕ) → (1 ≤ u) × (u ≤ U) → (1 ≤ s) × (s ≤ 4) → Owes es w u s

module _ {T : Type 0} (S : SummaryKind) (K : SettingKind T) (of_S : SummaryLaws S) (of_K : SettingLaws K) (U : ℕ) (w : World T) (numbers : AllByRecursion Number w.session.nodes)
    (es : List (Event T)) (st : Standing S K w.session.nodes U es w) (owe : AllOwe U es w) where
  abbrev N : List ℕ
  N = w.session.nodes

  within : (u : ℕ) → (1 ≤ u) × (u ≤ U) → length (rulings es u) ≤ length (agreed es)
  within u there = (st.fits.each u there).within

  -- the slots of a suite whose share was put back, and of the others
  slots_here : (u : ℕ) (sh : Share T) (w' : World T) → (1 ≤ u) × (u ≤ U) → w' ≡ with_share w u sh → (share_of w' u).suite.slots ≡ sh.suite.slots
  slots_here u sh w' there left =
      ap (λ x. (share_of x u).suite.slots) left ∙ ap (λ x. x.slots) (get_or-set_same w.session.suites (u - 1) sh.suite nobody (omega (arith, st.fits.suites)))

  slots_other : (u v : ℕ) (sh : Share T) (w' : World T) → (1 ≤ u) × (u ≤ U) → (1 ≤ v) × (v ≤ U) → v ≢ u → w' ≡ with_share w u sh →
      (share_of w' v).suite.slots ≡ (share_of w v).suite.slots
  slots_other u v sh w' there there' d left =
      ap (λ x. (share_of x v).suite.slots) left ∙ ap (λ x. x.slots) (get_or-set_other w.session.suites (u - 1) (v - 1) sh.suite nobody (λ e. d (omega arith)))

  -- ---- calls at a slot

  module _ (u s : ℕ) where
    abbrev share : Share T
    share = share_of w u

    abbrev p : Move T → Bool
    p = from_slot u s

    -- a call that leaves slot s of suite u in the state q
    module _ (there : (1 ≤ u) × (u ≤ U)) (slot : (1 ≤ s) × (s ≤ 4)) (d : Did T) (w' : World T) (sh : Share T) (q : SlotState) (left : w' ≡ with_share w u sh)
        (slots : sh.suite.slots ≡ set share.suite.slots (s - 1) q) where
      called : SlotOwes p (agreed es) (rulings es u) (count_by p (sent_by (at u s d ∷ es) u)) q → AllOwe U (at u s d ∷ es) w'
      unfolding agreed rulings
      called here v r there' slot' = by (eqb v u) refl (eqb r s) refl
        where
          -- a slot that the call is not at
          kept : ((u ≢ v) ⊎ (s ≢ r)) → slot_of (share_of w' v) r ≡ slot_of (share_of w v) r → Owes (at u s d ∷ es) w' v r
          kept other same =
              subst (λ c. SlotOwes (from_slot v r) (agreed es) (rulings es v) c (slot_of (share_of w' v) r)) (sym (sent_same v r u s d es other))
              (subst (SlotOwes (from_slot v r) (agreed es) (rulings es v) (count_by (from_slot v r) (sent_by es v))) (sym same) (owe v r there' slot'))

          by : (a : Bool) → eqb v u ≡ a → (b : Bool) → eqb r s ≡ b → Owes (at u s d ∷ es) w' v r
          by true e true i =
              subst (λ x. Owes (at u s d ∷ es) w' x r) (sym (eqb-true v u e))
              (subst (λ y. Owes (at u s d ∷ es) w' u y) (sym (eqb-true r s i))
              (subst (SlotOwes p (agreed es) (rulings es u) (count_by p (sent_by (at u s d ∷ es) u)))
              (sym (ap (λ l. get_or l (s - 1) idle) (slots_here u sh w' there left ∙ slots)
              ∙ get_or-set_same share.suite.slots (s - 1) q idle (omega (arith, (st.fits.each u there).four)))) here))
          by true e false i =
              let d' = eqb-false r s i in
              kept (inr (λ z. d' (sym z)))
              (ap (λ x. slot_of (share_of w' x) r) (eqb-true v u e)
              ∙ ap (λ l. get_or l (r - 1) idle) (slots_here u sh w' there left ∙ slots)
              ∙ get_or-set_other share.suite.slots (s - 1) (r - 1) q idle (λ z. d' (omega arith))
              ∙ ap (λ x. slot_of (share_of w x) r) (sym (eqb-true v u e)))
          by false e b i =
              let d' = eqb-false v u e in
              kept (inl (λ z. d' (sym z))) (ap (λ l. get_or l (r - 1) idle) (slots_other u v sh w' there there' d' left))

      -- a call that sends nothing, at a slot that is not sent, and that leaves it open or idle
      quiet : sends d (open_move es u s) ≡ [] → slot_of share s ≢ sent →
          ((c : ℕ) → taken_from p (agreed es) (rulings es u) ≡ c → SlotOwes p (agreed es) (rulings es u) c q) → AllOwe U (at u s d ∷ es) w'
      quiet none before rest =
          called (rest (count_by p (sent_by (at u s d ∷ es) u))
          (at_rest p (agreed es) (rulings es u) (count_by p (sent_by es u)) (slot_of share s) before (within u there) (agreed_sent u s es) (owe u s there slot)
          ∙ sym (sent_none u s es d none)))

    in_session : (1 ≤ u) × (u ≤ length w.session.suites) → (1 ≤ u) × (u ≤ U)
    in_session h = (h.0, omega (arith, h.1, st.fits.suites))

    at_owe : (d : Did T) (w' : World T) → Step S K w (at u s d) w' → AllOwe U (at u s d ∷ es) w'
    at_owe (began t) w' step =
        let a = accepted_slot Began w u (begin_answer s) (Began t) s step.answered in
        quiet (in_session a.0.there) a.1 (began t) w' (begin_leaves s t share) (opened t [] 0) step.leaves refl refl
        (λ e. let no = sym (ap (begin_in share.suite.stamp) e) ∙ a.0.ruled in cc) (λ c h. h)
    at_owe (read n x) w' step =
        let g = read_gives S K U (agreed es) (rulings es) (open_move es) st.pending (committed_position es) w st.fits u s n x step.answered in
        quiet g.there g.slot (read n x) w' (read_leaves s n x share) (opened g.t (entered g.nodes n (own (own_writes share s g.written) n)) g.written) step.leaves
        (ap (λ z. set share.suite.slots (s - 1) (read_into share s n z)) g.state) refl (λ e. let no = sym e ∙ g.state in cc) (λ c h. h)
    at_owe (wrote n x) w' step =
        let a = accepted_slot (λ _. Written) w u (write_answer N s n) Written s step.answered in
        by (in_session a.0.there) a.1 (slot_of share s) refl a.0.ruled
      where
        by : (1 ≤ u) × (u ≤ U) → (1 ≤ s) × (s ≤ 4) → (q : SlotState) → slot_of share s ≡ q → write_in N share s n q ≡ Ok tt → AllOwe U (at u s (wrote n x) ∷ es) w'
        by there slot idle e r = cc
        by there slot (opened t nodes written) e r =
            quiet there slot (wrote n x) w' (write_leaves s n x tt share) (opened t nodes (max written (write_at share s n written + 1))) step.leaves
            (ap (λ z. (write_into share s n x z).suite.slots) e) refl (λ i. let no = sym i ∙ e in cc) (λ c h. h)
        by there slot sent e r = cc
        by there slot (ruled _) e r = cc
    at_owe (closed Sent) w' step =
        let g = sends_if S K U (agreed es) (rulings es) (open_move es) st.pending (committed_position es) w st.fits u s step.answered in
        let rest = at_rest p (agreed es) (rulings es u) (count_by p (sent_by es u)) (slot_of share s) (λ e. let no = sym e ∙ g.state in cc) (within u g.there)
        (agreed_sent u s es) (owe u s g.there g.slot) in
        called g.there g.slot (closed Sent) w' (commit_leaves S K u s Sent share) sent step.leaves refl (ap suc rest ∙ sym (sent_one u s es g.fit.move g.fit.is))
    at_owe (closed (ReadOnly t)) w' step =
        let a = accepted_slot Committed w u (commit_answer S K N u s) (Committed (ReadOnly t)) s step.answered in
        quiet (in_session a.0.there) a.1 (closed (ReadOnly t)) w' (commit_leaves S K u s (ReadOnly t) share) idle step.leaves refl refl
        (λ e. let no = sym (ap (commit_in S K N share u s) e) ∙ a.0.ruled in cc) (λ c h. h)
    at_owe (closed (ClashAtHome n)) w' step =
        let a = accepted_slot Committed w u (commit_answer S K N u s) (Committed (ClashAtHome n)) s step.answered in
        quiet (in_session a.0.there) a.1 (closed (ClashAtHome n)) w' (commit_leaves S K u s (ClashAtHome n) share) idle step.leaves refl refl
        (λ e. let no = sym (ap (commit_in S K N share u s) e) ∙ a.0.ruled in cc) (λ c h. h)
    at_owe abandoned w' step =
        let a = accepted_slot (λ _. Abandoned) w u (abandon_answer s) Abandoned s step.answered in
        quiet (in_session a.0.there) a.1 abandoned w' (abandon_leaves s tt share) idle step.leaves refl refl
        (λ e. let no = sym (ap abandon_in e) ∙ a.0.ruled in cc) (λ c h. h)
    at_owe (collected outcome) w' step =
        let a = accepted_slot Collected w u (collect_answer s) (Collected outcome) s step.answered in
        quiet (in_session a.0.there) a.1 (collected outcome) w' (collect_leaves s outcome share) idle step.leaves refl refl
        (λ e. let no = sym (ap collect_in e) ∙ a.0.ruled in cc) (λ c h. h)

  -- ---- settle

  settled_owe : (v : ℕ) (w' : World T) → Step S K w (settled v) w' → AllOwe U (settled v ∷ es) w'
  unfolding sent_by agreed rulings
  settled_owe v w' step u s there slot =
      let c = count_by (from_slot u s) (sent_by es u) in
      subst (λ x. SlotOwes (from_slot u s) (agreed (settled v ∷ es)) (rulings es u) c (slot_of (share_of x u) s)) (sym step.leaves.1)
      (owes_agreed (from_slot u s) (agreed es) (rulings es u) c _ (within u there) (slot_of (share_of w u) s) (owe u s there slot))

  -- ---- take

  module _ (u : ℕ) (r : Ruling) (w' : World T) (step : Step S K w (took u r) w') where
    abbrev mine : List Ruling
    mine = rulings es u

    abbrev home : Share T
    home = share_of w u

    rules : Rules S K of_S of_K U (agreed es) (rulings es) (open_move es) st.pending (committed_position es) w st.fits numbers u r
    rules = rules_if S K of_S of_K U (agreed es) (rulings es) (open_move es) st.pending (committed_position es) w st.fits numbers u r step.answered

    abbrev m : Move T
    m = rules.move

    abbrev outcome : Outcome
    outcome = rules_on S K N (replica S K N (agreed es) (length mine)) m

    -- the slot of the move that was ruled on has the outcome, if it was sent, and the others are as they were
    outcome_in : (s : ℕ) → (1 ≤ s) × (s ≤ 4) →
        slot_of (share_of w' u) s ≡ cond (from_slot u s m) (ruled_if_sent outcome (slot_of home s)) (slot_of home s)
    outcome_in s slot =
        ap (λ l. get_or l (s - 1) idle) (slots_here u (take_leaves S K N u step.leaves.0 r home) w' rules.there step.leaves.2)
        ∙ ap (λ x. get_or (take_leaves S K N u step.leaves.0 x home).suite.slots (s - 1) idle) rules.ruled
        ∙ ap (λ b. get_or (with_outcome u (slice_index b 3) (slice_index b 4) outcome home.suite.slots) (s - 1) idle) rules.carries.is
        ∙ by (eqb m.suite u) (eqb m.slot s) refl
      where
        by : (a b : Bool) → eqb m.slot s ≡ b →
            get_or (cond a (set home.suite.slots (m.slot - 1) (ruled_if_sent outcome (get_or home.suite.slots (m.slot - 1) idle))) home.suite.slots) (s - 1) idle
            ≡ cond (a && b) (ruled_if_sent outcome (slot_of home s)) (slot_of home s)
        by true true e =
            ap (λ k. get_or (set home.suite.slots (k - 1) (ruled_if_sent outcome (get_or home.suite.slots (k - 1) idle))) (s - 1) idle) (eqb-true m.slot s e)
            ∙ get_or-set_same home.suite.slots (s - 1) (ruled_if_sent outcome (slot_of home s)) idle (omega (arith, (st.fits.each u rules.there).four))
        by true false e =
            let d = eqb-false m.slot s e in
            get_or-set_other home.suite.slots (m.slot - 1) (s - 1) (ruled_if_sent outcome (get_or home.suite.slots (m.slot - 1) idle)) idle
            (λ z. d (omega (arith, rules.carries.fit.slot_there)))
        by false b e = refl

    -- what slot s owes after the take, in the state q
    abbrev OwesThen : ℕ → SlotState → Type 0
    OwesThen s q = SlotOwes (from_slot u s) (agreed es) (mine ++ r ∷ []) (count_by (from_slot u s) (sent_by es u)) q

    own_owe : (s : ℕ) → (1 ≤ s) × (s ≤ 4) → OwesThen s (slot_of (share_of w' u) s)
    own_owe s slot = subst (OwesThen s) (sym (outcome_in s slot)) (by (from_slot u s m) refl)
      where
        by : (b : Bool) → from_slot u s m ≡ b → OwesThen s (cond b (ruled_if_sent outcome (slot_of home s)) (slot_of home s))
        by true e =
            owes_ruled (from_slot u s) (agreed es) mine (count_by (from_slot u s) (sent_by es u)) m rules.is r e (agreed_sent u s es) outcome rules.ruled (slot_of home s)
            (owe u s rules.there slot)
        by false e =
            owes_passed (from_slot u s) (agreed es) mine (count_by (from_slot u s) (sent_by es u)) m rules.is r e (slot_of home s) (owe u s rules.there slot)

    took_owe : AllOwe U (took u r ∷ es) w'
    unfolding sent_by agreed rulings
    took_owe v s there slot = by (eqb u v) refl
      where
        by : (b : Bool) → eqb u v ≡ b →
            SlotOwes (from_slot v s) (agreed es) (cond b (rulings es v ++ r ∷ []) (rulings es v)) (count_by (from_slot v s) (sent_by es v)) (slot_of (share_of w' v) s)
        by true e =
            subst (λ x. SlotOwes (from_slot x s) (agreed es) (rulings es x ++ r ∷ []) (count_by (from_slot x s) (sent_by es x)) (slot_of (share_of w' x) s)) (eqb-true u v e)
            (own_owe s slot)
        by false e =
            subst (SlotOwes (from_slot v s) (agreed es) (rulings es v) (count_by (from_slot v s) (sent_by es v)))
            (sym (ap (λ l. get_or l (s - 1) idle)
            (slots_other u v (take_leaves S K N u step.leaves.0 r home) w' rules.there there (λ z. eqb-false u v e (sym z)) step.leaves.2))) (owe v s there slot)

  -- ---- any event

  pub next_owe : (e : Event T) (w' : World T) → Step S K w e w' → AllOwe U (e ∷ es) w'
  unfolding sent_by agreed rulings
  next_owe (at u s d) w' step = at_owe u s d w' step
  next_owe (settled v) w' step = settled_owe v w' step
  next_owe (took u r) w' step = took_owe u r w' step
  next_owe (declined call why) w' step = subst (AllOwe U es) (sym step.leaves) owe
