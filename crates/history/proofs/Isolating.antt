-- Two suites have only the line in common: a call at a suite sees and changes the suite's share alone.
use Rattle.std.proofs.Common.{◌≡◌, ℕ, ◌≢◌, false, List, Some, Ok, Err, Result, unwrap_or, sym, refl, ap, ◌∙◌, subst, ap₂, arith}
use Rattle.history.proofs.PutBack.{SameSizes, share_put, rest_kept, suite_of_slot, effect_sizes, take_sizes, at_accepted, took_accepted}
use Rattle.history.specs.Events.{Did, Event, at, settled, took, declined, call_of, answer_of, suite_of}
use Rattle.history.specs.Laws.{There, SameShape, Isolation}
use Rattle.history.proofs.Effects.{effect, left_is}
use Rattle.session.specs.Shares.{at_slot}
use Rattle.history.specs.Runs.{answer, Step}
use Rattle.session.specs.Steps.{told}
use Rattle.history.specs.declared.call.Answer.TheVariants.{Began, Setting, Written, Committed, Abandoned, Collected, Taken}
use Rattle.history.specs.declared.call.Answer.{Answer}
use Rattle.history.specs.declared.call.Call.TheVariants.{Begin, Read, Write as WriteCall, Commit as CommitCall, Abandon, Collect, Settle, Take}
use Rattle.history.specs.declared.call.Call.{Call}
use Rattle.session.specs.declared.suite_slot.SuiteSlot.{SuiteSlot}
use Rattle.refusals.specs.declared.Refusal.{Refusal}
use Rattle.lines.specs.Lines.{Serves}
use Rattle.session.specs.Commits.{commit_answer}
use Rattle.session.specs.Shares.{Share, share_of, with_share, check_suite, check_slot, at_share}
use Rattle.session.specs.Slots.{read_answer, write_answer}
use Rattle.session.specs.States.{World, unfit}
use Rattle.session.specs.Takes.{take_answer, take_leaves, Spares}
use Rattle.session.specs.declared.ruling.Ruling.{Ruling}
use Rattle.settings.specs.Kinds.{SettingKind}
use Rattle.summaries.specs.Kinds.{SummaryKind}

number_is : (t u : ℕ) → Some t ≡ Some u → t ≡ u
number_is t u is = ap (λ o. unwrap_or o 0) is

module _ {T : Type 0} where
  -- ---- worlds of one shape

  same_unfit : (w v : World T) → SameShape w v → w.line ≡ v.line → unfit w ≡ unfit v
  same_unfit w v shape line = cc (shape.places, shape.writes, shape.suites, shape.nodes)

  -- ---- a call at a suite that two worlds of one shape have alike

  module _ (w v : World T) (u : ℕ) (shape : SameShape w v) (same : share_of w u ≡ share_of v u) where
    fit_alike : unfit w ≡ unfit v
    fit_alike = same_unfit w v shape (ap (λ sh. sh.line) same)

    suite_check_alike : check_suite w u ≡ check_suite v u
    suite_check_alike = cc (fit_alike, shape.suites)

    slot_check_alike : (s : ℕ) → check_slot w u s ≡ check_slot v u s
    slot_check_alike s = cc (fit_alike, shape.suites)

    module _ {A : Type 0} (rule rule' : Share T → Result A Refusal) (rules : rule ≡ rule') where
      at_share_alike : (c d : Result (Unit {0}) Refusal) → c ≡ d → at_share c w u rule ≡ at_share d v u rule'
      at_share_alike c d checks = ap (λ r. at_share r w u rule) checks ∙ by d
        where
          by : (r : Result (Unit {0}) Refusal) → at_share r w u rule ≡ at_share r v u rule'
          by (Ok _) = cc
          by (Err why) = refl

      at_suite_alike : at_share (check_suite w u) w u rule ≡ at_share (check_suite v u) v u rule'
      at_suite_alike = at_share_alike _ _ suite_check_alike

      at_slot_alike : (s : ℕ) → at_share (check_slot w u s) w u rule ≡ at_share (check_slot v u s) v u rule'
      at_slot_alike s = at_share_alike _ _ (slot_check_alike s)

  share_there : (w v : World T) (t u : ℕ) → t ≡ u → share_of w u ≡ share_of v u → share_of w t ≡ share_of v t
  share_there w v t u is same = subst (λ x. share_of w x ≡ share_of v x) (sym is) same

module _ {T : Type 0} (S : SummaryKind) (K : SettingKind T) where
  answers_alike : (w v : World T) (call : Call T) (u : ℕ) → suite_of call ≡ Some u → SameShape w v →
      share_of w u ≡ share_of v u → answer S K w call ≡ answer S K v call
  answers_alike w v call u is shape same = by call is
    where
      -- a call at a slot of suite u, whose rule is alike in both worlds
      at_u : {A : Type 0} (as_answer : A → Answer T) (place : SuiteSlot) (rule rule' : Share T → Result A Refusal) →
          rule ≡ rule' → Some place.suite ≡ Some u →
          told as_answer (at_slot w place.suite place.slot rule) ≡ told as_answer (at_slot v place.suite place.slot rule')
      at_u as_answer place rule rule' rules is =
          let there = share_there w v place.suite u (number_is place.suite u is) same in
          ap (told as_answer) (at_slot_alike w v place.suite shape there rule rule' rules place.slot)

      by : (call : Call T) → suite_of call ≡ Some u → answer S K w call ≡ answer S K v call
      by (Begin place) is = at_u Began place _ _ refl is
      by (Read place n) is = at_u Setting place _ _ (ap (λ nodes. read_answer nodes place.slot n) shape.nodes) is
      by (WriteCall place n x) is =
          at_u (λ _. Written) place _ _ (ap (λ nodes. write_answer nodes place.slot n) shape.nodes) is
      by (CommitCall place) is =
          at_u Committed place _ _ (ap (λ nodes. commit_answer S K nodes place.suite place.slot) shape.nodes) is
      by (Abandon place) is = at_u (λ _. Abandoned) place _ _ refl is
      by (Collect place) is = at_u Collected place _ _ refl is
      by Settle is = cc
      by (Take t) is =
          let there = share_there w v t u (number_is t u is) same in
          let rules = ap₂ (take_answer S K) shape.suites shape.nodes in
          ap (told Taken) (at_suite_alike w v t shape there _ _ rules)

  -- ---- what a call leaves

  -- a step with this event leads from the world to one where suite u has this share
  abbrev Leads : World T → Event T → ℕ → Share T → Type 0
  Leads v e u sh = (v' : World T) × Step S K v e v' × (share_of v' u ≡ sh)

  module _ (w v w' : World T) (u : ℕ) (shape : SameShape w v) (same : share_of w u ≡ share_of v u) where
    -- two shares that are alike, put back in the two worlds, where the first leads to w'
    puts_alike : unfit w ≡ false → There w u → (sh sh' : Share T) → SameSizes (share_of w u) sh → SameSizes (share_of v u) sh' →
        sh' ≡ sh → w' ≡ with_share w u sh → share_of (with_share v u sh') u ≡ share_of w' u
    puts_alike fit there sh sh' sizes sizes' alike is =
        share_put v u (sym (fit_alike w v u shape same) ∙ fit) (there.0, omega (arith, there.1, shape.suites)) sh' sizes'
        ∙ alike
        ∙ sym (share_put w u fit there sh sizes)
        ∙ sym (ap (λ x. share_of x u) is)

    answered_alike : (e : Event T) → suite_of (call_of e) ≡ Some u → Step S K w e w' → answer S K v (call_of e) ≡ answer_of e
    answered_alike e is step = sym (answers_alike w v (call_of e) u is shape same) ∙ step.answered

    leads_at : (s : ℕ) (did : Did T) → Step S K w (at u s did) w' → Leads v (at u s did) u (share_of w' u)
    leads_at s did step =
        let accepted = at_accepted S K w u s did step.answered in
        let leaves = effect S K u s did in (
          with_share v u (leaves (share_of v u)),
          record { answered = answered_alike (at u s did) (suite_of_slot _ did) step; leaves = sym (left_is S K v u s did) },
          puts_alike accepted.0 accepted.1 (leaves (share_of w u)) (leaves (share_of v u))
              (effect_sizes S K u s did (share_of w u)) (effect_sizes S K u s did (share_of v u))
              (ap leaves (sym same)) (step.leaves ∙ left_is S K w u s did),
        )

    leads_took : (ruling : Ruling) → Step S K w (took u ruling) w' → Leads v (took u ruling) u (share_of w' u)
    leads_took ruling step =
        let accepted = took_accepted S K w u ruling step.answered in
        let chosen = step.leaves.0 in
        let leaves = λ (nodes : List ℕ). take_leaves S K nodes u chosen ruling in
        let spares = subst (λ nodes. Spares S K nodes chosen ruling (share_of v u)) shape.nodes
        (subst (Spares S K w.session.nodes chosen ruling) same step.leaves.1) in (
          with_share v u (leaves v.session.nodes (share_of v u)),
          record { answered = answered_alike (took u ruling) refl step; leaves = (chosen, spares, refl) },
          puts_alike accepted.0 accepted.1 (leaves w.session.nodes (share_of w u)) (leaves v.session.nodes (share_of v u))
              (take_sizes S K _ u chosen ruling (share_of w u)) (take_sizes S K _ u chosen ruling (share_of v u))
              (ap₂ leaves (sym shape.nodes) (sym same)) step.leaves.2,
        )

    leads_declined : (call : Call T) (why : Refusal) → suite_of call ≡ Some u → Step S K w (declined call why) w' →
        Leads v (declined call why) u (share_of w' u)
    leads_declined call why is step = (
      v,
      record { answered = answered_alike (declined call why) is step; leaves = refl },
      sym same ∙ sym (ap (λ x. share_of x u) step.leaves),
    )

  leads_alike : (w v w' : World T) (e : Event T) (u : ℕ) → suite_of (call_of e) ≡ Some u → SameShape w v →
      share_of w u ≡ share_of v u → Step S K w e w' → Leads v e u (share_of w' u)
  leads_alike w v w' (at t s did) u is shape same step =
      let t_is : t ≡ u = number_is t u (sym (suite_of_slot _ did) ∙ is) in
      subst (λ x. Leads v (at t s did) x (share_of w' x)) t_is
      (leads_at w v w' t shape (share_there w v t u t_is same) s did step)
  leads_alike w v w' (settled t) u is shape same step = cc
  leads_alike w v w' (took t ruling) u is shape same step =
      let t_is : t ≡ u = number_is t u is in
      subst (λ x. Leads v (took t ruling) x (share_of w' x)) t_is
      (leads_took w v w' t shape (share_there w v t u t_is same) ruling step)
  leads_alike w v w' (declined call why) u is shape same step = leads_declined w v w' u shape same call why is step

  -- what it leaves of the other suites
  others_stay : (w w' : World T) (e : Event T) (u : ℕ) → (suite_of (call_of e) ≢ Some u) → There w u → Step S K w e w' →
      share_of w' u ≡ record (share_of w u) { line = w'.line }
  others_stay w w' (at t s did) u other there step =
      let accepted = at_accepted S K w t s did step.answered in
      rest_kept w t accepted.0 accepted.1 (effect S K t s did (share_of w t)) (effect_sizes S K t s did (share_of w t))
      w' u (step.leaves ∙ left_is S K w t s did) there (λ e. other (suite_of_slot _ did ∙ ap Some e))
  others_stay w w' (settled t) u other there step = ap (λ x. share_of x u) step.leaves.1
  others_stay w w' (took t ruling) u other there step =
      let accepted = took_accepted S K w t ruling step.answered in
      let chosen = step.leaves.0 in
      rest_kept w t accepted.0 accepted.1 (take_leaves S K w.session.nodes t chosen ruling (share_of w t))
      (take_sizes S K w.session.nodes t chosen ruling (share_of w t))
      w' u step.leaves.2 there (λ e. other (ap Some e))
  others_stay w w' (declined call why) u other there step =
      ap (λ x. share_of x u) step.leaves ∙ ap (λ x. record (share_of w u) { line = x.line }) (sym step.leaves)

  -- settles of one line in two worlds of one shape
  settles_alike : (w v : World T) → SameShape w v → w.line ≡ v.line → answer S K w Settle ≡ answer S K v Settle
  settles_alike w v shape line = cc (same_unfit w v shape line, line)

  settled_alike : (w v : World T) → SameShape w v → w.line ≡ v.line → (w' : World T) (u : ℕ) → Step S K w (settled u) w' →
      (v' : World T) × Step S K v (settled u) v' × (v'.line ≡ w'.line)
  settled_alike w v shape line w' u step = (
    record v { line = w'.line },
    record {
      answered = sym (settles_alike w v shape line) ∙ step.answered;
      leaves = (subst (λ l. Serves l w'.line u) line step.leaves.0, refl);
    },
    refl,
  )

  pub isolation : Isolation S K
  isolation = record {
    answers = answers_alike;
    leaves = leads_alike;
    others = others_stay;
    settles = λ w v shape line. (settles_alike w v shape line, settled_alike w v shape line);
  }
