-- What a call of the code promises, from its contract: the event that it is, and the law of every history that leads to it.
use Rattle.std.proofs.Common.{◌≡◌, ℕ, ◌∷◌, Ok, Err, Result, refl, sym, subst, ap, ◌∙◌}
use Rattle.history.specs.Events.{began, read, wrote, closed, abandoned, collected, Event, at, settled, took, declined, call_of, answer_of}
use Rattle.history.specs.Laws.{Law}
use Rattle.history.specs.Performing.{Performed}
use Rattle.history.specs.Runs.{answer, Leaves, Step}
use Rattle.session.specs.Steps.{told}
use Rattle.history.specs.declared.call.Answer.{Answer}
use Rattle.history.specs.declared.call.Answer.TheVariants.{Began, Setting, Written, Committed, Abandoned, Collected, Settled, Taken}
use Rattle.history.specs.declared.call.Call.{Call}
use Rattle.history.specs.declared.call.Call.TheVariants.{Begin, Read, Write, Commit, Abandon, Collect, Settle, Take}
use Rattle.refusals.specs.declared.Refusal.{Refusal}
use Rattle.session.specs.Calls.{begin_call, after_begin, read_call, after_read, write_call, after_write, commit_call, after_commit, abandon_call, after_abandon, collect_call, after_collect, settle_call, AfterSettle, take_call, AfterTake}
use Rattle.session.specs.States.{World}
use Rattle.session.specs.declared.ruling.CommitAnswer.{CommitAnswer}
use Rattle.session.specs.declared.ruling.Outcome.{Outcome}
use Rattle.session.specs.declared.ruling.Ruling.{Ruling}
use Rattle.session.specs.declared.suite_slot.SuiteSlot.{SuiteSlot}
use Rattle.settings.specs.Kinds.{SettingKind}
use Rattle.summaries.specs.Kinds.{SummaryKind}

module _ {T : Type 0} (S : SummaryKind) (K : SettingKind T) (whole : Law S K) (w w' : World T) where
  -- a call is performed whose accepted answers are those of an event that leaves this, and whose refusals change nothing
  performed : {A : Type 0} (call : Call T) (f : A → Answer T) (r : Result A Refusal) (result : Result (Answer T) Refusal) →
      answer S K w call ≡ told f r → result ≡ told f r →
      ((a : A) → r ≡ Ok a → (e : Event T) × (call_of e ≡ call) × (answer_of e ≡ Ok (f a)) × Leaves S K w e w') →
      ((why : Refusal) → r ≡ Err why → w' ≡ w) → Performed S K call result w w'
  performed call f r result rules is accepted refused = by r refl
    where
      of_event : (e : Event T) → call_of e ≡ call → answer_of e ≡ result → Leaves S K w e w' → Performed S K call result w w'
      of_event e is_call is_answer left =
          let step : Step S K w e w' = record { answered = ap (answer S K w) is_call ∙ rules ∙ sym is ∙ sym is_answer; leaves = left } in
          record {
            stepped = record { event = e; is_call = is_call; is_answer = is_answer; step = step };
            isolation = whole.isolation;
            lawful = λ start made es run. ((w, run, step), whole.lawful start made (e ∷ es) w' (w, run, step));
          }

      by : (q : Result _ Refusal) → r ≡ q → Performed S K call result w w'
      by (Ok a) now =
          let (e, is_call, is_answer, left) = accepted a now in
          of_event e is_call (is_answer ∙ sym (is ∙ ap (told f) now)) left
      by (Err why) now = of_event (declined call why) refl (sym (is ∙ ap (told f) now)) (refused why now)

  module _ (slot : SuiteSlot) (result : Result (Answer T) Refusal) where
    pub performed_begin : (r : Result ℕ Refusal) → r ≡ begin_call w slot.suite slot.slot → w' ≡ after_begin r w slot.suite slot.slot →
        result ≡ told Began r → Performed S K (Begin slot) result w w'
    performed_begin r rules left is =
        performed (Begin slot) Began r result (sym (ap (told Began) rules)) is
        (λ a now. (at slot.suite slot.slot (began a), refl, refl, left ∙ ap (λ x. after_begin x w slot.suite slot.slot) now))
        (λ why now. left ∙ ap (λ x. after_begin x w slot.suite slot.slot) now)

    pub performed_read : (n : ℕ) (r : Result T Refusal) → r ≡ read_call w slot.suite slot.slot n → w' ≡ after_read r w slot.suite slot.slot n →
        result ≡ told Setting r → Performed S K (Read slot n) result w w'
    performed_read n r rules left is =
        performed (Read slot n) Setting r result (sym (ap (told Setting) rules)) is
        (λ x now. (at slot.suite slot.slot (read n x), refl, refl, left ∙ ap (λ y. after_read y w slot.suite slot.slot n) now))
        (λ why now. left ∙ ap (λ y. after_read y w slot.suite slot.slot n) now)

    pub performed_write : (n : ℕ) (x : T) (r : Result (Unit {0}) Refusal) → r ≡ write_call w slot.suite slot.slot n →
        w' ≡ after_write r w slot.suite slot.slot n x → result ≡ told (λ _. Written) r → Performed S K (Write slot n x) result w w'
    performed_write n x r rules left is =
        performed (Write slot n x) (λ _. Written) r result (sym (ap (told (λ _. Written)) rules)) is
        (λ a now. (at slot.suite slot.slot (wrote n x), refl, refl, left ∙ ap (λ y. after_write y w slot.suite slot.slot n x) now))
        (λ why now. left ∙ ap (λ y. after_write y w slot.suite slot.slot n x) now)

    pub performed_commit : (r : Result CommitAnswer Refusal) → r ≡ commit_call S K w slot.suite slot.slot →
        w' ≡ after_commit S K r w slot.suite slot.slot → result ≡ told Committed r → Performed S K (Commit slot) result w w'
    performed_commit r rules left is =
        performed (Commit slot) Committed r result (sym (ap (told Committed) rules)) is
        (λ a now. (at slot.suite slot.slot (closed a), refl, refl, left ∙ ap (λ x. after_commit S K x w slot.suite slot.slot) now))
        (λ why now. left ∙ ap (λ x. after_commit S K x w slot.suite slot.slot) now)

    pub performed_abandon : (r : Result (Unit {0}) Refusal) → r ≡ abandon_call w slot.suite slot.slot →
        w' ≡ after_abandon r w slot.suite slot.slot → result ≡ told (λ _. Abandoned) r → Performed S K (Abandon slot) result w w'
    performed_abandon r rules left is =
        performed (Abandon slot) (λ _. Abandoned) r result (sym (ap (told (λ _. Abandoned)) rules)) is
        (λ a now. (at slot.suite slot.slot abandoned, refl, refl, left ∙ ap (λ x. after_abandon x w slot.suite slot.slot) now))
        (λ why now. left ∙ ap (λ x. after_abandon x w slot.suite slot.slot) now)

    pub performed_collect : (r : Result Outcome Refusal) → r ≡ collect_call w slot.suite slot.slot →
        w' ≡ after_collect r w slot.suite slot.slot → result ≡ told Collected r → Performed S K (Collect slot) result w w'
    performed_collect r rules left is =
        performed (Collect slot) Collected r result (sym (ap (told Collected) rules)) is
        (λ a now. (at slot.suite slot.slot (collected a), refl, refl, left ∙ ap (λ x. after_collect x w slot.suite slot.slot) now))
        (λ why now. left ∙ ap (λ x. after_collect x w slot.suite slot.slot) now)

  pub performed_settle : (result : Result (Answer T) Refusal) (r : Result (Unit {0}) Refusal) → r ≡ settle_call w →
      (u : ℕ) × AfterSettle r u w w' → result ≡ told (λ _. Settled) r → Performed S K Settle result w w'
  performed_settle result r rules (u, left) is =
      performed Settle (λ _. Settled) r result (sym (ap (told (λ _. Settled)) rules)) is
      (λ a now. (settled u, refl, refl, subst (λ x. AfterSettle x u w w') now left))
      (λ why now. subst (λ x. AfterSettle x u w w') now left)

  pub performed_take : (u : ℕ) (result : Result (Answer T) Refusal) (r : Result Ruling Refusal) → r ≡ take_call S K w u →
      AfterTake S K r u w w' → result ≡ told Taken r → Performed S K (Take u) result w w'
  performed_take u result r rules left is =
      performed (Take u) Taken r result (sym (ap (told Taken) rules)) is
      (λ ruling now. (took u ruling, refl, refl, subst (λ x. AfterTake S K x u w w') now left))
      (λ why now. subst (λ x. AfterTake S K x u w w') now left)
