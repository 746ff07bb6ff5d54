-- A collect gives the ruling on the latest move that its slot sent.
use Rattle.std.proofs.Common.{◌≡◌, ℕ, suc, ◌≤◌, cond, List, [], ◌∷◌, length, take, count_by, Ok, sym, refl, ap, ◌∙◌, subst, arith}
use Rattle.std.proofs.lemmas.List.Sums.{sum_by-take-le}
use Rattle.history.proofs.Accepting.{accepted_slot}
use Rattle.history.proofs.Histories.{at_world, numbers_at, standing}
use Rattle.history.proofs.Owing.{LatestRuled, SlotOwes, none_later}
use Rattle.history.proofs.OwingSteps.{AllOwe, next_owe}
use Rattle.history.proofs.SentMoves.{agreed_sent}
use Rattle.history.proofs.Starting.{start_idle}
use Rattle.history.specs.Events.{collected, Event, at}
use Rattle.history.specs.Laws.{Collects}
use Rattle.history.specs.Moves.{sent_by, agreed, rulings, from_slot}
use Rattle.history.specs.Runs.{Step, Run, Made}
use Rattle.history.specs.declared.call.Answer.{Answer}
use Rattle.history.specs.declared.call.Answer.TheVariants.{Collected}
use Rattle.session.proofs.KindLaws.{SettingLaws, SummaryLaws}
use Rattle.session.specs.Shares.{share_of, slot_of}
use Rattle.session.specs.Slots.{collect_in, collect_answer}
use Rattle.session.specs.States.{SlotState, idle, opened, sent, ruled, World}
use Rattle.session.specs.declared.ruling.Outcome.{Outcome}
use Rattle.settings.specs.Kinds.{SettingKind}
use Rattle.summaries.specs.Kinds.{SummaryKind}

-- only a slot with an outcome has one to collect
collect_finds : (q : SlotState) (outcome : Outcome) → collect_in q ≡ Ok outcome → q ≡ ruled outcome
collect_finds idle outcome h = cc
collect_finds (opened snapshot reads written) outcome h = cc
collect_finds sent outcome h = cc
collect_finds (ruled before) outcome h = cc

module _ {T : Type 0} (S : SummaryKind) (K : SettingKind T) (of_S : SummaryLaws S) (of_K : SettingLaws K) (start : World T) (made : Made K start) where
  abbrev U : ℕ
  U = length start.session.suites

  all_owe : (es : List (Event T)) (w : World T) → Run S K start es w → AllOwe U es w
  unfolding sent_by agreed rulings
  all_owe [] w run u s there slot =
      subst (SlotOwes (from_slot u s) [] [] 0) (sym (ap (λ x. slot_of (share_of x u) s) run ∙ start_idle K start made u s there slot)) refl
  all_owe (e ∷ es) w (v, run, step) u s there slot =
      let before = standing S K of_S of_K start made es v run in
      next_owe S K of_S of_K U v (numbers_at S K of_S of_K start made v before.nodes) es (at_world S K of_S of_K start made es v before) (all_owe es v run) e w step u s there slot

  module _ (es : List (Event T)) (then after : World T) (before : Run S K start es then) (u s : ℕ) (outcome : Outcome) (step : Step S K then (at u s (collected outcome)) after) where
    latest : LatestRuled (from_slot u s) (agreed es) (rulings es u) (count_by (from_slot u s) (sent_by es u)) outcome
    latest =
        let a = accepted_slot Collected then u (collect_answer s) (Collected outcome) s step.answered in
        let suites = (standing S K of_S of_K start made es then before).fits.suites in
        subst (SlotOwes (from_slot u s) (agreed es) (rulings es u) (count_by (from_slot u s) (sent_by es u)))
        (collect_finds (slot_of (share_of then u) s) outcome (a.0.ruled ∙ ap Ok (same a.0.value a.0.is)))
        (all_owe es then before u s (a.0.there.0, omega (arith, a.0.there.1, suites)) a.1)
      where
        same : (v : Outcome) → ◌≡◌ {A = Answer T} (Collected v) (Collected outcome) → v ≡ outcome
        same v e = cc

    pub collect_gives : Collects es u s outcome
    collect_gives =
        let l = latest in
        let most = agreed_sent u s es in
        let some = count_take l.position in (
          l.position,
          l.move,
          l.is,
          l.from,
          l.ruled,
          none_later (from_slot u s) (agreed es) (suc l.position) (omega (arith, l.latest)),
          omega (arith, l.latest),
        )
      where
        count_take : (k : ℕ) → count_by (from_slot u s) (take (suc k) (agreed es)) ≤ count_by (from_slot u s) (agreed es)
        count_take k = sum_by-take-le (λ m. cond (from_slot u s m) 1 0) (agreed es) (suc k)
