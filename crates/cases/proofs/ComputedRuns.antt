-- Runs by computing: each event is followed to the world after it. If every answer comes out as it is listed, the events are a run. By the
-- rules of a session a commit takes the first spare places.
use Rattle.std.proofs.Common.{◌≡◌, ℕ, Bool, true, not, ◌&&◌, leb, ltb, leb-true, List, [], ◌∷◌, ◌++◌, map, reverse, length, append_assoc, Result, refl, sym, ap, ◌∙◌, subst}
use Rattle.std.proofs.lemmas.Bool.{not-true, and_parts, ltb-true}
use Rattle.std.proofs.lemmas.List.{reverse-append, append-nil}
use Rattle.cases.specs.WrongRules.{Rules, the_rules, RunBy}
use Rattle.history.specs.Events.{Event, at, settled, took, declined, call_of, answer_of}
use Rattle.history.specs.Runs.{left_by, Leaves, Run}
use Rattle.history.specs.declared.call.Answer.{Answer}
use Rattle.limits.proofs.Ranges.{not_outside}
use Rattle.limits.specs.Limits.{most_suites, outside}
use Rattle.lines.specs.Lines.{LineState, settled as served, Serves}
use Rattle.refusals.specs.declared.Refusal.{Refusal}
use Rattle.session.proofs.Spares.{spares_of}
use Rattle.session.specs.Choosing.{spare_of}
use Rattle.session.specs.Shares.{share_of, with_share}
use Rattle.session.specs.States.{World}
use Rattle.session.specs.Takes.{take_leaves}
use Rattle.settings.specs.Colours.{colours}
use Rattle.settings.specs.declared.colour.Colour.{Colour}
use Rattle.summaries.specs.ExactLists.{exact_list}

-- ---- runs by a rule set

-- the answers as they are listed
abbrev pub listed : List (Event Colour) → List (Result (Answer Colour) Refusal × Bool)
listed es = map (λ e. (answer_of e, true)) es

-- equal lists of pairs have equal parts
equal_parts : {A B : Type 0} (a c : A) (b d : B) (xs ys : List (A × B)) → ◌≡◌ {A = List (A × B)} ((a, b) ∷ xs) ((c, d) ∷ ys) →
    (a ≡ c) × (b ≡ d) × (xs ≡ ys)
equal_parts {A} {B} a c b d xs ys e =
    let firsts : ◌≡◌ {A = A × B} (a, b) (c, d) = cc in (ap (λ p. p.0) firsts, ap (λ p. p.1) firsts, cc)

-- by a rule set, a way to tell the world after an event, and a test of whether the event may leave that world
module _ (rules : Rules) (next : World Colour → Event Colour → World Colour) (allowed : World Colour → Event Colour → Bool) where
  -- what the calls of these events are answered, the first one first, and whether the world after each is allowed
  unfoldable pub answers : World Colour → List (Event Colour) → List (Result (Answer Colour) Refusal × Bool)
  answers w [] = []
  answers w (e ∷ es) = (rules.answers w (call_of e), allowed w e) ∷ answers (next w e) es

  -- the world after these events
  unfoldable pub end_of : World Colour → List (Event Colour) → World Colour
  end_of w [] = w
  end_of w (e ∷ es) = end_of (next w e) es

  module _ (leaves_so : (w : World Colour) (e : Event Colour) → allowed w e ≡ true → rules.leaves w e (next w e)) (start : World Colour) where
    -- what comes after a run
    run_on : (w : World Colour) (before es : List (Event Colour)) → RunBy rules start before w → answers w es ≡ listed es →
        RunBy rules start (reverse es ++ before) (end_of w es)
    unfolding answers end_of
    run_on w before [] run same = run
    run_on w before (e ∷ es) run same =
        let so = equal_parts _ _ _ _ _ _ same in
        subst (λ fs. RunBy rules start fs (end_of (next w e) es))
        (sym (ap (λ fs. fs ++ before) (reverse-append (e ∷ []) es) ∙ append_assoc (reverse es) (e ∷ []) before))
        (run_on (next w e) (e ∷ before) es (w, run, (so.0, leaves_so w e so.1)) so.2)

    -- where the answers are the listed ones, the events are a run
    pub run_of : (es : List (Event Colour)) → answers start es ≡ listed es → RunBy rules start (reverse es) (end_of start es)
    run_of es same = subst (λ fs. RunBy rules start fs (end_of start es)) (append-nil (reverse es)) (run_on start [] es refl same)

-- ---- by the rules of a session

-- the runs by the rules of a session are its runs
pub by_the_rules : (start : World Colour) (es : List (Event Colour)) (w : World Colour) → RunBy the_rules start es w → Run exact_list colours start es w
by_the_rules start [] w run = run
by_the_rules start (e ∷ es) w (v, before, step) = (v, by_the_rules start es v before, record { answered = step.0; leaves = step.1 })

pub are_by_the_rules : (start : World Colour) (es : List (Event Colour)) (w : World Colour) → Run exact_list colours start es w → RunBy the_rules start es w
are_by_the_rules start [] w run = run
are_by_the_rules start (e ∷ es) w (v, before, step) = (v, are_by_the_rules start es v before, (step.answered, step.leaves))

-- whether a message waits for the suite
unfoldable pub can_serve : LineState → ℕ → Bool
can_serve line u = not (outside most_suites u) && ltb 0 (length (line.waiting u))

-- the world after an event
unfoldable pub next : World Colour → Event Colour → World Colour
next w (at u s did) = left_by exact_list colours w u s did
next w (settled u) = record w { line = served w.line u }
next w (took u ruling) =
    let share = share_of w u in
    with_share w u (take_leaves exact_list colours w.session.nodes u (spare_of w.session.nodes share) ruling share)
next w (declined call why) = w

-- whether it is allowed: a message waits for the suite that a settle serves, and a suite that takes has at most four slots
unfoldable pub allowed : World Colour → Event Colour → Bool
allowed w (at u s did) = true
allowed w (settled u) = can_serve w.line u
allowed w (took u ruling) = leb (length (share_of w u).suite.slots) 4
allowed w (declined call why) = true

pub serves_it : (line : LineState) (u : ℕ) → can_serve line u ≡ true → Serves line (served line u) u
unfolding can_serve
serves_it line u e =
    let both = and_parts _ _ e in
    record { a_suite = not_outside most_suites u (not-true _ both.0); waits = ltb-true 0 _ both.1; after_it = refl }

pub leaves_next : (w : World Colour) (e : Event Colour) → allowed w e ≡ true → Leaves exact_list colours w e (next w e)
unfolding allowed next
leaves_next w (at u s did) ok = refl
leaves_next w (settled u) ok = (serves_it w.line u ok, refl)
leaves_next w (took u ruling) ok =
    let share = share_of w u in
    (spare_of w.session.nodes share, spares_of exact_list colours w.session.nodes share (leb-true _ 4 ok) ruling, refl)
leaves_next w (declined call why) ok = refl
