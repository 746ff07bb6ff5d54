-- That a bench stands where some history has led, before and after each line, and why no reply is missing.
use Rattle.std.proofs.Common.{◌≡◌, ℕ, List, [], ◌∷◌, Some, None, Option, Ok, Err, Result, refl, sym, subst, ap, ◌∙◌}
use Rattle.bench_lines.specs.Replies.{reply_of}
use Rattle.bench_session.specs.Standing.{Stands}
use Rattle.history.specs.Events.{began, read, wrote, closed, abandoned, collected, Event, at, settled, took, declined, answer_of}
use Rattle.history.specs.Performing.{Reached, Performed}
use Rattle.history.specs.declared.call.Answer.{Answer}
use Rattle.history.specs.declared.call.Answer.TheVariants.{Began, Setting, Written, Committed, Abandoned, Collected, Settled, Taken}
use Rattle.history.specs.declared.call.Call.{Call}
use Rattle.history.proofs.Running.{made_new}
use Rattle.lines.specs.Lines.{LineState, empty_line}
use Rattle.messages.specs.declared.fault.Fault.{Fault}
use Rattle.messages.specs.declared.parts.Write.{Write}
use Rattle.refusals.specs.declared.Refusal.{Refusal}
use Rattle.number_bytes.specs.Bytes.{Number}
use Rattle.session.specs.Calls.{after_make}
use Rattle.session.specs.Making.{make_answer, new_session, filled}
use Rattle.session.specs.States.{SessionState, World}
use Rattle.session.specs.Steps.{world}
use Rattle.session.specs.declared.place.Place.{Place}
use Rattle.session.specs.declared.ruling.Ruling.TheVariants.{Void, Decided}
use Rattle.settings.specs.Colours.{colours}
use Rattle.settings.specs.Kinds.{SettingKind}
use Rattle.settings.specs.declared.colour.Colour.{Colour}
use Rattle.summaries.specs.ExactLists.{exact_list}
use Rattle.summaries.specs.Kinds.{SummaryKind}
use Rattle.std.specs.List.{AllByRecursion}

module _ {T : Type 0} (S : SummaryKind) (K : SettingKind T) (call : Call T) (w w' : World T) where
  -- where a history led, it leads on
  pub reached_next : (answer : Result (Answer T) Refusal) → Performed S K call answer w w' → Reached S K w → Reached S K w'
  reached_next answer now before = record {
    start = before.start;
    made = before.made;
    events = now.stepped.event ∷ before.events;
    run = (now.lawful before.start before.made before.events before.run).0;
  }

  -- an event whose answer is a void ruling is a take that ruled so
  void_take : (e : Event T) (fault : Fault) → answer_of e ≡ Ok (Taken (Void fault)) → (u : ℕ) × (e ≡ took u (Void fault))
  void_take (at u s (began snapshot)) fault is = cc
  void_take (at u s (read n x)) fault is = cc
  void_take (at u s (wrote n x)) fault is = cc
  void_take (at u s (closed a)) fault is = cc
  void_take (at u s abandoned) fault is = cc
  void_take (at u s (collected outcome)) fault is = cc
  void_take (settled u) fault is = cc
  void_take (took u (Void other)) fault is = (u, cc)
  void_take (took u (Decided outcome)) fault is = cc
  void_take (declined c why) fault is = cc

  -- where a history led, no ruling is void
  pub never_void : (fault : Fault) → Performed S K call (Ok (Taken (Void fault))) w w' → Reached S K w → ⊥
  never_void fault now before =
      let (u, is) = void_take now.stepped.event fault now.stepped.is_answer in
      let lawful = (now.lawful before.start before.made before.events before.run).1 in
      lawful.no_void before.events [] u fault (ap (λ e. e ∷ before.events) is)

-- no reply stands for a void ruling alone
pub void_if_none : (answer : Result (Answer Colour) Refusal) → reply_of answer ≡ None → (fault : Fault) × (answer ≡ Ok (Taken (Void fault)))
void_if_none (Ok (Began snapshot)) none = cc
void_if_none (Ok (Setting x)) none = cc
void_if_none (Ok Written) none = cc
void_if_none (Ok (Committed a)) none = cc
void_if_none (Ok Abandoned) none = cc
void_if_none (Ok (Collected outcome)) none = cc
void_if_none (Ok Settled) none = cc
void_if_none (Ok (Taken (Void fault))) none = (fault, refl)
void_if_none (Ok (Taken (Decided outcome))) none = cc
void_if_none (Err why) none = cc

-- what stands where there is a session
pub stands_some : (made : Option SessionState) (s : SessionState) (places : List (Place Colour)) (writes : List (Write Colour)) (line : LineState) →
    made ≡ Some s → Stands made places writes line → Reached exact_list colours (world s places writes line)
stands_some None s places writes line is stands = cc
stands_some (Some x) s places writes line is stands =
    let same : x ≡ s = cc is in subst (λ y. Reached exact_list colours (world y places writes line)) same stands

-- what stands where there is none
pub stands_none : (made : Option SessionState) (places : List (Place Colour)) (writes : List (Write Colour)) (line : LineState) →
    made ≡ None → Stands made places writes line → line ≡ empty_line line.limit
stands_none None places writes line is stands = stands
stands_none (Some x) places writes line is stands = cc

-- a session that was just made over an empty line is where a history begins
pub reached_made : {T : Type 0} (S : SummaryKind) (K : SettingKind T) (suites : ℕ) (nodes : List ℕ) (handed places : List (Place T)) (writes : List (Write T))
    (line : LineState) (session : SessionState) → make_answer suites nodes handed writes line ≡ Ok session → AllByRecursion Number nodes →
    places ≡ after_make K (Ok session) suites nodes handed → line ≡ empty_line line.limit → Reached S K (world session places writes line)
reached_made {T = T} S K suites nodes handed places writes line session accepted numbers filled_is empty =
    subst (λ s. Reached S K (world s places writes line)) (sym new)
    (subst (λ ps. Reached S K (world (new_session suites nodes) ps writes line)) (sym filled_is) (record {
      start = world (new_session suites nodes) (filled K suites nodes) writes line;
      made = record { suites = suites; handed = handed; accepted = accepted ∙ ap Ok new; numbers = numbers; places = refl; line = empty };
      events = [];
      run = refl;
    }))
  where
    new : session ≡ new_session suites nodes
    new = made_new suites nodes handed writes line session accepted
