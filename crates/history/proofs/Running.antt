-- A script that runs: its calls performed one after the other, and its answers put in.
use Rattle.std.proofs.Common.{◌≡◌, ℕ, zero, suc, ◌+◌, ◌<◌, Bool, true, false, cond, List, [], ◌∷◌, ◌++◌, length, map, reverse, take, set, get_or, Some, Ok, Err, Result, refl, sym, subst, ap, ◌∙◌, arith}
use Rattle.history.specs.Events.{call_of, answer_of}
use Rattle.history.specs.Laws.{Law, Lawful}
use Rattle.history.specs.Performing.{Performed, PerformedAll, exchanged, calls_of, Ran}
use Rattle.history.specs.Runs.{Made}
use Rattle.history.specs.declared.call.Answer.{Answer}
use Rattle.history.specs.declared.call.Call.{Call}
use Rattle.history.specs.declared.run.Exchange.{Exchange}
use Rattle.limits.specs.Limits.{most_suites, most_nodes, outside}
use Rattle.lines.specs.Lines.{LineState, empty_line}
use Rattle.messages.specs.declared.parts.Write.{Write}
use Rattle.number_bytes.specs.Bytes.{Number}
use Rattle.refusals.specs.declared.Refusal.{Refusal}
use Rattle.refusals.specs.declared.Refusal.TheVariants.{SuiteCount, NodeCount, RepeatedNode, MemorySize}
use Rattle.session.specs.Making.{make_answer, new_session, filled, repeated}
use Rattle.session.specs.States.{SessionState, World, unfit}
use Rattle.session.specs.Steps.{world}
use Rattle.session.specs.declared.place.Place.{Place}
use Rattle.settings.specs.Kinds.{SettingKind}
use Rattle.summaries.specs.Kinds.{SummaryKind}
use Rattle.std.proofs.lemmas.List.{append-nil, length-append, map-append, reverse-append}
use Rattle.std.specs.List.{AllByRecursion}

-- a session that is made is a new one
pub made_new : {T : Type 0} (suites : ℕ) (nodes : List ℕ) (places : List (Place T)) (writes : List (Write T)) (line : LineState) (made : SessionState) →
    make_answer suites nodes places writes line ≡ Ok made → made ≡ new_session suites nodes
made_new suites nodes places writes line made =
    by (outside most_suites suites) (outside most_nodes (length nodes)) (repeated nodes) (unfit (world (new_session suites nodes) places writes line))
  where
    by : (a b c d : Bool) →
        ◌≡◌ {A = Result SessionState Refusal} (cond a (Err SuiteCount) (cond b (Err NodeCount) (cond c (Err RepeatedNode) (cond d (Err MemorySize) (Ok (new_session suites nodes)))))) (Ok made) →
        made ≡ new_session suites nodes
    by true b c d is = cc
    by false true c d is = cc
    by false false true d is = cc
    by false false false true is = cc
    by false false false false is = cc

module _ {T : Type 0} where
  -- ---- a script and its answers

  pub exchanged_none : (xs : List (Exchange T)) → exchanged xs [] ≡ xs
  unfolding exchanged
  exchanged_none [] = refl
  exchanged_none (x ∷ xs) = refl

  pub exchanged_at : (xs : List (Exchange T)) (answers : List (Result (Answer T) Refusal)) (d : Exchange T) → length answers < length xs →
      get_or (exchanged xs answers) (length answers) d ≡ get_or xs (length answers) d
  unfolding exchanged
  exchanged_at [] answers d there = absurd (omega arith)
  exchanged_at (x ∷ xs) [] d there = refl
  exchanged_at (x ∷ xs) (a ∷ answers) d there = exchanged_at xs answers d (omega arith)

  pub exchanged_more : (xs : List (Exchange T)) (answers : List (Result (Answer T) Refusal)) (a : Result (Answer T) Refusal) (d : Exchange T) →
      length answers < length xs →
      set (exchanged xs answers) (length answers) (record { call = (get_or xs (length answers) d).call; answer = Some a }) ≡ exchanged xs (answers ++ a ∷ [])
  unfolding exchanged
  exchanged_more [] answers a d there = absurd (omega arith)
  exchanged_more (x ∷ xs) [] a d there = ap (λ l. record { call = x.call; answer = Some a } ∷ l) (sym (exchanged_none xs))
  exchanged_more (x ∷ xs) (b ∷ answers) a d there =
      ap (λ l. record { call = x.call; answer = Some b } ∷ l) (exchanged_more xs answers a d (omega arith))

  -- one answer more, where the script has these so far
  pub record OneMore (xs script : List (Exchange T)) (answers : List (Result (Answer T) Refusal)) (a : Result (Answer T) Refusal) (d e : Exchange T) (i : ℕ) : Type 0 where
    pub as_many : length (answers ++ a ∷ []) ≡ i + 1
    pub exchanges : set script i (record { call = (get_or script i e).call; answer = Some a }) ≡ exchanged xs (answers ++ a ∷ [])
    pub same_call : (get_or script i d).call ≡ (get_or xs i d).call

  pub answer_more : (xs script : List (Exchange T)) (answers : List (Result (Answer T) Refusal)) (a : Result (Answer T) Refusal) (d e : Exchange T) (i : ℕ) →
      length answers ≡ i → i < length xs → script ≡ exchanged xs answers → OneMore xs script answers a d e i
  answer_more xs script answers a d e i long there is =
      subst (OneMore xs script answers a d e) long (record {
        as_many = length-append answers (a ∷ []);
        exchanges =
            ap (λ l. set l (length answers) (record { call = (get_or l (length answers) e).call; answer = Some a })) is
            ∙ ap (λ x. set (exchanged xs answers) (length answers) (record { call = x.call; answer = Some a })) (exchanged_at xs answers e inside)
            ∙ exchanged_more xs answers a e inside;
        same_call = ap (λ l. (get_or l (length answers) d).call) is ∙ ap (λ x. x.call) (exchanged_at xs answers d inside);
      })
    where
      inside : length answers < length xs
      inside = omega (arith, long, there)

  -- one call more
  pub calls_more : (xs : List (Exchange T)) (i : ℕ) (d : Exchange T) → i < length xs →
      calls_of (take (i + 1) xs) ≡ calls_of (take i xs) ++ (get_or xs i d).call ∷ []
  calls_more [] i d there = absurd (omega arith)
  calls_more (x ∷ xs) zero d there = refl
  calls_more (x ∷ xs) (suc i) d there =
      let next : suc i + 1 ≡ suc (i + 1) = omega arith in
      ap (λ k. calls_of (take k (x ∷ xs))) next ∙ ap (λ l. x.call ∷ l) (calls_more xs i d (omega arith))

module _ {T : Type 0} (S : SummaryKind) (K : SettingKind T) (whole : Law S K) where
  -- no calls
  pub none_performed : (w : World T) → PerformedAll S K [] [] w w
  none_performed w = record {
    events = [];
    are_calls = refl;
    are_answers = refl;
    run = refl;
    isolation = whole.isolation;
    lawful = λ start made es run. (run, whole.lawful start made es w run);
  }

  -- one call more
  pub one_more : (calls : List (Call T)) (answers : List (Result (Answer T) Refusal)) (call : Call T) (a : Result (Answer T) Refusal) (w v w' : World T) →
      PerformedAll S K calls answers w v → Performed S K call a v w' → PerformedAll S K (calls ++ call ∷ []) (answers ++ a ∷ []) w w'
  one_more calls answers call a w v w' all last =
      let e = last.stepped.event in
      record {
        events = e ∷ all.events;
        are_calls =
            ap (map call_of) (reverse-append (e ∷ []) all.events)
            ∙ map-append call_of (reverse all.events) (e ∷ [])
            ∙ ap (λ l. l ++ call_of e ∷ []) all.are_calls
            ∙ ap (λ c. calls ++ c ∷ []) last.stepped.is_call;
        are_answers =
            ap (map answer_of) (reverse-append (e ∷ []) all.events)
            ∙ map-append answer_of (reverse all.events) (e ∷ [])
            ∙ ap (λ l. l ++ answer_of e ∷ []) all.are_answers
            ∙ ap (λ c. answers ++ c ∷ []) last.stepped.is_answer;
        run = (v, all.run, last.stepped.step);
        isolation = whole.isolation;
        lawful = λ start made es run. last.lawful start made (all.events ++ es) (all.lawful start made es run).0;
      }

  -- a script that ran
  pub script_ran : (suites : ℕ) (nodes : List ℕ) (places : List (Place T)) (writes : List (Write T)) (line : LineState)
      (script script' : List (Exchange T)) (answers : List (Result (Answer T) Refusal)) (w' : World T) →
      make_answer suites nodes places writes line ≡ Ok (new_session suites nodes) → AllByRecursion Number nodes →
      length answers ≡ length script → script' ≡ exchanged script answers →
      PerformedAll S K (calls_of script) answers (world (new_session suites nodes) (filled K suites nodes) writes line) w' →
      Ran S K suites nodes places writes line script script' w'
  script_ran suites nodes places writes line script script' answers w' accepted numbers as_many exchanges all = record {
    accepted = accepted;
    answers = answers;
    as_many = as_many;
    exchanges = exchanges;
    all = all;
    made = made;
    lawful = λ empty.
        subst (λ es. Lawful S K (world (new_session suites nodes) (filled K suites nodes) writes line) es w') (append-nil all.events)
        (all.lawful (world (new_session suites nodes) (filled K suites nodes) writes line) (made empty) [] refl).1;
  }
    where
      made : line ≡ empty_line line.limit → Made K (world (new_session suites nodes) (filled K suites nodes) writes line)
      made empty = record { suites = suites; handed = places; accepted = accepted; numbers = numbers; places = refl; line = empty }
