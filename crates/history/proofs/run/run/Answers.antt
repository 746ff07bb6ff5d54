use Rattle.std.proofs.Common.{◌≡◌, ◌<◌, ◌++◌, ◌∷◌, [], Ok, length, take, refl, sym, subst, ap, ◌∙◌, arith}
use Rattle.history.proofs.Lawfulness.{law}
use Rattle.history.proofs.Running.{made_new, exchanged_none, answer_more, calls_more, none_performed, one_more, script_ran}
use Rattle.history.specs.Laws.{Law}
use Rattle.history.specs.Performing.{PerformedAll, calls_of}
use Rattle.session.specs.Calls.{after_make}
use Rattle.session.specs.Making.{make_answer, new_session, filled}
use Rattle.session.specs.Steps.{world}
use Rattle.std.proofs.lemmas.List.{take_all}
use Rattle.history.proofs.run.run.Given.{Over}
use Rattle.history.proofs.run.run.Goals as goal

-- the law, for the kinds at hand
whole : (g : Over) → Law g.S.Summary.kind g.T.Setting.kind
whole g =
    let S = g.met.S.Summary in
    let T = g.met.T.Setting in
    law g.S.Summary.kind g.T.Setting.kind
    (record {
      some_width = S.some_width;
      within_limit = S.within_limit;
      packed_is_wide = S.packed_is_wide;
      packed_is_bytes = S.packed_is_bytes;
      listed_are_named = S.listed_are_named;
      none_from_none = S.none_from_none;
    })
    (record {
      some_width = T.some_width;
      within_limit = T.within_limit;
      form_is_wide = T.form_is_wide;
      form_is_bytes = T.form_is_bytes;
      form_reads = T.form_reads;
      only_forms_read = T.only_forms_read;
    })

pub loop-i-init : goal.loop-i-init
loop-i-init g c =
    let S = g.S.Summary.kind in
    let K = g.T.Setting.kind in
    let nodes = c.args.nodes.now in
    let line = g.L.Line.state c.args.line.now in
    let start = world (new_session c.args.suites nodes) (filled K c.args.suites nodes) c.args.writes.now line in
    let session : c.in_ok-session.session ≡ new_session c.args.suites nodes =
    made_new c.args.suites nodes c.args.places.now c.args.writes.now line c.in_ok-session.session (sym c.new.ensures.answer ∙ c.in_ok-session.was) in
    let places : c.new.new.places ≡ filled K c.args.suites nodes =
    c.new.ensures.places ∙ ap (λ r. after_make K r c.args.suites nodes c.args.places.now) c.in_ok-session.was in
    let here : start ≡ world c.in_ok-session.session c.new.new.places c.args.writes.now line =
    ap (λ x. world x (filled K c.args.suites nodes) c.args.writes.now line) (sym session)
    ∙ ap (λ x. world c.in_ok-session.session x c.args.writes.now line) (sym places) in
    ([], refl, sym (exchanged_none c.args.script.now), subst (PerformedAll S K [] [] start) here (none_performed S K (whole g) start))

pub loop-i-preserved : goal.loop-i-preserved
loop-i-preserved g c =
    let S = g.S.Summary.kind in
    let K = g.T.Setting.kind in
    let i = c.loop-i.i in
    let xs = c.args.script.now in
    let d = c.index-script-i.result in
    let line = g.L.Line.state c.args.line.now in
    let start = world (new_session c.args.suites c.args.nodes.now) (filled K c.args.suites c.args.nodes.now) c.args.writes.now line in
    let before = world c.loop-i.session c.loop-i.places c.loop-i.writes (g.L.Line.state c.loop-i.line) in
    let now = world c.perform-answer.new.session c.perform-answer.new.places c.perform-answer.new.writes (g.L.Line.state c.perform-answer.new.line) in
    let a = c.perform-answer.result in
    let (answers, long, script, all) = c.loop-i.invariant in
    let there : i < length xs = omega (arith, c.loop-i.auto.script) in
    let more = answer_more xs c.loop-i.script answers a d c.index-script-i-in-loop-i.result i long there script in
    let calls = ap (λ call. calls_of (take i xs) ++ call ∷ []) more.same_call ∙ sym (calls_more xs i d there) in (
      answers ++ a ∷ [],
      more.as_many,
      more.exchanges,
      subst (λ cs. PerformedAll S K cs (answers ++ a ∷ []) start now) calls (one_more S K (whole g) (calls_of (take i xs)) answers _ a start before now all c.perform-answer.ensures.law),
    )

pub returns-clause-law : goal.returns-clause-law
returns-clause-law g c =
    let S = g.S.Summary.kind in
    let K = g.T.Setting.kind in
    let xs = c.args.script.now in
    let nodes = c.args.nodes.now in
    let line = g.L.Line.state c.args.line.now in
    let start = world (new_session c.args.suites nodes) (filled K c.args.suites nodes) c.args.writes.now line in
    let now = world c.loop-i.session c.loop-i.places c.loop-i.writes (g.L.Line.state c.loop-i.line) in
    let (answers, long, script, all) = c.loop-i.invariant in
    let end : c.loop-i.i ≡ length xs = omega (arith, c.loop-i.auto.i-end) in
    let session = made_new c.args.suites nodes c.args.places.now c.args.writes.now line c.in_ok-session.session (sym c.new.ensures.answer ∙ c.in_ok-session.was) in
    let accepted : make_answer c.args.suites nodes c.args.places.now c.args.writes.now line ≡ Ok (new_session c.args.suites nodes) =
    sym c.new.ensures.answer ∙ c.in_ok-session.was ∙ ap Ok session in
    script_ran S K (whole g) c.args.suites nodes c.args.places.now c.args.writes.now line xs c.loop-i.script answers now
    accepted c.new.ensures.numbers (long ∙ end) script
    (subst (λ cs. PerformedAll S K (calls_of cs) answers start now) (take_all c.loop-i.i xs (omega (arith, end))) all)
