use Rattle.std.proofs.Common.{◌≡◌, Ok, Err, sym, subst, ap, ◌∙◌, rules}
use Rattle.history.proofs.Lawfulness.{law}
use Rattle.history.proofs.Performing.{performed_begin, performed_read, performed_write, performed_commit, performed_abandon, performed_collect, performed_settle, performed_take}
use Rattle.history.specs.Laws.{Law}
use Rattle.history.specs.Performing.{Performed}
use Rattle.session.specs.Steps.{told, world}
use Rattle.history.specs.declared.call.Answer.TheVariants.{Began, Setting, Written, Committed, Abandoned, Collected, Settled, Taken}
use Rattle.history.proofs.perform.perform.Given.{Over}
use Rattle.history.proofs.perform.perform.Goals as goal

-- the law, for the kinds at hand
whole : (g : Over) → Law g.S.Summary.kind g.T.Setting.kind
whole g =
    let S = g.met.S.Summary in
    let T = g.met.T.Setting in
    law g.S.Summary.kind g.T.Setting.kind
    (record {
      some_width = S.some_width;
      within_limit = S.within_limit;
      packed_is_wide = S.packed_is_wide;
      packed_is_bytes = S.packed_is_bytes;
      listed_are_named = S.listed_are_named;
      none_from_none = S.none_from_none;
    })
    (record {
      some_width = T.some_width;
      within_limit = T.within_limit;
      form_is_wide = T.form_is_wide;
      form_is_bytes = T.form_is_bytes;
      form_reads = T.form_reads;
      only_forms_read = T.only_forms_read;
    })

pub returns-in_err-snapshot-in-Begin-clause-law : goal.returns-in_err-snapshot-in-Begin-clause-law
returns-in_err-snapshot-in-Begin-clause-law g c =
    let w = world c.args.session.now c.args.places.now c.args.writes.now (g.L.Line.state c.args.line.now) in
    let w' = world c.begin.new.self c.args.places.now c.begin.new.writes (g.L.Line.state c.begin.new.line) in
    let refused : c.from_residual.result ≡ Err c.in_err-snapshot-in-Begin.field-0.0 = search rules in
    let is : c.from_residual.result ≡ told Began c.begin.result = refused ∙ sym (ap (told Began) c.in_err-snapshot-in-Begin.was) in
    subst (λ x. Performed g.S.Summary.kind g.T.Setting.kind x c.from_residual.result w w') (sym c.in-Begin.is)
    (performed_begin g.S.Summary.kind g.T.Setting.kind (whole g) w w' c.in-Begin.at c.from_residual.result c.begin.result c.begin.ensures.answer c.begin.ensures.after is)

pub returns-in_ok-snapshot-in-Begin-clause-law : goal.returns-in_ok-snapshot-in-Begin-clause-law
returns-in_ok-snapshot-in-Begin-clause-law g c =
    let w = world c.args.session.now c.args.places.now c.args.writes.now (g.L.Line.state c.args.line.now) in
    let w' = world c.begin.new.self c.args.places.now c.begin.new.writes (g.L.Line.state c.begin.new.line) in
    let is : Ok (Began c.in_ok-snapshot-in-Begin.snapshot) ≡ told Began c.begin.result = sym (ap (told Began) c.in_ok-snapshot-in-Begin.was) in
    subst (λ x. Performed g.S.Summary.kind g.T.Setting.kind x (Ok (Began c.in_ok-snapshot-in-Begin.snapshot)) w w') (sym c.in-Begin.is)
    (performed_begin g.S.Summary.kind g.T.Setting.kind (whole g) w w' c.in-Begin.at (Ok (Began c.in_ok-snapshot-in-Begin.snapshot)) c.begin.result c.begin.ensures.answer c.begin.ensures.after is)

pub returns-in_err-setting-in-Read-clause-law : goal.returns-in_err-setting-in-Read-clause-law
returns-in_err-setting-in-Read-clause-law g c =
    let w = world c.args.session.now c.args.places.now c.args.writes.now (g.L.Line.state c.args.line.now) in
    let w' = world c.read.new.self c.args.places.now c.read.new.writes (g.L.Line.state c.read.new.line) in
    let refused : c.from_residual-in_err-setting-in-Read.result ≡ Err c.in_err-setting-in-Read.field-0.0 = search rules in
    let is : c.from_residual-in_err-setting-in-Read.result ≡ told Setting c.read.result = refused ∙ sym (ap (told Setting) c.in_err-setting-in-Read.was) in
    subst (λ x. Performed g.S.Summary.kind g.T.Setting.kind x c.from_residual-in_err-setting-in-Read.result w w') (sym c.in-Read.is)
    (performed_read g.S.Summary.kind g.T.Setting.kind (whole g) w w' c.in-Read.at c.from_residual-in_err-setting-in-Read.result c.in-Read.node c.read.result c.read.ensures.answer c.read.ensures.after is)

pub returns-in_ok-setting-in-Read-clause-law : goal.returns-in_ok-setting-in-Read-clause-law
returns-in_ok-setting-in-Read-clause-law g c =
    let w = world c.args.session.now c.args.places.now c.args.writes.now (g.L.Line.state c.args.line.now) in
    let w' = world c.read.new.self c.args.places.now c.read.new.writes (g.L.Line.state c.read.new.line) in
    let is : Ok (Setting c.in_ok-setting-in-Read.setting) ≡ told Setting c.read.result = sym (ap (told Setting) c.in_ok-setting-in-Read.was) in
    subst (λ x. Performed g.S.Summary.kind g.T.Setting.kind x (Ok (Setting c.in_ok-setting-in-Read.setting)) w w') (sym c.in-Read.is)
    (performed_read g.S.Summary.kind g.T.Setting.kind (whole g) w w' c.in-Read.at (Ok (Setting c.in_ok-setting-in-Read.setting)) c.in-Read.node c.read.result c.read.ensures.answer c.read.ensures.after is)

pub returns-in_err-write-in-Write-clause-law : goal.returns-in_err-write-in-Write-clause-law
returns-in_err-write-in-Write-clause-law g c =
    let w = world c.args.session.now c.args.places.now c.args.writes.now (g.L.Line.state c.args.line.now) in
    let w' = world c.write.new.self c.args.places.now c.write.new.writes (g.L.Line.state c.write.new.line) in
    let refused : c.from_residual-in_err-write-in-Write.result ≡ Err c.in_err-write-in-Write.field-0.0 = search rules in
    let is : c.from_residual-in_err-write-in-Write.result ≡ told (λ _. Written) c.write.result = refused ∙ sym (ap (told (λ _. Written)) c.in_err-write-in-Write.was) in
    subst (λ x. Performed g.S.Summary.kind g.T.Setting.kind x c.from_residual-in_err-write-in-Write.result w w') (sym c.in-Write.is)
    (performed_write g.S.Summary.kind g.T.Setting.kind (whole g) w w' c.in-Write.at c.from_residual-in_err-write-in-Write.result c.in-Write.node c.in-Write.setting c.write.result c.write.ensures.answer c.write.ensures.after is)

pub returns-in_ok-write-in-Write-clause-law : goal.returns-in_ok-write-in-Write-clause-law
returns-in_ok-write-in-Write-clause-law g c =
    let w = world c.args.session.now c.args.places.now c.args.writes.now (g.L.Line.state c.args.line.now) in
    let w' = world c.write.new.self c.args.places.now c.write.new.writes (g.L.Line.state c.write.new.line) in
    let is : Ok Written ≡ told (λ _. Written) c.write.result = sym (ap (told (λ _. Written)) c.in_ok-write-in-Write.was) in
    subst (λ x. Performed g.S.Summary.kind g.T.Setting.kind x (Ok Written) w w') (sym c.in-Write.is)
    (performed_write g.S.Summary.kind g.T.Setting.kind (whole g) w w' c.in-Write.at (Ok Written) c.in-Write.node c.in-Write.setting c.write.result c.write.ensures.answer c.write.ensures.after is)

pub returns-in_err-answer-in-Commit-clause-law : goal.returns-in_err-answer-in-Commit-clause-law
returns-in_err-answer-in-Commit-clause-law g c =
    let w = world c.args.session.now c.args.places.now c.args.writes.now (g.L.Line.state c.args.line.now) in
    let w' = world c.commit.new.self c.args.places.now c.commit.new.writes (g.L.Line.state c.commit.new.line) in
    let refused : c.from_residual-in_err-answer-in-Commit.result ≡ Err c.in_err-answer-in-Commit.field-0.0 = search rules in
    let is : c.from_residual-in_err-answer-in-Commit.result ≡ told Committed c.commit.result = refused ∙ sym (ap (told Committed) c.in_err-answer-in-Commit.was) in
    subst (λ x. Performed g.S.Summary.kind g.T.Setting.kind x c.from_residual-in_err-answer-in-Commit.result w w') (sym c.in-Commit.is)
    (performed_commit g.S.Summary.kind g.T.Setting.kind (whole g) w w' c.in-Commit.at c.from_residual-in_err-answer-in-Commit.result c.commit.result c.commit.ensures.answer c.commit.ensures.after is)

pub returns-in_ok-answer-in-Commit-clause-law : goal.returns-in_ok-answer-in-Commit-clause-law
returns-in_ok-answer-in-Commit-clause-law g c =
    let w = world c.args.session.now c.args.places.now c.args.writes.now (g.L.Line.state c.args.line.now) in
    let w' = world c.commit.new.self c.args.places.now c.commit.new.writes (g.L.Line.state c.commit.new.line) in
    let is : Ok (Committed c.in_ok-answer-in-Commit.answer) ≡ told Committed c.commit.result = sym (ap (told Committed) c.in_ok-answer-in-Commit.was) in
    subst (λ x. Performed g.S.Summary.kind g.T.Setting.kind x (Ok (Committed c.in_ok-answer-in-Commit.answer)) w w') (sym c.in-Commit.is)
    (performed_commit g.S.Summary.kind g.T.Setting.kind (whole g) w w' c.in-Commit.at (Ok (Committed c.in_ok-answer-in-Commit.answer)) c.commit.result c.commit.ensures.answer c.commit.ensures.after is)

pub returns-in_err-abandon-in-Abandon-clause-law : goal.returns-in_err-abandon-in-Abandon-clause-law
returns-in_err-abandon-in-Abandon-clause-law g c =
    let w = world c.args.session.now c.args.places.now c.args.writes.now (g.L.Line.state c.args.line.now) in
    let w' = world c.abandon.new.self c.args.places.now c.abandon.new.writes (g.L.Line.state c.abandon.new.line) in
    let refused : c.from_residual-in_err-abandon-in-Abandon.result ≡ Err c.in_err-abandon-in-Abandon.field-0.0 = search rules in
    let is : c.from_residual-in_err-abandon-in-Abandon.result ≡ told (λ _. Abandoned) c.abandon.result = refused ∙ sym (ap (told (λ _. Abandoned)) c.in_err-abandon-in-Abandon.was) in
    subst (λ x. Performed g.S.Summary.kind g.T.Setting.kind x c.from_residual-in_err-abandon-in-Abandon.result w w') (sym c.in-Abandon.is)
    (performed_abandon g.S.Summary.kind g.T.Setting.kind (whole g) w w' c.in-Abandon.at c.from_residual-in_err-abandon-in-Abandon.result c.abandon.result c.abandon.ensures.answer c.abandon.ensures.after is)

pub returns-in_ok-abandon-in-Abandon-clause-law : goal.returns-in_ok-abandon-in-Abandon-clause-law
returns-in_ok-abandon-in-Abandon-clause-law g c =
    let w = world c.args.session.now c.args.places.now c.args.writes.now (g.L.Line.state c.args.line.now) in
    let w' = world c.abandon.new.self c.args.places.now c.abandon.new.writes (g.L.Line.state c.abandon.new.line) in
    let is : Ok Abandoned ≡ told (λ _. Abandoned) c.abandon.result = sym (ap (told (λ _. Abandoned)) c.in_ok-abandon-in-Abandon.was) in
    subst (λ x. Performed g.S.Summary.kind g.T.Setting.kind x (Ok Abandoned) w w') (sym c.in-Abandon.is)
    (performed_abandon g.S.Summary.kind g.T.Setting.kind (whole g) w w' c.in-Abandon.at (Ok Abandoned) c.abandon.result c.abandon.ensures.answer c.abandon.ensures.after is)

pub returns-in_err-outcome-in-Collect-clause-law : goal.returns-in_err-outcome-in-Collect-clause-law
returns-in_err-outcome-in-Collect-clause-law g c =
    let w = world c.args.session.now c.args.places.now c.args.writes.now (g.L.Line.state c.args.line.now) in
    let w' = world c.collect.new.self c.args.places.now c.collect.new.writes (g.L.Line.state c.collect.new.line) in
    let refused : c.from_residual-in_err-outcome-in-Collect.result ≡ Err c.in_err-outcome-in-Collect.field-0.0 = search rules in
    let is : c.from_residual-in_err-outcome-in-Collect.result ≡ told Collected c.collect.result = refused ∙ sym (ap (told Collected) c.in_err-outcome-in-Collect.was) in
    subst (λ x. Performed g.S.Summary.kind g.T.Setting.kind x c.from_residual-in_err-outcome-in-Collect.result w w') (sym c.in-Collect.is)
    (performed_collect g.S.Summary.kind g.T.Setting.kind (whole g) w w' c.in-Collect.at c.from_residual-in_err-outcome-in-Collect.result c.collect.result c.collect.ensures.answer c.collect.ensures.after is)

pub returns-in_ok-outcome-in-Collect-clause-law : goal.returns-in_ok-outcome-in-Collect-clause-law
returns-in_ok-outcome-in-Collect-clause-law g c =
    let w = world c.args.session.now c.args.places.now c.args.writes.now (g.L.Line.state c.args.line.now) in
    let w' = world c.collect.new.self c.args.places.now c.collect.new.writes (g.L.Line.state c.collect.new.line) in
    let is : Ok (Collected c.in_ok-outcome-in-Collect.outcome) ≡ told Collected c.collect.result = sym (ap (told Collected) c.in_ok-outcome-in-Collect.was) in
    subst (λ x. Performed g.S.Summary.kind g.T.Setting.kind x (Ok (Collected c.in_ok-outcome-in-Collect.outcome)) w w') (sym c.in-Collect.is)
    (performed_collect g.S.Summary.kind g.T.Setting.kind (whole g) w w' c.in-Collect.at (Ok (Collected c.in_ok-outcome-in-Collect.outcome)) c.collect.result c.collect.ensures.answer c.collect.ensures.after is)

pub returns-in_err-settle-in-Settle-clause-law : goal.returns-in_err-settle-in-Settle-clause-law
returns-in_err-settle-in-Settle-clause-law g c =
    let w = world c.args.session.now c.args.places.now c.args.writes.now (g.L.Line.state c.args.line.now) in
    let w' = world c.args.session.now c.args.places.now c.args.writes.now (g.L.Line.state c.settle.new.line) in
    let refused : c.from_residual-in_err-settle-in-Settle.result ≡ Err c.in_err-settle-in-Settle.field-0.0 = search rules in
    let is : c.from_residual-in_err-settle-in-Settle.result ≡ told (λ _. Settled) c.settle.result = refused ∙ sym (ap (told (λ _. Settled)) c.in_err-settle-in-Settle.was) in
    subst (λ x. Performed g.S.Summary.kind g.T.Setting.kind x c.from_residual-in_err-settle-in-Settle.result w w') (sym c.in-Settle.is)
    (performed_settle g.S.Summary.kind g.T.Setting.kind (whole g) w w' c.from_residual-in_err-settle-in-Settle.result c.settle.result c.settle.ensures.answer c.settle.ensures.choice is)

pub returns-in_ok-settle-in-Settle-clause-law : goal.returns-in_ok-settle-in-Settle-clause-law
returns-in_ok-settle-in-Settle-clause-law g c =
    let w = world c.args.session.now c.args.places.now c.args.writes.now (g.L.Line.state c.args.line.now) in
    let w' = world c.args.session.now c.args.places.now c.args.writes.now (g.L.Line.state c.settle.new.line) in
    let is : Ok Settled ≡ told (λ _. Settled) c.settle.result = sym (ap (told (λ _. Settled)) c.in_ok-settle-in-Settle.was) in
    subst (λ x. Performed g.S.Summary.kind g.T.Setting.kind x (Ok Settled) w w') (sym c.in-Settle.is)
    (performed_settle g.S.Summary.kind g.T.Setting.kind (whole g) w w' (Ok Settled) c.settle.result c.settle.ensures.answer c.settle.ensures.choice is)

pub returns-in_err-ruling-in-Take-clause-law : goal.returns-in_err-ruling-in-Take-clause-law
returns-in_err-ruling-in-Take-clause-law g c =
    let w = world c.args.session.now c.args.places.now c.args.writes.now (g.L.Line.state c.args.line.now) in
    let w' = world c.take.new.self c.take.new.places c.args.writes.now (g.L.Line.state c.args.line.now) in
    let refused : c.from_residual-in_err-ruling-in-Take.result ≡ Err c.in_err-ruling-in-Take.field-0.0 = search rules in
    let is : c.from_residual-in_err-ruling-in-Take.result ≡ told Taken c.take.result = refused ∙ sym (ap (told Taken) c.in_err-ruling-in-Take.was) in
    subst (λ x. Performed g.S.Summary.kind g.T.Setting.kind x c.from_residual-in_err-ruling-in-Take.result w w') (sym c.in-Take.is)
    (performed_take g.S.Summary.kind g.T.Setting.kind (whole g) w w' c.in-Take.suite c.from_residual-in_err-ruling-in-Take.result c.take.result c.take.ensures.answer c.take.ensures.choice is)

pub returns-in_ok-ruling-in-Take-clause-law : goal.returns-in_ok-ruling-in-Take-clause-law
returns-in_ok-ruling-in-Take-clause-law g c =
    let w = world c.args.session.now c.args.places.now c.args.writes.now (g.L.Line.state c.args.line.now) in
    let w' = world c.take.new.self c.take.new.places c.args.writes.now (g.L.Line.state c.args.line.now) in
    let is : Ok (Taken c.in_ok-ruling-in-Take.ruling) ≡ told Taken c.take.result = sym (ap (told Taken) c.in_ok-ruling-in-Take.was) in
    subst (λ x. Performed g.S.Summary.kind g.T.Setting.kind x (Ok (Taken c.in_ok-ruling-in-Take.ruling)) w w') (sym c.in-Take.is)
    (performed_take g.S.Summary.kind g.T.Setting.kind (whole g) w w' c.in-Take.suite (Ok (Taken c.in_ok-ruling-in-Take.ruling)) c.take.result c.take.ensures.answer c.take.ensures.choice is)
