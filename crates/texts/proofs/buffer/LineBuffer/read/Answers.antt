use Rattle.std.proofs.Common.{◌≢◌, [], ◌++◌, ◌+◌, take, length, sym, ap, subst, ◌∙◌, rules, arith, take_all, le_refl}
use Rattle.std.proofs.lemmas.List.Elements.{All-nil, All-append}
use Rattle.std.proofs.lemmas.List.Quantifiers.{position-Some}
use Rattle.std.specs.Io.BufRead.{FillKeeps}
use Rattle.std.specs.Io.KnownBytes.{Consumes}
use Rattle.std.proofs.KnownBytes.{Consumes-nil, Consumes-trans}
use Rattle.std.proofs.BufReadLemmas.{Consumes_shown}
use Rattle.texts.specs.Buffers.{gathered, gathered_more_all, is_newline}
use Rattle.texts.proofs.Lines.{gathered_of_none, gathered_of_all, none_shown, before_newline, through_newline, no_newline, reads_to_newline, reads_to_end}
use Rattle.texts.proofs.buffer.LineBuffer.read.Goals as goal

pub loop-init : goal.loop-init
loop-init g c = ([], All-nil _, c.clear.ensures ∙ gathered_of_none _, Consumes-nil _)

pub returns-then-is_empty : goal.returns-then-is_empty
returns-then-is_empty g c =
    let (line, all, is, read) = c.loop.invariant in
    let end = none_shown (g.R.Read.remaining c.loop.input) _ (search rules) c.in_ok-shown.ensures.end in
    let reads = reads_to_end _ _ _ _ _ line _ all is read end c.fill_buf.follows.holds-at-none.0 c.is_empty-then-is_empty.ensures in
    record { gathers = (line, all, is, tt); line = reads.line; rest = reads.rest; some = reads.some; none = reads.none }

pub returns-in-Some : goal.returns-in-Some
returns-in-Some g c =
    let (line, all, is, read) = c.loop.invariant in
    let shown = c.in_ok-shown.shown.now in
    let end = c.in-Some.end in
    let piece = take end shown in
    let found = sym c.newline_in.ensures ∙ c.in-Some.is in
    let none = before_newline shown end found in
    let more = ◌∙◌ {b = gathered_more_all (gathered c.loop.self) piece} c.in_ok-extend-in-Some.ensures
    (ap (λ g. gathered_more_all g piece) is ∙ gathered_of_all c.args.self.now.most line piece) in
    let rested = c.fill_buf.follows.lender-at-none in
    let fills = subst (FillKeeps _ (g.R.Read.remaining rested) (g.R.BufRead.consumable_len rested)) c.in_ok-shown.was c.fill_buf.follows.holds-at-none in
    let gone = Consumes_shown _ _ _ _ shown (end + 1) (omega (arith, (position-Some is_newline shown end 0 found).0)) c.in_ok-shown.ensures.front c.in_ok-shown.ensures.end fills.0 fills.1 c.consume.ensures.bytes in
    let reads = reads_to_newline _ _ _ _ (gathered c.extend.new.self) line piece all none more read (subst (Consumes _ _) (through_newline shown end found) gone.0) in
    record { gathers = (line ++ piece, All-append (λ b. b ≢ 10) line piece all none, more, tt); line = reads.line; rest = reads.rest; some = reads.some; none = reads.none }

pub loop-preserved : goal.loop-preserved
loop-preserved g c =
    let (line, all, is, read) = c.loop.invariant in
    let shown = c.in_ok-shown.shown.now in
    let rested = c.fill_buf.follows.lender-at-none in
    let fills = subst (FillKeeps _ (g.R.Read.remaining rested) (g.R.BufRead.consumable_len rested)) c.in_ok-shown.was c.fill_buf.follows.holds-at-none in
    let gone = Consumes_shown _ _ _ _ shown (length shown) (le_refl _) c.in_ok-shown.ensures.front c.in_ok-shown.ensures.end fills.0 fills.1 c.consume-in-None.ensures.bytes in (
      line ++ shown,
      All-append (λ b. b ≢ 10) line shown all (no_newline shown (sym c.newline_in.ensures ∙ c.in-None.is)),
      ◌∙◌ {b = gathered_more_all (gathered c.loop.self) shown} c.in_ok-extend-in-None.ensures
          (ap (λ g. gathered_more_all g shown) is ∙ gathered_of_all c.args.self.now.most line shown),
      Consumes-trans _ _ _ line shown read (subst (Consumes _ _) (take_all (length shown) shown (le_refl _)) gone.0),
    )
