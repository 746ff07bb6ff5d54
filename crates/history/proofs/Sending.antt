-- Commit: after one that is accepted everything fits; one that sends puts the message of the move into the line.
use Rattle.history.proofs.Elements.{get_push}
use Rattle.std.proofs.lemmas.Option.{slice_get_within}
use Rattle.std.proofs.Common.{◌≡◌, ℕ, ◌+◌, ◌<◌, ◌≤◌, ◌⊎◌, inl, inr, Bool, true, false, cond, eqb, leb, List, [], ◌∷◌, ◌++◌, length, get_or, Some, None, Ok, Err, Option, Result, sym, refl, ap, ◌∙◌, subst, arith}
use Rattle.std.proofs.lemmas.Bool.{eqb-true, eqb-false, leb-false}
use Rattle.std.proofs.lemmas.List.{get_or_append_left, get_or_push, length_push}
use Rattle.std.specs.Prelude.{slice_get, ◌≢◌, find}
use Rattle.std.specs.List.{AllByRecursion}
use Rattle.limits.proofs.Ranges.{not_outside}
use Rattle.history.proofs.Accepting.{accepted_slot}
use Rattle.history.proofs.ContentLaws.{writes_different}
use Rattle.history.specs.Contents.{reads_of, writes_of}
use Rattle.history.proofs.Fits.{GoodMove, Carries, OpenFits, LineFits, Fits}
use Rattle.history.proofs.Growing.{good_higher}
use Rattle.history.proofs.ReplicaSteps.{stamp_le}
use Rattle.history.proofs.SlotCalls.{fits_as, in_session}
use Rattle.history.proofs.SlotSteps.{moves_then, slot_stepped, slot_only_stepped}
use Rattle.history.specs.Events.{closed}
use Rattle.history.specs.Moves.{Move}
use Rattle.history.proofs.Effects.{effect}
use Rattle.history.specs.Runs.{answer}
use Rattle.history.specs.declared.call.Answer.{Answer}
use Rattle.history.specs.declared.call.Answer.TheVariants.{Committed}
use Rattle.history.specs.declared.call.Call.TheVariants.{Commit}
use Rattle.lines.specs.Lines.{held, offered, offer_answer}
use Rattle.number_bytes.specs.Bytes.{Number}
use Rattle.refusals.specs.declared.Refusal.{Refusal}
use Rattle.refusals.specs.declared.Refusal.TheVariants.{LineFull}
use Rattle.session.proofs.KindLaws.{SettingLaws, SummaryLaws}
use Rattle.session.proofs.LineFacts.{held_offered, waiting_offered, waiting_offered_other}
use Rattle.session.proofs.Reading.{Sendable, offer_goes}
use Rattle.session.proofs.Shares.{length_share_writes}
use Rattle.session.specs.Commits.{is_newer, move_message, after_check, commit_in, commit_answer, with_message}
use Rattle.session.specs.Shares.{Share, share_of, with_share, slot_of, with_slot}
use Rattle.session.specs.Slots.{own_writes}
use Rattle.session.specs.States.{SlotState, idle, opened, sent, ruled, World}
use Rattle.session.specs.declared.ruling.CommitAnswer.{CommitAnswer}
use Rattle.session.specs.declared.ruling.CommitAnswer.TheVariants.{Sent, ReadOnly, Clash}
use Rattle.session.specs.declared.ruling.Ruling.{Ruling}
use Rattle.settings.specs.Kinds.{SettingKind}
use Rattle.summaries.specs.Kinds.{SummaryKind}

module _ {T : Type 0} (S : SummaryKind) (K : SettingKind T) (U : ℕ) (ms : List (Move T)) (rl : ℕ → List Ruling) (o : ℕ → ℕ → Option (Move T)) (pend : ℕ → List (Move T)) (ca : ℕ → Option ℕ)
    (w : World T) (f : Fits S K w.session.nodes U ms rl o pend ca w) (u s : ℕ) where
  abbrev N : List ℕ
  N = w.session.nodes

  abbrev share : Share T
  share = share_of w u

  here : (1 ≤ u) × (u ≤ U) → (1 ≤ u) × (u ≤ length w.session.suites)
  here h = (h.0, omega (arith, h.1, f.suites))

  -- a commit that sends: the move that is open, which wrote something, and that the line has room
  pub record Sends : Type 0 where
    pub there : (1 ≤ u) × (u ≤ U)
    pub slot : (1 ≤ s) × (s ≤ 4)
    pub t : ℕ
    pub nodes : List ℕ
    pub written : ℕ
    pub state : slot_of share s ≡ opened t nodes written
    pub fit : OpenFits S K N U ms rl (rl u) share.places share.writes s t nodes written (o u s)
    pub some : written ≢ 0
    pub goes : offer_answer w.line u (move_message S K u s t nodes (own_writes share s written)) ≡ Ok tt

  pub sends_if : answer S K w (Commit (record { suite = u; slot = s })) ≡ Ok (Committed Sent) → Sends
  sends_if h =
      let a = accepted_slot Committed w u (commit_answer S K N u s) (Committed Sent) s h in
      by (in_session S K U ms rl o pend ca w f u s a.0.there) a.1 (slot_of share s) refl (a.0.ruled ∙ ap Ok (is_sent a.0.value a.0.is))
    where
      is_sent : (v : CommitAnswer) → ◌≡◌ {A = Answer T} (Committed v) (Committed Sent) → v ≡ Sent
      is_sent v e = cc

      from : (there : (1 ≤ u) × (u ≤ U)) (slot : (1 ≤ s) × (s ≤ 4)) (t : ℕ) (nodes : List ℕ) (written : ℕ) → slot_of share s ≡ opened t nodes written →
          (b : Bool) → eqb written 0 ≡ b → (c : Option ℕ) (r : Result (Unit {0}) Refusal) →
          offer_answer w.line u (move_message S K u s t nodes (own_writes share s written)) ≡ r →
          cond b (Ok (ReadOnly t)) (after_check c r) ≡ Ok Sent → Sends
      from there slot t nodes written e true z c r i h = cc
      from there slot t nodes written e false z (Some n) r i h = cc
      from there slot t nodes written e false z None (Err why) i h = cc
      from there slot t nodes written e false z None (Ok v) i h = record {
        there = there;
        slot = slot;
        t = t;
        nodes = nodes;
        written = written;
        state = e;
        fit = fits_as S K U ms rl o pend ca w f u s there slot (opened t nodes written) e;
        some = eqb-false written 0 z;
        goes = i;
      }

      by : (1 ≤ u) × (u ≤ U) → (1 ≤ s) × (s ≤ 4) → (q : SlotState) → slot_of share s ≡ q → commit_in S K N share u s q ≡ Ok Sent → Sends
      by there slot idle e r = cc
      by there slot (opened t nodes written) e r =
          from there slot t nodes written e (eqb written 0) refl (find (is_newer N share.places t) nodes)
          (offer_answer w.line u (move_message S K u s t nodes (own_writes share s written))) refl r
      by there slot sent e r = cc
      by there slot (ruled _) e r = cc

  -- what waits then, if the move in the slot was sent
  abbrev pub pending_then : Move T → ℕ → List (Move T)
  pending_then m v = cond (eqb u v) (pend v ++ m ∷ []) (pend v)

  module _ (of_S : SummaryLaws S) (of_K : SettingLaws K) (numbers : AllByRecursion Number N)
      (origin : (m : Move T) → o u s ≡ Some m → (m.suite ≡ u) × (m.slot ≡ s)) where
    module _ (g : Sends) where
      abbrev m : Move T
      m = g.fit.move

      abbrev message : List ℕ
      message = move_message S K u s g.t g.nodes (own_writes share s g.written)

      sendable : Sendable N u s m.snapshot (reads_of m.calls) (writes_of m.calls)
      sendable =
          let good = g.fit.good in
          let limit = not_outside 4096 w.line.limit f.line.usable in
          let low = stamp_le S K N ms good.from in
          record {
            suite_there = (g.there.0, omega (arith, g.there.1, f.few_suites));
            slot_there = g.slot;
            few_reads = good.few_reads;
            some_writes = (let count = g.fit.count in let some = g.some in omega arith);
            few_writes = good.few_writes;
            known_writes = good.known_writes;
            different = writes_different m.calls;
            small = omega (arith, good.snapshot, low, good.below, (f.each u g.there).within, f.line.agreed_long, f.line.holds, limit);
          }

      same_message : message ≡ move_message S K u s m.snapshot (reads_of m.calls) (writes_of m.calls)
      same_message =
          ap (λ k. move_message S K u s k g.nodes (own_writes share s g.written)) (sym g.fit.snapshot)
          ∙ ap (λ ns. move_message S K u s m.snapshot ns (own_writes share s g.written)) (sym g.fit.reads)
          ∙ ap (move_message S K u s m.snapshot (reads_of m.calls)) g.fit.own

      -- the message is the move's own
      carried : (bytes : List ℕ) → bytes ≡ message → Carries S K N U bytes m
      carried bytes is =
          let from = origin m g.fit.is in
          record {
            there = omega (arith, from.0, g.there.1);
            fit = subst (λ a. Sendable N a m.slot m.snapshot (reads_of m.calls) (writes_of m.calls)) (sym from.0)
                (subst (λ b. Sendable N u b m.snapshot (reads_of m.calls) (writes_of m.calls)) (sym from.1) sendable);
            is = is
                ∙ same_message
                ∙ ap (λ b. move_message S K u b m.snapshot (reads_of m.calls) (writes_of m.calls)) (sym from.1)
                ∙ ap (λ a. move_message S K a m.slot m.snapshot (reads_of m.calls) (writes_of m.calls)) (sym from.0);
          }

      room : held w.line < w.line.limit
      room = by (leb w.line.limit (held w.line)) refl
        where
          by : (b : Bool) → leb w.line.limit (held w.line) ≡ b → held w.line < w.line.limit
          by true e =
              let full : Err LineFull ≡ Ok tt =
              sym (ap (λ b. cond b (Err LineFull) (Ok tt)) e)
              ∙ sym (offer_goes S K of_S of_K sendable numbers w.line f.line.usable)
              ∙ ap (offer_answer w.line u) (sym same_message)
              ∙ g.goes in
              cc
          by false e = leb-false w.line.limit (held w.line) e

      here_8 : (1 ≤ u) × (u ≤ 8)
      here_8 = (g.there.0, omega (arith, g.there.1, f.few_suites))

      sent_line : LineFits S K N U ms rl (pending_then m) (offered w.line u message)
      sent_line = record {
        usable = f.line.usable;
        holds = omega (arith, held_offered w.line u message here_8.0 here_8.1, room);
        agreed_long = f.line.agreed_long;
        agreed_is = f.line.agreed_is;
        waiting_long = λ v h. long v h (eqb u v) refl;
        waiting_is = λ v h k m' e. carry v h k m' (eqb u v) refl e;
      }
        where
          after : ℕ → List (List ℕ)
          after v = (offered w.line u message).waiting v

          long : (v : ℕ) → (1 ≤ v) × (v ≤ 8) → (b : Bool) → eqb u v ≡ b → length ((offered w.line u message).waiting v) ≡ length (cond b (pend v ++ m ∷ []) (pend v))
          long v h true e =
              subst (λ x. length ((offered w.line u message).waiting x) ≡ length (pend x ++ m ∷ [])) (eqb-true u v e)
              (ap length (waiting_offered w.line u message)
              ∙ length_push (w.line.waiting u) message
              ∙ ap (λ n. n + 1) (f.line.waiting_long u here_8)
              ∙ sym (length_push (pend u) m))
          long v h false e =
              ap length (waiting_offered_other w.line u message v (λ z. eqb-false u v e (sym z))) ∙ f.line.waiting_long v h

          at_u : (k : ℕ) (m' : Move T) → (slice_get (pend u) k ≡ Some m') ⊎ ((k ≡ length (pend u)) × (m ≡ m')) →
              Carries S K N U (get_or (w.line.waiting u ++ message ∷ []) k []) m' × GoodMove S K N U ms rl (length ms) m'
          at_u k m' (inl e) =
              let old = f.line.waiting_is u here_8 k m' e in
              let inside = slice_get_within (pend u) k m' e in
              let same = get_or_append_left (w.line.waiting u) (message ∷ []) [] k (omega (arith, f.line.waiting_long u here_8)) in
              (subst (λ b. Carries S K N U b m') (sym same) old.0, old.1)
          at_u k m' (inr e) =
              let last : get_or (w.line.waiting u ++ message ∷ []) k [] ≡ message =
              get_or_push (w.line.waiting u) message [] k (f.line.waiting_long u here_8 ∙ sym e.0) in
              subst (λ z. Carries S K N U (get_or (w.line.waiting u ++ message ∷ []) k []) z × GoodMove S K N U ms rl (length ms) z) e.1 (
                carried (get_or (w.line.waiting u ++ message ∷ []) k []) last,
                good_higher S K N U ms rl (length (rl u)) (length ms) m (f.each u g.there).within g.fit.good,
              )

          carry : (v : ℕ) → (1 ≤ v) × (v ≤ 8) → (k : ℕ) (m' : Move T) → (b : Bool) → eqb u v ≡ b → slice_get (cond b (pend v ++ m ∷ []) (pend v)) k ≡ Some m' →
              Carries S K N U (get_or ((offered w.line u message).waiting v) k []) m' × GoodMove S K N U ms rl (length ms) m'
          carry v h k m' true e i =
              subst (λ x. Carries S K N U (get_or ((offered w.line u message).waiting x) k []) m' × GoodMove S K N U ms rl (length ms) m') (eqb-true u v e)
              (subst (λ l. Carries S K N U (get_or l k []) m' × GoodMove S K N U ms rl (length ms) m') (sym (waiting_offered w.line u message))
              (at_u k m' (get_push (pend u) m k m' (ap (λ x. slice_get (pend x ++ m ∷ []) k) (eqb-true u v e) ∙ i))))
          carry v h k m' false e i =
              subst (λ l. Carries S K N U (get_or l k []) m' × GoodMove S K N U ms rl (length ms) m')
              (sym (waiting_offered_other w.line u message v (λ z. eqb-false u v e (sym z)))) (f.line.waiting_is v h k m' i)

      pub sent_fits : Fits S K N U ms rl (moves_then o u s (closed Sent)) (pending_then m) ca (with_share w u (effect S K u s (closed Sent) share))
      sent_fits =
          subst (λ z. Fits S K N U ms rl (moves_then o u s (closed Sent)) (pending_then m) ca
          (with_share w u (record (with_slot share s sent) { line = with_message S K share u s z }))) (sym g.state)
          (slot_stepped S K U ms rl o pend ca w f u s g.there g.slot (closed Sent) sent share.writes (offered w.line u message) (pending_then m)
          (length_share_writes w u f.sized (here g.there)) (λ r k h l d. refl) sent_line refl)

  pub ended_fits : (a : CommitAnswer) → a ≢ Sent → answer S K w (Commit (record { suite = u; slot = s })) ≡ Ok (Committed a) →
      Fits S K N U ms rl (moves_then o u s (closed a)) pend ca (with_share w u (effect S K u s (closed a) share))
  ended_fits Sent d h = absurd (d refl)
  ended_fits (ReadOnly t) d h =
      let a = accepted_slot Committed w u (commit_answer S K N u s) (Committed (ReadOnly t)) s h in
      slot_only_stepped S K U ms rl o pend ca w f u s (in_session S K U ms rl o pend ca w f u s a.0.there) a.1 (closed (ReadOnly t)) idle refl
  ended_fits (Clash n) d h =
      let a = accepted_slot Committed w u (commit_answer S K N u s) (Committed (Clash n)) s h in
      slot_only_stepped S K U ms rl o pend ca w f u s (in_session S K U ms rl o pend ca w f u s a.0.there) a.1 (closed (Clash n)) idle refl
