-- Write: after one that is accepted everything fits.
use Rattle.std.proofs.Common.{◌≡◌, ℕ, ◌+◌, ◌≤◌, Bool, true, false, cond, eqb, List, ◌∷◌, length, set, Some, None, Ok, Option, sym, refl, ap, ◌∙◌, subst, arith}
use Rattle.std.proofs.lemmas.List.{length-set}
use Rattle.std.specs.List.{ContainsAt}
use Rattle.history.proofs.Accepting.{accepted_slot}
use Rattle.session.proofs.Entering.{all_with_write}
use Rattle.history.specs.Contents.{last_write, reads_of, writes_of}
use Rattle.history.proofs.Fits.{OpenFits, Fits}
use Rattle.history.proofs.SlotCalls.{fits_as, in_session}
use Rattle.history.proofs.SlotSteps.{moves_then, slot_stepped}
use Rattle.history.specs.Events.{Did, wrote}
use Rattle.history.specs.Moves.{Move, continued}
use Rattle.history.proofs.Effects.{effect}
use Rattle.history.specs.Runs.{answer}
use Rattle.history.specs.declared.call.Answer.TheVariants.{Written}
use Rattle.history.specs.declared.call.Call.TheVariants.{Write}
use Rattle.messages.proofs.Judging.{known_decides}
use Rattle.messages.specs.Reading.{known}
use Rattle.session.proofs.Shares.{length_share_writes}
use Rattle.session.specs.Slots.{with_write}
use Rattle.session.proofs.Writing.{Writable, write_accepted, few_after_write, after_write, own_after_write, own_beside_write}
use Rattle.session.specs.Shares.{Share, share_of, with_share, slot_of}
use Rattle.session.specs.Slots.{first_write, own_writes, write_at, write_in, write_answer, write_leaves}
use Rattle.session.specs.States.{SlotState, idle, opened, sent, ruled, World}
use Rattle.session.specs.declared.ruling.Ruling.{Ruling}
use Rattle.settings.specs.Kinds.{SettingKind}
use Rattle.summaries.specs.Kinds.{SummaryKind}

-- a node that is not written after one more write was not written before
unwritten_before : {T : Type 0} (n : ℕ) (x : T) (k : ℕ) (ds : List (Did T)) → last_write (wrote n x ∷ ds) k ≡ None → last_write ds k ≡ None
unfolding last_write
unwritten_before {T} n x k ds h = by (eqb n k) h
  where
    by : (b : Bool) → ◌≡◌ {A = Option T} (cond b (Some x) (last_write ds k)) None → last_write ds k ≡ None
    by true h = cc
    by false h = h

module _ {T : Type 0} (S : SummaryKind) (K : SettingKind T) (U : ℕ) (ms : List (Move T)) (rl : ℕ → List Ruling) (o : ℕ → ℕ → Option (Move T)) (pend : ℕ → List (Move T)) (ca : ℕ → Option ℕ)
    (w : World T) (f : Fits S K w.session.nodes U ms rl o pend ca w) (u s : ℕ) where
  abbrev N : List ℕ
  N = w.session.nodes

  abbrev share : Share T
  share = share_of w u

  here : (1 ≤ u) × (u ≤ U) → (1 ≤ u) × (u ≤ length w.session.suites)
  here h = (h.0, omega (arith, h.1, f.suites))

  pub wrote_fits : (n : ℕ) (x : T) → answer S K w (Write (record { suite = u; slot = s }) n x) ≡ Ok Written →
      Fits S K N U ms rl (moves_then o u s (wrote n x)) pend ca (with_share w u (effect S K u s (wrote n x) share))
  unfolding reads_of writes_of last_write
  wrote_fits n x h =
      let a = accepted_slot (λ _. Written) w u (write_answer N s n) Written s h in
      by (in_session S K U ms rl o pend ca w f u s a.0.there) a.1 (slot_of share s) refl a.0.ruled
    where
      from : (there : (1 ≤ u) × (u ≤ U)) (slot : (1 ≤ s) × (s ≤ 4)) (t : ℕ) (nodes : List ℕ) (written : ℕ) → slot_of share s ≡ opened t nodes written →
          (fit : OpenFits S K N U ms rl (rl u) share.places share.writes s t nodes written (o u s)) → known N n ≡ true →
          Writable share s n t nodes written →
          Fits S K N U ms rl (moves_then o u s (wrote n x)) pend ca (with_share w u (write_leaves s n x tt share))
      from there slot t nodes written e fit k can =
          let after = with_write (own_writes share s written) n x in
          let all = set share.writes (first_write s + write_at share s n written) (record { node = n; setting = x }) in
          let m = fit.move in
          let good = fit.good in
          let same : with_write (own_writes share s written) n x ≡ with_write (writes_of m.calls) n x = ap (λ ws. with_write ws n x) fit.own in
          subst (λ z. Fits S K N U ms rl (moves_then o u s (wrote n x)) pend ca (with_share w u z)) (sym (after_write share s n t nodes written x can))
          (slot_stepped S K U ms rl o pend ca w f u s there slot (wrote n x) (opened t nodes (length after)) all w.line pend
          (length-set share.writes (first_write s + write_at share s n written) (record { node = n; setting = x }) ∙ length_share_writes w u f.sized (here there))
          (λ r j r_there few d.
          sym (ap (λ sh. own_writes sh r j) (after_write share s n t nodes written x can))
          ∙ own_beside_write share s n t nodes written x can r j r_there.0 d few)
          f.line
          (record {
            move = record m { calls = wrote n x ∷ m.calls };
            is = ap (continued u s (wrote n x)) fit.is;
            snapshot = fit.snapshot;
            reads = fit.reads;
            own = sym (ap (λ sh. own_writes sh s (length after)) (after_write share s n t nodes written x can))
                ∙ own_after_write share s n t nodes written x can
                ∙ same;
            count = sym (ap length same);
            good = record {
              from = good.from;
              snapshot = good.snapshot;
              below = good.below;
              taker = good.taker;
              there = good.there;
              taken = good.taken;
              reads = good.reads;
              few_reads = good.few_reads;
              known_reads = good.known_reads;
              few_writes = omega (arith, ap length same, few_after_write share s n t nodes written x can);
              known_writes = all_with_write (λ v. ContainsAt N v.node) (writes_of m.calls) n x good.known_writes ((known_decides N n).0 k);
            };
            sees = λ k there none. fit.sees k there (unwritten_before n x k m.calls none);
          }))

      by : (1 ≤ u) × (u ≤ U) → (1 ≤ s) × (s ≤ 4) → (q : SlotState) → slot_of share s ≡ q → write_in N share s n q ≡ Ok tt →
          Fits S K N U ms rl (moves_then o u s (wrote n x)) pend ca (with_share w u (write_leaves s n x tt share))
      by there slot idle e r = cc
      by there slot (opened t nodes written) e r =
          let ok = write_accepted N share s n t nodes written r in
          let fit = fits_as S K U ms rl o pend ca w f u s there slot (opened t nodes written) e in
          from there slot t nodes written e fit ok.0
          (record {
            slot_is = e;
            slots = (f.each u there).four;
            writes = length_share_writes w u f.sized (here there);
            low = slot.0;
            high = slot.1;
            few = omega (arith, fit.count, fit.good.few_writes);
            room = ok.1;
          })
      by there slot sent e r = cc
      by there slot (ruled _) e r = cc
