-- What holds of moves and suites stays when more is agreed and more is taken.
use Rattle.std.proofs.Common.{◌≡◌, ℕ, ◌<◌, ◌≤◌, List, length, Some, Option, sym, ap, ◌∙◌, subst, arith, get_or, ◌-◌}
use Rattle.std.specs.Prelude.{slice_get}
use Rattle.history.proofs.Fits.{settings, GoodMove, OpenFits, SlotFits, SuiteFits}
use Rattle.history.proofs.Replicas.{replica, rules_on}
use Rattle.history.specs.Copies.{ReadsOn}
use Rattle.history.specs.Moves.{Move}
use Rattle.messages.specs.declared.parts.Write.{Write}
use Rattle.session.specs.States.{SlotState, idle, opened, sent, ruled, SuiteState}
use Rattle.session.specs.declared.place.Place.{Place}
use Rattle.session.specs.declared.ruling.Ruling.{Ruling}
use Rattle.session.specs.declared.ruling.Ruling.TheVariants.{Decided}
use Rattle.settings.specs.Kinds.{SettingKind}
use Rattle.summaries.specs.Kinds.{SummaryKind}

module _ {T : Type 0} (S : SummaryKind) (K : SettingKind T) (N : List ℕ) (U : ℕ) where
  abbrev pub good_higher : (ms : List (Move T)) (rl : ℕ → List Ruling) (top top' : ℕ) (m : Move T) → top ≤ top' → GoodMove S K N U ms rl top m → GoodMove S K N U ms rl top' m
  good_higher ms rl top top' m le good = record {
    from = good.from;
    snapshot = good.snapshot;
    below = omega (arith, good.below);
    taker = good.taker;
    there = good.there;
    taken = good.taken;
    reads = good.reads;
    few_reads = good.few_reads;
    known_reads = good.known_reads;
    few_writes = good.few_writes;
    known_writes = good.known_writes;
  }

  -- ms' and rl' are ms and rl, with more agreed and more taken, perhaps
  pub record Grown (ms : List (Move T)) (rl : ℕ → List Ruling) (ms' : List (Move T)) (rl' : ℕ → List Ruling) : Type 0 where
    pub longer : length ms ≤ length ms'
    pub same : (k : ℕ) → k ≤ length ms → replica S K N ms' k ≡ replica S K N ms k
    pub get : (k : ℕ) (m : Move T) → k < length ms → slice_get ms' k ≡ Some m → slice_get ms k ≡ Some m
    pub more : (u : ℕ) → length (rl u) ≤ length (rl' u)

  module _ (ms : List (Move T)) (rl : ℕ → List Ruling) (ms' : List (Move T)) (rl' : ℕ → List Ruling) (g : Grown ms rl ms' rl') where
    abbrev pub good_grown : (top top' : ℕ) (m : Move T) → top ≤ length ms → top ≤ top' → GoodMove S K N U ms rl top m → GoodMove S K N U ms' rl' top' m
    good_grown top top' m short le good =
        let inside : good.from ≤ length ms = omega (arith, good.below) in
        let same = g.same good.from inside in
        record {
          from = good.from;
          snapshot = good.snapshot ∙ sym (ap (λ r. r.stamp) same);
          below = omega (arith, good.below);
          taker = good.taker;
          there = good.there;
          taken = omega (arith, good.taken, g.more good.taker);
          reads = subst (λ r. ReadsOn (settings r) m.calls) (sym same) good.reads;
          few_reads = good.few_reads;
          known_reads = good.known_reads;
          few_writes = good.few_writes;
          known_writes = good.known_writes;
        }

    module _ (mine : List Ruling) (places : List (Place T)) (writes : List (Write T)) (within : length mine ≤ length ms) where
      pub open_grown : (s t : ℕ) (nodes : List ℕ) (written : ℕ) (o : Option (Move T)) →
          OpenFits S K N U ms rl mine places writes s t nodes written o → OpenFits S K N U ms' rl' mine places writes s t nodes written o
      open_grown s t nodes written o f =
          let inside : f.good.from ≤ length ms = omega (arith, f.good.below) in
          record {
            move = f.move;
            is = f.is;
            snapshot = f.snapshot;
            reads = f.reads;
            own = f.own;
            count = f.count;
            good = good_grown (length mine) (length mine) f.move within (omega arith) f.good;
            sees = λ n k none. f.sees n k none ∙ ap (λ r. Some (r.newest n)) (sym (g.same f.good.from inside));
          }

      pub slot_grown : (s : ℕ) (q : SlotState) (o : Option (Move T)) →
          SlotFits S K N U ms rl mine places writes s q o → SlotFits S K N U ms' rl' mine places writes s q o
      slot_grown s idle o f = f
      slot_grown s (opened t nodes written) o f = open_grown s t nodes written o f
      slot_grown s sent o f = f
      slot_grown s (ruled outcome) o f = f

      pub suite_grown : (o : ℕ → Option (Move T)) (suite : SuiteState) → SuiteFits S K N U ms rl mine o suite places writes →
          SuiteFits S K N U ms' rl' mine o suite places writes
      suite_grown o suite f =
          let same = g.same (length mine) within in
          record {
            four = f.four;
            taken = f.taken;
            within = omega (arith, within, g.longer);
            stamp = f.stamp ∙ sym (ap (λ r. r.stamp) same);
            newest_is = λ n k. f.newest_is n k ∙ ap (λ r. Some (r.newest n)) (sym same);
            below = f.below;
            slots = λ s there. slot_grown s (get_or suite.slots (s - 1) idle) (o s) (f.slots s there);
            ruled_so = λ k m low e.
                f.ruled_so k m low (g.get k m (omega arith) e)
                ∙ ap (λ r. Some (Decided (rules_on S K N r m))) (sym (g.same k (omega arith)));
          }
