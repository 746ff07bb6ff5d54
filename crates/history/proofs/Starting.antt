-- A session just made over an empty line fits a history without events.
use Rattle.std.proofs.Common.{◌≡◌, ℕ, ◌+◌, ◌-◌, ◌*◌, ◌≤◌, Bool, true, false, cond, List, [], length, take, drop, replicate, get_or, None, Ok, Err, sym, refl, ap, ◌∙◌, subst, arith}
use Rattle.std.proofs.lemmas.List.{take-replicate, drop-replicate, get_or-replicate, length-replicate}
use Rattle.std.specs.Prelude.{option_map}
use Rattle.session.proofs.Parts.{part_inside}
use Rattle.std.specs.List.{AllByRecursion}
use Rattle.limits.proofs.Ranges.{not_outside}
use Rattle.limits.specs.Limits.{outside}
use Rattle.history.proofs.Fits.{SlotFits, SuiteFits}
use Rattle.history.proofs.Replicas.{replica}
use Rattle.history.proofs.Standing.{Standing}
use Rattle.history.specs.Moves.{open_move, sent_by, served, agreed, rulings, committed_position}
use Rattle.history.specs.Runs.{Made}
use Rattle.lines.specs.Lines.{empty_line, unusable, waiting_up_to}
use Rattle.messages.specs.declared.parts.Write.{Write}
use Rattle.refusals.specs.declared.Refusal.TheVariants.{SuiteCount, NodeCount, RepeatedNode, MemorySize}
use Rattle.session.proofs.Placing.{versions_filled}
use Rattle.session.proofs.Shares.{sized_from, usable_from}
use Rattle.session.proofs.Versions.{newest_replicate}
use Rattle.session.specs.Making.{repeated, new_suite, new_session, make_answer, filled}
use Rattle.session.specs.Shares.{share_of, nobody, slot_of}
use Rattle.session.specs.States.{idle, SessionState, World, unfit}
use Rattle.session.specs.Versions.{newest}
use Rattle.session.specs.declared.place.Place.{Place}
use Rattle.settings.specs.Kinds.{SettingKind}
use Rattle.summaries.specs.Kinds.{SummaryKind}

-- what an accepted making says
record Makes {T : Type 0} (suites : ℕ) (nodes : List ℕ) (places : List (Place T)) (writes : List (Write T)) (limit : ℕ) (session : SessionState) : Type 0 where
  few : (1 ≤ suites) × (suites ≤ 8)
  fit : unfit (record { session = new_session suites nodes; places = places; writes = writes; line = empty_line limit }) ≡ false
  is : new_session suites nodes ≡ session

makes_if : {T : Type 0} (suites : ℕ) (nodes : List ℕ) (places : List (Place T)) (writes : List (Write T)) (limit : ℕ) (session : SessionState) →
    make_answer suites nodes places writes (empty_line limit) ≡ Ok session → Makes suites nodes places writes limit session
makes_if suites nodes places writes limit session h =
    by (outside 8 suites) (outside 64 (length nodes)) (repeated nodes)
    (unfit (record { session = new_session suites nodes; places = places; writes = writes; line = empty_line limit })) refl refl h
  where
    by : (a b c d : Bool) → outside 8 suites ≡ a → unfit (record { session = new_session suites nodes; places = places; writes = writes; line = empty_line limit }) ≡ d →
        cond a (Err SuiteCount) (cond b (Err NodeCount) (cond c (Err RepeatedNode) (cond d (Err MemorySize) (Ok (new_session suites nodes))))) ≡ Ok session →
        Makes suites nodes places writes limit session
    by true b c d e f h = cc
    by false true c d e f h = cc
    by false false true d e f h = cc
    by false false false true e f h = cc
    by false false false false e f h = record { few = not_outside 8 suites e; fit = f; is = cc }

module _ {T : Type 0} (S : SummaryKind) (K : SettingKind T) (suites : ℕ) (nodes : List ℕ) (writes : List (Write T)) (limit : ℕ)
    (few : (1 ≤ suites) × (suites ≤ 8)) (long : length writes ≡ suites * 64) (usable : unusable limit ≡ false) where
  abbrev place : Place T
  place = record { stamp = 0; setting = K.start }

  abbrev new_world : World T
  new_world = record { session = new_session suites nodes; places = filled K suites nodes; writes = writes; line = empty_line limit }

  abbrev U : ℕ
  U = length new_world.session.suites

  count : U ≡ suites
  count = length-replicate suites new_suite

  new_suite_fits : (mine : List (Write T)) → SuiteFits S K nodes U [] (λ u. []) [] (λ s. None) new_suite (replicate (length nodes * 5) place) mine
  unfolding replica
  new_suite_fits mine = record {
    four = refl;
    taken = refl;
    within = omega arith;
    stamp = refl;
    newest_is = λ n h. ap (λ vs. option_map (λ b. b.1) (newest vs)) (versions_filled nodes place n h) ∙ ap (option_map (λ b. b.1)) (newest_replicate place);
    below = λ n h. subst (AllByRecursion (λ p. p.stamp ≤ 0)) (sym (versions_filled nodes place n h)) (zero, (zero, (zero, (zero, (zero, tt)))));
    slots = λ s h.
        subst (λ q. SlotFits S K nodes U [] (λ u. []) [] (replicate (length nodes * 5) place) mine s q None)
        (sym (get_or-replicate 4 (s - 1) idle idle (omega arith))) refl;
    ruled_so = λ j m low e. absurd (omega arith);
  }
    where
      zero : 0 ≤ 0
      zero = omega arith

  share_places : (u : ℕ) → (1 ≤ u) × (u ≤ U) → (share_of new_world u).places ≡ replicate (length nodes * 5) place
  share_places u h =
      let wide = length nodes * 5 in
      let at = (u - 1) * wide in
      let inside = part_inside (u - 1) suites wide (omega (arith, count)) in
      let width : at + wide - at ≡ wide = omega arith in
      ap (λ n. take n (drop at (filled K suites nodes))) width
      ∙ ap (take wide) (drop-replicate at (suites * length nodes * 5) place)
      ∙ take-replicate wide (suites * length nodes * 5 - at) place (omega (arith, inside))

  new_standing : Standing S K nodes U [] new_world
  unfolding open_move sent_by served agreed rulings committed_position waiting_up_to
  new_standing = record {
    passed = λ u. [];
    pending = λ u. [];
    split = λ u. refl;
    counted = λ u. refl;
    nodes = refl;
    fits = record {
      suites = refl;
      few_suites = omega (arith, count, few);
      sized = record {
        places = length-replicate (suites * length nodes * 5) place ∙ ap (λ n. n * length nodes * 5) (sym count);
        writes = long ∙ ap (λ n. n * 64) (sym count);
      };
      line = record {
        usable = usable;
        holds = omega arith;
        agreed_long = refl;
        agreed_is = λ k m e. cc;
        waiting_long = λ u h. refl;
        waiting_is = λ u h k m e. cc;
      };
      each = λ u h.
          subst (λ q. SuiteFits S K nodes U [] (λ v. []) [] (λ s. None) q (share_of new_world u).places (share_of new_world u).writes)
          (sym (get_or-replicate suites (u - 1) new_suite nobody (omega (arith, count))))
          (subst (λ ps. SuiteFits S K nodes U [] (λ v. []) [] (λ s. None) new_suite ps (share_of new_world u).writes) (sym (share_places u h))
          (new_suite_fits (share_of new_world u).writes));
      commits = λ u k t m h low e r. absurd (omega arith);
      committed = λ t k e. cc;
    };
  }

module _ {T : Type 0} (K : SettingKind T) (start : World T) (made : Made K start) where
  start_makes : Makes made.suites start.session.nodes made.handed start.writes start.line.limit start.session
  start_makes =
      makes_if made.suites start.session.nodes made.handed start.writes start.line.limit start.session
      (ap (make_answer made.suites start.session.nodes made.handed start.writes) (sym made.line) ∙ made.accepted)

  -- every slot is idle then
  pub start_idle : (u s : ℕ) → (1 ≤ u) × (u ≤ length start.session.suites) → (1 ≤ s) × (s ≤ 4) → slot_of (share_of start u) s ≡ idle
  start_idle u s there slot =
      let makes = start_makes in
      let many : length start.session.suites ≡ made.suites = ap (λ x. length x.suites) (sym makes.is) ∙ length-replicate made.suites new_suite in
      ap (λ x. get_or (get_or x.suites (u - 1) nobody).slots (s - 1) idle) (sym makes.is)
      ∙ ap (λ x. get_or x.slots (s - 1) idle) (get_or-replicate made.suites (u - 1) new_suite nobody (omega arith))
      ∙ get_or-replicate 4 (s - 1) idle idle (omega arith)

pub start_standing : {T : Type 0} (S : SummaryKind) (K : SettingKind T) (start : World T) → Made K start →
    Standing S K start.session.nodes (length start.session.suites) [] start
start_standing S K start made =
    let nodes = start.session.nodes in
    let limit = start.line.limit in
    let makes = start_makes K start made in
    let handed : World _ = record { session = new_session made.suites nodes; places = made.handed; writes = start.writes; line = empty_line limit } in
    let sized = sized_from handed makes.fit in
    let long : length start.writes ≡ made.suites * 64 = sized.writes ∙ ap (λ n. n * 64) (length-replicate made.suites new_suite) in
    let same : new_world S K made.suites nodes start.writes limit makes.few long (usable_from handed makes.fit) ≡ start =
    (λ i. record {
      session = makes.is i;
      places = sym made.places i;
      writes = start.writes;
      line = sym made.line i;
    }) in
    subst (λ w. Standing S K nodes (length w.session.suites) [] w) same
    (new_standing S K made.suites nodes start.writes limit makes.few long (usable_from handed makes.fit))
