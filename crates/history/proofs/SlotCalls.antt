-- Begin, read, write, abandon and collect: after each that is accepted everything fits.
use Rattle.std.proofs.Common.{◌≡◌, ℕ, ◌+◌, ◌-◌, ◌*◌, ◌≤◌, Bool, true, false, cond, not, ◌&&◌, leb, List, [], ◌∷◌, length, take, drop, Some, None, Ok, Err, Option, sym, refl, ap, ◌∙◌, subst, arith}
use Rattle.std.specs.Prelude.{option_map, unwrap_or}
use Rattle.std.specs.List.{ContainsAt}
use Rattle.history.proofs.Accepting.{accepted_slot}
use Rattle.history.proofs.ContentLaws.{own_is_last, done_is}
use Rattle.session.proofs.Entering.{All-entered, length_entered}
use Rattle.history.specs.Contents.{reads_of, writes_of}
use Rattle.history.proofs.Fits.{settings, OpenFits, SlotFits, Fits}
use Rattle.history.proofs.Replicas.{replica}
use Rattle.history.proofs.SlotSteps.{moves_then, slot_only_stepped}
use Rattle.session.proofs.Versions.{visible_is_newest}
use Rattle.history.specs.Events.{began, read, abandoned, collected}
use Rattle.history.specs.Moves.{Move, continued}
use Rattle.history.specs.Contents.{last_write}
use Rattle.history.proofs.Effects.{effect}
use Rattle.history.specs.Runs.{answer}
use Rattle.history.specs.declared.call.Answer.{Answer}
use Rattle.history.specs.declared.call.Answer.TheVariants.{Began, Setting, Abandoned, Collected}
use Rattle.history.specs.declared.call.Call.TheVariants.{Begin, Read, Abandon, Collect}
use Rattle.messages.proofs.Judging.{known_decides}
use Rattle.messages.specs.Reading.{known}
use Rattle.refusals.specs.declared.Refusal.TheVariants.{UnknownNode, MoveFull}
use Rattle.session.specs.Shares.{Share, share_of, with_share, slot_of, with_slot}
use Rattle.session.specs.Slots.{own_writes, own, begin_in, begin_answer, read_open, read_in, read_answer, entered, read_into, abandon_answer, collect_answer, kept_version}
use Rattle.session.specs.States.{SlotState, idle, opened, sent, ruled, World}
use Rattle.session.specs.Versions.{visible, versions_of}
use Rattle.session.specs.declared.place.Place.{Place}
use Rattle.session.specs.declared.ruling.Outcome.{Outcome}
use Rattle.session.specs.declared.ruling.Ruling.{Ruling}
use Rattle.settings.specs.Kinds.{SettingKind}
use Rattle.summaries.specs.Kinds.{SummaryKind}

-- ---- what an accepted read says

module _ {T : Type 0} (nodes : List ℕ) (places : List (Place T)) (t : ℕ) (reads : List ℕ) (n : ℕ) (x : T) where
  -- a read that the move's own writes do not answer: the node is not one too many, and a version is visible
  pub record ReadsVersion : Type 0 where
    pub room : (not (known reads n) && leb 32 (length reads)) ≡ false
    pub version : ℕ × Place T
    pub seen : visible t (versions_of nodes places n) ≡ Some version
    pub is : x ≡ version.1.setting

  reads_version : read_open nodes places t reads n None ≡ Ok x → ReadsVersion
  reads_version h = by (not (known reads n) && leb 32 (length reads)) (visible t (versions_of nodes places n)) refl refl h
    where
      by : (b : Bool) (v : Option (ℕ × Place T)) → (not (known reads n) && leb 32 (length reads)) ≡ b → visible t (versions_of nodes places n) ≡ v →
          cond b (Err MoveFull) (kept_version v) ≡ Ok x → ReadsVersion
      by true v d e h = cc
      by false None d e h = cc
      by false (Some v) d e h = record { room = d; version = v; seen = e; is = cc }

module _ {T : Type 0} (S : SummaryKind) (K : SettingKind T) (U : ℕ) (ms : List (Move T)) (rl : ℕ → List Ruling) (o : ℕ → ℕ → Option (Move T)) (pend : ℕ → List (Move T)) (ca : ℕ → Option ℕ)
    (w : World T) (f : Fits S K w.session.nodes U ms rl o pend ca w) (u s : ℕ) where
  abbrev N : List ℕ
  N = w.session.nodes

  abbrev share : Share T
  share = share_of w u

  pub in_session : (1 ≤ u) × (u ≤ length w.session.suites) → (1 ≤ u) × (u ≤ U)
  in_session h = (h.0, omega (arith, h.1, f.suites))

  -- the slot's state fits the move that is open in it
  pub fits_as : (1 ≤ u) × (u ≤ U) → (1 ≤ s) × (s ≤ 4) → (q : SlotState) → slot_of share s ≡ q →
      SlotFits S K N U ms rl (rl u) share.places share.writes s q (o u s)
  fits_as there slot q e = subst (λ x. SlotFits S K N U ms rl (rl u) share.places share.writes s x (o u s)) e ((f.each u there).slots s slot)

  -- ---- begin

  new_move : (there : (1 ≤ u) × (u ≤ U)) → OpenFits S K N U ms rl (rl u) share.places share.writes s share.suite.stamp [] 0 (Some (record { suite = u; slot = s; snapshot = share.suite.stamp; calls = [] }))
  unfolding reads_of writes_of
  new_move there =
      let suite = f.each u there in
      record {
        move = record { suite = u; slot = s; snapshot = share.suite.stamp; calls = [] };
        is = refl;
        snapshot = refl;
        reads = refl;
        own = (let none : (s - 1) * 16 + 0 - (s - 1) * 16 ≡ 0 = omega arith in ap (λ k. take k (drop ((s - 1) * 16) share.writes)) none);
        count = refl;
        good = record {
          from = length (rl u);
          snapshot = suite.stamp;
          below = omega arith;
          taker = u;
          there = there;
          taken = omega arith;
          reads = tt;
          few_reads = omega arith;
          known_reads = tt;
          few_writes = omega arith;
          known_writes = tt;
        };
        sees = λ n k none. ap (option_map (λ b. b.1)) (visible_is_newest share.suite.stamp (versions_of N share.places n) (suite.below n k)) ∙ suite.newest_is n k;
      }

  pub began_fits : (t : ℕ) → answer S K w (Begin (record { suite = u; slot = s })) ≡ Ok (Began t) →
      Fits S K N U ms rl (moves_then o u s (began t)) pend ca (with_share w u (effect S K u s (began t) share))
  began_fits t h =
      let a = accepted_slot Began w u (begin_answer s) (Began t) s h in
      by (in_session a.0.there) a.1 (slot_of share s) refl (a.0.ruled ∙ ap Ok (is_t a.0.value a.0.is))
    where
      is_t : (v : ℕ) → ◌≡◌ {A = Answer T} (Began v) (Began t) → v ≡ t
      is_t v e = cc

      by : (1 ≤ u) × (u ≤ U) → (1 ≤ s) × (s ≤ 4) → (q : SlotState) → slot_of share s ≡ q → begin_in share.suite.stamp q ≡ Ok t →
          Fits S K N U ms rl (moves_then o u s (began t)) pend ca (with_share w u (effect S K u s (began t) share))
      by there slot idle e r =
          let same : share.suite.stamp ≡ t = cc in
          slot_only_stepped S K U ms rl o pend ca w f u s there slot (began t) (opened t [] 0)
          (subst (λ k. OpenFits S K N U ms rl (rl u) share.places share.writes s k [] 0 (Some (record { suite = u; slot = s; snapshot = k; calls = [] }))) same (new_move there))
      by there slot (opened _ _ _) e r = cc
      by there slot sent e r = cc
      by there slot (ruled _) e r = cc

  -- ---- read

  -- an accepted read of n that gives x: the move that is open, and that the read gives the move's own latest setting of the node or, without
  -- one, the setting that the replica of its snapshot has
  pub record ReadGives (n : ℕ) (x : T) : Type 0 where
    pub there : (1 ≤ u) × (u ≤ U)
    pub slot : (1 ≤ s) × (s ≤ 4)
    pub t : ℕ
    pub nodes : List ℕ
    pub written : ℕ
    pub state : slot_of share s ≡ opened t nodes written
    pub fit : OpenFits S K N U ms rl (rl u) share.places share.writes s t nodes written (o u s)
    pub known_node : ContainsAt N n
    pub few : length (entered nodes n (own (own_writes share s written) n)) ≤ 32
    pub gives : x ≡ unwrap_or (last_write fit.move.calls n) (settings (replica S K N ms fit.good.from) n)

  pub read_gives : (n : ℕ) (x : T) → answer S K w (Read (record { suite = u; slot = s }) n) ≡ Ok (Setting x) → ReadGives n x
  read_gives n x h =
      let a = accepted_slot Setting w u (read_answer N s n) (Setting x) s h in
      by (in_session a.0.there) a.1 (slot_of share s) refl (a.0.ruled ∙ ap Ok (is_x a.0.value a.0.is))
    where
      is_x : (y : T) → ◌≡◌ {A = Answer T} (Setting y) (Setting x) → y ≡ x
      is_x y e = cc

      -- by whether the node is in the session, and what the move wrote for it
      from : (there : (1 ≤ u) × (u ≤ U)) (slot : (1 ≤ s) × (s ≤ 4)) (t : ℕ) (nodes : List ℕ) (written : ℕ) → slot_of share s ≡ opened t nodes written →
          (fit : OpenFits S K N U ms rl (rl u) share.places share.writes s t nodes written (o u s)) → (b : Bool) → known N n ≡ b → (y : Option T) →
          own (own_writes share s written) n ≡ y → cond (not b) (Err UnknownNode) (read_open N share.places t nodes n y) ≡ Ok x → ReadGives n x
      from there slot t nodes written e fit false k y i r = cc
      from there slot t nodes written e fit true k (Some y) i r = record {
        there = there;
        slot = slot;
        t = t;
        nodes = nodes;
        written = written;
        state = e;
        fit = fit;
        known_node = (known_decides N n).0 k;
        few = subst (λ z. length (entered nodes n z) ≤ 32) (sym i) (omega (arith, ap length fit.reads, fit.good.few_reads));
        gives = (let same : x ≡ y = cc in same ∙ ap (λ z. unwrap_or z (settings (replica S K N ms fit.good.from) n))
            (sym i ∙ ap (λ ws. own ws n) fit.own ∙ own_is_last fit.move.calls n));
      }
      from there slot t nodes written e fit true k None i r =
          let v = reads_version N share.places t nodes n x r in
          let node = (known_decides N n).0 k in
          let own_is : own (own_writes share s written) n ≡ last_write fit.move.calls n = ap (λ ws. own ws n) fit.own ∙ own_is_last fit.move.calls n in
          let seen : Some v.version.1 ≡ Some ((replica S K N ms fit.good.from).newest n) = sym (ap (option_map (λ b. b.1)) v.seen) ∙ fit.sees n node (sym own_is ∙ i) in
          let same : v.version.1 ≡ (replica S K N ms fit.good.from).newest n = cc in
          record {
            there = there;
            slot = slot;
            t = t;
            nodes = nodes;
            written = written;
            state = e;
            fit = fit;
            known_node = node;
            few = subst (λ z. length (entered nodes n z) ≤ 32) (sym i)
                (length_entered {T = T} nodes n None v.room (omega (arith, ap length fit.reads, fit.good.few_reads)));
            gives = v.is
                ∙ ap (λ p. p.setting) same
                ∙ ap (λ z. unwrap_or z (settings (replica S K N ms fit.good.from) n))
                (sym i ∙ ap (λ ws. own ws n) fit.own ∙ own_is_last fit.move.calls n);
          }

      by : (1 ≤ u) × (u ≤ U) → (1 ≤ s) × (s ≤ 4) → (q : SlotState) → slot_of share s ≡ q → read_in N share s n q ≡ Ok x → ReadGives n x
      by there slot idle e r = cc
      by there slot (opened t nodes written) e r =
          from there slot t nodes written e (fits_as there slot (opened t nodes written) e) (known N n) refl (own (own_writes share s written) n) refl r
      by there slot sent e r = cc
      by there slot (ruled _) e r = cc

  pub read_fits : (n : ℕ) (x : T) → answer S K w (Read (record { suite = u; slot = s }) n) ≡ Ok (Setting x) →
      Fits S K N U ms rl (moves_then o u s (read n x)) pend ca (with_share w u (effect S K u s (read n x) share))
  unfolding reads_of writes_of last_write
  read_fits n x h =
      let g = read_gives n x h in
      let fit = g.fit in
      let m = fit.move in
      let good = fit.good in
      let own_is : own (own_writes share s g.written) n ≡ last_write m.calls n = ap (λ ws. own ws n) fit.own ∙ own_is_last m.calls n in
      let same_reads : entered (reads_of m.calls) n (last_write m.calls n) ≡ entered g.nodes n (own (own_writes share s g.written) n) =
      ap (λ ns. entered ns n (last_write m.calls n)) fit.reads ∙ ap (entered g.nodes n) (sym own_is) in
      subst (λ z. Fits S K N U ms rl (moves_then o u s (read n x)) pend ca (with_share w u (with_slot share s (read_into share s n z)))) (sym g.state)
      (slot_only_stepped S K U ms rl o pend ca w f u s g.there g.slot (read n x) (opened g.t (entered g.nodes n (own (own_writes share s g.written) n)) g.written)
      (record {
        move = record m { calls = read n x ∷ m.calls };
        is = ap (continued u s (read n x)) fit.is;
        snapshot = fit.snapshot;
        reads = same_reads;
        own = fit.own;
        count = fit.count;
        good = record {
          from = good.from;
          snapshot = good.snapshot;
          below = good.below;
          taker = good.taker;
          there = good.there;
          taken = good.taken;
          reads = (g.gives ∙ sym (done_is (settings (replica S K N ms good.from)) m.calls n), good.reads);
          few_reads = omega (arith, ap length same_reads, g.few);
          known_reads = All-entered (ContainsAt N) (reads_of m.calls) n (last_write m.calls n) good.known_reads g.known_node;
          few_writes = good.few_writes;
          known_writes = good.known_writes;
        };
        sees = fit.sees;
      }))

  -- ---- abandon and collect

  pub abandoned_fits : answer S K w (Abandon (record { suite = u; slot = s })) ≡ Ok Abandoned →
      Fits S K N U ms rl (moves_then o u s abandoned) pend ca (with_share w u (effect S K u s abandoned share))
  abandoned_fits h =
      let a = accepted_slot (λ _. Abandoned) w u (abandon_answer s) Abandoned s h in
      slot_only_stepped S K U ms rl o pend ca w f u s (in_session a.0.there) a.1 abandoned idle refl

  pub collected_fits : (outcome : Outcome) → answer S K w (Collect (record { suite = u; slot = s })) ≡ Ok (Collected outcome) →
      Fits S K N U ms rl (moves_then o u s (collected outcome)) pend ca (with_share w u (effect S K u s (collected outcome) share))
  collected_fits outcome h =
      let a = accepted_slot Collected w u (collect_answer s) (Collected outcome) s h in
      slot_only_stepped S K U ms rl o pend ca w f u s (in_session a.0.there) a.1 (collected outcome) idle refl
