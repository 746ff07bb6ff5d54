-- What is known of a world whose memories have their sizes: the share of each of its suites, the world with a share put back, and the
-- slots of a share.
use Rattle.std.proofs.Common.{Err, Result, cond, ◌≡◌, ℕ, ◌+◌, ◌-◌, ◌*◌, ◌≤◌, ◌≢◌, Bool, true, false, not, ◌||◌, eqb, List, length, Ok, sym, refl, ap, ◌∙◌, arith}
use Rattle.limits.proofs.Ranges.{not_outside}
use Rattle.limits.specs.Limits.{places_each, slots_each, most_writes, outside}
use Rattle.lines.specs.Lines.{LineState, unusable}
use Rattle.messages.specs.declared.parts.Write.{Write}
use Rattle.refusals.specs.declared.Refusal.TheVariants.{MemorySize, NoSuchSlot}
use Rattle.refusals.specs.declared.Refusal.{Refusal}
use Rattle.session.proofs.Parts.{parts_apart, part_inside, length_part, length_replaced, part_replaced, part_elsewhere}
use Rattle.session.specs.Shares.{Share, nobody, share_of, with_share, slot_of, with_slot, check_suite, check_slot}
use Rattle.session.specs.States.{SlotState, idle, SuiteState, World, unfit}
use Rattle.session.specs.declared.place.Place.{Place}
use Rattle.std.proofs.lemmas.Bool.{not-false, or_parts, or_from, eqb-true, eq-eqb}
use Rattle.std.proofs.lemmas.List.{length-set, get_or-set_same, get_or-set_other}

module _ {T : Type 0} where
  -- the memories of the world have the sizes that its session needs
  pub record Sized (w : World T) : Type 0 where
    pub places : length w.places ≡ length w.session.suites * length w.session.nodes * places_each
    pub writes : length w.writes ≡ length w.session.suites * (slots_each * most_writes)

  -- there is a suite u in the session
  abbrev pub There : World T → ℕ → Type 0
  There w u = (1 ≤ u) × (u ≤ length w.session.suites)

  -- two shares with the same parts
  share_parts : {suite suite' : SuiteState} {places places' : List (Place T)} {writes writes' : List (Write T)} {line : LineState} →
      suite ≡ suite' → places ≡ places' → writes ≡ writes' →
      ◌≡◌ {A = Share T} (record { suite = suite; places = places; writes = writes; line = line })
      (record { suite = suite'; places = places'; writes = writes'; line = line })
  share_parts a b c = cc

  -- ---- what `unfit` says

  unfit_parts : (w : World T) → unfit w ≡ false → Sized w × (unusable w.line.limit ≡ false)
  unfit_parts w h =
      let places = eqb (length w.places) (length w.session.suites * length w.session.nodes * places_each) in
      let writes = eqb (length w.writes) (length w.session.suites * (slots_each * most_writes)) in
      let parts = or_parts (not places || not writes) (unusable w.line.limit) h in
      let sizes = or_parts (not places) (not writes) parts.0 in (
        record { places = eqb-true _ _ (not-false places sizes.0); writes = eqb-true _ _ (not-false writes sizes.1) },
        parts.1,
      )

  pub sized_from : (w : World T) → unfit w ≡ false → Sized w
  sized_from w h = (unfit_parts w h).0

  pub usable_from : (w : World T) → unfit w ≡ false → unusable w.line.limit ≡ false
  usable_from w h = (unfit_parts w h).1

  pub unfit_from : (w : World T) → Sized w → unusable w.line.limit ≡ false → unfit w ≡ false
  unfit_from w sized usable =
      or_from _ (unusable w.line.limit)
      (or_from _ _ (ap not (eq-eqb _ _ sized.places)) (ap not (eq-eqb _ _ sized.writes)))
      usable

  -- ---- what a passed check says

  pub checked_suite : (w : World T) (u : ℕ) → check_suite w u ≡ Ok tt → (unfit w ≡ false) × There w u
  checked_suite w u = by (unfit w) (outside (length w.session.suites) u) refl refl
    where
      by : (a b : Bool) → unfit w ≡ a → outside (length w.session.suites) u ≡ b →
          ◌≡◌ {A = Result (Unit {0}) Refusal} (cond a (Err MemorySize) (cond b (Err NoSuchSlot) (Ok tt))) (Ok tt) →
          (unfit w ≡ false) × There w u
      by true b fit there h = cc
      by false true fit there h = cc
      by false false fit there h = (fit, not_outside _ u there)

  pub checked_slot : (w : World T) (u s : ℕ) → check_slot w u s ≡ Ok tt →
      (unfit w ≡ false) × There w u × ((1 ≤ s) × (s ≤ slots_each))
  checked_slot w u s = by (unfit w) (outside (length w.session.suites) u || outside slots_each s) refl refl
    where
      by : (a b : Bool) → unfit w ≡ a → (outside (length w.session.suites) u || outside slots_each s) ≡ b →
          ◌≡◌ {A = Result (Unit {0}) Refusal} (cond a (Err MemorySize) (cond b (Err NoSuchSlot) (Ok tt))) (Ok tt) →
          (unfit w ≡ false) × There w u × ((1 ≤ s) × (s ≤ slots_each))
      by true b fit there h = cc
      by false true fit there h = cc
      by false false fit there h =
          let both = or_parts (outside (length w.session.suites) u) (outside slots_each s) there in
          (fit, not_outside _ u both.0, not_outside slots_each s both.1)

  pub suites_with : (w : World T) (u : ℕ) (sh : Share T) → length (with_share w u sh).session.suites ≡ length w.session.suites
  suites_with w u sh = length-set w.session.suites (u - 1) sh.suite

  -- ---- the sizes of a share

  module _ (w : World T) (u : ℕ) (sized : Sized w) (there : There w u) where
    pub inside_places : (u - 1) * (length w.session.nodes * places_each) + length w.session.nodes * places_each ≤ length w.places
    inside_places =
        let inside = part_inside (u - 1) (length w.session.suites) (length w.session.nodes * places_each) (omega arith) in
        omega (arith, inside, sized.places)

    pub inside_writes : (u - 1) * (slots_each * most_writes) + slots_each * most_writes ≤ length w.writes
    inside_writes =
        let inside = part_inside (u - 1) (length w.session.suites) (slots_each * most_writes) (omega arith) in
        omega (arith, inside, sized.writes)

    pub length_share_places : length (share_of w u).places ≡ length w.session.nodes * places_each
    length_share_places = length_part w.places _ _ inside_places

    pub length_share_writes : length (share_of w u).writes ≡ slots_each * most_writes
    length_share_writes = length_part w.writes _ _ inside_writes

    -- ---- a share put back

    module _ (sh : Share T) (long_places : length sh.places ≡ length w.session.nodes * places_each)
        (long_writes : length sh.writes ≡ slots_each * most_writes) where
      pub sized_with : Sized (with_share w u sh)
      sized_with = record {
        places = length_replaced w.places _ _ sh.places inside_places long_places
            ∙ sized.places
            ∙ ap (λ n. n * length w.session.nodes * places_each) (sym (suites_with w u sh));
        writes = length_replaced w.writes _ _ sh.writes inside_writes long_writes
            ∙ sized.writes
            ∙ ap (λ n. n * (slots_each * most_writes)) (sym (suites_with w u sh));
      }

      pub same_share : share_of (with_share w u sh) u ≡ sh
      same_share =
          share_parts
          (get_or-set_same w.session.suites (u - 1) sh.suite nobody (omega arith))
          (part_replaced w.places _ _ sh.places inside_places long_places)
          (part_replaced w.writes _ _ sh.writes inside_writes long_writes)

      pub other_share : (v : ℕ) → There w v → u ≢ v → share_of (with_share w u sh) v ≡ record (share_of w v) { line = sh.line }
      other_share v there' other =
          let apart : v - 1 ≢ u - 1 = omega arith in
          share_parts
          (get_or-set_other w.session.suites (u - 1) (v - 1) sh.suite nobody apart)
          (part_elsewhere w.places _ _ _ sh.places inside_places long_places (parts_apart (v - 1) (u - 1) _ apart))
          (part_elsewhere w.writes _ _ _ sh.writes inside_writes long_writes (parts_apart (v - 1) (u - 1) _ apart))

  -- ---- the slots of a share

  module _ (share : Share T) (s : ℕ) (q : SlotState) where
    pub slot_same : 1 ≤ s → s ≤ slots_each → length share.suite.slots ≡ slots_each → slot_of (with_slot share s q) s ≡ q
    slot_same low high four = get_or-set_same share.suite.slots (s - 1) q idle (omega arith)

    pub slot_other : (r : ℕ) → 1 ≤ s → 1 ≤ r → r ≢ s → slot_of (with_slot share s q) r ≡ slot_of share r
    slot_other r low low' other = get_or-set_other share.suite.slots (s - 1) (r - 1) q idle (omega arith)

    pub slots_with : length (with_slot share s q).suite.slots ≡ length share.suite.slots
    slots_with = length-set share.suite.slots (s - 1) q
