-- What a write leaves of a suite's share: the own writes of its slot with this one, and everything else as it was.
use Rattle.std.proofs.Common.{subst, ◌≡◌, ℕ, zero, suc, ◌+◌, ◌*◌, ◌<◌, ◌≤◌, ◌≢◌, ◌⊎◌, inl, inr, max, Bool, true, false, not, ◌&&◌, cond, eqb, leb, List, [], ◌∷◌, length, take, drop, set, is_some, Some, Ok, Err, Result, option_map, find, sym, refl, ap, ◌∙◌, arith, one-add}
use Rattle.limits.specs.Limits.{slots_each, most_writes}
use Rattle.messages.specs.Reading.{known}
use Rattle.messages.specs.declared.parts.Write.{Write}
use Rattle.refusals.specs.declared.Refusal.TheVariants.{UnknownNode, MoveFull}
use Rattle.refusals.specs.declared.Refusal.{Refusal}
use Rattle.session.proofs.Parts.{length_part, part_is, part_set_elsewhere}
use Rattle.session.proofs.Shares.{slot_same, slot_other, slots_with}
use Rattle.session.specs.Shares.{Share, slot_of, with_slot}
use Rattle.session.specs.Slots.{with_write, first_write, own_writes, own, write_at, write_into, write_leaves, write_in}
use Rattle.session.specs.States.{opened}
use Rattle.std.proofs.lemmas.Bool.{leb-false, cases_lt}
use Rattle.std.proofs.lemmas.List.{drop-set-add, length-drop, length-set}
use Rattle.std.specs.List.{between, position_or_len}

module _ {T : Type 0} where
  -- the place of a node's write among these, or how many they are
  abbrev pub place_in : List (Write T) → ℕ → ℕ
  place_in ws n = position_or_len (λ w. eqb w.node n) ws

  pub place_within : (ws : List (Write T)) (n : ℕ) → place_in ws n ≤ length ws
  place_within [] n = omega arith
  place_within (w ∷ ws) n = by (eqb w.node n) (place_within ws n)
    where
      by : (b : Bool) → place_in ws n ≤ length ws → cond (not b) (1 + place_in ws n) 0 ≤ suc (length ws)
      by true h = omega arith
      by false h = omega arith

  -- a node that has a write has it in one of the places
  pub place_there : (ws : List (Write T)) (n : ℕ) → is_some (own ws n) ≡ true → place_in ws n < length ws
  place_there [] n h = cc
  place_there (w ∷ ws) n h = by (eqb w.node n) (place_there ws n) h
    where
      by : (b : Bool) → (is_some (own ws n) ≡ true → place_in ws n < length ws) →
          is_some (option_map (λ v. v.setting) (cond b (Some w) (find (λ v. eqb v.node n) ws))) ≡ true →
          cond (not b) (1 + place_in ws n) 0 < suc (length ws)
      by true rest h = omega arith
      by false rest h = let there = rest h in omega arith

  pub length_with_write : (ws : List (Write T)) (n : ℕ) (x : T) → length (with_write ws n x) ≡ max (length ws) (place_in ws n + 1)
  unfolding with_write
  length_with_write [] n x = refl
  length_with_write (w ∷ ws) n x = by (eqb w.node n) (length_with_write ws n x)
    where
      by : (b : Bool) → length (with_write ws n x) ≡ max (length ws) (place_in ws n + 1) →
          length (cond b (record { node = n; setting = x } ∷ ws) (w ∷ with_write ws n x))
          ≡ max (suc (length ws)) (cond (not b) (1 + place_in ws n) 0 + 1)
      by true h = omega arith
      by false h = omega arith

  -- setting the place of a node's write among the first k, or the place behind these, gives the first k with that write
  set_with_write : (k : ℕ) (ws : List (Write T)) (n : ℕ) (x : T) → k ≤ length ws → place_in (take k ws) n < length ws →
      take (max k (place_in (take k ws) n + 1)) (set ws (place_in (take k ws) n) (record { node = n; setting = x }))
      ≡ with_write (take k ws) n x
  unfolding with_write
  set_with_write zero [] n x inside room = absurd (omega arith)
  set_with_write zero (w ∷ ws) n x inside room = refl
  set_with_write (suc k) [] n x inside room = absurd (omega arith)
  set_with_write (suc k) (w ∷ ws) n x inside room = by (eqb w.node n) (set_with_write k ws n x (omega arith)) room
    where
      at : ℕ
      at = place_in (take k ws) n

      new : Write T
      new = record { node = n; setting = x }

      by : (b : Bool) → (at < length ws → take (max k (at + 1)) (set ws at new) ≡ with_write (take k ws) n x) →
          cond (not b) (1 + at) 0 < suc (length ws) →
          take (max (suc k) (cond (not b) (1 + at) 0 + 1)) (set (w ∷ ws) (cond (not b) (1 + at) 0) new)
          ≡ cond b (new ∷ take k ws) (w ∷ with_write (take k ws) n x)
      by true rest room =
          let first : max (suc k) (0 + 1) ≡ suc k = omega arith in
          ap (λ m. take m (new ∷ ws)) first
      by false rest room =
          let next : max (suc k) (suc at + 1) ≡ suc (max k (at + 1)) = omega arith in
          ap (λ i. take (max (suc k) (i + 1)) (set (w ∷ ws) i new)) (one-add at)
          ∙ ap (λ m. take m (w ∷ set ws at new)) next
          ∙ ap (λ l. w ∷ l) (rest (omega arith))

  -- the same in a part of a list of writes, from the index `at` on
  set_part : (at k : ℕ) (ws : List (Write T)) (n : ℕ) (x : T) →
      at + k ≤ length ws → at + place_in (between at (at + k) ws) n < length ws →
      between at (at + max k (place_in (between at (at + k) ws) n + 1))
      (set ws (at + place_in (between at (at + k) ws) n) (record { node = n; setting = x }))
      ≡ with_write (between at (at + k) ws) n x
  set_part at k ws n x inside = subst SetGives (sym (part_is ws at k)) by
    where
      new : Write T
      new = record { node = n; setting = x }

      SetGives : List (Write T) → Type 0
      SetGives part =
          at + place_in part n < length ws →
          between at (at + max k (place_in part n + 1)) (set ws (at + place_in part n) new) ≡ with_write part n x

      by : SetGives (take k (drop at ws))
      by room =
          let rest = length-drop at ws in
          let place = place_in (take k (drop at ws)) n in
          part_is (set ws (at + place) new) at (max k (place + 1))
          ∙ ap (take (max k (place + 1))) (drop-set-add at ws place new)
          ∙ set_with_write k (drop at ws) n x (omega arith) (omega arith)

  -- ---- in a share

  pub length_own : (share : Share T) (s k : ℕ) → length share.writes ≡ slots_each * most_writes →
      1 ≤ s → s ≤ slots_each → k ≤ most_writes → length (own_writes share s k) ≡ k
  length_own share s k long low high few = length_part share.writes (first_write s) k (omega arith)

  -- what an accepted write at an open slot says: the node is one of the session's, and there is room for the write
  pub write_accepted : (nodes : List ℕ) (share : Share T) (s n snapshot : ℕ) (reads : List ℕ) (written : ℕ) →
      write_in nodes share s n (opened snapshot reads written) ≡ Ok tt →
      (known nodes n ≡ true) × ((written < most_writes) ⊎ (is_some (own (own_writes share s written) n) ≡ true))
  write_accepted nodes share s n snapshot reads written =
      by (known nodes n) (is_some (own (own_writes share s written) n)) (leb most_writes written) refl refl refl
    where
      by : (a b c : Bool) → known nodes n ≡ a → is_some (own (own_writes share s written) n) ≡ b → leb most_writes written ≡ c →
          ◌≡◌ {A = Result (Unit {0}) Refusal} (cond (not a) (Err UnknownNode) (cond (not b && c) (Err MoveFull) (Ok tt))) (Ok tt) →
          (known nodes n ≡ true) × ((written < most_writes) ⊎ (is_some (own (own_writes share s written) n) ≡ true))
      by false b c is there full h = cc
      by true false true is there full h = cc
      by true false false is there full h = (is, inl (leb-false most_writes written full))
      by true true c is there full h = (is, inr there)

  -- slot s has an open move, and the move has room for a write of the node n
  pub record Writable (share : Share T) (s n snapshot : ℕ) (reads : List ℕ) (written : ℕ) : Type 0 where
    pub slot_is : slot_of share s ≡ opened snapshot reads written
    pub slots : length share.suite.slots ≡ slots_each
    pub writes : length share.writes ≡ slots_each * most_writes
    pub low : 1 ≤ s
    pub high : s ≤ slots_each
    pub few : written ≤ most_writes
    pub room : (written < most_writes) ⊎ (is_some (own (own_writes share s written) n) ≡ true)

  module _ (share : Share T) (s n snapshot : ℕ) (reads : List ℕ) (written : ℕ) (x : T)
      (can : Writable share s n snapshot reads written) where
    -- the slot's writes before and after, and all writes after
    abbrev own_before : List (Write T)
    own_before = own_writes share s written

    abbrev own_after : List (Write T)
    own_after = with_write own_before n x

    abbrev all_after : List (Write T)
    all_after = set share.writes (first_write s + write_at share s n written) (record { node = n; setting = x })

    long : length own_before ≡ written
    long = length_own share s written can.writes can.low can.high can.few

    place_fits : write_at share s n written < most_writes
    place_fits = by can.room
      where
        by : (written < most_writes) ⊎ (is_some (own own_before n) ≡ true) → write_at share s n written < most_writes
        by (inl more) = omega (arith, place_within own_before n, long)
        by (inr there) = omega (arith, place_there own_before n there, long, can.few)

    pub count_after : max written (write_at share s n written + 1) ≡ length own_after
    count_after = ap (λ k. max k (place_in own_before n + 1)) (sym long) ∙ sym (length_with_write own_before n x)

    pub few_after_write : length own_after ≤ most_writes
    few_after_write = omega (arith, count_after, place_fits, can.few)

    -- what the write leaves, by its parts
    pub after_write : write_leaves s n x tt share ≡ record (with_slot share s (opened snapshot reads (length own_after))) { writes = all_after }
    after_write =
        ap (write_into share s n x) can.slot_is
        ∙ ap (λ k. record (with_slot share s (opened snapshot reads k)) { writes = all_after }) count_after

    pub slot_after_write : slot_of (write_leaves s n x tt share) s ≡ opened snapshot reads (length own_after)
    slot_after_write =
        ap (λ sh. slot_of sh s) after_write
        ∙ slot_same share s (opened snapshot reads (length own_after)) can.low can.high can.slots

    pub own_after_write : own_writes (write_leaves s n x tt share) s (length own_after) ≡ own_after
    own_after_write =
        ap (λ sh. own_writes sh s (length own_after)) after_write
        ∙ ap (λ k. between (first_write s) (first_write s + k) all_after) (sym count_after)
        ∙ set_part (first_write s) written share.writes n x
        (omega (arith, can.high, can.few, can.writes))
        (omega (arith, can.high, place_fits, can.writes))

    pub sizes_after_write :
        (length (write_leaves s n x tt share).writes ≡ length share.writes)
        × (length (write_leaves s n x tt share).suite.slots ≡ length share.suite.slots)
    sizes_after_write = (
      ap (λ sh. length sh.writes) after_write ∙ length-set share.writes _ _,
      ap (λ sh. length sh.suite.slots) after_write ∙ slots_with share s (opened snapshot reads (length own_after)),
    )

    -- the other slots keep their states and their writes
    pub slot_beside_write : (r : ℕ) → 1 ≤ r → r ≢ s → slot_of (write_leaves s n x tt share) r ≡ slot_of share r
    slot_beside_write r low' other =
        ap (λ sh. slot_of sh r) after_write
        ∙ slot_other share s (opened snapshot reads (length own_after)) r can.low low' other

    pub own_beside_write : (r k : ℕ) → 1 ≤ r → r ≢ s → k ≤ most_writes →
        own_writes (write_leaves s n x tt share) r k ≡ own_writes share r k
    own_beside_write r k low' other few =
        ap (λ sh. own_writes sh r k) after_write
        ∙ part_set_elsewhere share.writes (first_write s + write_at share s n written) (first_write r) k _ (by (cases_lt r s))
      where
        by : (r < s) ⊎ (s ≤ r) →
            (first_write s + write_at share s n written < first_write r)
            ⊎ (first_write r + k ≤ first_write s + write_at share s n written)
        by (inl h) = inr (omega arith)
        by (inr h) = inl (omega (arith, place_fits, can.low))
