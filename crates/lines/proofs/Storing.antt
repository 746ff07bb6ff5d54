-- The steps of the store, over the bytes and the two counts: what a step leaves good, and what the store then means.
use Rattle.std.proofs.Common.{◌≡◌, ℕ, ◌+◌, ◌-◌, ◌/◌, ◌<◌, ◌≤◌, ◌⊎◌, List, [], ◌∷◌, ◌++◌, length, get_or, take, drop, set, Ok, sym, ap, ◌∙◌, subst, ap₂, inl, inr, arith}
use Rattle.lines.proofs.Bringing.{back, Came, came, length_brought, brought_more, map_brought, take_brought, rest_brought}
use Rattle.lines.proofs.Rows.{order_at, reordered_twice, reordered_row, used_same, refilled_used, refilled_order, refilled_row}
use Rattle.lines.specs.StoreLaws.{length_order, length_row}
use Rattle.lines.specs.Orders.{Offered}
use Rattle.lines.specs.Places.{link_at, offered_at, places_in, places_used, order, row, exchange, brought, ChangedAt, Reordered}
use Rattle.lines.specs.Stores.{Sound, nothing, Good, stored, empty, stored_offer, stored_settle}
use Rattle.std.proofs.lemmas.List.{get_or-set_same, get_or-set_other, take-set-le, take_more_set, drop-set-add, length-drop}
use Rattle.std.proofs.lemmas.Bool.{cases_eq}
use Rattle.std.specs.List.{between}

-- as many bytes, as many places
places_same : (bs bs' : List ℕ) → length bs' ≡ length bs → places_in bs' ≡ places_in bs
places_same bs bs' e = ap (λ n. n / 1168) e

-- ---- made: every place links to itself

module _ (bs bs' : List ℕ) (len : length bs' ≡ length bs)
    (links : (i : ℕ) → i < places_used bs → link_at bs' i ≡ i) where
  at_itself : (i : ℕ) → i < places_used bs' → get_or (order bs') i 0 ≡ i
  at_itself i h = order_at bs' i h ∙ links i (omega (arith, places_same bs bs' len))

  pub made_good : Good bs' 0 0
  made_good = record {
    room = omega arith;
    inside = λ i h. let e : get_or (order bs') i 0 ≡ i = at_itself i h in omega arith;
    apart = λ i j h. sym (at_itself i h.0) ∙ h.2 ∙ at_itself j h.1;
    sound = λ i h. absurd (omega arith);
  }

  pub made_empty : stored bs' 0 0 ≡ empty bs
  unfolding stored
  made_empty = λ i. record { agreed = []; queue = []; limit = places_same bs bs' len i }

-- ---- offered: another message in the place that comes after all that are taken

module _ (bs bs' : List ℕ) (a w p : ℕ) (o : Offered) (good : Good bs a w) (there : a + w < places_used bs)
    (p_is : p ≡ get_or (order bs) (a + w) 0) (changed : ChangedAt bs bs' p)
    (link : link_at bs' p ≡ link_at bs p) (message : offered_at bs' p ≡ o) where
  row_is : row bs' ≡ set (row bs) (a + w) o
  row_is = refilled_row bs bs' p (a + w) o there p_is good.inside good.apart changed link message

  order_is : order bs' ≡ order bs
  order_is = refilled_order bs bs' p (a + w) o there p_is good.inside good.apart changed link message

  used : places_used bs' ≡ places_used bs
  used = refilled_used bs bs' p (a + w) o there p_is good.inside good.apart changed link message

  sound_at : Sound o → (i : ℕ) → i < a + (w + 1) → (i ≡ a + w) ⊎ (i ≡ a + w → ⊥) → Sound (get_or (row bs') i nothing)
  sound_at fine i h (inl e) =
      subst Sound (sym (ap₂ (λ xs n. get_or xs n nothing) row_is e ∙ get_or-set_same (row bs) (a + w) o nothing (omega (arith, length_row bs)))) fine
  sound_at fine i h (inr other) =
      subst Sound (sym (ap (λ xs. get_or xs i nothing) row_is ∙ get_or-set_other (row bs) (a + w) i o nothing other)) (good.sound i (omega arith))

  pub offered_good : Sound o → Good bs' a (w + 1)
  offered_good fine = record {
    room = omega (arith, used);
    inside = λ i h.
        let small : i < places_used bs = omega (arith, used) in
        let was : get_or (order bs) i 0 < places_used bs = good.inside i small in
        omega (arith, used, ap (λ xs. get_or xs i 0) order_is);
    apart = λ i j h.
        good.apart i j (
          omega (arith, h.0, used),
          omega (arith, h.1, used),
          sym (ap (λ xs. get_or xs i 0) order_is) ∙ h.2 ∙ ap (λ xs. get_or xs j 0) order_is,
        );
    sound = λ i h. sound_at fine i h (cases_eq i (a + w));
  }

  queue_is : between a (a + (w + 1)) (row bs') ≡ between a (a + w) (row bs) ++ o ∷ []
  queue_is =
      let one : a + (w + 1) - a ≡ w + 1 = omega arith in
      let other : a + w - a ≡ w = omega arith in
      ap₂ (λ n xs. take n (drop a xs)) one row_is
      ∙ ap (take (w + 1)) (drop-set-add a (row bs) w o)
      ∙ take_more_set (drop a (row bs)) w o (omega (arith, length-drop a (row bs), length_row bs))
      ∙ ap (λ n. take n (drop a (row bs)) ++ o ∷ []) (sym other)

  pub offered_means : stored bs' a (w + 1) ≡ stored_offer (Ok tt) (stored bs a w) o.suite o.message
  unfolding stored
  offered_means = λ i. record {
    agreed = (ap (take a) row_is ∙ take-set-le a (row bs) (a + w) o (omega arith)) i;
    queue = queue_is i;
    limit = places_same bs bs' changed.len i;
  }

-- ---- brought: one step

pub brought_step : (bs bs' bs'' : List ℕ) (i from : ℕ) → i < from → from < places_used bs →
    Reordered bs bs' (brought 0 (i + 1) from (order bs)) →
    Reordered bs' bs'' (exchange i (order bs')) →
    Reordered bs bs'' (brought 0 i from (order bs))
brought_step bs bs' bs'' i from low there one two =
    let order_then = ap (exchange i) one.order_is
    ∙ brought_more 0 i from (order bs) low (omega (arith, length_order bs)) in
    subst (Reordered bs bs'') order_then (reordered_twice bs bs' bs'' _ _ one two)

-- ---- settled: a waiting one brought to the front of those that wait, and counted as agreed

module _ (bs bs' : List ℕ) (a w k : ℕ) (good : Good bs a w) (small : k < w)
    (change : Reordered bs bs' (brought 0 a (a + k) (order bs))) where
  there : a + k < length (order bs)
  there = omega (arith, good.room, length_order bs)

  same_used : places_used bs' ≡ places_used bs
  same_used = used_same bs bs' change.len

  -- place i of the new order was some place j of the old one
  from_old : (i : ℕ) → i < places_used bs → Came 0 a (a + k) (order bs) (omega arith) there (places_used bs) i
  from_old i h = came 0 a (a + k) (order bs) (omega arith) there (places_used bs) i (omega (arith, there, length_order bs)) h

  inside_brought : (i : ℕ) → i < places_used bs → get_or (brought 0 a (a + k) (order bs)) i 0 < places_used bs
  inside_brought i h =
      let old = from_old i h in
      let was : get_or (order bs) old.j 0 < places_used bs = good.inside old.j old.within in
      omega (arith, old.same)

  new_row : row bs' ≡ brought nothing a (a + k) (row bs)
  unfolding row
  new_row =
      reordered_row bs bs' (brought 0 a (a + k) (order bs))
      (length_brought 0 a (a + k) (order bs) (omega arith) there ∙ length_order bs) inside_brought change
      ∙ map_brought (offered_at bs) 0 nothing a (a + k) (order bs) there

  new_sound : (i : ℕ) → i < a + w → Sound (get_or (row bs') i nothing)
  new_sound i h =
      let inside : a + k < length (row bs) = omega (arith, there, length_order bs, length_row bs) in
      let old = came nothing a (a + k) (row bs) (omega arith) inside (a + w) i (omega arith) h in
      subst Sound (sym (ap (λ xs. get_or xs i nothing) new_row ∙ old.same)) (good.sound old.j old.within)

  pub settled_good : Good bs' (a + 1) (w - 1)
  settled_good = record {
    room = omega (arith, good.room, same_used);
    inside = λ i h.
        let was : get_or (brought 0 a (a + k) (order bs)) i 0 < places_used bs = inside_brought i (omega (arith, same_used)) in
        omega (arith, same_used, ap (λ xs. get_or xs i 0) change.order_is);
    apart = λ i j h.
        let one = from_old i (omega (arith, h.0, same_used)) in
        let two = from_old j (omega (arith, h.1, same_used)) in
        let same = sym one.same ∙ sym (ap (λ xs. get_or xs i 0) change.order_is) ∙ h.2 ∙ ap (λ xs. get_or xs j 0) change.order_is ∙ two.same in
        sym one.goes ∙ ap (λ n. back a (a + k) n) (good.apart one.j two.j (one.within, two.within, same)) ∙ two.goes;
    sound = λ i h. new_sound i (omega arith);
  }

  pub settled_means : stored bs' (a + 1) (w - 1) ≡ stored_settle (stored bs a w) k
  unfolding stored
  settled_means =
      let room : a + w ≤ length (row bs) = omega (arith, good.room, length_row bs) in
      λ i. record {
        agreed = (ap (take (a + 1)) new_row ∙ take_brought nothing a w k (row bs) small room) i;
        queue = (ap (between (a + 1) (a + 1 + (w - 1))) new_row ∙ rest_brought nothing a w k (row bs) small room) i;
        limit = places_same bs bs' change.len i;
      }
