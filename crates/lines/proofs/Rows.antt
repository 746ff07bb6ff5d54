-- The order of the places, and the row of what stands in them: what each write to a place leaves of both.
use Rattle.std.proofs.Common.{◌≡◌, ℕ, ◌/◌, ◌<◌, min, ◌⊎◌, List, map, length, get_or, set, sym, refl, ap, ◌∙◌, subst, ap₂, inl, inr, arith}
use Rattle.lines.specs.Orders.{Offered}
use Rattle.lines.specs.Places.{link_in, offered_in, link_at, offered_at, places_used, order, row, ChangedAt, Reordered, LinksInside, LinksApart}
use Rattle.lines.specs.StoreLaws.{length_order, length_row}
use Rattle.lines.specs.Stores.{nothing}
use Rattle.std.proofs.lemmas.List.FromFn.{get_or-map-range_with_len}
use Rattle.std.proofs.lemmas.List.{ext_get_or, get_or-map, get_or-set_same, get_or-set_other, length-map, length-set}
use Rattle.std.proofs.lemmas.Bool.{cases_eq}

pub order_at : (bs : List ℕ) (i : ℕ) → i < places_used bs → get_or (order bs) i 0 ≡ link_at bs i
unfolding order
order_at bs i h = get_or-map-range_with_len (link_at bs) 0 (places_used bs) i i 0 h (omega arith)

pub row_at : (bs : List ℕ) (i : ℕ) → i < places_used bs → get_or (row bs) i nothing ≡ offered_at bs (get_or (order bs) i 0)
unfolding row
row_at bs i h = get_or-map (offered_at bs) (order bs) i 0 nothing (omega (arith, length_order bs))

-- as many bytes, as many places
pub used_same : (bs bs' : List ℕ) → length bs' ≡ length bs → places_used bs' ≡ places_used bs
used_same bs bs' e = ap (λ n. min (n / 1168) 4096) e

-- another link in place i
pub relinked : (bs bs' : List ℕ) (i v : ℕ) → i < places_used bs → ChangedAt bs bs' i → link_at bs' i ≡ v → offered_at bs' i ≡ offered_at bs i →
    Reordered bs bs' (set (order bs) i v)
relinked bs bs' i v there changed link message = record {
  len = changed.len;
  order_is =
      ext_get_or 0 (order bs') (set (order bs) i v)
      (length_order bs' ∙ used ∙ sym (length_order bs) ∙ sym (length-set (order bs) i v))
      (λ j h. at j (omega (arith, length_order bs')) (cases_eq j i));
  messages = λ p h. message_at p h (cases_eq p i);
  beyond = changed.beyond;
}
  where
    used : places_used bs' ≡ places_used bs
    used = used_same bs bs' changed.len

    at : (j : ℕ) → j < places_used bs → (j ≡ i) ⊎ (j ≡ i → ⊥) → get_or (order bs') j 0 ≡ get_or (set (order bs) i v) j 0
    at j h (inl e) =
        order_at bs' j (omega arith) ∙ ap (link_at bs') e ∙ link
        ∙ sym (ap (λ k. get_or (set (order bs) i v) k 0) e ∙ get_or-set_same (order bs) i v 0 (omega (arith, length_order bs)))
    at j h (inr other) =
        order_at bs' j (omega arith) ∙ ap link_in (changed.others j (omega arith) other)
        ∙ sym (get_or-set_other (order bs) i j v 0 other ∙ order_at bs j h)

    message_at : (p : ℕ) → p < places_used bs → (p ≡ i) ⊎ (p ≡ i → ⊥) → offered_at bs' p ≡ offered_at bs p
    message_at p h (inl e) = subst (λ q. offered_at bs' q ≡ offered_at bs q) (sym e) message
    message_at p h (inr other) = ap offered_in (changed.others p (omega arith) other)

-- one change of the order after another
pub reordered_twice : (bs bs' bs'' : List ℕ) (xs ys : List ℕ) → Reordered bs bs' xs → Reordered bs' bs'' ys → Reordered bs bs'' ys
reordered_twice bs bs' bs'' xs ys one two = record {
  len = two.len ∙ one.len;
  order_is = two.order_is;
  messages = λ p h. two.messages p (omega (arith, used_same bs bs' one.len)) ∙ one.messages p h;
  beyond = two.beyond ∙ one.beyond;
}

-- another link in each of two places
pub relinked_twice : (bs bs' bs'' : List ℕ) (i j u v x y : ℕ) → i < places_used bs → j < places_used bs →
    ChangedAt bs bs' i → link_at bs' i ≡ u → offered_at bs' i ≡ offered_at bs i →
    ChangedAt bs' bs'' j → link_at bs'' j ≡ v → offered_at bs'' j ≡ offered_at bs' j →
    u ≡ x → v ≡ y → Reordered bs bs'' (set (set (order bs) i x) j y)
relinked_twice bs bs' bs'' i j u v x y i_there j_there changed link message changed' link' message' u_is v_is =
    let one = relinked bs bs' i u i_there changed link message in
    let two = relinked bs' bs'' j v (omega (arith, used_same bs bs' changed.len)) changed' link' message' in
    let order_then = ap (λ xs. set xs j v) one.order_is ∙ ap₂ (λ a b. set (set (order bs) i a) j b) u_is v_is in
    subst (Reordered bs bs'') order_then (reordered_twice bs bs' bs'' _ _ one two)

-- no change of the order is one
pub reordered_none : (bs : List ℕ) (xs : List ℕ) → order bs ≡ xs → Reordered bs bs xs
reordered_none bs xs e = record { len = refl; order_is = e; messages = λ p h. refl; beyond = refl }

-- the row after a change of the order
pub reordered_row : (bs bs' xs : List ℕ) → length xs ≡ places_used bs → ((i : ℕ) → i < places_used bs → get_or xs i 0 < places_used bs) →
    Reordered bs bs' xs → row bs' ≡ map (offered_at bs) xs
reordered_row bs bs' xs long inside change =
    ext_get_or nothing (row bs') (map (offered_at bs) xs)
    (length_row bs' ∙ used ∙ sym long ∙ sym (length-map xs (offered_at bs)))
    (λ i h. let there : i < places_used bs = omega (arith, length_row bs', used) in at i there)
  where
    used : places_used bs' ≡ places_used bs
    used = used_same bs bs' change.len

    at : (i : ℕ) → i < places_used bs → get_or (row bs') i nothing ≡ get_or (map (offered_at bs) xs) i nothing
    at i h =
        row_at bs' i (omega (arith, used))
        ∙ ap (λ ys. offered_at bs' (get_or ys i 0)) change.order_is
        ∙ change.messages (get_or xs i 0) (inside i h)
        ∙ sym (get_or-map (offered_at bs) xs i 0 nothing (omega arith))

-- another message in place p, which comes k-th
module _ (bs bs' : List ℕ) (p k : ℕ) (o : Offered) (there : k < places_used bs) (p_is : p ≡ get_or (order bs) k 0)
    (inside : LinksInside bs) (apart : LinksApart bs)
    (changed : ChangedAt bs bs' p) (link : link_at bs' p ≡ link_at bs p) (message : offered_at bs' p ≡ o) where
  pub refilled_used : places_used bs' ≡ places_used bs
  refilled_used = used_same bs bs' changed.len

  pub refilled_order : order bs' ≡ order bs
  refilled_order =
      ext_get_or 0 (order bs') (order bs) (length_order bs' ∙ refilled_used ∙ sym (length_order bs))
      (λ j h. let small : j < places_used bs = omega (arith, length_order bs', refilled_used) in at j small (cases_eq j p))
    where
      at : (j : ℕ) → j < places_used bs → (j ≡ p) ⊎ (j ≡ p → ⊥) → get_or (order bs') j 0 ≡ get_or (order bs) j 0
      at j h (inl e) =
          order_at bs' j (omega (arith, refilled_used)) ∙ subst (λ q. link_at bs' q ≡ link_at bs q) (sym e) link ∙ sym (order_at bs j h)
      at j h (inr other) =
          order_at bs' j (omega (arith, refilled_used)) ∙ ap link_in (changed.others j (omega arith) other) ∙ sym (order_at bs j h)

  pub refilled_row : row bs' ≡ set (row bs) k o
  refilled_row =
      ext_get_or nothing (row bs') (set (row bs) k o)
      (length_row bs' ∙ refilled_used ∙ sym (length_row bs) ∙ sym (length-set (row bs) k o))
      (λ j h. let small : j < places_used bs = omega (arith, length_row bs', refilled_used) in at j small (cases_eq j k))
    where
      at : (j : ℕ) → j < places_used bs → (j ≡ k) ⊎ (j ≡ k → ⊥) → get_or (row bs') j nothing ≡ get_or (set (row bs) k o) j nothing
      at j h (inl e) =
          row_at bs' j (omega (arith, refilled_used))
          ∙ ap (λ q. offered_at bs' q) (ap (λ xs. get_or xs j 0) refilled_order ∙ ap (λ q. get_or (order bs) q 0) e ∙ sym p_is)
          ∙ message
          ∙ sym (ap (λ q. get_or (set (row bs) k o) q nothing) e ∙ get_or-set_same (row bs) k o nothing (omega (arith, length_row bs)))
      at j h (inr other) =
          let small : get_or (order bs) j 0 < places_used bs = inside j h in
          row_at bs' j (omega (arith, refilled_used))
          ∙ ap (λ xs. offered_at bs' (get_or xs j 0)) refilled_order
          ∙ ap offered_in (changed.others (get_or (order bs) j 0) (omega arith) (λ e. other (apart j k (h, there, e ∙ p_is))))
          ∙ sym (get_or-set_other (row bs) k j o nothing other ∙ row_at bs j h)
