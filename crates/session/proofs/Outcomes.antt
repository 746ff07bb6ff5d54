-- What an outcome leaves of a suite's slots: an open slot stays as it is, and no other becomes open.
use Rattle.std.proofs.Common.{◌≡◌, ℕ, ◌-◌, ◌<◌, ◌≤◌, ◌↔◌, ◌⊎◌, inl, inr, Bool, true, false, cond, eqb, List, length, set, get_or, sym, refl, ap, ◌∙◌, arith}
use Rattle.session.specs.States.{SlotState, idle, opened, sent, ruled}
use Rattle.session.specs.Takes.{with_outcome, ruled_if_sent}
use Rattle.session.specs.declared.ruling.Outcome.{Outcome}
use Rattle.std.proofs.lemmas.Bool.{cases_eq, cases_lt}
use Rattle.std.proofs.lemmas.List.{length-set, get_or-set_same, get_or-set_other, set_past}

module _ (u suite slot : ℕ) (outcome : Outcome) (slots : List SlotState) where
  pub length_with_outcome : length (with_outcome u suite slot outcome slots) ≡ length slots
  length_with_outcome = by (eqb suite u)
    where
      by : (b : Bool) → length (cond b (set slots (slot - 1) (ruled_if_sent outcome (get_or slots (slot - 1) idle))) slots) ≡ length slots
      by true = length-set slots (slot - 1) (ruled_if_sent outcome (get_or slots (slot - 1) idle))
      by false = refl

  -- the slot at an index is the same as before or, if it is the one that is with_outcome, ruled on if it was sent
  pub outcome_at : (i : ℕ) →
      (get_or (with_outcome u suite slot outcome slots) i idle ≡ get_or slots i idle)
      ⊎ (get_or (with_outcome u suite slot outcome slots) i idle ≡ ruled_if_sent outcome (get_or slots i idle))
  outcome_at i = by (eqb suite u) (cases_eq i (slot - 1)) (cases_lt i (length slots))
    where
      new : SlotState
      new = ruled_if_sent outcome (get_or slots (slot - 1) idle)

      by : (b : Bool) → (i ≡ slot - 1) ⊎ (i ≡ slot - 1 → ⊥) → (i < length slots) ⊎ (length slots ≤ i) →
          (get_or (cond b (set slots (slot - 1) new) slots) i idle ≡ get_or slots i idle)
          ⊎ (get_or (cond b (set slots (slot - 1) new) slots) i idle ≡ ruled_if_sent outcome (get_or slots i idle))
      by true (inl same) (inl inside) =
          inr (ap (λ k. get_or (set slots k (ruled_if_sent outcome (get_or slots k idle))) i idle) (sym same)
          ∙ get_or-set_same slots i (ruled_if_sent outcome (get_or slots i idle)) idle inside)
      by true (inl same) (inr past) = inl (ap (λ l. get_or l i idle) (set_past slots (slot - 1) new (omega arith)))
      by true (inr other) inside = inl (get_or-set_other slots (slot - 1) i new idle other)
      by false same inside = inl refl

  -- ruling on a slot if it is sent opens and closes none
  open_if_ruled : (q : SlotState) (snapshot : ℕ) (reads : List ℕ) (written : ℕ) →
      (ruled_if_sent outcome q ≡ opened snapshot reads written) ↔ (q ≡ opened snapshot reads written)
  open_if_ruled idle snapshot reads written = (λ e. e, λ e. e)
  open_if_ruled (opened s r w) snapshot reads written = (λ e. e, λ e. e)
  open_if_ruled sent snapshot reads written = (λ e. cc, λ e. cc)
  open_if_ruled (ruled before) snapshot reads written = (λ e. e, λ e. e)

  pub outcome_open : (i snapshot : ℕ) (reads : List ℕ) (written : ℕ) →
      (get_or (with_outcome u suite slot outcome slots) i idle ≡ opened snapshot reads written) ↔ (get_or slots i idle ≡ opened snapshot reads written)
  outcome_open i snapshot reads written = by (outcome_at i)
    where
      q : SlotState
      q = get_or slots i idle

      q' : SlotState
      q' = get_or (with_outcome u suite slot outcome slots) i idle

      by : (q' ≡ q) ⊎ (q' ≡ ruled_if_sent outcome q) → (q' ≡ opened snapshot reads written) ↔ (q ≡ opened snapshot reads written)
      by (inl same) = (λ e. sym same ∙ e, λ e. same ∙ e)
      by (inr same) =
          let open_if = open_if_ruled q snapshot reads written in
          (λ e. open_if.0 (sym same ∙ e), λ e. same ∙ open_if.1 e)
