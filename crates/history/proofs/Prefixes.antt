-- What events show of a history stays, and grows at the end, when more events come.
use Rattle.std.proofs.Common.{◌≡◌, ℕ, ◌≤◌, Bool, true, false, cond, eqb, List, [], ◌∷◌, ◌++◌, length, take, drop, sym, ap, ◌∙◌, append_assoc, arith}
use Rattle.std.proofs.lemmas.List.{append-nil, length-append}
use Rattle.history.specs.Events.{Event, at, settled, took, declined}
use Rattle.history.specs.Moves.{Move, sent_by, served, agreed, rulings}
use Rattle.session.specs.declared.ruling.Ruling.{Ruling}

module _ {T : Type 0} where
  pub agreed_more : (later earlier : List (Event T)) → (more : List (Move T)) × (agreed (later ++ earlier) ≡ agreed earlier ++ more)
  unfolding agreed
  agreed_more [] earlier = ([], sym (append-nil (agreed earlier)))
  agreed_more (at u s d ∷ later) earlier = agreed_more later earlier
  agreed_more (settled v ∷ later) earlier =
      let before = agreed_more later earlier in
      let last = take 1 (drop (served (later ++ earlier) v) (sent_by (later ++ earlier) v)) in
      (before.0 ++ last, ap (λ l. l ++ last) before.1 ∙ append_assoc (agreed earlier) before.0 last)
  agreed_more (took u r ∷ later) earlier = agreed_more later earlier
  agreed_more (declined c why ∷ later) earlier = agreed_more later earlier

  pub rulings_more : (u : ℕ) (later earlier : List (Event T)) → (more : List Ruling) × (rulings (later ++ earlier) u ≡ rulings earlier u ++ more)
  unfolding rulings
  rulings_more u [] earlier = ([], sym (append-nil (rulings earlier u)))
  rulings_more u (at v s d ∷ later) earlier = rulings_more u later earlier
  rulings_more u (settled v ∷ later) earlier = rulings_more u later earlier
  rulings_more u (took v r ∷ later) earlier = by (eqb v u) (rulings_more u later earlier)
    where
      by : (b : Bool) → ((more : List Ruling) × (rulings (later ++ earlier) u ≡ rulings earlier u ++ more)) →
          (more : List Ruling) × (cond b (rulings (later ++ earlier) u ++ r ∷ []) (rulings (later ++ earlier) u) ≡ rulings earlier u ++ more)
      by true before = (before.0 ++ r ∷ [], ap (λ l. l ++ r ∷ []) before.1 ∙ append_assoc (rulings earlier u) before.0 (r ∷ []))
      by false before = before
  rulings_more u (declined c why ∷ later) earlier = rulings_more u later earlier

  pub takes_grow : (u : ℕ) (later earlier : List (Event T)) → length (rulings earlier u) ≤ length (rulings (later ++ earlier) u)
  takes_grow u later earlier =
      let more = rulings_more u later earlier in
      omega (arith, ap length more.1, length-append (rulings earlier u) more.0)
