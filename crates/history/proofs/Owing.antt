-- What the state of a slot says of the moves that the slot sent: how many of them its suite has taken, and how it ruled on the latest. `p` says
-- which moves are the slot's, `c` is how many of them it sent, `ms` are the agreed moves, and `mine` the rulings of the suite.
use Rattle.std.proofs.Common.{◌≡◌, ℕ, zero, suc, ◌+◌, ◌≤◌, ◌≢◌, Bool, true, false, cond, List, [], ◌∷◌, ◌++◌, length, take, slice_get, count_by, Some, refl, ap, ◌∙◌, add-one, arith}
use Rattle.std.proofs.lemmas.List.{length_push, take-append-le}
use Rattle.std.proofs.lemmas.List.Sums.{sum_by-cons, sum_by_push, sum_by-take-le}
use Rattle.std.proofs.lemmas.Option.{slice_get_within}
use Rattle.history.proofs.Elements.{get_more, get_last, take_next}
use Rattle.history.specs.Moves.{Move}
use Rattle.session.specs.States.{SlotState, idle, opened, sent, ruled}
use Rattle.session.specs.Takes.{ruled_if_sent}
use Rattle.session.specs.declared.ruling.Outcome.{Outcome}
use Rattle.session.specs.declared.ruling.Ruling.{Ruling}
use Rattle.session.specs.declared.ruling.Ruling.TheVariants.{Decided}

module _ {T : Type 0} (p : Move T → Bool) where
  -- the latest move that the slot sent is agreed, and was ruled on so
  pub record LatestRuled (ms : List (Move T)) (mine : List Ruling) (c : ℕ) (outcome : Outcome) : Type 0 where
    pub position : ℕ
    pub move : Move T
    pub is : slice_get ms position ≡ Some move
    pub from : p move ≡ true
    pub ruled : slice_get mine position ≡ Some (Decided outcome)
    pub latest : count_by p (take (suc position) ms) ≡ c

  -- how many of the slot's moves the suite has taken
  abbrev pub taken_from : List (Move T) → List Ruling → ℕ
  taken_from ms mine = count_by p (take (length mine) ms)

  -- a slot that is sent waits for one move to be taken, and no other slot waits
  abbrev pub SlotOwes : List (Move T) → List Ruling → ℕ → SlotState → Type 0
  SlotOwes ms mine c idle = taken_from ms mine ≡ c
  SlotOwes ms mine c (opened snapshot reads written) = taken_from ms mine ≡ c
  SlotOwes ms mine c sent = suc (taken_from ms mine) ≡ c
  SlotOwes ms mine c (ruled outcome) = LatestRuled ms mine c outcome

  -- one more element, counted
  count_next : (xs : List (Move T)) (k : ℕ) (m : Move T) → slice_get xs k ≡ Some m → count_by p (take (suc k) xs) ≡ count_by p (take k xs) + cond (p m) 1 0
  count_next xs k m is = ap (count_by p) (take_next xs k m is) ∙ sum_by_push (λ x. cond (p x) 1 0) (take k xs) m

  count_take_le : (xs : List (Move T)) (j k : ℕ) → j ≤ k → count_by p (take j xs) ≤ count_by p (take k xs)
  count_take_le xs zero k h = omega arith
  count_take_le [] (suc j) k h = omega arith
  count_take_le (x ∷ xs) (suc j) (suc k) h =
      omega (arith, count_take_le xs j k (omega arith), sum_by-cons (λ y. cond (p y) 1 0) x (take j xs), sum_by-cons (λ y. cond (p y) 1 0) x (take k xs))
  count_take_le (x ∷ xs) (suc j) zero h = absurd (omega arith)

  -- if as many pass among the first n as in all, none passes later
  pub none_later : (xs : List (Move T)) (n : ℕ) → count_by p xs ≤ count_by p (take n xs) → (j : ℕ) (x : Move T) → n ≤ j → slice_get xs j ≡ Some x → p x ≡ false
  none_later xs n all j x h is = by (p x) refl
    where
      by : (b : Bool) → p x ≡ b → b ≡ false
      by false e = refl
      by true e =
          let low = count_take_le xs n j h in
          let one = count_next xs j x is ∙ ap (λ b. count_by p (take j xs) + cond b 1 0) e in
          let most = sum_by-take-le (λ y. cond (p y) 1 0) xs (suc j) in
          absurd (omega arith)

  module _ (ms : List (Move T)) (mine : List Ruling) (c : ℕ) where
    -- a slot that does not wait has had all its moves taken
    pub at_rest : (q : SlotState) → q ≢ sent → length mine ≤ length ms → count_by p ms ≤ c → SlotOwes ms mine c q → taken_from ms mine ≡ c
    at_rest idle d within most owes = owes
    at_rest (opened snapshot reads written) d within most owes = owes
    at_rest sent d within most owes = absurd (d refl)
    at_rest (ruled outcome) d within most owes =
        let below = slice_get_within mine owes.position (Decided outcome) owes.ruled in
        let low = count_take_le ms (suc owes.position) (length mine) (omega arith) in
        let high = sum_by-take-le (λ y. cond (p y) 1 0) ms (length mine) in
        omega (arith, owes.latest)

    -- more agreed moves change nothing
    pub owes_agreed : (more : List (Move T)) → length mine ≤ length ms → (q : SlotState) → SlotOwes ms mine c q → SlotOwes (ms ++ more) mine c q
    owes_agreed more within q owes = by q owes
      where
        same : (k : ℕ) → k ≤ length ms → count_by p (take k (ms ++ more)) ≡ count_by p (take k ms)
        same k h = ap (count_by p) (take-append-le k ms more h)

        by : (q : SlotState) → SlotOwes ms mine c q → SlotOwes (ms ++ more) mine c q
        by idle owes = same (length mine) within ∙ owes
        by (opened snapshot reads written) owes = same (length mine) within ∙ owes
        by sent owes = ap suc (same (length mine) within) ∙ owes
        by (ruled outcome) owes =
            let below = slice_get_within ms owes.position owes.move owes.is in
            record {
              position = owes.position;
              move = owes.move;
              is = get_more ms more owes.position owes.move owes.is;
              from = owes.from;
              ruled = owes.ruled;
              latest = same (suc owes.position) below ∙ owes.latest;
            }

    -- ---- a take

    module _ (m : Move T) (is : slice_get ms (length mine) ≡ Some m) (r : Ruling) where
      one_more : taken_from ms (mine ++ r ∷ []) ≡ taken_from ms mine + cond (p m) 1 0
      one_more = ap (λ k. count_by p (take k ms)) (length_push mine r ∙ add-one (length mine)) ∙ count_next ms (length mine) m is

      still_ruled : (outcome : Outcome) → LatestRuled ms mine c outcome → LatestRuled ms (mine ++ r ∷ []) c outcome
      still_ruled outcome owes = record {
        position = owes.position;
        move = owes.move;
        is = owes.is;
        from = owes.from;
        ruled = get_more mine (r ∷ []) owes.position (Decided outcome) owes.ruled;
        latest = owes.latest;
      }

      -- a take of another slot's move
      pub owes_passed : p m ≡ false → (q : SlotState) → SlotOwes ms mine c q → SlotOwes ms (mine ++ r ∷ []) c q
      owes_passed other q owes = by q owes
        where
          same : taken_from ms (mine ++ r ∷ []) ≡ taken_from ms mine
          same = one_more ∙ ap (λ b. taken_from ms mine + cond b 1 0) other ∙ omega arith

          by : (q : SlotState) → SlotOwes ms mine c q → SlotOwes ms (mine ++ r ∷ []) c q
          by idle owes = same ∙ owes
          by (opened snapshot reads written) owes = same ∙ owes
          by sent owes = ap suc same ∙ owes
          by (ruled outcome) owes = still_ruled outcome owes

      -- a take of the slot's move finds the slot sent
      pub owes_ruled : p m ≡ true → count_by p ms ≤ c → (outcome : Outcome) → r ≡ Decided outcome → (q : SlotState) → SlotOwes ms mine c q →
          SlotOwes ms (mine ++ r ∷ []) c (ruled_if_sent outcome q)
      owes_ruled mine_too most outcome so q owes = by q refl owes
        where
          more : suc (taken_from ms mine) ≤ c
          more =
              let next = count_next ms (length mine) m is ∙ ap (λ b. taken_from ms mine + cond b 1 0) mine_too in
              let high = sum_by-take-le (λ y. cond (p y) 1 0) ms (suc (length mine)) in
              omega arith

          within : length mine ≤ length ms
          within = (let below = slice_get_within ms (length mine) m is in omega arith)

          waits : (q : SlotState) → q ≢ sent → SlotOwes ms mine c q → ⊥
          waits q d owes = (let all = at_rest q d within most owes in omega (arith, more))

          by : (q' : SlotState) → q ≡ q' → SlotOwes ms mine c q' → SlotOwes ms (mine ++ r ∷ []) c (ruled_if_sent outcome q')
          by idle e owes = absurd (waits idle (λ z. cc) owes)
          by (opened snapshot reads written) e owes = absurd (waits (opened snapshot reads written) (λ z. cc) owes)
          by (ruled before) e owes = absurd (waits (ruled before) (λ z. cc) owes)
          by sent e owes = record {
            position = length mine;
            move = m;
            is = is;
            from = mine_too;
            ruled = get_last mine r ∙ ap Some so;
            latest = count_next ms (length mine) m is ∙ ap (λ b. taken_from ms mine + cond b 1 0) mine_too ∙ add-one (taken_from ms mine) ∙ owes;
          }
