-- An element of a list brought forward: where each element then comes from, how swaps of neighbours do it one
-- after the other, and what it makes of a list that is cut in two.
use Rattle.std.proofs.Common.{◌≡◌, ℕ, suc, ◌+◌, ◌-◌, ◌<◌, ◌≤◌, cond, eqb, ltb, ◌⊎◌, List, [], ◌∷◌, ◌++◌, map, length, get_or, take, drop, set, sym, ap, ◌∙◌, ap₂, inl, inr, arith}
use lib.Seq.{take-append-add}
use Rattle.lines.specs.Places.{brought}
use Rattle.std.proofs.lemmas.List.Edits.{length-between, get_or-between, between_none}
use Rattle.std.proofs.lemmas.List.{append_assoc, length-append, length-drop, length-take-le, get_or_append_left, get_or-append_right, get_or-take, get_or-drop, get_or_at, get_or-map, map-append, set_at, take_at, take_more, take-take, drop_at, drop-drop, drop_more, drop-take, take-append-drop, take-map, drop-map}
use Rattle.std.proofs.lemmas.Bool.{cases_lt, cases_order}
use Rattle.std.proofs.lemmas.Bool.Decides.{nat_tests}
use Rattle.std.specs.List.{between, remove}

-- where element j goes
abbrev pub back : ℕ → ℕ → ℕ → ℕ
back to from j = cond (ltb j to) j (cond (ltb j from) (j + 1) (cond (eqb j from) to j))

module _ {X : Type 0} (d : X) (to from : ℕ) (xs : List X) (forward : to ≤ from) (there : from < length xs) where
  abbrev ys : List X
  ys = brought d to from xs

  abbrev behind : List X
  behind = between to from xs ++ drop (from + 1) xs

  front_long : length (take to xs) ≡ to
  front_long = length-take-le to xs (omega arith)

  middle_long : length (between to from xs) ≡ from - to
  middle_long = length-between xs to from (omega arith)

  pub length_brought : length ys ≡ length xs
  length_brought =
      length-append (take to xs) (get_or xs from d ∷ behind)
      ∙ omega (arith, front_long, length-append (between to from xs) (drop (from + 1) xs), middle_long, length-drop (from + 1) xs)

  before : (k : ℕ) → k < to → get_or ys k d ≡ get_or xs k d
  before k h = get_or_append_left (take to xs) (get_or xs from d ∷ behind) d k (omega (arith, front_long)) ∙ get_or-take to xs k d h

  here : get_or ys to d ≡ get_or xs from d
  here = get_or_at (take to xs) (get_or xs from d) behind d to front_long

  past : (k m : ℕ) → to + suc m ≡ k → get_or ys k d ≡ get_or behind m d
  past k m e =
      get_or-append_right (take to xs) (get_or xs from d ∷ behind) to k d front_long (omega arith)
      ∙ ap (λ n. get_or (get_or xs from d ∷ behind) n d) (step k m e)
    where
      step : (k m : ℕ) → to + suc m ≡ k → k - to ≡ suc m
      step k m e = omega arith

  passed : (k : ℕ) → to < k → k ≤ from → get_or ys k d ≡ get_or xs (k - 1) d
  passed k low high =
      past k (k - to - 1) (omega arith)
      ∙ get_or_append_left (between to from xs) (drop (from + 1) xs) d (k - to - 1) (omega (arith, middle_long))
      ∙ get_or-between xs to from (k - to - 1) d (omega arith)
      ∙ ap (λ n. get_or xs n d) (index k low)
    where
      index : (k : ℕ) → to < k → to + (k - to - 1) ≡ k - 1
      index k low = omega arith

  after : (k : ℕ) → from < k → get_or ys k d ≡ get_or xs k d
  after k h =
      past k (k - to - 1) (omega arith)
      ∙ get_or-append_right (between to from xs) (drop (from + 1) xs) (from - to) (k - to - 1) d middle_long (omega arith)
      ∙ get_or-drop (from + 1) xs (k - to - 1 - (from - to)) d
      ∙ ap (λ n. get_or xs n d) (index k h)
    where
      index : (k : ℕ) → from < k → from + 1 + (k - to - 1 - (from - to)) ≡ k
      index k h = omega arith

  -- element k came from some place j, which goes to k; of the first n, where `from` is one of them, from one of the first n
  pub record Came (n k : ℕ) : Type 0 where
    pub j : ℕ
    pub within : j < n
    pub same : get_or ys k d ≡ get_or xs j d
    pub goes : back to from j ≡ k

  pub came : (n k : ℕ) → from < n → k < n → Came n k
  came n k inside small = by (cases_order k to)
    where
      later : to < k → (k ≤ from) ⊎ (from < k) → Came n k
      later above (inl low) = record { j = k - 1; within = omega arith; same = passed k above low; goes = grind (arith, nat_tests) }
      later above (inr high) = record { j = k; within = small; same = after k high; goes = grind (arith, nat_tests) }

      split : to < k → Came n k
      split above = elim (cases_lt from k) [ inl high ↦ later above (inr high) | inr low ↦ later above (inl low) ]

      by : (k ≡ to) ⊎ ((k < to) ⊎ (to < k)) → Came n k
      by (inl e) = record { j = from; within = inside; same = ap (λ n. get_or ys n d) e ∙ here; goes = grind (arith, nat_tests) }
      by (inr (inl low)) = record { j = k; within = small; same = before k low; goes = grind (arith, nat_tests) }
      by (inr (inr high)) = split high

-- ---- one step after the other

pub brought_none : {X : Type 0} (d : X) (from : ℕ) (xs : List X) → from < length xs → brought d from from xs ≡ xs
brought_none d from xs h =
    ap (λ zs. take from xs ++ get_or xs from d ∷ (zs ++ drop (from + 1) xs)) (between_none xs from)
    ∙ ap (λ zs. take from xs ++ zs) (sym (drop_more xs from d h))
    ∙ take-append-drop from xs

module _ {X : Type 0} (d : X) (i from : ℕ) (xs : List X) (low : i < from) (high : from < length xs) where
  abbrev x : X
  x = get_or xs from d

  abbrev y : X
  y = get_or xs i d

  abbrev nearer : List X
  nearer = brought d (i + 1) from xs

  abbrev tail : List X
  tail = between (i + 1) from xs ++ drop (from + 1) xs

  long : length (take i xs) ≡ i
  long = length-take-le i xs (omega arith)

  first : get_or nearer i d ≡ y
  first = before d (i + 1) from xs (omega arith) high i (omega arith)

  second : get_or nearer (i + 1) d ≡ x
  second = here d (i + 1) from xs (omega arith) high

  split : nearer ≡ take i xs ++ y ∷ (x ∷ tail)
  split = ap (λ ws. ws ++ x ∷ tail) (take_more xs i d (omega arith)) ∙ append_assoc (take i xs) (y ∷ []) (x ∷ tail)

  whole : between i from xs ≡ y ∷ between (i + 1) from xs
  whole =
      let width : from - i ≡ suc (from - (i + 1)) = omega arith in
      ap (λ n. take n (drop i xs)) width ∙ ap (take (suc (from - (i + 1)))) (drop_more xs i d (omega arith))

  -- neighbours are swapped
  pub brought_more : set (set nearer i (get_or nearer (i + 1) d)) (i + 1) (get_or nearer i d) ≡ brought d i from xs
  brought_more =
      ap₂ (λ u v. set (set nearer i u) (i + 1) v) second first
      ∙ ap (λ ws. set (set ws i x) (i + 1) y) split
      ∙ ap (λ ws. set ws (i + 1) y) (set_at (take i xs) y (x ∷ tail) x i long)
      ∙ ap (λ ws. set ws (i + 1) y) (sym (append_assoc (take i xs) (x ∷ []) (x ∷ tail)))
      ∙ set_at (take i xs ++ x ∷ []) x tail y (i + 1) (length-append (take i xs) (x ∷ []) ∙ omega (arith, long))
      ∙ append_assoc (take i xs) (x ∷ []) (y ∷ tail)
      ∙ ap (λ ws. take i xs ++ x ∷ (ws ++ drop (from + 1) xs)) (sym whole)

pub map_brought : {X Y : Type 0} (f : X → Y) (d : X) (e : Y) (to from : ℕ) (xs : List X) → from < length xs →
    map f (brought d to from xs) ≡ brought e to from (map f xs)
map_brought f d e to from xs h =
    map-append f (take to xs) _
    ∙ ap₂ (λ ps qs. ps ++ f (get_or xs from d) ∷ qs) (sym (take-map f to xs))
    (map-append f (between to from xs) (drop (from + 1) xs)
    ∙ ap₂ ◌++◌ (sym (take-map f (from - to) (drop to xs)) ∙ ap (take (from - to)) (sym (drop-map f to xs))) (sym (drop-map f (from + 1) xs)))
    ∙ ap (λ z. take to (map f xs) ++ z ∷ (between to from (map f xs) ++ drop (from + 1) (map f xs))) (sym (get_or-map f xs from d e h))

-- ---- in a list whose first a elements are followed by w others, of which number k is brought to their front

module _ {X : Type 0} (d : X) (a w k : ℕ) (xs : List X) (small : k < w) (there : a + w ≤ length xs) where
  abbrev zs : List X
  zs = brought d a (a + k) xs

  abbrev others : List X
  others = between a (a + w) xs

  cut : zs ≡ (take a xs ++ get_or xs (a + k) d ∷ []) ++ (between a (a + k) xs ++ drop (a + k + 1) xs)
  cut = sym (append_assoc (take a xs) (get_or xs (a + k) d ∷ []) (between a (a + k) xs ++ drop (a + k + 1) xs))

  front : length (take a xs ++ get_or xs (a + k) d ∷ []) ≡ a + 1
  front = length-append (take a xs) (get_or xs (a + k) d ∷ []) ∙ omega (arith, length-take-le a xs (omega arith))

  pub take_brought : take (a + 1) zs ≡ take a xs ++ get_or others k d ∷ []
  take_brought =
      ap (take (a + 1)) cut
      ∙ take_at (take a xs ++ get_or xs (a + k) d ∷ []) (between a (a + k) xs ++ drop (a + k + 1) xs) (a + 1) front
      ∙ ap (λ x. take a xs ++ x ∷ []) (sym (get_or-between xs a (a + w) k d (omega arith)))

  pub rest_brought : between (a + 1) (a + 1 + (w - 1)) zs ≡ remove others k
  rest_brought =
      ap (take (a + 1 + (w - 1) - (a + 1))) (ap (drop (a + 1)) cut ∙ drop_at (take a xs ++ get_or xs (a + k) d ∷ []) _ (a + 1) front)
      ∙ ap (λ n. take n (between a (a + k) xs ++ drop (a + k + 1) xs)) count
      ∙ take-append-add (between a (a + k) xs) (drop (a + k + 1) xs) (w - 1 - k)
      ∙ ap₂ ◌++◌ low high
    where
      count : a + 1 + (w - 1) - (a + 1) ≡ length (between a (a + k) xs) + (w - 1 - k)
      count = omega (arith, length-between xs a (a + k) (omega arith))

      low : between a (a + k) xs ≡ take k others
      low = ap (λ n. take n (drop a xs)) (one a k) ∙ sym (take-take k (a + w - a) (drop a xs) (omega arith))
        where
          one : (a k : ℕ) → a + k - a ≡ k
          one a k = omega arith

      high : take (w - 1 - k) (drop (a + k + 1) xs) ≡ drop (suc k) others
      high =
          ap (λ n. take (w - 1 - k) (drop n xs)) (two a k)
          ∙ ap (take (w - 1 - k)) (sym (drop-drop (suc k) a xs))
          ∙ sym (drop-take (suc k) (w - 1 - k) (drop a xs))
          ∙ ap (λ n. drop (suc k) (take n (drop a xs))) (three a w k small)
        where
          two : (a k : ℕ) → a + k + 1 ≡ a + suc k
          two a k = omega arith

          three : (a w k : ℕ) → k < w → suc k + (w - 1 - k) ≡ a + w - a
          three a w k h = omega arith
