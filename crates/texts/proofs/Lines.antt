-- A line that is read from an input, in the pieces that the input shows.
use Rattle.std.proofs.Common.{◌≡◌, ◌≢◌, ℕ, zero, suc, ◌+◌, ◌-◌, ◌<◌, ◌≤◌, Bool, true, false, cond, not, ◌&&◌, ltb, List, [], ◌∷◌, ◌++◌, All, length, get_or, take, Some, None, Option, IfSome, OnSome, sym, refl, ap, ap₂, true≢false, ◌∙◌, arith, append-nil, append_assoc, length-append, eqb-true, length-take, take_all, eq-eqb, ne_eqb}
use lib.Seq.{take-append_seam}
use Rattle.std.proofs.lemmas.List.{take-append-le, take_more, get_or-take}
use Rattle.std.proofs.lemmas.List.Quantifiers.{position-Some}
use Rattle.std.proofs.lemmas.List.Sums.{prefix_len_passes}
use Rattle.std.proofs.lemmas.Option.{IfSome_then, none-some}
use Rattle.std.specs.List.{position, position_or_len}
use Rattle.std.specs.Io.KnownBytes.{Keeps, Consumes, IsAtEnd, prepend_known}
use Rattle.std.specs.Io.BufRead.{strip_last, first_piece, DropsThrough}
use Rattle.std.proofs.KnownBytes.{Consumes-nil, Consumes-kept, Consumes-trans, Consumes-whole}
use Rattle.std.proofs.BufReadLemmas.{Consumes_through, take_through_nonempty}
use Rattle.std.proofs.lemmas.List.Elements.{All-append, All-get_or}
use Rattle.std.proofs.lemmas.Bool.{lt-ltb, le-ltb, ltb-true, ltb-false}
use Rattle.texts.specs.Buffers.{Gathered, nothing_gathered, gathered_of, gathered_more, gathered_more_all, is_newline}
use Rattle.texts.specs.Texts.{is_empty}

-- whether a byte is no newline
abbrev NoNewline : ℕ → Type 0
NoNewline b = b ≢ 10

-- ---- what is gathered of a line

pub gathered_of_none : (most : ℕ) → nothing_gathered most ≡ gathered_of most []
gathered_of_none most =
    ap₂ (λ bs t. record { bytes = bs; most = most; over = t }) (sym (take_all most [] (omega arith))) (sym (le-ltb most 0 (omega arith)))

-- of one byte more
pub gathered_of_more : (most b : ℕ) (line : List ℕ) →
    gathered_more (gathered_of most line) b ≡ gathered_of most (line ++ b ∷ [])
gathered_of_more most b line = go (ltb (length (take most line)) most) refl
  where
    longer : length (line ++ b ∷ []) ≡ length line + 1
    longer = length-append line (b ∷ [])

    go : (room : Bool) → ltb (length (take most line)) most ≡ room →
        ◌≡◌ {A = Gathered}
        (record { bytes = cond room (take most line ++ b ∷ []) (take most line); most = most; over = cond room (ltb most (length line)) true })
        (gathered_of most (line ++ b ∷ []))
    go true e =
        let fits : length line < most = omega (arith, ltb-true _ _ e, length-take most line) in
        ap₂ (λ bs t. record { bytes = bs; most = most; over = t })
        (ap (λ l. l ++ b ∷ []) (take_all most line (omega arith)) ∙ sym (take_all most _ (omega (arith, longer))))
        (le-ltb most (length line) (omega arith) ∙ sym (le-ltb most _ (omega (arith, longer))))
    go false e =
        let full : most ≤ length line = omega (arith, ltb-false _ _ e, length-take most line) in
        ap₂ (λ bs t. record { bytes = bs; most = most; over = t })
        (sym (take-append-le most line _ full)) (sym (lt-ltb most _ (omega (arith, longer))))

-- of some bytes more
pub gathered_of_all : (most : ℕ) (line bs : List ℕ) → gathered_more_all (gathered_of most line) bs ≡ gathered_of most (line ++ bs)
gathered_of_all most line [] = ap (gathered_of most) (sym (append-nil line))
gathered_of_all most line (b ∷ bs) =
    ap (λ g. gathered_more_all g bs) (gathered_of_more most b line)
    ∙ gathered_of_all most (line ++ b ∷ []) bs
    ∙ ap (gathered_of most) (append_assoc line (b ∷ []) bs)

-- of bytes for which there is room
pub more_all_within : (bytes : List ℕ) (most : ℕ) (over : Bool) (bs : List ℕ) → length bs ≤ most - length bytes →
    gathered_more_all (record { bytes = bytes; most = most; over = over }) bs
    ≡ record { bytes = bytes ++ bs; most = most; over = over }
more_all_within bytes most over [] h = ap (λ l. record { bytes = l; most = most; over = over }) (sym (append-nil bytes))
more_all_within bytes most over (b ∷ bs) h =
    ap (λ t. gathered_more_all (record { bytes = cond t (bytes ++ b ∷ []) bytes; most = most; over = cond t over true }) bs)
    (lt-ltb (length bytes) most (omega arith))
    ∙ more_all_within (bytes ++ b ∷ []) most over bs (omega (arith, length-append bytes (b ∷ [])))
    ∙ ap (λ l. record { bytes = l; most = most; over = over }) (append_assoc bytes (b ∷ []) bs)

-- of bytes for which there is no room at all, once there were more
more_all_full : (bytes : List ℕ) (most : ℕ) (bs : List ℕ) → most ≤ length bytes →
    ◌≡◌ {A = Gathered} (gathered_more_all (record { bytes = bytes; most = most; over = true }) bs)
    (record { bytes = bytes; most = most; over = true })
more_all_full bytes most [] h = refl
more_all_full bytes most (b ∷ bs) h =
    ap (λ t. gathered_more_all (record { bytes = cond t (bytes ++ b ∷ []) bytes; most = most; over = cond t true true }) bs)
    (le-ltb (length bytes) most h)
    ∙ more_all_full bytes most bs h

-- of more bytes than there is room for
pub more_all_past : (bytes : List ℕ) (most : ℕ) (over : Bool) (bs : List ℕ) → most - length bytes < length bs →
    gathered_more_all (record { bytes = bytes; most = most; over = over }) bs
    ≡ record { bytes = bytes ++ take (most - length bytes) bs; most = most; over = true }
more_all_past bytes most over [] h = absurd (omega arith)
more_all_past bytes most over (b ∷ bs) h = go (ltb (length bytes) most) refl (more_all_past (bytes ++ b ∷ []) most over bs)
  where
    go : (room : Bool) → ltb (length bytes) most ≡ room →
        (most - length (bytes ++ b ∷ []) < length bs →
        ◌≡◌ {A = Gathered}
        (gathered_more_all (record { bytes = bytes ++ b ∷ []; most = most; over = over }) bs)
        (record { bytes = (bytes ++ b ∷ []) ++ take (most - length (bytes ++ b ∷ [])) bs; most = most; over = true })) →
        ◌≡◌ {A = Gathered}
        (gathered_more_all (record { bytes = cond room (bytes ++ b ∷ []) bytes; most = most; over = cond room over true }) bs)
        (record { bytes = bytes ++ take (most - length bytes) (b ∷ bs); most = most; over = true })
    go true e rest =
        let longer : length (bytes ++ b ∷ []) ≡ length bytes + 1 = length-append bytes (b ∷ []) in
        let one : suc (most - length (bytes ++ b ∷ [])) ≡ most - length bytes = omega (arith, ltb-true _ _ e) in
        rest (omega (arith, ltb-true _ _ e))
        ∙ ap (λ l. record { bytes = l; most = most; over = true })
        (append_assoc bytes (b ∷ []) (take (most - length (bytes ++ b ∷ [])) bs)
        ∙ ap (λ k. bytes ++ take k (b ∷ bs)) one)
    go false e rest =
        let none : 0 ≡ most - length bytes = omega (arith, ltb-false _ _ e) in
        more_all_full bytes most bs (omega (arith, ltb-false _ _ e))
        ∙ ap (λ l. record { bytes = l; most = most; over = true })
        (sym (append-nil bytes) ∙ ap (λ k. bytes ++ take k (b ∷ bs)) none)

-- whether that is nothing
is_empty_gathered : (most : ℕ) (line : List ℕ) → (is_empty (take most line) && not (ltb most (length line))) ≡ is_empty line
is_empty_gathered most [] = ap₂ (λ bs t. is_empty bs && not t) (take_all most [] (omega arith)) (le-ltb most 0 (omega arith))
is_empty_gathered zero (b ∷ bs) = ap not (lt-ltb 0 _ (omega arith))
is_empty_gathered (suc most) (b ∷ bs) = refl

nothing_gathered_of : (most : ℕ) (line : List ℕ) → not (is_empty line) ≡ false → gathered_of most line ≡ nothing_gathered most
nothing_gathered_of most [] e = sym (gathered_of_none most)
nothing_gathered_of most (b ∷ bs) e = let z : ◌≡◌ {A = ℕ} 0 1 = cc in absurd (omega arith)

-- ---- the line's end

last_of : (line : List ℕ) (b : ℕ) → get_or (line ++ b ∷ []) (length line) 0 ≡ b
last_of [] b = refl
last_of (a ∷ line) b = last_of line b

-- a line without its newline
strip_newline : (line : List ℕ) → strip_last 10 (line ++ 10 ∷ []) ≡ line
strip_newline line =
    let longer : length (line ++ 10 ∷ []) ≡ length line + 1 = length-append line (10 ∷ []) in
    let before : length (line ++ 10 ∷ []) - 1 ≡ length line = omega arith in
    ap₂ (λ t u. cond (t && u) (take (length (line ++ 10 ∷ []) - 1) (line ++ 10 ∷ [])) (line ++ 10 ∷ []))
    (lt-ltb 0 _ (omega arith))
    (eq-eqb _ _ (ap (λ k. get_or (line ++ 10 ∷ []) k 0) before ∙ last_of line 10))
    ∙ ap (λ k. take k (line ++ 10 ∷ [])) before ∙ take-append_seam line (10 ∷ [])

-- one that has none
strip_none : (line : List ℕ) → All NoNewline line → strip_last 10 line ≡ line
strip_none [] all = refl
strip_none (b ∷ bs) all =
    let l = b ∷ bs in
    ap₂ (λ t u. cond (t && u) (take (length l - 1) l) l) (lt-ltb 0 (length l) (omega arith))
    (ne_eqb _ 10 (All-get_or NoNewline l (length l - 1) 0 (omega arith) all))

-- ---- what the input has left

-- `fill_buf` showed none
pub none_shown : (b : Option (List ℕ)) (shown : List ℕ) → length shown ≡ 0 → IfSome b (λ xs. length shown ≡ 0 → xs ≡ []) → IsAtEnd b
none_shown None shown none end = tt
none_shown (Some xs) shown none end = end none

-- ---- the first newline of what it showed

-- before it
pub before_newline : (xs : List ℕ) (i : ℕ) → position is_newline xs ≡ Some i → All NoNewline (take i xs)
before_newline xs i e = λ k d h newline.
    let within : k < i = omega (arith, length-take i xs) in
    let first = position-Some is_newline xs i d e in
    absurd (true≢false (sym (eq-eqb _ _ (sym (get_or-take i xs k d within) ∙ newline)) ∙ first.2 k within))

-- with it
pub through_newline : (xs : List ℕ) (i : ℕ) → position is_newline xs ≡ Some i → take (i + 1) xs ≡ take i xs ++ 10 ∷ []
through_newline xs i e =
    let first = position-Some is_newline xs i 0 e in
    take_more xs i 0 first.0 ∙ ap (λ b. take i xs ++ b ∷ []) (eqb-true _ _ first.1)

-- where there is none
pub no_newline : (xs : List ℕ) → position is_newline xs ≡ None → All NoNewline xs
no_newline xs e = go (ltb (position_or_len is_newline xs) (length xs)) refl e
  where
    go : (t : Bool) → ltb (position_or_len is_newline xs) (length xs) ≡ t →
        cond t (Some (position_or_len is_newline xs)) None ≡ None → All NoNewline xs
    go true within none = absurd (none-some _ (sym none))
    go false past none = λ k d h newline.
        let other = prefix_len_passes (λ b. not (is_newline b)) xs k d (omega (arith, ltb-false _ _ past)) in
        absurd (true≢false (sym other ∙ ap not (eq-eqb _ _ newline)))

-- a piece and the newline behind it, consumed together, were consumed one after the other
piece_and_newline : (b c : Option (List ℕ)) (piece : List ℕ) → Consumes b c (piece ++ 10 ∷ []) →
    Consumes b (prepend_known (10 ∷ []) c) piece × Consumes (prepend_known (10 ∷ []) c) c (10 ∷ [])
piece_and_newline None None piece h = (tt, tt)
piece_and_newline None (Some z) piece h = (tt, refl)
piece_and_newline (Some y) None piece h = absurd h
piece_and_newline (Some y) (Some z) piece h = (h ∙ append_assoc piece (10 ∷ []) z, refl)

-- ---- the line that was read

-- g is gathered of the line that was read of the bytes a, of which c are left
abbrev pub ReadsLine : Option (List ℕ) → Option (List ℕ) → ℕ → Gathered → Bool → Type 0
ReadsLine a c most g answer =
    record {
      line : IfSome a (λ xs. g ≡ gathered_of most (first_piece 10 xs));
      rest : DropsThrough a c 10;
      some : IfSome a (λ xs. answer ≡ not (is_empty xs));
      none : answer ≡ false → g ≡ nothing_gathered most;
    }

not_empty : (xs : List ℕ) → 0 < length xs → true ≡ not (is_empty xs)
not_empty [] h = absurd (omega arith)
not_empty (x ∷ xs) h = refl

pub reads_to_newline : (a b c : Option (List ℕ)) (most : ℕ) (g : Gathered) (line piece : List ℕ) → All NoNewline line →
    All NoNewline piece → g ≡ gathered_of most (line ++ piece) → Consumes a b line → Consumes b c (piece ++ 10 ∷ []) →
    ReadsLine a c most g true
reads_to_newline a b c most g line piece all none is read last =
    let whole = line ++ piece in
    let apart = piece_and_newline b c piece last in
    let through = Consumes_through 10 a _ c whole (10 ∷ []) (Consumes-trans a b _ line piece read apart.0)
    (All-append NoNewline line piece all none) apart.1 (λ k d h _. absurd (omega arith)) (λ _. refl) (λ z. absurd (omega arith)) in
    record {
      line = IfSome_then a through.0 (λ xs e. is ∙ ap (gathered_of most) (sym (strip_newline whole) ∙ ap (strip_last 10) e));
      rest = through.1;
      some = IfSome_then a through.0 (λ xs e.
          not_empty xs (take_through_nonempty 10 xs (omega (arith, ap length e, length-append whole (10 ∷ [])))));
      none = λ e. absurd (true≢false e);
    }

at_end : (b c : Option (List ℕ)) → IsAtEnd b → Keeps b c → OnSome b (IsAtEnd c)
at_end None c end kept = tt
at_end (Some xs) None end kept = absurd kept
at_end (Some xs) (Some ys) end kept = kept ∙ end

pub reads_to_end : (a b c : Option (List ℕ)) (most : ℕ) (g : Gathered) (line : List ℕ) (empty : Bool) → All NoNewline line →
    g ≡ gathered_of most line → Consumes a b line → IsAtEnd b → Keeps b c → empty ≡ (is_empty g.bytes && not g.over) →
    ReadsLine a c most g (not empty)
reads_to_end a b c most g line empty all is read end kept e =
    let through = Consumes_through 10 a b c line [] read all (Consumes-kept b b c [] (Consumes-nil b) kept)
    (λ k d h _. absurd (omega arith)) (λ h. absurd (omega arith)) (λ _. at_end b c end kept) in
    let none : empty ≡ is_empty line = e ∙ ap (λ h. is_empty h.bytes && not h.over) is ∙ is_empty_gathered most line in
    record {
      line = IfSome_then a through.0 (λ xs e.
          is ∙ ap (gathered_of most) (sym (strip_none line all) ∙ ap (strip_last 10) (sym (append-nil line) ∙ e)));
      rest = through.1;
      some = Consumes-whole a b line (λ xs. not empty ≡ not (is_empty xs)) read end (ap not none);
      none = λ no. is ∙ nothing_gathered_of most line (sym (ap not none) ∙ no);
    }
