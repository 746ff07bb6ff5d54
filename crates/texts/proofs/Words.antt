-- The words of a line, as its fields give them, and the lines of an input.
use Rattle.std.proofs.Common.{◌≡◌, Bool, true, false, cond, not, nat_eq, eqb, List, [], ◌∷◌, ℕ, take, get_or, Some, None, Option, Ok, Err, Result, Bor, IfSome, length, sym, refl, ap, true≢false, ◌∙◌}
use Rattle.std.proofs.lemmas.Iterator.{YieldsList}
use Rattle.std.proofs.lemmas.Iterator.Consumers.{YieldsList-from_shown}
use Rattle.std.specs.Cmp.Lexicographic.{pointwise, same_text}
use Rattle.std.specs.Io.BufRead.{first_piece}
use Rattle.std.specs.List.{starts_with}
use Rattle.texts.specs.Buffers.{Gathered, gathered_of}
use Rattle.texts.specs.Texts.{Gives, is_empty, left, fields_of, before_first}
use Rattle.texts.specs.Commands.{IsReadIn, first_word}
use Rattle.texts.specs.declared.command.Misread.{Misread}
use Rattle.texts.specs.declared.command.Misread.TheVariants.{Form, Memory}
use Rattle.texts.specs.declared.line.Fields.{Fields}

-- what `next` does
abbrev pub gives : Fields → Option (Bor (List ℕ)) → Fields → Type 0
gives fields field rest = Gives (left fields) field (left rest)

-- what a field says
abbrev pub word : Bor (List ℕ) → List ℕ
word field = field.now

-- the fields that are left come one after another
pub all_fields : (fields : Fields) → YieldsList gives word fields (left fields)
all_fields = YieldsList-from_shown gives word left (λ s t h. ap length h.0) (λ s x t h. h)

-- what was read in some words, whether or not there was memory
pub read_in : {C : Type 0} (given : List (List ℕ) → Result C Misread → Type 0) (words : List (List ℕ)) (r : Result C Misread) →
    given words r → IsReadIn given words r
read_in given words (Ok command) h = h
read_in given words (Err Form) h = h
read_in given words (Err (Memory e)) h = tt

-- what a read gathers of the next line, where there is one
pub known_line : (known : Option (List ℕ)) (most : ℕ) (g : Gathered) (some : Bool) → some ≡ true →
    IfSome known (λ xs. some ≡ not (is_empty xs)) → IfSome known (λ xs. g ≡ gathered_of most (first_piece 10 xs)) →
    IfSome known (λ xs. (is_empty xs ≡ false) × (g ≡ gathered_of most (first_piece 10 xs)))
known_line None most g some e left line = tt
known_line (Some xs) most g some e left line = (go (is_empty xs) (sym e ∙ left), line)
  where
    go : (t : Bool) → true ≡ not t → t ≡ false
    go true h = absurd (true≢false h)
    go false h = refl

-- ---- the first word of a line

-- it stands at the front
first_at_front : (line : List ℕ) → first_word line ≡ take (length (first_word line)) line
first_at_front [] = refl
first_at_front (b ∷ bs) = go (eqb b 32) (fields_of bs) (first_at_front bs)
  where
    go : (space : Bool) (fs : List (List ℕ)) → get_or fs 0 [] ≡ take (length (get_or fs 0 [])) bs →
        get_or (cond space ([] ∷ fs) (before_first b fs)) 0 []
        ≡ take (length (get_or (cond space ([] ∷ fs) (before_first b fs)) 0 [])) (b ∷ bs)
    go true fs h = refl
    go false [] h = refl
    go false (f ∷ fs) h = ap (λ l. b ∷ l) h

-- so a line that does not begin with a name has another first word
pub not_named : (line name : List ℕ) → starts_with nat_eq line name ≡ false → pointwise nat_eq (first_word line) name ≡ false
not_named line name other = go (pointwise nat_eq (first_word line) name) refl
  where
    go : (t : Bool) → pointwise nat_eq (first_word line) name ≡ t → t ≡ false
    go false e = refl
    go true e =
        let same = same_text (first_word line) name (sym e) in
        let front : pointwise nat_eq name (take (length name) line) ≡ pointwise nat_eq (first_word line) name =
        ap (λ n. pointwise nat_eq n (take (length n) line)) (sym same)
        ∙ ap (pointwise nat_eq (first_word line)) (sym (first_at_front line) ∙ same) in
        absurd (true≢false (sym e ∙ sym front ∙ other))
