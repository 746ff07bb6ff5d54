-- The laws of a kind of setting, at links.
use Rattle.std.specs.Prelude.{◌≡◌, ℕ, ◌%◌, ◌^◌, ◌<◌, Bool, true, false, cond, ◌&&◌, List, [], ◌∷◌, ◌++◌, length, take, Some, None, Option, ◌==◌, nat_eq, nat_le, slice_index, slice_set, refl}
use Rattle.std.proofs.Common.{sym, ap, ap₂, subst, ◌∙◌, mod-eq_of_lt, arith}
use borrow.Rule.Slice.PartMut.{put_mid}
use Rattle.number_bytes.specs.Bytes.{Byte, big_endian, number, number_at}
use Rattle.number_bytes.proofs.Numbers.{number_big_endian, big_endian_number}
use Rattle.number_bytes.proofs.Parts.{put_last}
use Rattle.settings.specs.Same.{same_node}
use Rattle.settings.specs.Links.{node_of, no_node, to_node, form_to, link_form, link_reading}
use Rattle.settings.specs.declared.link.Link.{Link}
use Rattle.settings.specs.declared.link.NodeNumber.{NodeNumber}
use Rattle.std.proofs.lemmas.Int.Digits.{number_lt}
use Rattle.std.proofs.lemmas.List.{take_all, take_more_set, length-set}
use Rattle.std.proofs.lemmas.Bool.{eqb-true, eq-eqb, le-leb, and_parts, cond-true, cond-false}
use Rattle.std.specs.List.{between, AllByRecursion}

-- a number of 64 bits stands for itself
pub node_is : (n : ℕ) (node : NodeNumber) → node.number ≡ n → node_of n ≡ node
node_is n node e =
    let small : node.number < 2 ^ 64 = node.fits in
    same_node (node_of n) node (ap (λ m. m % 2 ^ 64) (sym e) ∙ mod-eq_of_lt small ∙ refl)

reads_to : (to : Option NodeNumber) → link_reading (form_to to) ≡ Some (record { 0 = to })
reads_to None = refl
reads_to (Some node) =
    ap (λ m. Some (to_node m)) (node_is (number (big_endian 8 node.number)) node (sym (number_big_endian 8 node.number node.fits)))

pub reads : (s : Link) → link_reading (link_form s) ≡ Some s
reads s = reads_to s.0

-- what is read is the form, by what the reading's three tests answer
only : (b : ℕ) (rest : List ℕ) (s : Link) (wide none one : Bool) →
    (length (b ∷ rest) == 9) ≡ wide → (b == 0 && number (take 8 rest) == 0) ≡ none → (b == 1) ≡ one → AllByRecursion Byte (b ∷ rest) →
    cond wide (cond none (Some no_node) (cond one (Some (to_node (node_of (number (take 8 rest))))) None)) None ≡ Some s →
    b ∷ rest ≡ link_form s
only b rest s false none one w n o h e = let z : ◌≡◌ {A = ℕ} 0 1 = cc in absurd (omega arith)
only b rest s true true one w n o h e =
    let tests = and_parts (b == 0) (number (take 8 rest) == 0) n in
    let eight : length rest ≡ 8 = let l = eqb-true (length (b ∷ rest)) 9 w in omega arith in
    let whole : take 8 rest ≡ rest = take_all 8 rest (omega arith) in
    let zero : number rest ≡ 0 = ap number (sym whole) ∙ eqb-true (number (take 8 rest)) 0 tests.1 in
    let head : b ≡ 0 = eqb-true b 0 tests.0 in
    let tail : rest ≡ big_endian 8 0 = sym (big_endian_number 8 rest eight h.1) ∙ ap (big_endian 8) zero in
    let is : no_node ≡ s = cc in
    ap₂ (λ x xs. x ∷ xs) head tail ∙ ap link_form is
only b rest s true false true w n o h e =
    let eight : length rest ≡ 8 = let l = eqb-true (length (b ∷ rest)) 9 w in omega arith in
    let whole : take 8 rest ≡ rest = take_all 8 rest (omega arith) in
    let small : number rest < 256 ^ 8 = subst (λ n. number rest < 256 ^ n) eight (number_lt 256 rest h.1) in
    let head : b ≡ 1 = eqb-true b 1 o in
    let value : number rest ≡ number (take 8 rest) % 2 ^ 64 = sym (mod-eq_of_lt small) ∙ ap (λ xs. number xs % 2 ^ 64) (sym whole) in
    let tail : rest ≡ big_endian 8 (number (take 8 rest) % 2 ^ 64) = sym (big_endian_number 8 rest eight h.1) ∙ ap (big_endian 8) value in
    let is : to_node (node_of (number (take 8 rest))) ≡ s = cc in
    ap₂ (λ x xs. x ∷ xs) head tail ∙ ap link_form is
only b rest s true false false w n o h e = let z : ◌≡◌ {A = ℕ} 0 1 = cc in absurd (omega arith)

pub only_forms : (bs : List ℕ) (s : Link) → AllByRecursion Byte bs → link_reading bs ≡ Some s → bs ≡ link_form s
only_forms [] s h e = let z : ◌≡◌ {A = ℕ} 0 1 = cc in absurd (omega arith)
only_forms (b ∷ rest) s h e = only b rest s _ _ _ refl refl refl h e

-- ---- the code

-- nine bytes that begin with 1 and then have the number of a node
pub reads_node : (bs : List ℕ) (node : NodeNumber) → length bs ≡ 9 → slice_index bs 0 ≡ 1 → Some node.number ≡ number_at 8 bs 1 →
    Some (to_node node) ≡ link_reading bs
reads_node bs node l head e =
    let nine : nat_eq (length bs) 9 ≡ true = eq-eqb (length bs) 9 l in
    let inside = cond-true (nat_le 9 (length bs)) (Some (number (between 1 9 bs))) None (le-leb 9 (length bs) (omega arith)) in
    let value : node.number ≡ number (between 1 9 bs) = cc in
    let first : nat_eq (slice_index bs 0) 0 ≡ false = ap (λ b. nat_eq b 0) head in
    let second : nat_eq (slice_index bs 0) 1 ≡ true = ap (λ b. nat_eq b 1) head in
    ap (λ m. Some (to_node m)) (sym (node_is (number (between 1 9 bs)) node value))
    ∙ sym (cond-true _ _ _ second)
    ∙ sym (cond-false _ _ _ (ap (λ b. b && number (between 1 9 bs) == 0) first))
    ∙ sym (cond-true _ _ _ nine)

-- a byte and then eight, written over nine
pub byte_and_eight : (xs : List ℕ) (b : ℕ) (ys : List ℕ) → length xs ≡ 9 → put_mid 1 8 (slice_set xs 0 b) ys ≡ b ∷ ys
byte_and_eight xs b ys l =
    let room : 0 < length xs = omega arith in
    put_last 1 8 (slice_set xs 0 b) ys (length-set xs 0 b ∙ l) ∙ ap (λ zs. zs ++ ys) (take_more_set xs 0 b room)
