-- What is read has numbers of 64 bits.
use Rattle.std.proofs.Common.{◌≡◌, ℕ, ◌-◌, ◌^◌, Bool, true, false, cond, ◌&&◌, eqb, leb, List, [], ◌∷◌, Some, None, Option, refl, subst, arith}
use Rattle.std.proofs.lemmas.Bool.{leb-true}
use Rattle.std.specs.List.{AllByRecursion}
use Rattle.std.specs.Option.{option_map}
use Rattle.std.specs.Prelude.{IfSome}
use Rattle.bench_lines.specs.Commands.{Asked, call, slot_at, read_at, write_at, make_at, number_before, numbers_of, colour_at, slot_in, read_in, write_in, take_in, settle_in, make_in, call_of, asked_by, command_of}
use Rattle.bench_lines.specs.Printing.{IsNumber, IsSlot, IsCall, IsAsked}
use Rattle.history.specs.declared.call.Call.{Call}
use Rattle.history.specs.declared.call.Call.TheVariants.{Begin, Commit, Abandon, Collect, Take}
use Rattle.session.specs.declared.suite_slot.SuiteSlot.{SuiteSlot}
use Rattle.settings.specs.declared.colour.Colour.{Colour}
use Rattle.texts.specs.Texts.{decimal_value, fields_of, is_numeral, number_of, signed_of}

-- ---- the parts

number_fits : (bs : List ℕ) → IfSome (number_of bs) IsNumber
number_fits bs = go (is_numeral bs) (leb (decimal_value bs) (2 ^ 64 - 1)) refl
  where
    go : (digits small : Bool) → leb (decimal_value bs) (2 ^ 64 - 1) ≡ small →
        IfSome (cond (digits && small) (Some (decimal_value bs)) None) IsNumber
    go true true e = let fits = leb-true (decimal_value bs) (2 ^ 64 - 1) e in omega arith
    go true false e = tt
    go false small e = tt

slot_fits : (suite slot : Option ℕ) → IfSome suite IsNumber → IfSome slot IsNumber → IfSome (slot_at suite slot) IsSlot
slot_fits None slot h k = tt
slot_fits (Some suite) None h k = tt
slot_fits (Some suite) (Some slot) h k = (h, k)

read_fits : (at : Option SuiteSlot) (node : Option ℕ) → IfSome at IsSlot → IfSome node IsNumber → IfSome (read_at at node) IsCall
read_fits None node h k = tt
read_fits (Some at) None h k = tt
read_fits (Some at) (Some node) h k = (h, k)

write_fits : (at : Option SuiteSlot) (node : Option ℕ) (colour : Option Colour) → IfSome at IsSlot → IfSome node IsNumber →
    IfSome (write_at at node colour) IsCall
write_fits None node colour h k = tt
write_fits (Some at) None colour h k = tt
write_fits (Some at) (Some node) None h k = tt
write_fits (Some at) (Some node) (Some colour) h k = (h, k)

before_fits : (n : Option ℕ) (ns : Option (List ℕ)) → IfSome n IsNumber → IfSome ns (AllByRecursion IsNumber) →
    IfSome (number_before n ns) (AllByRecursion IsNumber)
before_fits None ns h k = tt
before_fits (Some n) None h k = tt
before_fits (Some n) (Some ns) h k = (h, k)

numbers_fit : (fields : List (List ℕ)) → IfSome (numbers_of fields) (AllByRecursion IsNumber)
numbers_fit [] = tt
numbers_fit (f ∷ fs) = before_fits (number_of f) (numbers_of fs) (number_fits f) (numbers_fit fs)

make_fits : (suites : Option ℕ) (nodes : Option (List ℕ)) → IfSome suites IsNumber → IfSome nodes (AllByRecursion IsNumber) →
    IfSome (make_at suites nodes) IsAsked
make_fits None nodes h k = tt
make_fits (Some suites) None h k = tt
make_fits (Some suites) (Some nodes) h k = (h, k)

-- what a value becomes fits, if the value does
mapped : {X Y : Type 0} (P : X → Type 0) (Q : Y → Type 0) (f : X → Y) (o : Option X) → ((x : X) → P x → Q (f x)) → IfSome o P → IfSome (option_map f o) Q
mapped P Q f None gives h = tt
mapped P Q f (Some x) gives h = gives x h

-- one of two calls fits, if both do
either : (t : Bool) (x y : Option (Call Colour)) → IfSome x IsCall → IfSome y IsCall → IfSome (cond t x y) IsCall
either true x y h k = h
either false x y h k = k

-- ---- the forms

slot_in_fits : (fs : List (List ℕ)) → IfSome (slot_in fs) IsSlot
slot_in_fits [] = tt
slot_in_fits (a ∷ []) = tt
slot_in_fits (a ∷ b ∷ []) = slot_fits (number_of a) (number_of b) (number_fits a) (number_fits b)
slot_in_fits (a ∷ b ∷ c ∷ fs) = tt

read_in_fits : (fs : List (List ℕ)) → IfSome (read_in fs) IsCall
read_in_fits [] = tt
read_in_fits (a ∷ []) = tt
read_in_fits (a ∷ b ∷ []) = tt
read_in_fits (a ∷ b ∷ c ∷ []) =
    read_fits (slot_at (number_of a) (number_of b)) (number_of c) (slot_fits (number_of a) (number_of b) (number_fits a) (number_fits b)) (number_fits c)
read_in_fits (a ∷ b ∷ c ∷ d ∷ fs) = tt

write_in_fits : (fs : List (List ℕ)) → IfSome (write_in fs) IsCall
write_in_fits [] = tt
write_in_fits (a ∷ []) = tt
write_in_fits (a ∷ b ∷ []) = tt
write_in_fits (a ∷ b ∷ c ∷ []) = tt
write_in_fits (a ∷ b ∷ c ∷ x ∷ []) = tt
write_in_fits (a ∷ b ∷ c ∷ x ∷ y ∷ []) = tt
write_in_fits (a ∷ b ∷ c ∷ x ∷ y ∷ z ∷ []) =
    write_fits (slot_at (number_of a) (number_of b)) (number_of c) (colour_at (signed_of x) (signed_of y) (signed_of z))
    (slot_fits (number_of a) (number_of b) (number_fits a) (number_fits b)) (number_fits c)
write_in_fits (a ∷ b ∷ c ∷ x ∷ y ∷ z ∷ d ∷ fs) = tt

take_in_fits : (fs : List (List ℕ)) → IfSome (take_in fs) IsCall
take_in_fits [] = tt
take_in_fits (a ∷ []) = mapped IsNumber IsCall Take (number_of a) (λ n h. h) (number_fits a)
take_in_fits (a ∷ b ∷ fs) = tt

settle_in_fits : (fs : List (List ℕ)) → IfSome (settle_in fs) IsCall
settle_in_fits [] = tt
settle_in_fits (a ∷ fs) = tt

make_in_fits : (fs : List (List ℕ)) → IfSome (make_in fs) IsAsked
make_in_fits [] = tt
make_in_fits (a ∷ fs) = make_fits (number_of a) (numbers_of fs) (number_fits a) (numbers_fit fs)

-- ---- a line

call_fits : (letter : ℕ) (fs : List (List ℕ)) → IfSome (call_of letter fs) IsCall
call_fits letter fs =
    let slotted = λ (f : SuiteSlot → Call Colour) (gives : (at : SuiteSlot) → IsSlot at → IsCall (f at)). mapped IsSlot IsCall f (slot_in fs) gives (slot_in_fits fs) in
    either (eqb letter 66) _ _ (slotted Begin (λ at h. h))
    (either (eqb letter 67) _ _ (slotted Commit (λ at h. h))
    (either (eqb letter 65) _ _ (slotted Abandon (λ at h. h))
    (either (eqb letter 75) _ _ (slotted Collect (λ at h. h))
    (either (eqb letter 82) _ _ (read_in_fits fs)
    (either (eqb letter 87) _ _ (write_in_fits fs)
    (either (eqb letter 83) _ _ (settle_in_fits fs)
    (either (eqb letter 84) (take_in fs) None (take_in_fits fs) tt)))))))

asked_fits : (fs : List (List ℕ)) → IfSome (asked_by fs) IsAsked
asked_fits [] = tt
asked_fits ([] ∷ fs) = tt
asked_fits ((letter ∷ []) ∷ fs) = go (eqb letter 78)
  where
    go : (n : Bool) → IfSome (cond n (make_in fs) (option_map call (call_of letter fs))) IsAsked
    go true = make_in_fits fs
    go false = mapped IsCall IsAsked call (call_of letter fs) (λ c h. h) (call_fits letter fs)
asked_fits ((letter ∷ b ∷ word) ∷ fs) = tt

pub read_is_asked : (line : List ℕ) (a : Asked) → command_of line ≡ Some a → IsAsked a
read_is_asked line a e = subst (λ o. IfSome o IsAsked) e (asked_fits (fields_of line))
