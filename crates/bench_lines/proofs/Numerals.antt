-- Numbers that are printed in decimal digits, read again.
use Rattle.std.proofs.Common.{◌≡◌, ℕ, suc, ◌+◌, ◌-◌, ◌/◌, ◌%◌, ◌^◌, ◌<◌, ◌≤◌, true, false, cond, not, ◌&&◌, eqb, leb, List, [], ◌∷◌, ◌++◌, map, ℤ, pos, negsuc, neg_ℤ, Some, None, refl, ap, ap₂, ◌∙◌, true≢false, lit<, arith, decimal}
use Rattle.std.proofs.lemmas.Bool.{and_parts, le-leb, leb-true, ne_eqb, cond-false}
use Rattle.std.proofs.lemmas.Fmt.{decimal_by_steps}
use Rattle.std.proofs.lemmas.Int.Digits.{number_push}
use Rattle.std.proofs.lemmas.List.{map-append}
use Rattle.std.proofs.lemmas.List.Folds.{list_all-append}
use Rattle.std.specs.Fmt.{signed_decimal}
use Rattle.std.specs.Int.Digits as digits
use Rattle.std.specs.Int.Signed.{mag}
use Rattle.std.specs.List.{list_all}
use Rattle.std.specs.Option.{option_map}
use Rattle.texts.specs.Texts.{is_digit, is_empty, decimal_value, number_of, number_up_to, signed_of}

-- these are decimal digits, one at least, that write the number n
pub record Write (n : ℕ) (ds : List ℕ) : Type 0 where
  pub digits : list_all is_digit ds ≡ true
  pub some : is_empty ds ≡ false
  pub value : decimal_value ds ≡ n

digit_of : (n : ℕ) → n < 10 → is_digit (48 + n) ≡ true
digit_of n h = ap₂ (λ p q. p && q) (le-leb 48 (48 + n) (omega arith)) (le-leb (48 + n) 57 (omega arith))

one : (n : ℕ) → n < 10 → Write n ((48 + n) ∷ [])
one n h = record {
  digits = ap (λ t. t && true) (digit_of n h);
  some = refl;
  value = omega arith;
}

not_empty : (ds : List ℕ) (d : ℕ) → is_empty (ds ++ d ∷ []) ≡ false
not_empty [] d = refl
not_empty (b ∷ ds) d = refl

more : (n : ℕ) (ds : List ℕ) → 10 ≤ n → Write (n / 10) ds → Write n (ds ++ ((48 + n % 10) ∷ []))
more n ds h front =
    let last = 48 + n % 10 in
    let small : n % 10 < 10 = omega arith in
    record {
      digits = list_all-append is_digit ds (last ∷ [])
          ∙ ap₂ (λ p q. p && (q && true)) front.digits (digit_of (n % 10) small);
      some = not_empty ds last;
      value = ap (digits.number_from_digits 10) (map-append (λ b. b - 48) ds (last ∷ []))
          ∙ number_push 10 (map (λ b. b - 48) ds) (last - 48)
          ∙ omega (arith, front.value);
    }

pub decimal_writes : (n : ℕ) → n < 2 ^ 64 → Write n (decimal n)
decimal_writes n h = decimal_by_steps Write one more n h

-- ---- read again

up_to : (most n : ℕ) (ds : List ℕ) → Write n ds → n ≤ most → number_up_to most ds ≡ Some n
up_to most n ds w h =
    ap₂ (λ t v. cond (not (is_empty ds) && t && leb v most) (Some v) None) w.digits w.value
    ∙ ap₂ (λ e t. cond (not e && true && t) (Some n) None) w.some (le-leb n most h)

pub number_returns : (n : ℕ) → n < 2 ^ 64 → number_of (decimal n) ≡ Some n
number_returns n h = up_to (2 ^ 64 - 1) n (decimal n) (decimal_writes n h) (omega arith)

pub digit_is_not : (b c : ℕ) → is_digit b ≡ true → c < 48 → eqb b c ≡ false
digit_is_not b c digit h =
    let low = leb-true 48 b (and_parts (leb 48 b) (leb b 57) digit).0 in
    ne_eqb b c (λ e. absurd (omega arith))

not_negative : (n : ℕ) (ds : List ℕ) → Write n ds → n ≤ 2 ^ 31 - 1 → signed_of ds ≡ Some (pos n)
not_negative n [] w h = absurd (true≢false w.some)
not_negative n (b ∷ bs) w h =
    let digit = (and_parts (is_digit b) (list_all is_digit bs) w.digits).0 in
    cond-false (eqb b 45) _ _ (digit_is_not b 45 digit (lit< tt)) ∙ ap (option_map pos) (up_to (2 ^ 31 - 1) n (b ∷ bs) w h)

pub signed_returns : (z : ℤ) → mag z < 2 ^ 31 → signed_of (signed_decimal z) ≡ Some z
signed_returns (pos n) h = not_negative n (decimal n) (decimal_writes n (omega arith)) (omega arith)
signed_returns (negsuc n) h =
    ap (option_map (λ m. neg_ℤ (pos m))) (up_to (2 ^ 31) (suc n) (decimal (suc n)) (decimal_writes (suc n) (omega arith)) (omega arith))
