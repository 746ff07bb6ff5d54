-- What is agreed stays: an offer and a settle change the agreed list at its end only, so that whatever could be fetched is
-- fetched the same afterwards.
use Rattle.std.proofs.Common.{◌≡◌, ℕ, ◌-◌, Bool, true, false, cond, List, [], ◌++◌, length, take, get_or, Ok, Err, Result, nat_lt, refl, ap, sym, ◌∙◌, arith, length-append}
use Rattle.limits.proofs.Ranges.{not_outside, not_outside_from}
use Rattle.limits.specs.Limits.{outside}
use Rattle.lines.specs.Lines.{LineState, unusable, after_offer, Settles, fetch_answer, message_number, KeepsAgreed}
use Rattle.refusals.specs.declared.Refusal.{Refusal}
use Rattle.refusals.specs.declared.Refusal.TheVariants.{MemorySize, NoSuchMessage}
use Rattle.std.proofs.Math.ListN.{get_or-append}
use Rattle.std.proofs.lemmas.List.{append-nil}
use Rattle.std.specs.Result.{OnOk}

-- a line of the same limit, with more agreed
module _ (m m' : LineState) (more : List (List ℕ)) (limit : m'.limit ≡ m.limit) (agreed : m'.agreed ≡ m.agreed ++ more) where
  module _ (k room : ℕ) (inside : outside (length m.agreed) k ≡ false) where
    same_message : message_number m' k ≡ message_number m k
    same_message =
        let there = not_outside (length m.agreed) k inside in
        ap (λ l. get_or l (k - 1) []) agreed ∙ get_or-append m.agreed more [] (k - 1) (omega arith)

    still_inside : outside (length m'.agreed) k ≡ false
    still_inside =
        let there = not_outside (length m.agreed) k inside in
        not_outside_from (length m'.agreed) k there.0 (omega (arith, ap length agreed, length-append m.agreed more))

  keeps_more : KeepsAgreed m m'
  keeps_more k room = by (unusable m.limit) (outside (length m.agreed) k) (nat_lt room (length (message_number m k))) refl refl refl
    where
      -- what fetching answers, by the three tests
      answer : Bool → Bool → Bool → ℕ → Result ℕ Refusal
      answer s t u n = cond s (Err MemorySize) (cond t (Err NoSuchMessage) (cond u (Err NoSuchMessage) (Ok n)))

      by : (s t u : Bool) → unusable m.limit ≡ s → outside (length m.agreed) k ≡ t → nat_lt room (length (message_number m k)) ≡ u →
          OnOk (answer s t u (length (message_number m k)))
          ((fetch_answer m' k room ≡ answer s t u (length (message_number m k))) × (message_number m' k ≡ message_number m k))
      by true t u e f h = tt
      by false true u e f h = tt
      by false false true e f h = tt
      by false false false e f h =
          let same = same_message k room f in
          let n = length (message_number m' k) in (
            ap (λ x. answer x (outside (length m'.agreed) k) (nat_lt room n) n) (ap unusable limit ∙ e)
                ∙ ap (λ x. answer false x (nat_lt room n) n) (still_inside k room f)
                ∙ ap (λ l. answer false false (nat_lt room (length l)) (length l)) same
                ∙ ap (λ x. answer false false x (length (message_number m k))) h,
            same,
          )

keeps_same : (m m' : LineState) → m' ≡ m → KeepsAgreed m m'
keeps_same m m' same = keeps_more m m' [] (ap (λ n. n.limit) same) (ap (λ n. n.agreed) same ∙ sym (append-nil m.agreed))

pub keeps_offer : (r : Result (Unit {0}) Refusal) (m m' : LineState) (suite : ℕ) (message : List ℕ) →
    m' ≡ after_offer r m suite message → KeepsAgreed m m'
keeps_offer (Ok _) m m' suite message is =
    keeps_more m m' [] (ap (λ n. n.limit) is) (ap (λ n. n.agreed) is ∙ sym (append-nil m.agreed))
keeps_offer (Err _) m m' suite message is = keeps_same m m' is

pub keeps_settle : (r : Result (Unit {0}) Refusal) (m m' : LineState) → Settles r m m' → KeepsAgreed m m'
keeps_settle (Ok _) m m' (suite, served) =
    keeps_more m m' (take 1 (m.waiting suite)) (ap (λ n. n.limit) served.after_it) (ap (λ n. n.agreed) served.after_it)
keeps_settle (Err _) m m' same = keeps_same m m' same
