-- What a write to the bytes of one place leaves of its link and of its message.
use Rattle.std.proofs.Common.{◌≡◌, ℕ, ◌+◌, ◌-◌, ◌*◌, ◌^◌, ◌<◌, ◌≤◌, min, List, [], ◌∷◌, ◌++◌, length, get_or, take, drop, set, sym, ap, ◌∙◌, ap₂, arith}
use borrow.Rule.Slice.PartMut.{put_mid}
use Rattle.number_bytes.proofs.Numbers.{number_of_two, number_big_endian, length_big_endian}
use Rattle.number_bytes.proofs.Parts.{length_put}
use Rattle.number_bytes.specs.Bytes.{big_endian, number}
use Rattle.lines.specs.Orders.{Offered}
use Rattle.lines.specs.Places.{link_in, length_in, offered_in}
use Rattle.std.proofs.lemmas.List.{length-take, length-set, get_or-take, get_or_at, take_at, take-take, take_more_set, drop_at, drop-set-lt}
use Rattle.std.proofs.lemmas.Slice.{between_is, between-put_mid, take-put_mid, take-put_mid_below, drop-put_mid}

-- ---- reading

pub link_is : (c : List ℕ) → 6 ≤ length c → link_in c ≡ get_or c 4 0 * 256 + get_or c 5 0
unfolding link_in
link_is c h = number_of_two c 4 h

pub length_is : (c : List ℕ) → 2 ≤ length c → length_in c ≡ min (get_or c 0 0 * 256 + get_or c 1 0) 1162
unfolding length_in
length_is c h = ap (λ n. min n 1162) (number_of_two c 0 h)

pub message_is : (c : List ℕ) (n : ℕ) → n ≡ length_in c → take (6 + n - 6) (drop 6 c) ≡ (offered_in c).message
unfolding offered_in
message_is c n e = ap (λ k. take (6 + k - 6) (drop 6 c)) e

-- ---- writing

-- the message with its suite, by the first three bytes and those past the header
of_parts : List ℕ → List ℕ → Offered
of_parts front tail = record { suite = get_or front 2 0; message = take (min (number (take 2 front)) 1162) tail }

offered_parts : (c : List ℕ) → offered_in c ≡ of_parts (take 3 c) (drop 6 c)
unfolding offered_in length_in of_parts
offered_parts c =
    let two : take 2 (take 3 c) ≡ take 2 c = take-take 2 3 c (omega arith) in
    let long : 6 + min (number (take 2 c)) 1162 - 6 ≡ min (number (take 2 (take 3 c))) 1162 =
    omega (arith, ap (λ xs. min (number xs) 1162) two) in
    λ i. record { suite = sym (get_or-take 3 c 2 0 (omega arith)) i; message = take (long i) (drop 6 c) }

module _ (c ys : List ℕ) (link : ℕ) (long : length c ≡ 1168) (is : ys ≡ big_endian 2 link) where
  two_bytes : length ys ≡ 2
  two_bytes = ap length is ∙ length_big_endian 2 link

  pub put_link_links : link < 2 ^ 16 → link_in (put_mid 4 2 c ys) ≡ link
  unfolding link_in
  put_link_links small =
      ap number (between-put_mid 4 2 c ys 6 (omega arith) two_bytes ∙ is) ∙ number_big_endian 2 link small

  pub put_link_keeps : offered_in (put_mid 4 2 c ys) ≡ offered_in c
  put_link_keeps =
      offered_parts (put_mid 4 2 c ys)
      ∙ ap₂ of_parts (take-put_mid_below 4 2 c ys 3 (omega arith) (omega arith)) (drop-put_mid 4 2 c ys 6 (omega arith) (omega arith) two_bytes)
      ∙ sym (offered_parts c)

module _ (c ys text message : List ℕ) (suite n : ℕ) (long : length c ≡ 1168) (fits : length message ≤ 1162)
    (is : ys ≡ big_endian 2 (length message)) (text_is : text ≡ message) where
  abbrev begun : List ℕ
  begun = set (put_mid 0 2 c ys) 2 suite

  abbrev done : List ℕ
  done = put_mid 6 n begun text

  two : length ys ≡ 2
  two = ap length is ∙ length_big_endian 2 (length message)

  begun_long : length begun ≡ 1168
  begun_long = length-set (put_mid 0 2 c ys) 2 suite ∙ length_put 0 2 c ys (omega arith) two ∙ long

  front_is : take 3 done ≡ ys ++ suite ∷ []
  front_is =
      let wide : length (put_mid 0 2 c ys) ≡ 1168 = length_put 0 2 c ys (omega arith) two ∙ long in
      take-put_mid_below 6 n begun text 3 (omega arith) (omega (arith, begun_long))
      ∙ take_more_set (put_mid 0 2 c ys) 2 suite (omega arith)
      ∙ ap (λ xs. xs ++ suite ∷ []) (take-put_mid 0 2 c ys 2 (omega (arith, two)) (omega arith))

  tail_is : drop 6 done ≡ text ++ drop n (drop 6 begun)
  tail_is = drop_at (take 6 begun) (text ++ drop n (drop 6 begun)) 6 (simp length-take (omega (arith, begun_long)))

  pub put_message_keeps : link_in done ≡ link_in c
  unfolding link_in
  put_message_keeps =
      let six : take 6 done ≡ take 6 begun = take-put_mid_below 6 n begun text 6 (omega arith) (omega (arith, begun_long)) in
      ap number
      (between_is done 4 6 ∙ ap (drop 4) six ∙ sym (between_is begun 4 6)
      ∙ ap (take 2) (drop-set-lt 4 (put_mid 0 2 c ys) 2 suite (omega arith) ∙ drop-put_mid 0 2 c ys 4 (omega arith) (omega arith) two))

  pub put_message_puts : offered_in done ≡ record { suite = suite; message = message }
  unfolding of_parts
  put_message_puts =
      let front : take 2 (ys ++ suite ∷ []) ≡ ys = take_at ys (suite ∷ []) 2 two in
      let count : number (take 2 (ys ++ suite ∷ [])) ≡ length message =
      ap number (front ∙ is) ∙ number_big_endian 2 (length message) (omega arith) in
      let least : min (number (take 2 (ys ++ suite ∷ []))) 1162 ≡ length message = omega arith in
      let suite_there : get_or (ys ++ suite ∷ []) 2 0 ≡ suite = get_or_at ys suite [] 0 2 two in
      let whole : take (min (number (take 2 (ys ++ suite ∷ []))) 1162) (text ++ drop n (drop 6 begun)) ≡ message =
      take_at text _ _ (ap length text_is ∙ sym least) ∙ text_is in
      offered_parts done ∙ ap₂ of_parts front_is tail_is ∙ (λ i. record { suite = suite_there i; message = whole i })
