-- Lists written part by part, and lists made of pieces of one length.
use Rattle.std.proofs.Common.{◌≡◌, ℕ, zero, suc, ◌+◌, ◌*◌, ◌<◌, ◌≤◌, List, [], ◌∷◌, ◌++◌, length, get_or, take, drop, sym, refl, ap, ◌∙◌, ap₂, suc-mul, add_comm, zero-mul, arith}
use borrow.Rule.Slice.PartMut.{put_mid}
use Rattle.std.proofs.lemmas.List.{append-nil, append_assoc, take_at, drop_at, drop_all, drop-drop, length-append, length-take, length-drop}
use Rattle.std.proofs.lemmas.Slice.{take-put_mid, drop-put_mid}
use Rattle.std.specs.List.{flat_map}

-- the last part written: what stood before it, and the part
pub put_last : {X : Type 0} (at k : ℕ) (xs ys : List X) → length xs ≡ at + k → put_mid at k xs ys ≡ take at xs ++ ys
put_last at k xs ys l =
    ap (λ zs. take at xs ++ (ys ++ zs)) (drop-drop k at xs ∙ drop_all (at + k) xs (omega arith)) ∙ ap (λ zs. take at xs ++ zs) (append-nil ys)

-- a written part leaves the length as it was
pub length_put : {X : Type 0} (at k : ℕ) (xs ys : List X) → at + k ≤ length xs → length ys ≡ k → length (put_mid at k xs ys) ≡ length xs
length_put at k xs ys h l = simp (length-append, length-take, length-drop) (omega arith)

-- two parts written one after the other: a at `at`, and b behind it
pub put_two : {X : Type 0} (at j k : ℕ) (xs a b : List X) → j ≡ length a → k ≡ length b → at + (length a + length b) ≤ length xs →
    put_mid (at + length a) k (put_mid at j xs a) b ≡ take at xs ++ ((a ++ b) ++ drop (at + (length a + length b)) xs)
put_two at j k xs a b la lb room =
    let front : take (at + length a) (put_mid at j xs a) ≡ take at xs ++ a = take-put_mid at j xs a (at + length a) refl (omega arith) in
    let behind : drop k (drop (at + length a) (put_mid at j xs a)) ≡ drop (at + (length a + length b)) xs =
    ap (drop k) (drop-put_mid at j xs a (at + length a) (omega arith) (omega arith) (sym la)) ∙ drop-drop k (at + length a) xs ∙ ap (λ n. drop n xs) (omega arith) in
    ap₂ (λ ys zs. ys ++ (b ++ zs)) front behind
    ∙ append_assoc (take at xs) a (b ++ drop (at + (length a + length b)) xs)
    ∙ ap (λ ys. take at xs ++ ys) (sym (append_assoc a b (drop (at + (length a + length b)) xs)))

-- a part that replaced as many elements from `at` on: what stands up to its end, and behind it
pub take_replaced : {X : Type 0} (at k : ℕ) (xs a : List X) → length a ≡ k → at + k ≤ length xs →
    take (at + k) (take at xs ++ (a ++ drop (at + k) xs)) ≡ take at xs ++ a
take_replaced at k xs a la room =
    ap (take (at + k)) (sym (append_assoc (take at xs) a (drop (at + k) xs)))
    ∙ take_at (take at xs ++ a) (drop (at + k) xs) (at + k) (simp (length-append, length-take) (omega arith))

pub drop_replaced : {X : Type 0} (at k : ℕ) (xs a : List X) → length a ≡ k → at + k ≤ length xs →
    drop (at + k) (take at xs ++ (a ++ drop (at + k) xs)) ≡ drop (at + k) xs
drop_replaced at k xs a la room =
    ap (drop (at + k)) (sym (append_assoc (take at xs) a (drop (at + k) xs)))
    ∙ drop_at (take at xs ++ a) (drop (at + k) xs) (at + k) (simp (length-append, length-take) (omega arith))

-- piece i of pieces that are all k long, joined
pub nth_joined : {X Y : Type 0} (f : X → List Y) (k : ℕ) (even : (x : X) → length (f x) ≡ k) (xs : List X) (tail : List Y) (i : ℕ) (d : X) →
    i < length xs → take k (drop (i * k) (flat_map f xs ++ tail)) ≡ f (get_or xs i d)
nth_joined f k even [] tail i d h = absurd (omega arith)
nth_joined f k even (x ∷ xs) tail zero d h =
    ap (λ n. take k (drop n ((f x ++ flat_map f xs) ++ tail))) (zero-mul k)
    ∙ ap (take k) (append_assoc (f x) (flat_map f xs) tail)
    ∙ take_at (f x) (flat_map f xs ++ tail) k (even x)
nth_joined f k even (x ∷ xs) tail (suc i) d h =
    ap (λ n. take k (drop n ((f x ++ flat_map f xs) ++ tail))) (suc-mul i k ∙ add_comm (i * k) k)
    ∙ ap (λ ys. take k (drop (k + i * k) ys)) (append_assoc (f x) (flat_map f xs) tail)
    ∙ ap (take k) (sym (drop-drop (i * k) k (f x ++ (flat_map f xs ++ tail))))
    ∙ ap (λ ys. take k (drop (i * k) ys)) (drop_at (f x) (flat_map f xs ++ tail) k (even x))
    ∙ nth_joined f k even xs tail i d (omega arith)

pub length_joined : {X Y : Type 0} (f : X → List Y) (k : ℕ) (even : (x : X) → length (f x) ≡ k) (xs : List X) → length (flat_map f xs) ≡ length xs * k
length_joined f k even [] = sym (zero-mul k)
length_joined f k even (x ∷ xs) =
    length-append (f x) (flat_map f xs) ∙ ap₂ ◌+◌ (even x) (length_joined f k even xs) ∙ add_comm k (length xs * k) ∙ sym (suc-mul (length xs) k)
