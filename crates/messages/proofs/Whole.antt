-- How the parts of a message come to stand in the buffer.
use Rattle.std.proofs.Common.{◌≡◌, ℕ, ◌+◌, ◌≤◌, List, ◌++◌, length, drop, sym, ◌∙◌, ap₂, arith}
use borrow.Rule.Slice.PartMut.{put_mid}
use Rattle.number_bytes.proofs.Parts.{put_two}
use Rattle.std.proofs.lemmas.List.{append_assoc, take_at, length-append, length-drop}
use Rattle.std.proofs.lemmas.Slice.{drop-append-drop}

-- header, summary and records written one after the other, and behind them what the buffer held
pub whole_buffer : (j k : ℕ) (xs header packed records : List ℕ) → length header ≡ 10 → j ≡ length packed → k ≡ length records → 10 + (length packed + length records) ≤ length xs →
    put_mid (10 + length packed) k (put_mid 10 j (header ++ drop 10 xs) packed) records ≡ (header ++ (packed ++ records)) ++ drop (10 + (length packed + length records)) xs
whole_buffer j k xs header packed records ten wide long room =
    let n = 10 + (length packed + length records) in
    let size : length (header ++ drop 10 xs) ≡ length xs = length-append header (drop 10 xs) ∙ simp length-drop (omega arith) in
    put_two 10 j k (header ++ drop 10 xs) packed records wide long (omega arith)
    ∙ ap₂ (λ ys zs. ys ++ ((packed ++ records) ++ zs)) (take_at header (drop 10 xs) 10 ten) (drop-append-drop 10 xs header n (omega arith) ten)
    ∙ sym (append_assoc header (packed ++ records) (drop n xs))
