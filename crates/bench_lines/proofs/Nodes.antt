-- A session, printed: its nodes one after another.
use Rattle.std.proofs.Common.{◌≡◌, ℕ, ◌≤◌, List, [], ◌∷◌, ◌++◌, length, take, sym, ap, ◌∙◌, codes, decimal, map, append-nil, take_all}
use Rattle.std.specs.List.{flat_map, join_with_byte}
use Rattle.bench_lines.specs.Commands.{Asked, session}
use Rattle.bench_lines.specs.Printing.{asked_text}

-- a space and a number for each node
abbrev pub nodes_text : List ℕ → List ℕ
nodes_text nodes = flat_map (λ n. 32 ∷ decimal n) nodes

-- a word, and then the nodes as words
joined_nodes : (word nodes : List ℕ) → join_with_byte 32 (word ∷ map decimal nodes) ≡ word ++ nodes_text nodes
joined_nodes word [] = sym (append-nil word)
joined_nodes word (n ∷ nodes) = ap (λ text. word ++ (32 ∷ text)) (joined_nodes (decimal n) nodes)

-- the suites, and then all nodes
pub session_text : (asked : Asked) (suites : ℕ) (nodes items : List ℕ) (i : ℕ) → asked ≡ session suites nodes → items ≡ nodes → length items ≤ i →
    (codes "N " ++ decimal suites) ++ nodes_text (take i items) ≡ asked_text asked
session_text asked suites nodes items i is same all =
    ap (λ ns. (codes "N " ++ decimal suites) ++ nodes_text ns) (take_all i items all ∙ same)
    ∙ ap (λ text. codes "N " ++ text) (sym (joined_nodes (decimal suites) nodes))
    ∙ ap asked_text (sym is)
