use Rattle.std.proofs.Common.{◌≡◌, Some, true, map, All, sym, ap, subst, ◌∙◌}
use Rattle.std.specs.List.{list_all}
use Rattle.texts.specs.Texts.{is_hex, pair_value}
use Rattle.texts.proofs.Pairs.{map_pair_value, hex_of_even, pairs_are_hex}
use Rattle.texts.proofs.hexadecimal.digit_pairs.Goals as goal

pub returns-then-all_hex : goal.returns-then-all_hex
returns-then-all_hex c =
    let text = c.args.text.now in
    let even = hex_of_even text _ c.if-is_empty.ensures c.as_chunks.ensures.back_len c.if-all_hex.ensures in
    record {
      bytes = ap (λ ps. Some (map pair_value ps)) c.as_chunks.ensures.front ∙ ap Some (map_pair_value text) ∙ sym even;
      digits = subst (All (λ pair. list_all is_hex pair ≡ true)) (sym c.as_chunks.ensures.front) (pairs_are_hex text (sym c.if-all_hex.ensures));
      len = c.as_chunks.ensures.front_len;
    }
