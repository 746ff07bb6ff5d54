use Rattle.std.proofs.Common.{◌<◌, ◌/◌, Some, sym, ap, ◌∙◌, arith, length}
use Rattle.std.proofs.lemmas.List.{length-map}
use Rattle.std.specs.Option.{option_map}
use Rattle.texts.specs.Texts.{written_over, pair_value}
use Rattle.texts.proofs.Pairs.{hex_within_not, hex_within_some, write_more, write_all}
use Rattle.texts.proofs.hexadecimal.hex.Goals as goal

pub returns-then-text-out : goal.returns-then-text-out
returns-then-text-out c =
    let more : length c.args.out.now < length c.args.text.now / 2 = omega arith in
    let none = hex_within_not _ c.args.text.now more in
    record { answer = ap (option_map length) (sym none); bytes = ap (λ o. written_over o c.args.out.now) (sym none) }

pub loop-i-preserved : goal.loop-i-preserved
loop-i-preserved c =
    write_more c.args.out.now c.loop-i.out c.in_ok-pairs.pairs.now c.loop-i.i _ (omega (arith, c.in_ok-pairs.ensures.len)) c.loop-i-test.true c.byte_of.ensures c.loop-i.invariant

pub returns : goal.returns
returns c =
    let some = hex_within_some (length c.args.out.now) _ _ c.in_ok-pairs.ensures.bytes (omega (arith, c.in_ok-pairs.ensures.len)) in
    record {
      answer = ap Some (sym (length-map c.in_ok-pairs.pairs.now pair_value)) ∙ ap (option_map length) (sym some);
      bytes = write_all c.args.out.now c.loop-i.out c.in_ok-pairs.pairs.now c.loop-i.i (omega arith) c.loop-i.invariant ∙ ap (λ o. written_over o c.args.out.now) (sym some);
    }
