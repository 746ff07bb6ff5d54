use Rattle.std.proofs.Common.{◌≡◌, ◌+◌, ◌-◌, ◌*◌, take, ap, ◌∙◌, arith}
use borrow.Rule.Slice.PartMut.{put_mid}
use Rattle.summaries.specs.ExactLaws.{put_number}
use Rattle.summaries.proofs.exact_list.put_numbers.Goals as goal

pub loop-i-preserved : goal.loop-i-preserved
loop-i-preserved c =
    let i = c.loop-i.i in
    let next : 1 + 8 * (i + 1) ≡ 1 + 8 * i + 8 = omega arith in
    ap (λ k. take k (put_mid (1 + 8 * i) (1 + 8 * i + 8 - (1 + 8 * i)) c.loop-i.bytes c.copy_from_slice.new.self)) next
    ∙ put_number c.args.nodes.now c.loop-i.bytes _ _ (1 + 8 * i) i c.loop-i-test.true (omega arith) (c.copy_from_slice.ensures.after ∙ c.to_be_bytes.ensures) c.loop-i.invariant
