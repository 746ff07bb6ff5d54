use Rattle.std.proofs.Common.{◌∙◌}
use Rattle.lines.proofs.Cells.{put_message_keeps, put_message_puts}
use Rattle.lines.proofs.cell.put_message.Goals as goal

pub returns : goal.returns
returns c =
    let cell = c.args.cell.now in
    let message = c.args.offer.message.now in
    let suite = c.args.offer.suite.number in
    let length_there = c.copy_from_slice.ensures.after ∙ c.to_be_bytes.ensures in
    record {
      link = put_message_keeps cell _ _ message suite _ c.requires c.args.offer.short length_there c.copy_from_slice-2.ensures.after;
      message = put_message_puts cell _ _ message suite _ c.requires c.args.offer.short length_there c.copy_from_slice-2.ensures.after;
    }
