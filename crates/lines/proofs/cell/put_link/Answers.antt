use Rattle.std.proofs.Common.{◌∙◌, arith}
use Rattle.lines.proofs.Cells.{put_link_links, put_link_keeps}
use Rattle.lines.proofs.cell.put_link.Goals as goal

pub returns : goal.returns
returns c =
    let cell = c.args.cell.now in
    let written = c.copy_from_slice.ensures.after ∙ c.to_be_bytes.ensures in
    record {
      link = put_link_links cell _ c.args.link c.requires written (omega (arith, c.ranges.link.fits));
      message = put_link_keeps cell _ c.args.link c.requires written;
    }
