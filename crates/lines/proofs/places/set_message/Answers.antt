use Rattle.std.proofs.Common.{ap, ◌∙◌}
use Rattle.lines.proofs.Changes.{range_is, range_written, range_changed}
use Rattle.lines.specs.Places.{link_in, offered_in}
use Rattle.lines.proofs.places.set_message.Goals as goal

pub returns : goal.returns
returns c =
    let bs = c.args.bytes.now in
    let there = c.requires in
    let extent = c.extent-extent.ensures in
    let long = c.put_message.auto.cell in
    let before = range_is bs _ c.args.place _ _ there extent.start extent.end long in
    let after = range_written bs _ c.args.place _ _ there extent.start extent.end long in
    record {
      changed = range_changed bs _ c.args.place _ _ there extent.start extent.end long;
      link = ap link_in after ∙ c.put_message.ensures.link ∙ ap link_in before;
      message = ap offered_in after ∙ c.put_message.ensures.message;
    }
