use Rattle.std.proofs.Common.{rules, tests, refl, arith}
use Rattle.lines.proofs.Meanings.{sound_of}
use Rattle.lines.proofs.Turning.{soonest_picks, soonest_first, soonest_picked, soonest_passes}
use Rattle.lines.specs.Views.{contents}
use Rattle.std.proofs.lemmas.Iterator.{YieldsList-from_range}
use Rattle.lines.proofs.turn.Turn.pick.Goals as goal

pub returns : goal.returns
returns c =
    let s = c.args.self.now in
    let turn = s.rule.turn in
    let w = s.waiting in
    let before = contents s in
    let found = soonest_picks turn.number before.queue w c.unwrap.result c.min_by_key.ensures.ran c.unwrap.ensures
    (YieldsList-from_range 0 c.waiting.result w refl (omega (arith, c.waiting.ensures.value)))
    (λ j r f k. search (rules, tests)) in
    let sound = sound_of s in
    record {
      bound = found.1.there;
      first = soonest_first before s.agreed w turn.number c.unwrap.result found.0 sound turn.from_1 turn.up_to_8 found.1;
      suite = soonest_picked before s.agreed w turn.number c.unwrap.result found.0 sound turn.from_1 turn.up_to_8 found.1;
      passed = soonest_passes before s.agreed w turn.number c.unwrap.result found.0 sound turn.from_1 turn.up_to_8 found.1;
    }
