-- The histories that the wrong rule sets give are not lawful.
use Rattle.std.proofs.Common.{◌≡◌, [], ◌∷◌, drop, reverse, refl, sym, ap, ◌∙◌}
use Rattle.std.specs.Prelude.{unwrap_or}
use Rattle.cases.specs.SessionCases.{slot, lifted}
use Rattle.cases.specs.WrongRules.{seen_too_early, gone_too_early, both_committed}
use Rattle.history.specs.Contents.{last_write}
use Rattle.history.specs.Copies.{done_on, copy}
use Rattle.history.specs.Events.{read, wrote}
use Rattle.history.specs.Laws.{Lawful}
use Rattle.history.specs.Moves.{Move, open_move, sent_by, served, agreed, rulings, committed_position}
use Rattle.lines.specs.Lines.{with_at}
use Rattle.session.specs.States.{World}
use Rattle.settings.specs.Colours.{colours, starting_colour}
use Rattle.settings.specs.declared.colour.Colour.{Colour}
use Rattle.summaries.specs.ExactLists.{exact_list}

not_starting : lifted 1 ≡ starting_colour → ⊥
not_starting same = let lifts = ap (λ x. x.lift) same in cc

-- a read gives what was committed after its move's snapshot
pub seen_unlawful : (now : World Colour) → Lawful exact_list colours seen_too_early.start (reverse seen_too_early.events) now → ⊥
unfolding open_move last_write copy
seen_unlawful now lawful =
    let es = reverse seen_too_early.events in
    let (m, is, gives) = lawful.reads (drop 1 es) [] 2 1 7 (lifted 1) refl in
    let opened : ◌≡◌ {A = Move Colour} m (record { suite = 2; slot = 1; snapshot = 0; calls = [] }) = cc in
    not_starting (gives ∙ ap (λ k. unwrap_or (last_write k.calls 7) (copy colours es k.snapshot 7)) opened)

-- a read is refused for want of a version
pub gone_unlawful : (now : World Colour) → Lawful exact_list colours gone_too_early.start (reverse gone_too_early.events) now → ⊥
gone_unlawful now lawful = lawful.no_missing (drop 1 (reverse gone_too_early.events)) [] (slot 1 1) 7 refl

-- the move that was committed under stamp 2 read the starting colour of node 9, but the first one had changed it
pub both_unlawful : (now : World Colour) → Lawful exact_list colours both_committed.start (reverse both_committed.events) now → ⊥
unfolding open_move sent_by served agreed rulings committed_position done_on copy with_at
both_unlawful now lawful =
    let reads = lawful.serial 1 (record { suite = 2; slot = 1; snapshot = 0; calls = wrote 7 (lifted 2) ∷ read 9 starting_colour ∷ [] }) refl in
    not_starting (sym reads.0)
