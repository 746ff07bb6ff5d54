use Rattle.std.proofs.Common.{◌≡◌, ◌+◌, ◌-◌, get_or, sym, ap, ◌∙◌, subst}
use Rattle.lines.proofs.Meanings.{sound_of, agreed_settle, serves}
use Rattle.lines.proofs.Storing.{settled_good, settled_means}
use Rattle.lines.specs.Lines.{Serves}
use Rattle.lines.specs.Stores.{Good, nothing, stored, state_of, stored_settle}
use Rattle.lines.specs.Views.{contents, line_of}
use Rattle.lines.proofs.store.Store.settle_at.Given.{Over}
use Rattle.lines.proofs.store.Store.settle_at.Goals as goal
use Rattle.lines.proofs.store.Store.settle_at.Goals.{After-bring}

-- once the message is brought to the front of those that wait
good : (g : Over) (c : After-bring g) → Good c.bring.new.bytes (c.args.self.now.agreed + 1) (c.args.self.now.waiting - 1)
good g c =
    let s = c.args.self.now in
    settled_good s.bytes.now _ s.agreed s.waiting c.args.k s.good c.requires.k_lt_waiting c.bring.ensures

means : (g : Over) (c : After-bring g) →
    stored c.bring.new.bytes (c.args.self.now.agreed + 1) (c.args.self.now.waiting - 1) ≡ stored_settle (contents c.args.self.now) c.args.k
means g c =
    let s = c.args.self.now in
    settled_means s.bytes.now _ s.agreed s.waiting c.args.k s.good c.requires.k_lt_waiting c.bring.ensures

pub invariant_of-self : goal.invariant_of-self
invariant_of-self g c = record { good = good g c }

pub returns-clause-choice : goal.returns-clause-choice
returns-clause-choice g c =
    let s = c.args.self.now in
    subst (λ t. Serves (line_of s) (state_of t) (get_or (contents s).queue c.args.k nothing).suite) (sym (means g (goal.at.returns-clause-choice g c).After-bring))
    (serves (contents s) s.agreed s.waiting c.args.k (sound_of s) c.requires.k_lt_waiting c.requires.first_of_suite)

pub returns-clause-agreed : goal.returns-clause-agreed
returns-clause-agreed g c =
    ap (λ t. (state_of t).agreed) (means g (goal.at.returns-clause-agreed g c).After-bring) ∙ agreed_settle (contents c.args.self.now) c.args.k

pub returns-clause-order : goal.returns-clause-order
returns-clause-order g c = ap (λ t. t.queue) (means g (goal.at.returns-clause-order g c).After-bring)
