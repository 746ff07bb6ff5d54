use Rattle.std.proofs.Common.{◌≡◌, replicate}
use Rattle.session.specs.Making.{new_suite}
use Rattle.session.proofs.making.new_suites.Given as goal

-- so far: so many suites as were counted
abbrev pub invariant-loop : goal.invariant-loop
invariant-loop l = l.suites.items ≡ replicate l.counter new_suite
