-- What the rules promise in any memory, whatever led to it.
--
--   RulesStand      there is always a spare place, and a ruling is a clash for one reason
use Rattle.std.specs.Prelude.{◌≡◌, ℕ, ◌≤◌, ◌↔◌, true, List, length, Ok, Err}
use Rattle.std.specs.List.{ContainsAt}
use Rattle.limits.specs.Limits.{slots_each}
use Rattle.messages.specs.Reading.{read_answer, summary_in}
use Rattle.messages.specs.declared.fault.Fault.{Fault}
use Rattle.messages.specs.declared.parts.Header.{Header}
use Rattle.session.specs.Commits.{is_newer}
use Rattle.session.specs.Shares.{Share}
use Rattle.session.specs.Takes.{ruling, Spare}
use Rattle.session.specs.declared.ruling.Outcome.TheVariants.{Clash}
use Rattle.session.specs.declared.ruling.Ruling.TheVariants.{Void, Decided}
use Rattle.settings.specs.Kinds.{SettingKind}
use Rattle.summaries.specs.Kinds.{SummaryKind}

pub record RulesStand {T : Type 0} (S : SummaryKind) (K : SettingKind T) : Type 0 where
  -- four slots, five places: of each node one place at least is spare
  pub spare : (nodes : List ℕ) (share : Share T) (n : ℕ) → length share.suite.slots ≤ slots_each → (j : ℕ) × Spare nodes share n j
  -- a message is void exactly if it has a fault, which the ruling gives
  pub void : (suites : ℕ) (nodes : List ℕ) (share : Share T) (m : List ℕ) (fault : Fault) →
      (ruling S K suites nodes share m ≡ Void fault) ↔ (read_answer S K suites share.suite.stamp nodes m ≡ Err fault)
  -- a message without a fault is a clash exactly if its summary names a node of the session whose newest stamp is above its snapshot
  pub clash : (suites : ℕ) (nodes : List ℕ) (share : Share T) (m : List ℕ) (header : Header) →
      read_answer S K suites share.suite.stamp nodes m ≡ Ok header →
      ((n : ℕ) × (ruling S K suites nodes share m ≡ Decided (Clash n)))
      ↔ ((n : ℕ) × ContainsAt nodes n × (is_newer nodes share.places header.origin.snapshot n ≡ true) × (S.names (summary_in S.wide m) n ≡ true))
