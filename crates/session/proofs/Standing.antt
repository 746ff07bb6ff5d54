-- What the rules promise in any memory.
use Rattle.std.proofs.Common.{◌≡◌, ℕ, ◌↔◌, true, Bool, ◌&&◌, List, Some, None, Ok, Err, Option, Result, sym, refl, ap, ◌∙◌}
use Rattle.std.proofs.lemmas.Bool.{and_parts, and_from}
use Rattle.std.proofs.lemmas.Option.{slice_get_within, get_or_from_slice_get}
use Rattle.std.specs.List.{ContainsAt}
use Rattle.std.specs.Prelude.{find}
use Rattle.messages.specs.Reading.{read_answer, summary_in}
use Rattle.messages.specs.declared.fault.Fault.{Fault}
use Rattle.messages.specs.declared.parts.Header.{Header}
use Rattle.session.proofs.Finding.{found_if, found_some}
use Rattle.session.proofs.Spares.{spare_exists}
use Rattle.session.specs.Choosing.{spare_of}
use Rattle.session.specs.Commits.{is_newer}
use Rattle.session.specs.Promises.{RulesStand}
use Rattle.session.specs.Shares.{Share}
use Rattle.session.specs.Takes.{decided, ruled_so, ruling}
use Rattle.session.specs.declared.ruling.Outcome.TheVariants.{Clash}
use Rattle.session.specs.declared.ruling.Ruling.TheVariants.{Void, Decided}
use Rattle.settings.specs.Kinds.{SettingKind}
use Rattle.summaries.specs.Kinds.{SummaryKind}

module _ {T : Type 0} (S : SummaryKind) (K : SettingKind T) (suites : ℕ) (nodes : List ℕ) (share : Share T) (m : List ℕ) where
  void_so : (read : Result Header Fault) (fault : Fault) → (ruled_so S K nodes share m read ≡ Void fault) ↔ (read ≡ Err fault)
  void_so (Ok header) fault = (λ h. cc, λ h. cc)
  void_so (Err other) fault = (λ h. cc, λ h. cc)

  module _ (header : Header) (read : read_answer S K suites share.suite.stamp nodes m ≡ Ok header) where
    abbrev test : ℕ → Bool
    test n = is_newer nodes share.places header.origin.snapshot n && S.names (summary_in S.wide m) n

    ruled : ruling S K suites nodes share m ≡ Decided (decided share.suite.stamp (find test nodes))
    ruled = ap (ruled_so S K nodes share m) read

    clash_so : ((n : ℕ) × (ruling S K suites nodes share m ≡ Decided (Clash n)))
        ↔ ((n : ℕ) × ContainsAt nodes n × (is_newer nodes share.places header.origin.snapshot n ≡ true) × (S.names (summary_in S.wide m) n ≡ true))
    clash_so = (
      λ (n, h). by n (find test nodes) refl (sym ruled ∙ h),
      λ (n, there, newer, named).
          let found = found_some test nodes n there (and_from (is_newer nodes share.places header.origin.snapshot n) (S.names (summary_in S.wide m) n) newer named) in
          (found.0, ruled ∙ ap (λ o. Decided (decided share.suite.stamp o)) found.1),
    )
      where
        by : (n : ℕ) (o : Option ℕ) → find test nodes ≡ o → Decided (decided share.suite.stamp o) ≡ Decided (Clash n) →
            (n : ℕ) × ContainsAt nodes n × (is_newer nodes share.places header.origin.snapshot n ≡ true) × (S.names (summary_in S.wide m) n ≡ true)
        by n None e h = cc
        by n (Some x) e h =
            let f = found_if test nodes x e in
            let parts = and_parts (is_newer nodes share.places header.origin.snapshot x) (S.names (summary_in S.wide m) x) f.passes in
            (x, (f.place, slice_get_within nodes f.place x f.is, λ d. get_or_from_slice_get nodes f.place x d f.is), parts.0, parts.1)

pub stand : {T : Type 0} (S : SummaryKind) (K : SettingKind T) → RulesStand S K
stand S K = record {
  spare = λ nodes share n few. (spare_of nodes share n, spare_exists nodes share n few);
  void = λ suites nodes share m fault. void_so S K suites nodes share m (read_answer S K suites share.suite.stamp nodes m) fault;
  clash = λ suites nodes share m header read. clash_so S K suites nodes share m header read;
}
