-- The sessions with which the worked cases start were just made.
use Rattle.std.proofs.Common.{◌≡◌, ℕ, ◌^◌, true, ltb, List, Ok, refl}
use Rattle.std.proofs.lemmas.Bool.{ltb-true}
use Rattle.std.proofs.lemmas.List.Elements.{All-weaker, recursion_from_All}
use Rattle.std.proofs.lemmas.List.Sums.{AllPass-from_list_all}
use Rattle.std.specs.List.{list_all}
use Rattle.cases.specs.SessionCases.{start_of}
use Rattle.history.specs.Runs.{Made}
use Rattle.lines.specs.Lines.{empty_line}
use Rattle.session.specs.Making.{make_answer, new_session, filled}
use Rattle.settings.specs.Colours.{colours}

-- a session was just made, if making it is accepted and its node numbers are of 64 bits
pub just_made : (suites : ℕ) (nodes : List ℕ) (limit : ℕ) →
    make_answer suites nodes (filled colours suites nodes) (start_of suites nodes limit).writes (empty_line limit) ≡ Ok (new_session suites nodes) →
    list_all (λ n. ltb n (2 ^ 64)) nodes ≡ true → Made colours (start_of suites nodes limit)
just_made suites nodes limit accepted numbers = record {
  suites = suites;
  handed = filled colours suites nodes;
  accepted = accepted;
  numbers = recursion_from_All _ nodes (All-weaker _ _ (λ n. ltb-true n (2 ^ 64)) nodes (AllPass-from_list_all _ nodes numbers));
  places = refl;
  line = refl;
}
