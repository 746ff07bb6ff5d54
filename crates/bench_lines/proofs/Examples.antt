-- The definitions, computed on examples.
use Rattle.std.proofs.Common.{◌≡◌, ℕ, ℤ, [], ◌∷◌, ◌++◌, pos, negsuc, replicate, Some, None, Option, codes, refl}
use Rattle.bench_lines.specs.Commands.{Asked, session, call, command_of, line_asks}
use Rattle.history.specs.declared.call.Call.TheVariants.{Begin, Read, Write, Commit, Abandon, Collect, Settle, Take}
use Rattle.session.specs.declared.suite_slot.SuiteSlot.{SuiteSlot}

-- a slot of a suite
abbrev at : ℕ → ℕ → SuiteSlot
at suite slot = record { suite = suite; slot = slot }

-- the numbers of a write's colour
abbrev written : Option Asked → Option (ℤ × ℤ × ℤ)
written (Some (call (Write slot node colour))) = Some (colour.lift, colour.gamma, colour.gain)
written _ = None

session_of_two : command_of (codes "N 2 7 009") ≡ Some (session 2 (7 ∷ 9 ∷ []))
session_of_two = refl

session_without_node : command_of (codes "N 2") ≡ Some (session 2 [])
session_without_node = refl

session_without_suites : command_of (codes "N") ≡ None
session_without_suites = refl

begins : command_of (codes "B 1 2") ≡ Some (call (Begin (at 1 2)))
begins = refl

commits : command_of (codes "C 1 2") ≡ Some (call (Commit (at 1 2)))
commits = refl

abandons : command_of (codes "A 1 2") ≡ Some (call (Abandon (at 1 2)))
abandons = refl

collects : command_of (codes "K 1 2") ≡ Some (call (Collect (at 1 2)))
collects = refl

reads : command_of (codes "R 1 2 7") ≡ Some (call (Read (at 1 2) 7))
reads = refl

settles : command_of (codes "S") ≡ Some (call Settle)
settles = refl

takes : command_of (codes "T 18446744073709551615") ≡ Some (call (Take 18446744073709551615))
takes = refl

too_large : command_of (codes "T 18446744073709551616") ≡ None
too_large = refl

writes : written (command_of (codes "W 1 2 7 -2147483648 2147483647 -0")) ≡ Some (negsuc 2147483647, pos 2147483647, pos 0)
writes = refl

setting_too_large : command_of (codes "W 1 2 7 0 0 2147483648") ≡ None
setting_too_large = refl

setting_with_plus : command_of (codes "W 1 2 7 +1 0 0") ≡ None
setting_with_plus = refl

small_letter : command_of (codes "b 1 2") ≡ None
small_letter = refl

two_letters : command_of (codes "BB 1 2") ≡ None
two_letters = refl

space_before : command_of (codes " B 1 2") ≡ None
space_before = refl

space_behind : command_of (codes "B 1 2 ") ≡ None
space_behind = refl

two_spaces : command_of (codes "B 1  2") ≡ None
two_spaces = refl

tab : command_of (codes "B 1" ++ (9 ∷ codes "2")) ≡ None
tab = refl

no_bytes : command_of [] ≡ None
no_bytes = refl

longest : line_asks (codes "T " ++ replicate 1398 48) ≡ Some (call (Take 0))
longest = refl

longer : line_asks (codes "T " ++ replicate 1399 48) ≡ None
longer = refl
