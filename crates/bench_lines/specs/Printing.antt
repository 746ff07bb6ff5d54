-- What commands print as: their words, with one space between each two.
--
--   slot_words      the words of a slot
--   setting_words   the words of a colour
--   call_words      the words of a call
--   asked_words     the words of what can be asked for
--   asked_text      what it prints as
-- what can be printed and read, as every command can:
--   IsNumber        a number of 64 bits
--   IsSlot          a slot of such numbers
--   IsCall          a call of such numbers
--   IsAsked         a session or a call of such numbers
use Rattle.std.specs.Prelude.{ℕ, ◌^◌, ◌<◌, ⊤, List, [], ◌∷◌, ◌++◌, map, codes, decimal}
use Rattle.std.specs.Fmt.{signed_decimal}
use Rattle.std.specs.List.{AllByRecursion, join_with_byte}
use Rattle.bench_lines.specs.Commands.{Asked, session, call}
use Rattle.history.specs.declared.call.Call.{Call}
use Rattle.history.specs.declared.call.Call.TheVariants.{Begin, Read, Write, Commit, Abandon, Collect, Settle, Take}
use Rattle.session.specs.declared.suite_slot.SuiteSlot.{SuiteSlot}
use Rattle.settings.specs.declared.colour.Colour.{Colour}

-- the words of a slot: the numbers of its suite and of itself
abbrev pub slot_words : SuiteSlot → List (List ℕ)
slot_words at = decimal at.suite ∷ decimal at.slot ∷ []

-- the words of a colour: its three numbers
abbrev pub setting_words : Colour → List (List ℕ)
setting_words colour = signed_decimal colour.lift ∷ signed_decimal colour.gamma ∷ signed_decimal colour.gain ∷ []

-- the words of a call
abbrev pub call_words : Call Colour → List (List ℕ)
call_words (Begin at) = codes "B" ∷ slot_words at
call_words (Read at node) = codes "R" ∷ (slot_words at ++ decimal node ∷ [])
call_words (Write at node colour) = codes "W" ∷ (slot_words at ++ decimal node ∷ setting_words colour)
call_words (Commit at) = codes "C" ∷ slot_words at
call_words (Abandon at) = codes "A" ∷ slot_words at
call_words (Collect at) = codes "K" ∷ slot_words at
call_words Settle = codes "S" ∷ []
call_words (Take suite) = codes "T" ∷ decimal suite ∷ []

-- the words of what can be asked for
abbrev pub asked_words : Asked → List (List ℕ)
asked_words (session suites nodes) = codes "N" ∷ decimal suites ∷ map decimal nodes
asked_words (call c) = call_words c

-- what it prints as
abbrev pub asked_text : Asked → List ℕ
asked_text a = join_with_byte 32 (asked_words a)

-- ---- what can be printed and read, as every command can

-- a number of 64 bits
abbrev pub IsNumber : ℕ → Type 0
IsNumber n = n < 2 ^ 64

-- a slot of such numbers
abbrev pub IsSlot : SuiteSlot → Type 0
IsSlot at = IsNumber at.suite × IsNumber at.slot

-- a call of such numbers
abbrev pub IsCall : Call Colour → Type 0
IsCall (Begin at) = IsSlot at
IsCall (Read at node) = IsSlot at × IsNumber node
IsCall (Write at node colour) = IsSlot at × IsNumber node
IsCall (Commit at) = IsSlot at
IsCall (Abandon at) = IsSlot at
IsCall (Collect at) = IsSlot at
IsCall Settle = ⊤
IsCall (Take suite) = IsNumber suite

-- a session or a call of such numbers
abbrev pub IsAsked : Asked → Type 0
IsAsked (session suites nodes) = IsNumber suites × AllByRecursion IsNumber nodes
IsAsked (call c) = IsCall c
