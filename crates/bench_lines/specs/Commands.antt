-- What a line of the bench asks for, by its fields and the numbers that they write.
--
--   Asked           what can be asked for: a session, or a call of one
--   asked           what a command asks for
-- what numbers stand for:
--   colour_at       the colour of three numbers, if all are there
--   slot_at         the slot of two numbers, if both are there
--   read_at         the read of a node in a slot, if both are there
--   write_at        the write of a colour for a node in a slot, if all are there
--   make_at         the session of suites and nodes, if both are there
--   number_before   a number before others, if all are there
--   numbers_of      the numbers that fields write, if each writes one
-- what fields ask for:
--   slot_in         the slot that fields name
--   read_in         the read that they ask for
--   write_in        the write
--   take_in         the take
--   settle_in       the settle
--   make_in         the session
--   call_of         the call that a letter asks for with these fields
--   asked_by        what the fields of a line ask for
--   command_of      what a line asks for
--   IsForSession    a line whose first field is N
-- lines with a limit:
--   line_asks       what a line asks for that may have 1,400 bytes
--   gathered_asks   what a gathered line asks for
-- the first fields of some:
--   first_number    the number that the first field writes
--   first_signed    the signed number that it writes
--   first_slot      the slot that the first two fields name
--   first_colour    the colour that the first three fields write
use Rattle.std.specs.Prelude.{◌≡◌, ℕ, if◌then◌else◌, List, [], ◌∷◌, length, ℤ, Some, None, Option, ◌==◌, nat_le, codes, vec_items, option_and_then}
use Rattle.std.specs.Int.{w32}
use Rattle.std.specs.Option.{option_map}
use mir.Val.{of_z}
use Rattle.bench_lines.specs.declared.command.Command.{Command}
use Rattle.bench_lines.specs.declared.command.Command.TheVariants.{Make, Perform}
use Rattle.history.specs.declared.call.Call.{Call}
use Rattle.history.specs.declared.call.Call.TheVariants.{Begin, Read, Write, Commit, Abandon, Collect, Settle, Take}
use Rattle.session.specs.declared.suite_slot.SuiteSlot.{SuiteSlot}
use Rattle.settings.specs.Colours.{colour_of}
use Rattle.settings.specs.declared.colour.Colour.{Colour}
use Rattle.texts.specs.Buffers.{Gathered, whole_line}
use Rattle.texts.specs.Commands.{first_word}
use Rattle.texts.specs.Texts.{fields_of, number_of, signed_of}

-- what can be asked for: a session of so many suites, with these nodes, or a call of the session
pub data Asked : Type 0 where
  session : (suites : ℕ) (nodes : List ℕ) → Asked
  call : Call Colour → Asked

-- what a command asks for
abbrev pub asked : Command → Asked
asked (Make suites nodes) = session suites (vec_items nodes)
asked (Perform c) = call c

-- ---- what numbers stand for

-- the colour of three signed numbers of 32 bits, if all are there
abbrev pub colour_at : Option ℤ → Option ℤ → Option ℤ → Option Colour
colour_at (Some lift) (Some gamma) (Some gain) = Some (colour_of (of_z w32 lift) (of_z w32 gamma) (of_z w32 gain))
colour_at _ _ _ = None

-- the slot of a suite, if both numbers are there
abbrev pub slot_at : Option ℕ → Option ℕ → Option SuiteSlot
slot_at (Some suite) (Some slot) = Some (record { suite = suite; slot = slot })
slot_at _ _ = None

-- the read of a node in a slot, if both are there
abbrev pub read_at : Option SuiteSlot → Option ℕ → Option (Call Colour)
read_at (Some at) (Some node) = Some (Read at node)
read_at _ _ = None

-- the write of a colour for a node in a slot, if all are there
abbrev pub write_at : Option SuiteSlot → Option ℕ → Option Colour → Option (Call Colour)
write_at (Some at) (Some node) (Some colour) = Some (Write at node colour)
write_at _ _ _ = None

-- the session of so many suites with these nodes, if both are there
abbrev pub make_at : Option ℕ → Option (List ℕ) → Option Asked
make_at (Some suites) (Some nodes) = Some (session suites nodes)
make_at _ _ = None

-- a number before others, if all are there
abbrev pub number_before : Option ℕ → Option (List ℕ) → Option (List ℕ)
number_before (Some n) (Some ns) = Some (n ∷ ns)
number_before _ _ = None

-- the numbers that fields write, if each of them writes one
abbrev pub numbers_of : List (List ℕ) → Option (List ℕ)
numbers_of [] = Some []
numbers_of (field ∷ fields) = number_before (number_of field) (numbers_of fields)

-- ---- what fields ask for

-- the slot that fields name: a suite and a slot
abbrev pub slot_in : List (List ℕ) → Option SuiteSlot
slot_in (suite ∷ slot ∷ []) = slot_at (number_of suite) (number_of slot)
slot_in _ = None

-- the read that fields ask for: a slot and a node
abbrev pub read_in : List (List ℕ) → Option (Call Colour)
read_in (suite ∷ slot ∷ node ∷ []) = read_at (slot_at (number_of suite) (number_of slot)) (number_of node)
read_in _ = None

-- the write that fields ask for: a slot, a node and a colour
abbrev pub write_in : List (List ℕ) → Option (Call Colour)
write_in (suite ∷ slot ∷ node ∷ lift ∷ gamma ∷ gain ∷ []) =
    write_at (slot_at (number_of suite) (number_of slot)) (number_of node) (colour_at (signed_of lift) (signed_of gamma) (signed_of gain))
write_in _ = None

-- the take that fields ask for: a suite
abbrev pub take_in : List (List ℕ) → Option (Call Colour)
take_in (suite ∷ []) = option_map Take (number_of suite)
take_in _ = None

-- the settle that no fields ask for
abbrev pub settle_in : List (List ℕ) → Option (Call Colour)
settle_in [] = Some Settle
settle_in _ = None

-- the session that fields ask for: its suites, and then its nodes
abbrev pub make_in : List (List ℕ) → Option Asked
make_in (suites ∷ nodes) = make_at (number_of suites) (numbers_of nodes)
make_in _ = None

-- the call that a letter asks for with the fields behind it: 66 is B, 67 C, 65 A, 75 K, 82 R, 87 W, 83 S and 84 T
abbrev pub call_of : ℕ → List (List ℕ) → Option (Call Colour)
call_of letter fields =
    if letter == 66 then option_map Begin (slot_in fields)
    else if letter == 67 then option_map Commit (slot_in fields)
    else if letter == 65 then option_map Abandon (slot_in fields)
    else if letter == 75 then option_map Collect (slot_in fields)
    else if letter == 82 then read_in fields
    else if letter == 87 then write_in fields
    else if letter == 83 then settle_in fields
    else if letter == 84 then take_in fields
    else None

-- what the fields of a line ask for, of which the first is one letter: 78 is N
abbrev pub asked_by : List (List ℕ) → Option Asked
asked_by ((letter ∷ []) ∷ fields) = if letter == 78 then make_in fields else option_map call (call_of letter fields)
asked_by _ = None

-- what a line asks for
abbrev pub command_of : List ℕ → Option Asked
command_of line = asked_by (fields_of line)

-- a line whose first field is N: its nodes need memory
abbrev pub IsForSession : List ℕ → Type 0
IsForSession line = first_word line ≡ codes "N"

-- ---- lines with a limit

-- what a line asks for that may have 1,400 bytes
abbrev pub line_asks : List ℕ → Option Asked
line_asks line = if nat_le (length line) 1400 then command_of line else None

-- what a gathered line asks for
abbrev pub gathered_asks : Gathered → Option Asked
gathered_asks line = option_and_then command_of (whole_line line)

-- ---- the first fields of some

-- the number that the first field writes, if there is one that writes one
abbrev pub first_number : List (List ℕ) → Option ℕ
first_number (field ∷ fields) = number_of field
first_number _ = None

-- the signed number that it writes
abbrev pub first_signed : List (List ℕ) → Option ℤ
first_signed (field ∷ fields) = signed_of field
first_signed _ = None

-- the slot that the first two fields name
abbrev pub first_slot : List (List ℕ) → Option SuiteSlot
first_slot (suite ∷ slot ∷ fields) = slot_at (number_of suite) (number_of slot)
first_slot _ = None

-- the colour that the first three fields write
abbrev pub first_colour : List (List ℕ) → Option Colour
first_colour (lift ∷ gamma ∷ gain ∷ fields) = colour_at (signed_of lift) (signed_of gamma) (signed_of gain)
first_colour _ = None
