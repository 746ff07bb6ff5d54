-- Lines that ask for something.
--
--   no_command_words   what a reason prints as
-- what a line asks for:
--   is_blank           whether a line is empty or a comment
--   first_word         what stands before a line's first space
--   form_of            the form of a line's command: the first that begins with the line's first word
--   IsRead             what may be told of words that have this form to follow
--   IsReadIn           what may be read in these words, unless there was no memory for what they say
--   IsToldOf           what may be told of these bytes of a line
--   Told               what may be told of a line
--   HasForm            a line that is neither too long nor blank, and has a form to follow
-- the lines of an input:
--   Reader             where a reader of commands stands
--   reader, reader_at  where it stands, and where it stands at first
--   IsLine             what is gathered of the next line
--   LosesPart          what is lost of a line where the input fails
--   Answers            what a call of `next` answers and leaves, but for what always stays
--   Asks               the same, with what always stays
-- numbers:
--   Fits               what is read where a word writes this number, if it writes one
use Rattle.std.specs.Prelude.{◌≡◌, ◌≢◌, ℕ, ◌+◌, ◌-◌, ◌^◌, Bool, true, false, List, [], ◌∷◌, ◌++◌, All, Some, None, Option, Ok, Err, Result, IfSome, IsSome, MatchOption, ◌⊎◌, ◌==◌, codes, decimal, get_or, nat_eq, ⊤}
use Rattle.std.specs.Borrow.{Bor}
use Rattle.std.specs.Io.BufRead.{first_piece, DropsThrough}
use Rattle.std.specs.Io.KnownBytes.{Consumes, IsAtEnd}
use Rattle.std.specs.List.{find}
use Rattle.std.specs.IoError.{error_kind}
use Rattle.std.specs.declared.io.Error.{Error}
use Rattle.std.specs.declared.io.ErrorKind.TheVariants.{OutOfMemory}
use Rattle.std.specs.Cmp.Lexicographic.{pointwise}
use Rattle.texts.specs.Buffers.{Gathered, gathered, gathered_of, whole_line}
use Rattle.texts.specs.Texts.{fields_of, is_empty}
use Rattle.texts.specs.declared.command.Commands.{Commands}
use Rattle.texts.specs.declared.command.Misread.{Misread}
use Rattle.texts.specs.declared.command.Misread.TheVariants.{Form, Memory}
use Rattle.texts.specs.declared.command.NoCommand.{NoCommand}
use Rattle.texts.specs.declared.command.NoCommand.TheVariants.{Blank, LongLine, Unknown, Expected}

-- what a reason prints as
abbrev pub no_command_words : NoCommand → List ℕ
no_command_words Blank = codes "no command"
no_command_words (LongLine most) = codes "a line has at most " ++ (decimal most ++ codes " bytes")
no_command_words Unknown = codes "unknown command"
no_command_words (Expected form) = codes "expected " ++ form.now

-- ---- what a line asks for

-- whether a line is empty or a comment, which begins with a `#`
abbrev pub is_blank : List ℕ → Bool
is_blank [] = true
is_blank (b ∷ bs) = b == 35

-- what stands before a line's first space
abbrev pub first_word : List ℕ → List ℕ
first_word line = get_or (fields_of line) 0 []

-- the form of a line's command: the first that begins with the line's first word
abbrev pub form_of : List (Bor (List ℕ)) → List ℕ → Option (Bor (List ℕ))
form_of forms line = find (λ form. pointwise nat_eq (first_word form.now) (first_word line)) forms

-- what may be told of words that have this form to follow: `gives` says how they may be read
abbrev pub IsRead : {C : Type 0} → (List (List ℕ) → Result C Misread → Type 0) → Bor (List ℕ) → List (List ℕ) → Result C NoCommand → Type 0
IsRead gives form words (Ok command) = gives words (Ok command)
IsRead gives form words (Err reason) = (reason ≡ Expected form) × gives words (Err Form)

-- what may be read in these words, unless there was no memory for what they say
abbrev pub IsReadIn : {C : Type 0} → (List (List ℕ) → Result C Misread → Type 0) → List (List ℕ) → Result C Misread → Type 0
IsReadIn gives words (Ok command) = gives words (Ok command)
IsReadIn gives words (Err Form) = gives words (Err Form)
IsReadIn gives words (Err (Memory e)) = ⊤

-- what may be told of these bytes of a line, which are blank or not, and have a form to follow or none
abbrev pub IsToldOf : {C : Type 0} → (List (List ℕ) → Result C Misread → Type 0) → List ℕ → Bool → Option (Bor (List ℕ)) → Result C NoCommand → Type 0
IsToldOf gives bytes true form told = told ≡ Err Blank
IsToldOf gives bytes false None told = told ≡ Err Unknown
IsToldOf gives bytes false (Some form) told = IsRead gives form (fields_of bytes) told

-- what may be told of a line
abbrev pub Told : {C : Type 0} → (List (List ℕ) → Result C Misread → Type 0) → List (Bor (List ℕ)) → Gathered → Result C NoCommand → Type 0
Told gives forms line told =
    MatchOption (whole_line line) (told ≡ Err (LongLine line.most)) (λ bytes. IsToldOf gives bytes (is_blank bytes) (form_of forms bytes) told)

-- a line that is neither too long nor blank, and has a form to follow, so that its words are read
abbrev pub HasForm : List (Bor (List ℕ)) → Gathered → Type 0
HasForm forms line = MatchOption (whole_line line) ⊥ (λ bytes. (is_blank bytes ≡ false) × IsSome (form_of forms bytes))

-- ---- the lines of an input

-- where a reader of commands stands: the bytes that its input has left, where they are known; the forms; the most bytes
-- of a line; and how many times it may still be asked
pub record Reader : Type 0 where
  pub known : Option (List ℕ)
  pub forms : List (Bor (List ℕ))
  pub most : ℕ
  pub turns : ℕ

-- where it stands: `remaining` gives the bytes that an input has left
abbrev pub reader : {R C : Type 0} → (R → Option (List ℕ)) → Commands R C → Reader
reader remaining commands = record {
  known = remaining commands.input;
  forms = commands.forms.now;
  most = (gathered commands.line).most;
  turns = commands.turns;
}

-- where it stands at first
abbrev pub reader_at : Option (List ℕ) → List (Bor (List ℕ)) → Reader
reader_at known forms = record { known = known; forms = forms; most = 4096; turns = 2 ^ 64 - 1 }

-- what is gathered of the next line, which has no newline, and is known where the input's bytes are
abbrev pub IsLine : Option (List ℕ) → ℕ → Gathered → Type 0
IsLine known most g =
    ((line : List ℕ) × All (λ b. b ≢ 10) line × (g ≡ gathered_of most line))
    × IfSome known (λ xs. (is_empty xs ≡ false) × (g ≡ gathered_of most (first_piece 10 xs)))

-- what is lost of a line where the input fails: bytes that are no newline
abbrev pub LosesPart : Option (List ℕ) → Option (List ℕ) → Type 0
LosesPart known rest = (line : List ℕ) × All (λ b. b ≢ 10) line × Consumes known rest line

-- what a call of `next` answers and leaves, but for what always stays
abbrev pub Answers : {C : Type 0} → (List (List ℕ) → Result C Misread → Type 0) → Reader → Option (Result (Result C NoCommand) Error) → Reader → Type 0
Answers gives before None after =
    ((before.turns ≡ 0) × (after ≡ before))
    ⊎ ((before.turns ≡ after.turns + 1) × IsAtEnd before.known × DropsThrough before.known after.known 10)
Answers gives before (Some (Ok told)) after =
    (before.turns ≡ after.turns + 1)
    × ((line : Gathered) × IsLine before.known before.most line × Told gives before.forms line told)
    × DropsThrough before.known after.known 10
Answers gives before (Some (Err e)) after =
    (before.turns ≡ after.turns + 1)
    × (LosesPart before.known after.known
    ⊎ ((error_kind e ≡ OutOfMemory)
    × ((line : Gathered) × IsLine before.known before.most line × HasForm before.forms line)
    × DropsThrough before.known after.known 10))

-- what a call of `next` answers and leaves
abbrev pub Asks : {C : Type 0} → (List (List ℕ) → Result C Misread → Type 0) → Reader → Option (Result (Result C NoCommand) Error) → Reader → Type 0
Asks gives before answer after = (after.forms ≡ before.forms) × (after.most ≡ before.most) × Answers gives before answer after

-- ---- numbers

-- what is read where a word writes this number, if it writes one: `gives` says what the number is turned into
abbrev pub Fits : {N E : Type 0} → (ℕ → Result N E → Type 0) → Option ℕ → Result N Misread → Type 0
Fits gives None answer = answer ≡ Err Form
Fits {N} {E} gives (Some n) (Ok m) = gives n (Ok m)
Fits {N} {E} gives (Some n) (Err e) = (e ≡ Form) × (wrong : E) × gives n (Err wrong)
