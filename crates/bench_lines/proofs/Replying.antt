-- No two replies print as the same text: the words of a text say which reply it is.
use Rattle.std.proofs.Common.{◌≡◌, ℕ, ◌-◌, false, cond, eqb, List, [], ◌∷◌, get_or, Some, None, Option, refl, sym, ap, ◌∙◌, lit<}
use Rattle.std.specs.List.{AllByRecursion}
use Rattle.std.specs.Option.{option_map}
use Rattle.bench_lines.specs.Commands.{colour_at}
use Rattle.bench_lines.specs.Printing.{IsNumber}
use Rattle.bench_lines.specs.Replies.{IsReply, reply_text, reply_words}
use Rattle.bench_lines.specs.declared.reply.Reply.{Reply}
use Rattle.bench_lines.specs.declared.reply.Reply.TheVariants.{Okay, Snapshot, Set, Sent, ReadOnly, Done, Clash, No, Bad}
use Rattle.bench_lines.proofs.Numerals.{number_returns}
use Rattle.bench_lines.proofs.Returning.{colour_returns, setting_has_words}
use Rattle.bench_lines.proofs.Words.{Word, fields_of_words, number_word}
use Rattle.refusals.specs.Numbers.{refusal_number}
use Rattle.refusals.specs.declared.Refusal.{Refusal}
use Rattle.refusals.specs.declared.Refusal.TheVariants.{SuiteCount, NodeCount, RepeatedNode, MemorySize, NoSuchSlot, SlotState, UnknownNode, MoveFull, NoVersion, LineFull, NothingWaiting, AllTaken, NotRuled, MessageLength, NoSuchMessage, SummarySize}
use Rattle.texts.specs.Texts.{fields_of, is_empty, number_of, signed_of}

-- ---- the reply that words say: how many they are says it, and else their first letter

-- the refusal of a number
abbrev refusal_of : ℕ → Refusal
refusal_of n =
    get_or (SuiteCount ∷ NodeCount ∷ RepeatedNode ∷ MemorySize ∷ NoSuchSlot ∷ SlotState ∷ UnknownNode ∷ MoveFull
    ∷ NoVersion ∷ LineFull ∷ NothingWaiting ∷ AllTaken ∷ NotRuled ∷ MessageLength ∷ NoSuchMessage ∷ SummarySize ∷ []) (n - 1) SuiteCount

-- with no number: o for ok, s for sent
abbrev plain : ℕ → Reply
plain letter = cond (eqb letter 111) Okay (cond (eqb letter 115) Sent Bad)

-- with one: o for ok, r for read, d for done, c for clash
abbrev numbered : ℕ → ℕ → Reply
numbered letter n =
    cond (eqb letter 111) (Snapshot n)
    (cond (eqb letter 114) (ReadOnly n)
    (cond (eqb letter 100) (Done n)
    (cond (eqb letter 99) (Clash n) (No (refusal_of n)))))

-- the reply of words that a reply prints
abbrev said : List (List ℕ) → Option Reply
said ((letter ∷ rest) ∷ []) = Some (plain letter)
said ((letter ∷ rest) ∷ n ∷ []) = option_map (numbered letter) (number_of n)
said (word ∷ lift ∷ gamma ∷ gain ∷ []) = option_map Set (colour_at (signed_of lift) (signed_of gamma) (signed_of gain))
said _ = None

refusal_returns : (r : Refusal) → IsNumber (refusal_number r) × (refusal_of (refusal_number r) ≡ r)
refusal_returns SuiteCount = (lit< tt, refl)
refusal_returns NodeCount = (lit< tt, refl)
refusal_returns RepeatedNode = (lit< tt, refl)
refusal_returns MemorySize = (lit< tt, refl)
refusal_returns NoSuchSlot = (lit< tt, refl)
refusal_returns SlotState = (lit< tt, refl)
refusal_returns UnknownNode = (lit< tt, refl)
refusal_returns MoveFull = (lit< tt, refl)
refusal_returns NoVersion = (lit< tt, refl)
refusal_returns LineFull = (lit< tt, refl)
refusal_returns NothingWaiting = (lit< tt, refl)
refusal_returns AllTaken = (lit< tt, refl)
refusal_returns NotRuled = (lit< tt, refl)
refusal_returns MessageLength = (lit< tt, refl)
refusal_returns NoSuchMessage = (lit< tt, refl)
refusal_returns SummarySize = (lit< tt, refl)

-- the words of a reply say it
words_say : (r : Reply) → IsReply r → said (reply_words r) ≡ Some r
words_say Okay h = refl
words_say (Snapshot n) h = ap (option_map Snapshot) (number_returns n h)
words_say (Set colour) h = ap (option_map Set) (colour_returns colour)
words_say Sent h = refl
words_say (ReadOnly n) h = ap (option_map ReadOnly) (number_returns n h)
words_say (Done n) h = ap (option_map Done) (number_returns n h)
words_say (Clash n) h = ap (option_map Clash) (number_returns n h)
words_say (No r) h =
    ap (option_map (λ n. No (refusal_of n))) (number_returns (refusal_number r) (refusal_returns r).0)
    ∙ ap (λ q. Some (No q)) (refusal_returns r).1
words_say Bad h = refl

-- ---- the words of a reply are the fields of its text

has_words : (r : Reply) → IsReply r → AllByRecursion Word (reply_words r) × (is_empty (reply_words r) ≡ false)
has_words Okay h = ((refl, tt), refl)
has_words (Snapshot n) h = ((refl, (number_word n h, tt)), refl)
has_words (Set colour) h = ((refl, setting_has_words colour), refl)
has_words Sent h = ((refl, tt), refl)
has_words (ReadOnly n) h = ((refl, (number_word n h, tt)), refl)
has_words (Done n) h = ((refl, (number_word n h, tt)), refl)
has_words (Clash n) h = ((refl, (number_word n h, tt)), refl)
has_words (No r) h = ((refl, (number_word (refusal_number r) (refusal_returns r).0, tt)), refl)
has_words Bad h = ((refl, tt), refl)

text_says : (r : Reply) → IsReply r → said (fields_of (reply_text r)) ≡ Some r
text_says r h =
    let words = has_words r h in
    ap said (fields_of_words (reply_words r) words.0 words.1) ∙ words_say r h

pub replies_differ_lem : (a b : Reply) → IsReply a → IsReply b → reply_text a ≡ reply_text b → a ≡ b
replies_differ_lem a b h k e = same (sym (text_says a h) ∙ ap (λ text. said (fields_of text)) e ∙ text_says b k)
  where
    same : Some a ≡ Some b → a ≡ b
    same e = cc
