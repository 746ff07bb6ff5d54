-- The widest kinds there can be, made for tests: a setting of 32 bytes with one value, and a summary of 512 bytes that tells
-- only whether anything was read.
--
--   blank_form, all_zero, blank_reading    the setting's bytes, all zero
--   blanks                                 the kind of setting
--   packed_touched, names_touched          the summary: its first byte is 1 if anything was packed
--   touched                                the kind of summary
use Rattle.std.specs.Prelude.{ℕ, Bool, if◌then◌else◌, List, ◌∷◌, length, replicate, Some, None, Option, ◌==◌, nat_lt, slice_index}
use Rattle.cases.specs.declared.widest.Blank.{Blank}
use Rattle.settings.specs.Kinds.{SettingKind}
use Rattle.std.specs.List.{list_all}
use Rattle.summaries.specs.Kinds.{SummaryKind}

-- the one value's bytes
abbrev pub blank_form : Blank → List ℕ
blank_form _ = replicate 32 0

-- whether every byte is 0
abbrev pub all_zero : List ℕ → Bool
all_zero bs = list_all (λ b. b == 0) bs

-- 32 zeros, and nothing else
abbrev pub blank_reading : List ℕ → Option Blank
blank_reading bs = if length bs == 32 then (if all_zero bs then Some (record {}) else None) else None

abbrev pub blanks : SettingKind Blank
blanks = record { wide = 32; start = record {}; form = blank_form; reading = blank_reading }

-- 512 bytes, the first of which is 1 if the list has anything, and all others 0
abbrev pub packed_touched : List ℕ → List ℕ
packed_touched ns = (if nat_lt 0 (length ns) then 1 else 0) ∷ replicate 511 0

-- every node, if the first byte is 1, and else none
abbrev pub names_touched : List ℕ → ℕ → Bool
names_touched bs n = slice_index bs 0 == 1

abbrev pub touched : SummaryKind
touched = record { wide = 512; names = names_touched; packed = packed_touched }
