-- Packing and asking, for every kind of summary: when they are refused, and what they leave.
--
--   packs           whether so many numbers can be packed over a region
--   pack_answer     what packing answers
--   pack_region     what the region holds then
--   query_answer    what a query answers
use Rattle.std.specs.Prelude.{ℕ, Bool, if◌then◌else◌, ◌&&◌, List, length, Ok, Err, Result, ◌==◌, nat_le}
use Rattle.limits.specs.Limits.{most_reads}
use Rattle.refusals.specs.declared.Refusal.{Refusal}
use Rattle.refusals.specs.declared.Refusal.TheVariants.{SummarySize}
use Rattle.summaries.specs.Kinds.{SummaryKind}

-- whether the numbers are at most 32 and the region has the summary's width
abbrev pub packs : SummaryKind → List ℕ → List ℕ → Bool
packs S ns region = nat_le (length ns) most_reads && length region == S.wide

-- what packing answers
abbrev pub pack_answer : SummaryKind → List ℕ → List ℕ → Result (Unit {0}) Refusal
pack_answer S ns region = if packs S ns region then Ok tt else Err SummarySize

-- what the region holds then: the packed bytes or, where packing is refused, what it held
abbrev pub pack_region : SummaryKind → List ℕ → List ℕ → List ℕ
pack_region S ns region = if packs S ns region then S.packed ns else region

-- what a query answers
abbrev pub query_answer : SummaryKind → List ℕ → ℕ → Result Bool Refusal
query_answer S region n = if length region == S.wide then Ok (S.names region n) else Err SummarySize
