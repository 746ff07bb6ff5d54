-- Writing a form over a region: it is done if the region is as long as the form, and else nothing changes.
--
--   written         the answer
--   region_after    what the region holds then
use Rattle.std.specs.Prelude.{ℕ, if◌then◌else◌, List, length, Ok, Err, Result, ◌==◌}
use Rattle.settings.specs.declared.kind.WrongWidth.{WrongWidth}

-- whether a form of `wide` bytes was written over the region
abbrev pub written : ℕ → List ℕ → Result (Unit {0}) WrongWidth
written wide region = if length region == wide then Ok tt else Err (record {})

-- what the region holds then
abbrev pub region_after : ℕ → List ℕ → List ℕ → List ℕ
region_after wide form region = if length region == wide then form else region
