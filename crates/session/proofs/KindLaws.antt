-- The laws of a kind of setting and of a kind of summary, as facts: what the two traits promise of their kinds.
use Rattle.std.proofs.Common.{◌≡◌, ℕ, ◌≤◌, true, false, List, [], length, Some}
use Rattle.number_bytes.specs.Bytes.{Byte, Number}
use Rattle.limits.specs.Limits.{most_reads, widest_setting, widest_summary}
use Rattle.settings.specs.Kinds.{SettingKind}
use Rattle.std.specs.List.{ContainsAt, AllByRecursion}
use Rattle.summaries.specs.Kinds.{SummaryKind}

pub record SettingLaws {T : Type 0} (K : SettingKind T) : Type 0 where
  pub some_width : 1 ≤ K.wide
  pub within_limit : K.wide ≤ widest_setting
  pub form_is_wide : (s : T) → length (K.form s) ≡ K.wide
  pub form_is_bytes : (s : T) → AllByRecursion Byte (K.form s)
  pub form_reads : (s : T) → K.reading (K.form s) ≡ Some s
  pub only_forms_read : (bs : List ℕ) (s : T) → AllByRecursion Byte bs → K.reading bs ≡ Some s → bs ≡ K.form s

pub record SummaryLaws (S : SummaryKind) : Type 0 where
  pub some_width : 1 ≤ S.wide
  pub within_limit : S.wide ≤ widest_summary
  pub packed_is_wide : (ns : List ℕ) → length ns ≤ most_reads → length (S.packed ns) ≡ S.wide
  pub packed_is_bytes : (ns : List ℕ) → length ns ≤ most_reads → AllByRecursion Byte (S.packed ns)
  pub listed_are_named : (ns : List ℕ) (n : ℕ) → length ns ≤ most_reads → AllByRecursion Number ns → ContainsAt ns n → S.names (S.packed ns) n ≡ true
  pub none_from_none : (n : ℕ) → S.names (S.packed []) n ≡ false
