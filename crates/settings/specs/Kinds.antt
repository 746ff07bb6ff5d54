-- What a kind of setting is.
--
--   SettingKind     a kind of setting, by its meaning
use Rattle.std.specs.Prelude.{ℕ, List, Option}

-- a kind of setting: its width, the setting that a node starts with, the bytes of a setting, and the setting whose form bytes
-- are, if there is one
pub record SettingKind (T : Type 0) : Type 0 where
  pub wide : ℕ
  pub start : T
  pub form : T → List ℕ
  pub reading : List ℕ → Option T
