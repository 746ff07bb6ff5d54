-- Where the parts of a message stand. W is the width of its summary, X that of a setting.
--
--   version           the version byte
--   write_width       the bytes of one write
--   write_start       where a write begins
--   setting_start     where its setting begins
--   message_length    the bytes of a message with so many writes
use Rattle.std.specs.Prelude.{ℕ, ◌+◌, ◌*◌}
use Rattle.limits.specs.Limits.{header_width, node_width}

-- the version byte
abbrev pub version : ℕ
version = 1

-- the bytes of one write: a node number and a setting
abbrev pub write_width : ℕ → ℕ
write_width X = node_width + X

-- where write i begins, counted from 0
abbrev pub write_start : ℕ → ℕ → ℕ → ℕ
write_start W X i = header_width + W + i * write_width X

-- where the setting of write i begins, behind the node number
abbrev pub setting_start : ℕ → ℕ → ℕ → ℕ
setting_start W X i = write_start W X i + node_width

-- the bytes of a message with w writes
abbrev pub message_length : ℕ → ℕ → ℕ → ℕ
message_length W X w = write_start W X w
