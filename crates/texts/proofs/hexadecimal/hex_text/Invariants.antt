use Rattle.std.proofs.Common.{◌≡◌, take, string_bytes}
use Rattle.texts.specs.Texts.{hex_text}
use Rattle.texts.proofs.hexadecimal.hex_text.Given as goal

-- so far: the digits of the bytes up to here
abbrev pub invariant-loop-byte : goal.invariant-loop-byte
invariant-loop-byte l = string_bytes l.text ≡ hex_text (take l.byte-index l.bytes)
