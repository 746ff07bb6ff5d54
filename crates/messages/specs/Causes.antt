-- The causes of a fault, and what faults print as.
--
--   layer_of        the layer that a cause belongs to
--   cause_number    the number of a cause
--   fault           the fault with a cause, at a byte
--   layer_words     what a layer prints as
--   fault_words     what is wrong, in words
--   fault_text      what a fault prints as
use Rattle.std.specs.Prelude.{ℕ, if◌then◌else◌, List, ◌++◌, ◌==◌, codes, decimal}
use Rattle.messages.specs.declared.fault.Fault.{Fault}
use Rattle.messages.specs.declared.fault.Layer.{Layer}
use Rattle.messages.specs.declared.fault.Layer.TheVariants.{Frame, Writes, Kind}
use Rattle.messages.specs.declared.fault.Cause.{Cause}
use Rattle.messages.specs.declared.fault.Cause.TheVariants.{Length, Version, Sender, WriteCount, Snapshot, Node, Setting}

-- the layer that a cause belongs to
abbrev pub layer_of : Cause → Layer
layer_of Length = Frame
layer_of Version = Frame
layer_of Sender = Frame
layer_of WriteCount = Frame
layer_of Snapshot = Frame
layer_of Node = Writes
layer_of Setting = Kind

-- the number by which documents and programs name a cause
abbrev pub cause_number : Cause → ℕ
cause_number Length = 1
cause_number Version = 2
cause_number Sender = 3
cause_number WriteCount = 4
cause_number Snapshot = 5
cause_number Node = 6
cause_number Setting = 7

-- the fault with a cause, at a byte
abbrev pub fault : Cause → ℕ → Fault
fault cause byte = record { layer = layer_of cause; cause = cause; byte = byte }

-- what a layer prints as
abbrev pub layer_words : Layer → List ℕ
layer_words Frame = codes "frame"
layer_words Writes = codes "writes"
layer_words Kind = codes "kind"

-- what is wrong, in words: the sender's suite stands at byte 3, and its slot behind it
abbrev pub fault_words : Cause → ℕ → List ℕ
fault_words Length byte = codes "too short, or a wrong length field"
fault_words Version byte = codes "another version"
fault_words Sender byte = if byte == 3 then codes "no such suite" else codes "no such slot"
fault_words WriteCount byte = codes "a write count that is not 1 to 16 or does not match the length"
fault_words Snapshot byte = codes "a snapshot above the stamp"
fault_words Node byte = codes "an unknown or repeated node"
fault_words Setting byte = codes "no setting of this kind"

-- what a fault prints as: its layer, the number of its cause, its byte, and what is wrong
abbrev pub fault_text : Fault → List ℕ
fault_text f =
    layer_words f.layer ++ (codes " " ++ (decimal (cause_number f.cause) ++ (codes " at byte " ++ (decimal f.byte ++ (codes ": " ++ fault_words f.cause f.byte)))))
