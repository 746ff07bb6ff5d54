-- Links as bytes: whether there is a node, and its number.
--
--   node_of         the node number that a number stands for
--   no_node         the link that a node starts with
--   to_node         the link to a node
--   form_to         the nine bytes of a link to a node, or to none
--   link_form       the nine bytes of a link
--   link_of         the link that a first byte and a number stand for
--   link_reading    the link that bytes stand for
--   links           the kind
use Rattle.std.specs.Prelude.{ℕ, ◌%◌, ◌^◌, if◌then◌else◌, ◌&&◌, List, ◌∷◌, length, Some, None, Option, ◌==◌, slice_index}
use Rattle.std.proofs.Common.{mod-lt, lit<}
use Rattle.number_bytes.specs.Bytes.{big_endian, number}
use Rattle.settings.specs.Kinds.{SettingKind}
use Rattle.settings.specs.declared.link.Link.{Link}
use Rattle.settings.specs.declared.link.NodeNumber.{NodeNumber}
use Rattle.std.specs.List.{between}

-- the node number that a number stands for: the number itself, if it is one of 64 bits
abbrev pub node_of : ℕ → NodeNumber
node_of n = record { number = n % 2 ^ 64; fits = mod-lt n (lit< tt) }

-- the link that a node starts with
abbrev pub no_node : Link
no_node = record { 0 = None }

-- the link to a node
abbrev pub to_node : NodeNumber → Link
to_node node = record { 0 = Some node }

-- the nine bytes of a link to a node, or to none
abbrev pub form_to : Option NodeNumber → List ℕ
form_to None = 0 ∷ big_endian 8 0
form_to (Some node) = 1 ∷ big_endian 8 node.number

-- the nine bytes of a link
abbrev pub link_form : Link → List ℕ
link_form l = form_to l.0

-- the link that a first byte and a number stand for: 0 and 0, or 1 and any number
abbrev pub link_of : ℕ → ℕ → Option Link
link_of tag n =
    if tag == 0 && n == 0 then Some no_node
    else if tag == 1 then Some (to_node (node_of n))
    else None

-- the link that bytes stand for: nine bytes, of which the first is 0 and the others too, or the first is 1
abbrev pub link_reading : List ℕ → Option Link
link_reading bs =
    if length bs == 9 then link_of (slice_index bs 0) (number (between 1 9 bs)) else None

-- links as a kind of setting
abbrev pub links : SettingKind Link
links = record { wide = 9; start = no_node; form = link_form; reading = link_reading }
