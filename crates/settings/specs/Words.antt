-- Settings in words.
--
--   colour_words    a colour: its three numbers in decimal digits, each of which may have a minus
--   node_words      a node that may be none: `none`, or its number in decimal digits
--   link_words      a link: the node that it goes to
use Rattle.std.specs.Prelude.{ℕ, List, ◌∷◌, ◌++◌, Some, None, Option, codes}
use Rattle.std.specs.Fmt.{decimal, signed_decimal}
use Rattle.settings.specs.declared.colour.Colour.{Colour}
use Rattle.settings.specs.declared.link.Link.{Link}
use Rattle.settings.specs.declared.link.NodeNumber.{NodeNumber}

-- a colour: its three numbers, with a space between
abbrev pub colour_words : Colour → List ℕ
colour_words c = signed_decimal c.lift ++ (32 ∷ (signed_decimal c.gamma ++ (32 ∷ signed_decimal c.gain)))

-- a node that may be none: `none`, or its number
abbrev pub node_words : Option NodeNumber → List ℕ
node_words None = codes "none"
node_words (Some node) = decimal node.number

-- a link: the node that it goes to
abbrev pub link_words : Link → List ℕ
link_words l = node_words l.0
