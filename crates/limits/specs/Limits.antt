-- The limits of a session, as the definitions name them.
use Rattle.std.specs.Prelude.{ℕ, ◌+◌, ◌*◌, Bool, ◌||◌, ◌==◌, nat_lt}
use Rattle.limits.specs.declared.LineLimits.{LineLimits}
use Rattle.limits.specs.declared.Limits.{Limits}

-- suites (replicas) in a session
abbrev pub most_suites : ℕ
most_suites = 8

-- nodes (versioned boxes) in a session
abbrev pub most_nodes : ℕ
most_nodes = 64

-- places (kept versions) of one node at one suite
abbrev pub places_each : ℕ
places_each = 5

-- slots of one suite
abbrev pub slots_each : ℕ
slots_each = 4

-- nodes that one move may read
abbrev pub most_reads : ℕ
most_reads = 32

-- nodes that one move may write
abbrev pub most_writes : ℕ
most_writes = 16

-- bytes of a setting's form
abbrev pub widest_setting : ℕ
widest_setting = 32

-- bytes of a read summary
abbrev pub widest_summary : ℕ
widest_summary = 512

-- bytes of a message's header
abbrev pub header_width : ℕ
header_width = 10

-- bytes of a node number
abbrev pub node_width : ℕ
node_width = 8

-- bytes of the longest message: 1,162
abbrev pub longest_message : ℕ
longest_message = header_width + widest_summary + most_writes * (node_width + widest_setting)

-- messages that a line may hold
abbrev pub most_held : ℕ
most_held = 4096

-- bytes of a line's own in each of its places
abbrev pub line_header : ℕ
line_header = 6

-- bytes of a line's place: 1,168
abbrev pub line_place : ℕ
line_place = line_header + longest_message

-- those of a session and its messages as one value
abbrev pub the_limits : Limits
the_limits = record {
  suites = most_suites;
  nodes = most_nodes;
  places = places_each;
  slots = slots_each;
  reads = most_reads;
  writes = most_writes;
  setting_width = widest_setting;
  summary_width = widest_summary;
  header = header_width;
  node_width = node_width;
  message = longest_message;
}

-- those of a line as one value
abbrev pub the_line_limits : LineLimits
the_line_limits = record { places = most_held; header = line_header; place = line_place }

-- whether a number is not 1 to `most`
abbrev pub outside : ℕ → ℕ → Bool
outside most n = n == 0 || nat_lt most n
