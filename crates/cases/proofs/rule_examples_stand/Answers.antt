use Rattle.std.proofs.Common.{refl}
use Rattle.lines.specs.Lines.{waiting_up_to}
use Rattle.session.specs.Versions.{best, versions_of}
use Rattle.cases.proofs.rule_examples_stand.Goals as goal

pub returns : goal.returns
unfolding waiting_up_to best versions_of
returns c = record {
  no_suite = refl;
  nine_suites = refl;
  no_node = refl;
  too_many_nodes = refl;
  node_twice = refl;
  places_short = refl;
  writes_long = refl;
  line_without_places = refl;
  line_too_long = refl;
  made = refl;
  filled_then = refl;
  kept_then = refl;
  memory_first = refl;
  memory_before_settling = refl;
  memory_before_taking = refl;
  no_such_suite = refl;
  no_such_slot = refl;
  take_at_none = refl;
  begin_by_state = refl;
  read_by_state = refl;
  write_by_state = refl;
  commit_by_state = refl;
  abandon_by_state = refl;
  collect_by_state = refl;
  refused_begin = refl;
  unknown_to_read = refl;
  unknown_to_write = refl;
  one_read_more = refl;
  read_again = refl;
  no_version = refl;
  one_write_more = refl;
  own_write = refl;
  newest_first = refl;
  seen_first = refl;
  seen_below = refl;
  none_seen = refl;
  home_clash = refl;
  line_full = refl;
  sent_then = refl;
  nothing_waits = refl;
  nothing_agreed = refl;
  void = refl;
  void_leaves = refl;
  clash = refl;
  own_slot_ruled = refl;
  idle_stays = refl;
  open_stays = refl;
  ruled_stays = refl;
}
