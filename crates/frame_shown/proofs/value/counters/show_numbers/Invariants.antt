use Rattle.std.proofs.Common.{◌≡◌, ◌≤◌, ◌*◌, drop, map}
use Rattle.shown.specs.Drafts.{with_members}
use Rattle.link_info.specs.Styles.{width}
use Rattle.frame_shown.specs.Values.{counters_shown}
use Rattle.frame_shown.proofs.value.counters.show_numbers.Given as goal

abbrev pub invariant-loop-name : goal.invariant-loop-name
invariant-loop-name l = record {
  near : l.place ≤ 8 * l.name-index;
  shown : with_members (counters_shown (map (λ name. name.now) (drop l.name-index l.names)) (width l.size) l.bytes
      l.place) l.page
      ≡ with_members (counters_shown (map (λ name. name.now) l.names) (width l.size) l.bytes 0) l.fn.page;
}
