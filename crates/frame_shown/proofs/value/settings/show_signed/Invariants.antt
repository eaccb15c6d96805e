use Rattle.std.proofs.Common.{◌≡◌, ◌≤◌, ◌*◌, drop, map}
use Rattle.shown.specs.Drafts.{with_members}
use Rattle.frame_shown.specs.Values.{settings_shown}
use Rattle.frame_shown.proofs.value.settings.show_signed.Given as goal

abbrev pub invariant-loop-name : goal.invariant-loop-name
invariant-loop-name l = record {
  near : l.place ≤ 4 * l.name-index;
  shown : with_members (settings_shown (map (λ name. name.now) (drop l.name-index l.names)) l.bytes l.place) l.page
      ≡ with_members (settings_shown (map (λ name. name.now) l.names) l.bytes 0) l.fn.page;
}
