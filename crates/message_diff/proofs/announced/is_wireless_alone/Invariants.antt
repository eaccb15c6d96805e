use Rattle.std.proofs.Common.{◌≡◌}
use Rattle.std.specs.Prelude.{◌||◌}
use Rattle.std.specs.List.{list_any}
use Rattle.link_msg.specs.declared.numbers.TheConstants.{IFLA_WIRELESS}
use Rattle.message_diff.specs.Announced.{is_more, is_of}
use Rattle.message_diff.specs.Frames.{frames_of}
use Rattle.message_diff.proofs.announced.is_wireless_alone.Given as goal

abbrev pub invariant-loop-frame : goal.invariant-loop-frame
invariant-loop-frame l = record {
  any : (l.is_any || list_any (is_of IFLA_WIRELESS) l.frame-iterator)
      ≡ list_any (is_of IFLA_WIRELESS) (frames_of l.message);
  more : list_any is_more l.frame-iterator ≡ list_any is_more (frames_of l.message);
}
