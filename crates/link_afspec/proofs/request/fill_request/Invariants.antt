use Rattle.std.proofs.Common.{◌≤◌, drop}
use Rattle.nla_wire.specs.Canon.{Filled}
use Rattle.link_recs.specs.declared.inet.TheConstants.{INET_DEV_CONF_COUNT}
use Rattle.link_afspec.specs.Requests.{settings_of, settings_encoding}
use Rattle.link_afspec.proofs.request.fill_request.Given as goal

abbrev pub invariant-loop-number : goal.invariant-loop-number
invariant-loop-number l = record {
  in_range : l.number ≤ INET_DEV_CONF_COUNT;
  filled : Filled l.initial.buffer l.buffer (settings_encoding (drop l.number (settings_of l.conf))) l.start;
}

abbrev pub decreases-loop-number : goal.decreases-loop-number
decreases-loop-number l = l.number
