use Rattle.std.proofs.Common.{◌≡◌, ◌+◌, ◌-◌, length, drop}
use Rattle.link_afspec.specs.Requests.{settings_of, settings_encoding, request_encoding}
use Rattle.link_afspec.proofs.request.request_len.Given as goal

abbrev pub invariant-loop-number : goal.invariant-loop-number
invariant-loop-number l =
    l.len + length (settings_encoding (drop (l.number - 1) (settings_of l.conf))) ≡ length (request_encoding l.conf)
