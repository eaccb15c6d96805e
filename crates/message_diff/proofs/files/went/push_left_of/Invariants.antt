use Rattle.std.proofs.Common.{map}
use Rattle.std.specs.Prelude.{Some}
use Rattle.std.specs.Option.{option_copied}
use Rattle.std.specs.Map.{keys_of}
use Rattle.message_diff.specs.declared.files.written.Written.{Written}
use Rattle.message_diff.specs.Files.{Adds, gone_at}
use Rattle.message_diff.proofs.files.went.push_left_of.Given as goal

abbrev pub invariant-loop-key : goal.invariant-loop-key
invariant-loop-key l =
    (all : Written)
    → Adds (map (gone_at l.new.has_dumps l.new.name.now (Some l.host) (option_copied l.new.host))
    (keys_of l.key-iterator)) l.written all
    → Adds (map (gone_at l.new.has_dumps l.new.name.now (Some l.host) (option_copied l.new.host))
    (keys_of l.host.known.entries)) l.initial.written all
