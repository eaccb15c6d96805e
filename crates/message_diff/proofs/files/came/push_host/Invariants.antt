use Rattle.std.proofs.Common.{map}
use Rattle.std.specs.Option.{option_copied}
use Rattle.std.specs.Map.{keys_of}
use Rattle.message_diff.specs.declared.files.written.Written.{Written}
use Rattle.message_diff.specs.Files.{Adds, news_at}
use Rattle.message_diff.proofs.files.came.push_host.Given as goal

abbrev pub invariant-loop-key : goal.invariant-loop-key
invariant-loop-key l =
    (all : Written)
    → Adds (map (news_at l.old.by l.old.has_dumps l.old.name.now (option_copied l.old.host) (option_copied l.new.host))
    (keys_of l.key-iterator)) l.written all
    → Adds (map (news_at l.old.by l.old.has_dumps l.old.name.now (option_copied l.old.host) (option_copied l.new.host))
    (keys_of l.host.known.entries)) l.initial.written all
