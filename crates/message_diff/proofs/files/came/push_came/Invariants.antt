use Rattle.std.specs.List.{flat_map}
use Rattle.message_diff.specs.declared.files.written.Written.{Written}
use Rattle.message_diff.specs.Files.{Adds, host_news, names_in, names_of}
use Rattle.message_diff.proofs.files.came.push_came.Given as goal

abbrev pub invariant-loop-name : goal.invariant-loop-name
invariant-loop-name l =
    (all : Written)
    → Adds (flat_map (host_news l.old l.new) (names_of l.name-iterator)) l.written all
    → Adds (flat_map (host_news l.old l.new) (names_in l.new)) l.initial.written all
