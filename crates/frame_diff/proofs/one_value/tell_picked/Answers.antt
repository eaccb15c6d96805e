use Rattle.std.proofs.Common.{subst, sym}
use Rattle.frame_diff.specs.Walked.{HasNames}
use Rattle.frame_diff.proofs.one_value.tell_picked.Goals as goal

pub tell_entry-requires-clause-alike : goal.tell_entry-requires-clause-alike
tell_entry-requires-clause-alike g c h =
    c.entry_beside-there.ensures.alike c.entry_list-own.result c.args.own c.entry_list-own.ensures.around
    (c.requires.alike h)

pub tell_entry-requires-clause-names : goal.tell_entry-requires-clause-names
tell_entry-requires-clause-names g c = subst HasNames (sym c.entry_list-own.ensures.around) c.requires.names
