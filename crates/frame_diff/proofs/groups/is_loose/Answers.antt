use Rattle.std.proofs.Common.{◌∙◌, ap, sym}
use Rattle.std.specs.Option.{is_some}
use Rattle.frame_diff.proofs.Grouped.{key_loose, mapped_some, place_tight}
use Rattle.frame_diff.proofs.groups.is_loose.Goals as goal

pub returns-in-Some : goal.returns-in-Some
returns-in-Some c nest inner is_state some =
    key_loose nest inner is_state c.args.list c.in-Some._key (sym c.key_in.ensures ∙ c.in-Some.is) some

pub returns-in_ok-runs-in-None : goal.returns-in_ok-runs-in-None
returns-in_ok-runs-in-None c nest inner is_state some =
    place_tight nest inner is_state c.args.list (sym c.key_in.ensures ∙ c.in-None.is)
    ∙ ap is_some (sym c.in_ok-runs-in-None.ensures.runs) ∙ mapped_some _ c.in_ok-runs-in-None.runs
    ∙ sym c.is_some.ensures
