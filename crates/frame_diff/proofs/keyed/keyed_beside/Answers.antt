use Rattle.std.proofs.Common.{◌∙◌, ap, sym}
use Rattle.frame_diff.specs.Keys.{is_key}
use Rattle.frame_diff.proofs.KeyedTold.{no_labelled, none_stands}
use Rattle.frame_diff.proofs.keyed.keyed_beside.Goals as goal

pub returns-else-is_key-clause-found : goal.returns-else-is_key-clause-found
returns-else-is_key-clause-found c nest inner is_state l =
    no_labelled nest inner is_state c.args.key c.none_of.result c.args.others
    (ap (is_key c.args.key) (sym c.key_in.ensures) ∙ sym c.is_key.ensures ∙ c.if-is_key.false)
    c.none_of.ensures.bytes l

pub returns-else-is_key-clause-stands : goal.returns-else-is_key-clause-stands
returns-else-is_key-clause-stands c =
    none_stands c.args.own c.args.others c.none_of.result c.none_of.ensures.list c.none_of.ensures.around
