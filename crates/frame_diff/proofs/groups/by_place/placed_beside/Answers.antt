use Rattle.std.proofs.Common.{◌∙◌, sym}
use Rattle.frame_diff.specs.Keys.{key_at}
use Rattle.frame_diff.proofs.KeyedTold.{no_placed, none_stands, same_stands}
use Rattle.frame_diff.proofs.groups.by_place.placed_beside.Goals as goal

pub returns-in-Some-clause-key : goal.returns-in-Some-clause-key
returns-in-Some-clause-key c =
    (λ k. key_at (c.none_of.ensures.number k) (c.none_of.ensures.list k)) ∙ c.requires.own

pub returns-in-Some-clause-found : goal.returns-in-Some-clause-found
returns-in-Some-clause-found c nest inner is_state n =
    no_placed nest inner is_state c.in-Some.field-0 c.none_of.result c.args.others
    (sym c.key_in.ensures ∙ c.in-Some.is) c.none_of.ensures.bytes n

pub returns-in-Some-clause-stands : goal.returns-in-Some-clause-stands
returns-in-Some-clause-stands c =
    none_stands c.args.own c.args.others c.none_of.result c.none_of.ensures.list c.none_of.ensures.around

pub returns-in-None-clause-stands : goal.returns-in-None-clause-stands
returns-in-None-clause-stands c = same_stands c.args.own c.args.others
