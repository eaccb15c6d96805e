use Rattle.std.proofs.Common.{◌<◌, length, map, sym, ◌∙◌, arith}
use Rattle.std.proofs.lemmas.List.{length-map}
use Rattle.message_shown.proofs.WordKeys.{named, not_named}
use Rattle.message_shown.proofs.word_keys.name_of.Goals as goal

pub returns-in-Ok-clause-name : goal.returns-in-Ok-clause-name
returns-in-Ok-clause-name c =
    let keys = map (λ k. k.now) c.args.keys.now in
    let few : length keys < 32 = omega (arith, length-map c.args.keys.now (λ k. k.now), c.if-keys-ge-MOST.false) in
    named keys c.args.key.now c.in-Ok.name.now few (sym c.is_written.ensures ∙ c.if-is_written.false)
    (sym c.is_among.ensures ∙ c.if-is_among.false) c.in-Ok.ensures.cases.0 c.in-Ok.ensures.cases.1

pub returns-in-Err-clause-name : goal.returns-in-Err-clause-name
returns-in-Err-clause-name c =
    let keys = map (λ k. k.now) c.args.keys.now in
    let few : length keys < 32 = omega (arith, length-map c.args.keys.now (λ k. k.now), c.if-keys-ge-MOST.false) in
    not_named keys c.args.key.now few (sym c.is_written.ensures ∙ c.if-is_written.false)
    (sym c.is_among.ensures ∙ c.if-is_among.false) c.in-Err.ensures.cases.0
