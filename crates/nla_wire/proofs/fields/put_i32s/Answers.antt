use Rattle.std.specs.Prelude.{pos}
use Rattle.std.proofs.Common.{◌*◌, ◌++◌, ◌∙◌, ap, rules, get_or, take}
use Rattle.std.proofs.lemmas.Int.{to_z-of_z}
use Rattle.std.specs.Int.{w32, to_le_bytes, cast_unsigned}
use mir.Val.{SFits}
use Rattle.nla_wire.proofs.Words.{words_more}
use Rattle.nla_wire.proofs.fields.put_i32s.Goals as goal

pub loop-i-preserved : goal.loop-i-preserved
loop-i-preserved c =
    let fits : SFits w32 (get_or c.args.words.now c.loop-i.i (pos 0)) = search rules in
    let front =
    c.put_i32.ensures.front
    ∙ ap (λ z. take (4 * c.loop-i.i) c.loop-i.buffer ++ to_le_bytes w32 (cast_unsigned w32 z))
    (to_z-of_z w32 (get_or c.args.words.now c.loop-i.i (pos 0)) fits) in
    words_more (λ n. to_le_bytes w32 (cast_unsigned w32 n)) c.args.words.now c.loop-i.i 4
    (pos 0) c.loop-i.buffer c.put_i32.new.buffer c.loop-i-test.true c.loop-i.invariant front
