use Rattle.std.proofs.Common.{◌-◌, ◌++◌, ◌∙◌, ap, length, drop}
use Rattle.std.proofs.lemmas.List.{take_rest}
use borrow.Rule.Slice.PartMut.{put_mid}
use Rattle.nla_wire.proofs.Ends.{ends_meet}
use Rattle.nla_wire.proofs.write.write_ends.Goals as goal

pub returns : goal.returns
returns c =
    let bytes = c.args.bytes.now in
    let half = c.args.half in
    let last = length bytes - half in
    ap (λ xs. put_mid last (length bytes - last) (xs ++ drop half c.args.out.now) c.copy_from_slice-2.new.self)
    c.copy_from_slice.ensures.after
    ∙ ends_meet half bytes c.args.out.now c.copy_from_slice-2.new.self c.requires.some c.requires.all
    c.requires.room (c.copy_from_slice-2.ensures.after ∙ take_rest bytes last)
