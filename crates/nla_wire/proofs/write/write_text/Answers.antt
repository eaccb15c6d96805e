use Rattle.std.proofs.Common.{◌++◌, ◌∷◌, [], arith}
use Rattle.nla_wire.proofs.Canonical.{finished_value}
use Rattle.nla_wire.proofs.write.write_text.Goals as goal

pub returns : goal.returns
returns c =
    finished_value c.args.kind (c.args.text.now ++ 0 ∷ []) c.args.out.now
    c.write_terminated-len.new.out c.write_terminated-len.result c.finish.new.out c.finish.result
    (omega arith) c.write_terminated-len.ensures c.finish.ensures
