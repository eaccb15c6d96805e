use Rattle.std.specs.Prelude.{Err}
use Rattle.link_c.proofs.Faults.{look_along}
use Rattle.link_c.proofs.path.look_along.Goals as goal

pub returns-in-Err : goal.returns-in-Err
returns-in-Err c =
    look_along c.args.bytes.now c.args.path.now c.move_to.new.path c.fault_path.result (Err c.in-Err.refusal)
    c.fault_path.ensures.path c.fault_path.ensures.refused c.move_to.ensures c.in-Err.ensures
