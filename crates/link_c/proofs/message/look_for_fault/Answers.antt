use Rattle.std.specs.Prelude.{Err}
use Rattle.link_c.proofs.Faults.{look_at}
use Rattle.link_c.proofs.message.look_for_fault.Goals as goal

pub returns-in-Err : goal.returns-in-Err
returns-in-Err c =
    look_at c.args.bytes.now c.args.at.now c.move_to.new.at c.fault_at.result (Err c.in-Err.refusal)
    c.fault_at.ensures.found c.fault_at.ensures.refused c.move_to.ensures c.in-Err.ensures
