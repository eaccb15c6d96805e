use Rattle.nla_wire.proofs.Cuts.{frames_or_fault, frames_once, frames_not_fault, fault_once}
use Rattle.nla_wire.proofs.laws.law_one_reading.Goals as goal

pub returns : goal.returns
returns c = record { some = frames_or_fault; frames = frames_once; apart = frames_not_fault; fault = fault_once }
