use Rattle.nla_wire.proofs.Spellings.{frames_concatenation, concatenation_frames, fault_after, after_fault}
use Rattle.nla_wire.proofs.laws.law_spellings.Goals as goal

pub returns : goal.returns
returns c = record {
  frames = λ b fs. (frames_concatenation b fs, concatenation_frames b fs);
  fault = λ b fs c. (fault_after b fs c, after_fault b fs c);
}
