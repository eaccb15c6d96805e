use Rattle.frame_shown.proofs.RecordsMeant.{records_meant}
use Rattle.frame_shown.proofs.laws.law_records.Goals as goal

pub returns : goal.returns
returns c = records_meant
