use Rattle.link_vf.proofs.Entries.{entry_length}
use Rattle.link_vf.proofs.entry.Entry.measure_entry.Goals as goal

pub returns-clause-means : goal.returns-clause-means
returns-clause-means g c =
    entry_length g.met.Self.Entry.laws c.args.payload.now c.measure_some.result c.measure_some.ensures.means
