use Rattle.std.proofs.Common.{refl}
use Rattle.frame_shown.proofs.RowKeys.{key_of}
use Rattle.frame_shown.proofs.value.counters.show_placed.Goals as goal

pub keyed_number-requires : goal.keyed_number-requires
keyed_number-requires c = record {
  key = key_of (λ x. x.0.now) c.args.rows.now c.loop-row.row-index _ refl c.requires.keys;
}
