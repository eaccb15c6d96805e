use Rattle.std.proofs.Common.{[], refl}
use Rattle.shown.proofs.Keys.{key_at}
use Rattle.frame_shown.proofs.value.counters.show_numbers.Goals as goal

pub keyed_number-requires : goal.keyed_number-requires
keyed_number-requires c = record {
  key = key_at c.args.names.now c.loop-name.name-index (record { ref_ptr = (0, 0); now = [] }) refl c.requires.keys;
}
