use Rattle.std.proofs.Common.{[], refl}
use Rattle.shown.proofs.Keys.{key_at}
use Rattle.frame_shown.proofs.value.settings.show_signed.Goals as goal

pub keyed_signed-requires : goal.keyed_signed-requires
keyed_signed-requires c = record {
  key = key_at c.args.names.now c.loop-name.name-index (record { ref_ptr = (0, 0); now = [] }) refl c.requires.keys;
}
