use Rattle.std.proofs.Common.{refl}
use Rattle.frame_shown.proofs.RowKeys.{key_of}
use Rattle.frame_shown.proofs.value.fields.show_fields.Goals as goal

pub show_part-requires : goal.show_part-requires
show_part-requires c = record {
  key = key_of (λ x. x.0.now) c.args.parts.now c.loop-part.part-index _ refl c.requires.keys;
}
