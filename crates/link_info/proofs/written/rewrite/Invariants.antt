use Rattle.std.proofs.Common.{◌≡◌, ◌++◌}
use Rattle.nla_wire.specs.Items.{items}
use Rattle.nla_wire.specs.Canon.{canons}
use Rattle.link_info.specs.Styles.{are_frames}
use Rattle.link_info.specs.Tables.{frames_in, rewritten, AllRewritten}
use Rattle.link_info.proofs.written.rewrite.Given as goal

abbrev pub invariant-loop-item : goal.invariant-loop-item
invariant-loop-item l =
    (are_frames l.item-iterator ≡ are_frames (items l.bytes))
    × (l.out.items ++ canons (rewritten l.rows) (frames_in l.item-iterator)
    ≡ canons (rewritten l.rows) (frames_in (items l.bytes)))
    × (AllRewritten l.rows (frames_in l.item-iterator) → AllRewritten l.rows (frames_in (items l.bytes)))
    × (AllRewritten l.rows (frames_in (items l.bytes)) → AllRewritten l.rows (frames_in l.item-iterator))
