use Rattle.std.proofs.Common.{◌≡◌, ◌++◌, filter, not, true}
use Rattle.nla_wire.specs.Canon.{canons}
use Rattle.nla_wire.specs.Items.{items}
use Rattle.link_info.specs.Tables.{frames_in}
use Rattle.frame_shown.specs.Accepted.{accepts, picked}
use Rattle.frame_shown.proofs.accepted.parted.Given as goal

abbrev pub invariant-loop-item : goal.invariant-loop-item
invariant-loop-item l = record {
  accepted : l.accepted.items ++ canons (λ f. f) (picked true (accepts l.family) (frames_in l.item-iterator))
      ≡ canons (λ f. f) (picked true (accepts l.family) (frames_in (items l.bytes)));
  refused : l.refused.items
      ++ canons (λ f. f) (filter (λ f. not (accepts l.family f)) (frames_in l.item-iterator))
      ≡ canons (λ f. f) (filter (λ f. not (accepts l.family f)) (frames_in (items l.bytes)));
}
