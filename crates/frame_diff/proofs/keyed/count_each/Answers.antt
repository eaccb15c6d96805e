use Rattle.std.proofs.Common.{◌<◌, ◌+◌, ◌∙◌, ap, arith, length, length-set, refl, rules}
use Rattle.frame_diff.specs.Keyed.{numbers_now}
use Rattle.frame_diff.specs.Labels.{labels_of}
use Rattle.frame_diff.specs.declared.keyed.Labelled.{Labelled}
use Rattle.frame_diff.proofs.Labelled.{few_more, one_counted, values_same}
use Rattle.frame_diff.proofs.keyed.count_each.Goals as goal

pub loop-place-preserved : goal.loop-place-preserved
loop-place-preserved g c =
    let i = c.loop-place.place in
    let vs = c.loop-place.values.items in
    let number = c.index.result.now.label.number in
    let within : i < length vs = search rules in
    record {
      here = omega (
        arith,
        within,
        length-set vs i (record {
          label = record { number = number; again = c.in_ok-again.again };
          value = c.index_mut.result.now.value;
        }),
      );
      few = few_more c.loop-place.counts c.count.new.counts number i c.in_ok-again.ensures.now
          c.loop-place.invariant.few;
      labels = one_counted c.loop-place.counts c.count.new.counts vs i (i + 1) c.in_ok-again.again number _
          c.index.result.now (labels_of (numbers_now c.args.values.now.items)) within
          (ap (λ (v : Labelled _). v.label.number) c.index.ensures) c.in_ok-again.ensures.before refl
          c.in_ok-again.ensures.now c.loop-place.invariant.labels refl;
      values = values_same vs i _ c.index_mut.result.now
          (ap (λ (v : Labelled _). v.value) c.index_mut.ensures.value)
          ∙ c.loop-place.invariant.values;
    }
