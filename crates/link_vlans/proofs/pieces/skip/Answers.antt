use Rattle.std.proofs.Common.{arith, ◌+◌, ◌∙◌, drop, get_or}
use Rattle.std.specs.Prelude.{None}
use Rattle.std.proofs.lemmas.List.{drop_more}
use Rattle.link_vlans.specs.declared.run.Run.{Run}
use Rattle.link_vlans.proofs.Say.{run_skipped}
use Rattle.link_vlans.proofs.pieces.skip.Goals as goal

pub loop-place-preserved : goal.loop-place-preserved
loop-place-preserved c =
    let runs = c.args.runs.now in
    let place = c.loop-place.place in
    let none : Run = record { first = 0; last = 0; said = record { flags = 0; ahead = None } } in
    let behind = run_skipped (drop place runs) (drop (place + 1) runs) (get_or runs place none) c.args.vid
    (drop_more runs place none (omega arith)) (omega arith) c.loop-place.invariant.apart in
    record {
      within = omega arith;
      apart = behind.0;
      same = λ n low. behind.1 n low ∙ c.loop-place.invariant.same n low;
    }
