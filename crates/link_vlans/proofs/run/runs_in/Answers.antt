use Rattle.std.proofs.Common.{◌≡◌, ◌∷◌, ◌∙◌, Ok, sym}
use Rattle.nla_wire.specs.Items.{items}
use Rattle.link_info.specs.Tables.{frames_in}
use Rattle.link_vlans.specs.Runs.{runs_in}
use Rattle.link_vlans.proofs.Rest.{read_end, read_on}
use Rattle.link_vlans.proofs.run.runs_in.Goals as goal

pub loop-item-preserved : goal.loop-item-preserved
loop-item-preserved c =
    let here : c.loop-item.item-iterator ≡ Ok c.in-Ok.frame ∷ c.next.new.self = rw c.in-Ok.is at
    c.in-Some.ensures.steps in
    let small = c.in_ok-next.ensures.small c.loop-item.invariant.small in
    let more = read_on (runs_in c.args.number (frames_in (items c.args.bytes.now))) c.args.number c.in-Ok.frame
    c.loop-item.item-iterator c.next.new.self c.loop-item.runs.items c.read_next.new.runs.items
    c.loop-item.reader c.in-Some-2.next here
    ((λ i. (sym c.in-Some-2.is i, c.read_next.new.runs.items)) ∙ c.in_ok-next.ensures.read)
    c.loop-item.invariant.ends c.loop-item.invariant.whole small in
    record { small = small; ends = more.0; whole = more.1 }

pub returns-in-None-2 : goal.returns-in-None-2
returns-in-None-2 c =
    let here : c.loop-item.item-iterator ≡ Ok c.in-Ok.frame ∷ c.next.new.self = rw c.in-Ok.is at
    c.in-Some.ensures.steps in
    sym (read_end (runs_in c.args.number (frames_in (items c.args.bytes.now))) c.args.number c.in-Ok.frame
    c.loop-item.item-iterator c.next.new.self c.loop-item.runs.items c.read_next.new.runs.items
    c.loop-item.reader here
    ((λ i. (sym c.in-None-2.is i, c.read_next.new.runs.items)) ∙ c.in_ok-next.ensures.read)
    c.loop-item.invariant.ends c.loop-item.invariant.whole)
