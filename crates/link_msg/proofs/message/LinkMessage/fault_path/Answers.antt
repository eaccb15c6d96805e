use Rattle.link_msg.proofs.Faults.{Told, told_short, told_none, told_path}
use Rattle.link_msg.proofs.message.LinkMessage.fault_path.Goals as goal

pub returns-in_default-clause-path : goal.returns-in_default-clause-path
returns-in_default-clause-path c =
    (told_short c.args.input.now c.in_default.ensures.0 c.stray.result c.stray.ensures.place c.stray.ensures.none).0

told : (c : goal.After-after) → Told c.args.input.now c.after.result
told c =
    let header = c.in-Ok.ensures in
    told_path c.args.input.now c.in-Ok.header c.in-Ok.rest.now header.0 header.1 header.2 4 c.in-Some.path
    (rw c.in-Some.is at c.in_attributes.ensures.path) c.after.result c.after.ensures.place c.after.ensures.numbers

pub returns-in-Some-clause-path : goal.returns-in-Some-clause-path
returns-in-Some-clause-path c = (told c).0

pub returns-in-Some-clause-refused : goal.returns-in-Some-clause-refused
returns-in-Some-clause-refused c = (told c).1

pub returns-in-Some-clause-inside : goal.returns-in-Some-clause-inside
returns-in-Some-clause-inside c = (told c).2

pub returns-in-None-clause-path : goal.returns-in-None-clause-path
returns-in-None-clause-path c =
    let header = c.in-Ok.ensures in
    let read = c.in-None.ensures.read in
    told_none c.args.input.now c.in-Ok.header c.in-Ok.rest.now header.0 header.1 header.2 read.0 read.1
