use Rattle.nla_wire.proofs.nla_read.NlaRead.canon_list.Goals as goal

pub returns-clause-means : goal.returns-clause-means
returns-clause-means g c =
    let measured = c.in-Some.ensures.means in
    (measured.0, measured.1, measured.2, c.write_members.ensures.means measured.0 measured.1)
