use Rattle.link_msg.proofs.attribute.LinkAttribute.canon_list_with_param.Goals as goal

pub returns-clause-means : goal.returns-clause-means
returns-clause-means c =
    let measured = c.in-Some.ensures.means in
    (measured.0, measured.1, measured.2, c.write_members.ensures.means measured.0 measured.1)
