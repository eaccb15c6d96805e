use Rattle.std.proofs.Common.{None, subst, ◌≡◌}
use Rattle.nla_wire.specs.Frames.{IsBytes}
use Rattle.nla_wire.specs.Gives.{without_place}
use Rattle.nla_wire.specs.Items.{items}
use Rattle.link_view.specs.Views.{Opened, latest}
use Rattle.link_view.proofs.Lasting.{last_told}
use Rattle.link_view.proofs.message_view.LinkView.found.Goals as goal

pub returns-clause-parsed : goal.returns-clause-parsed
returns-clause-parsed c = λ m read.
    last_told c.args.self.now m c.args.sought.number c.frame_of.result
    (subst (λ (v : Opened). IsBytes v.list) c.self.view_is c.are_bytes.ensures)
    (subst (λ (v : Opened). without_place c.frame_of.result ≡ latest c.args.sought.number None (items v.list))
    c.self.view_is c.frame_of.ensures.found) read
