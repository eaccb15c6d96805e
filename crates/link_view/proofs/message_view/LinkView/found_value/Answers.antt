use Rattle.std.proofs.Common.{subst}
use Rattle.nla_wire.specs.Frames.{IsBytes}
use Rattle.link_view.specs.Views.{Opened}
use Rattle.link_view.proofs.Lasting.{value_told}
use Rattle.link_view.proofs.message_view.LinkView.found_value.Goals as goal

pub returns-clause-parsed : goal.returns-clause-parsed
returns-clause-parsed c = λ m read.
    value_told c.args.self.now m c.args.sought.number c.read_found.result
    (subst (λ (v : Opened). IsBytes v.list) c.self.view_is c.are_bytes.ensures) c.read_found.ensures read
