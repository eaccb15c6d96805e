use Rattle.std.proofs.Common.{subst, ◌∙◌}
use Rattle.nla_wire.specs.Frames.{IsBytes}
use Rattle.link_view.specs.Views.{Opened}
use Rattle.link_view.proofs.Lasting.{values_told}
use Rattle.link_view.proofs.message_view.LinkView.values.Goals as goal

pub returns-clause-parsed : goal.returns-clause-parsed
returns-clause-parsed c = λ m read.
    c.read_all.ensures
    ∙ values_told c.args.self.now m
    (subst (λ (v : Opened). IsBytes v.list) c.self.view_is c.are_bytes.ensures) read
