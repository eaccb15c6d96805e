use Rattle.std.proofs.Common.{sym, subst}
use Rattle.nla_wire.specs.Frames.{IsBytes}
use Rattle.nla_wire.specs.Items.{items}
use Rattle.link_view.specs.Views.{Opened, AreFramesOf}
use Rattle.link_view.proofs.Lasting.{frames_told}
use Rattle.link_view.proofs.message_view.LinkView.frames.Goals as goal

pub returns-clause-parsed : goal.returns-clause-parsed
returns-clause-parsed c = λ m read.
    subst (λ xs. AreFramesOf m xs) (sym c.new.ensures.value)
    (subst (λ (v : Opened). AreFramesOf m (items v.list)) (sym c.self.view_is)
    (frames_told c.args.self.now m
    (subst (λ (v : Opened). IsBytes v.list) c.self.view_is c.are_bytes.ensures) read))
