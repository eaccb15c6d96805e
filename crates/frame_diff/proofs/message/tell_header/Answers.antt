use Rattle.std.proofs.Common.{[], inl, inr, subst, sym, ◌≡◌}
use Rattle.shown.specs.Drafts.{with_members}
use Rattle.frame_shown.specs.Items.{objects}
use Rattle.frame_shown.specs.Messages.{header_members}
use Rattle.frame_diff.specs.Items.{items_told}
use Rattle.frame_diff.specs.Members.{fields}
use Rattle.frame_diff.specs.declared.side.Side.{Side}
use Rattle.frame_diff.proofs.Told.{header_silent, header_still}
use Rattle.frame_diff.proofs.message.tell_header.Goals as goal

pub returns-in-New : goal.returns-in-New
returns-in-New c =
    let own = c.args.own.now in
    let others = c.args.others.now in
    let page = c.args.page.now in
    let told : Side → Type 0 = λ s. page ≡ with_members (objects (items_told s []
    (fields (header_members own)) (fields (header_members others)))) page in
    elim c.in-New.is [
      | inl is ↦ subst told (sym is) (header_silent own others page)
      | inr is ↦ subst told (sym is) (header_still own others page)
    ]
