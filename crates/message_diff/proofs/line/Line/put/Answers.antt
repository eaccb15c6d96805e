use Rattle.std.proofs.Common.{◌≡◌, false, true, refl, sym, ap, ◌∙◌, rules}
use Rattle.std.specs.Prelude.{None, Some, cond}
use Rattle.message_diff.specs.Announced.{is_another, kind_in, kind_or}
use Rattle.message_diff.specs.Known.{is_key, kind_of}
use Rattle.message_diff.specs.Held.{come_again, held, last_of, seen_in, words_for}
use Rattle.message_diff.specs.Told.{says}
use Rattle.message_diff.proofs.Pictures.{kind_is, shot_is}
use Rattle.message_diff.proofs.Gone.{kind_kept, kind_same, of_kept, seen_put, shot_same, some_shot, tells_same}
use Rattle.message_diff.proofs.Gone.{words_none}
use Rattle.message_diff.proofs.line.Line.put.Goals as goal

pub returns-then-see_same-clause-known : goal.returns-then-see_same-clause-known
returns-then-see_same-clause-known c =
    let host = c.args.host.now in
    let key = c.args.key in
    let shot = c.args.snapshot in
    let told = c.args.self.told in
    let words = words_for told c.args.self.front.now in
    let says_so : says told.told ≡ true = (search rules) in
    let none = ap (λ b. cond b None (Some c.args.self.front.now)) says_so in
    let last = last_of (held host key) in
    let same = c.see_same.ensures.same c.if-see_same.true in
    let known = kind_of (seen_in (held host key)) in
    let kept : is_another known shot.text ≡ false =
    ap (λ k. is_another k shot.text) (kind_is (held host key)) ∙ kind_kept last shot.text same in
    let kind = kind_same last shot.order shot.text same
    ∙ ap (kind_or (kind_in shot.text)) (sym (kind_is (held host key))) in
    let was = some_shot last shot.text same in (
      λ q. ap seen_in (c.see_same.ensures.known c.if-see_same.true q)
          ∙ seen_put (is_key key q) c.args.self.at (come_again shot.order last) (Some shot)
          (kind_or (kind_in shot.text) known) words (held host q) (shot_same last shot same) kind
          (words_none shot.order last ∙ sym none)
          ∙ of_kept host c.args.self.at key known shot words q kept refl,
      tells_same c.args.self.front.now told host key was.0 shot words c.args.out.now.items
          (shot_is (held host key) ∙ was.1) was.2 kept,
    )
