use Rattle.std.proofs.Common.{◌≡◌, sym, ap, ◌∙◌}
use Rattle.std.specs.Prelude.{Option, None, Some, cond}
use Rattle.message_diff.specs.Known.{Seen, is_among, is_ended_with, is_key, kind_of, parts}
use Rattle.message_diff.specs.Announced.{is_another, kind_in, kind_or}
use Rattle.message_diff.specs.Held.{held, kind_at, kind_known, seen_in, shot_in, words_for}
use Rattle.message_diff.proofs.Gone.{of_kept, of_other, on_ok_both, tells_other, tells_put}
use Rattle.message_diff.proofs.Pictures.{kind_is, put_over, seen_taken, taken_both, shot_is}
use Rattle.message_diff.proofs.TwoKinds.{kind_other}
use Rattle.message_diff.proofs.line.Line.put_over.Goals as goal

pub returns-in_default-clause-known : goal.returns-in_default-clause-known
returns-in_default-clause-known c =
    let host = c.args.host.now in
    let key = c.args.key in
    let shot = c.args.snapshot in
    let words = words_for c.args.self.told c.args.self.front.now in
    let seen : Seen =
    record { at = c.args.self.at; shot = Some shot; kind = kind_or (kind_in shot.text) None; words = words } in
    let last = shot_is (held host key) ∙ ap shot_in (sym c.in_default.ensures.was) in
    let kind = kind_is (held host key) ∙ ap kind_at (sym c.in_default.ensures.was) in
    let kept = ap (λ k. is_another k shot.text) kind in
    on_ok_both c.keep.result
    (λ known told. (
      λ q. known q
          ∙ put_over (is_key key q) seen (held host q) (held c.take_last.new.self q) (c.in_default.ensures.known q)
          ∙ of_kept host c.args.self.at key None shot words q kept (ap (kind_or (kind_in shot.text)) (sym kind)),
      tells_put c.args.self.front.now c.args.self.told host c.take_last.new.self key None shot words
          c.args.out.now.items c.keep.new.out.items c.in_default.ensures.whole last kept told,
    ))
    c.keep.ensures.known c.keep.ensures.told

pub returns-then-not-is_another-clause-known : goal.returns-then-not-is_another-clause-known
returns-then-not-is_another-clause-known c =
    let host = c.args.host.now in
    let key = c.args.key in
    let shot = c.args.snapshot in
    let words = words_for c.args.self.told c.args.self.front.now in
    let was = kind_known c.in-Some.last in
    let seen : Seen =
    record { at = c.args.self.at; shot = Some shot; kind = kind_or (kind_in shot.text) was; words = words } in
    let last = shot_is (held host key) ∙ ap shot_in (sym c.in-Some.ensures.was) in
    let kind = kind_is (held host key) ∙ ap kind_at (sym c.in-Some.ensures.was) in
    let kept = ap (λ k. is_another k shot.text) kind ∙ sym c.if-not-is_another.ensures in
    on_ok_both c.put_beside.result
    (λ known told. (
      λ q. known q
          ∙ put_over (is_key key q) seen (held host q) (held c.take_last.new.self q) (c.in-Some.ensures.known q)
          ∙ of_kept host c.args.self.at key was shot words q kept (ap (kind_or (kind_in shot.text)) (sym kind)),
      tells_put c.args.self.front.now c.args.self.told host c.take_last.new.self key _ shot words
          c.args.out.now.items c.put_beside.new.out.items c.in-Some.ensures.whole last kept told,
    ))
    c.put_beside.ensures.known c.put_beside.ensures.told

pub returns-clause-known : goal.returns-clause-known
returns-clause-known c =
    let host = c.args.host.now in
    let key = c.args.key in
    let shot = c.args.snapshot in
    let words = words_for c.args.self.told c.args.self.front.now in
    let last = shot_is (held host key) ∙ ap shot_in (sym c.in-Some.ensures.was) in
    let kind = kind_is (held host key) ∙ ap kind_at (sym c.in-Some.ensures.was) in
    let other = ap (λ k. is_another k shot.text) kind ∙ sym c.if-not-is_another.ensures in
    on_ok_both c.keep-2.result
    (λ known told. (
      λ q.
          let gone : held c.end_parts.new.host q ≡ cond (is_ended_with key q) None (held host q) =
          c.in_ok-end_parts.ensures.known q
          ∙ ap (λ o. cond (is_among (parts key) q) None o) (c.in-Some.ensures.known q)
          ∙ taken_both (is_key key q) (is_among (parts key) q) (held host q) in
          let seen : Seen =
          record { at = c.args.self.at; shot = Some shot; kind = kind_or (kind_in shot.text) None; words = words } in
          known q ∙ ap (λ (o : Option Seen). cond (is_key key q) (Some seen) o)
          (ap seen_in gone ∙ seen_taken (is_ended_with key q) (held host q))
          ∙ of_other host c.args.self.at key None shot words q other
          (kind_other (kind_of (seen_in (held host key))) (kind_in shot.text) other),
      tells_other c.args.self.front.now c.args.self.told host c.take_last.new.self c.end_parts.new.host key _
          shot words c.args.out.now.items c.tell_gone.new.out.items c.end_parts.new.out.items
          c.keep-2.new.out.items
          c.in-Some.ensures.known (c.in_ok-end_parts.ensures.whole ∙ c.in-Some.ensures.whole) last
          other c.in_ok-tell_gone.ensures c.in_ok-end_parts.ensures.told told,
    ))
    c.keep-2.ensures.known c.keep-2.ensures.told
