use Rattle.std.proofs.Common.{List, ℕ, refl, sym, ap, subst, ◌∙◌}
use Rattle.std.proofs.lemmas.Result.{on_ok_weaker}
use Rattle.message_diff.specs.declared.reading.Said.{Said}
use Rattle.message_diff.specs.declared.store.Host.{Host}
use Rattle.message_diff.specs.Known.{Item, is_ended_with, is_key, kind_of, shot_of, words_kept}
use Rattle.message_diff.specs.declared.telling.Telling.{Telling}
use Rattle.message_diff.specs.Told.{AddsTold}
use Rattle.message_diff.specs.Held.{Applies, IsAfter, held, last_of, picture, run_in, seen_in}
use Rattle.message_diff.proofs.Pictures.{kind_is, seen_taken, shot_is, words_is}
use Rattle.message_diff.proofs.Gone.{on_ok_both, seen_put, stays, tells_nothing, whole_same}
use Rattle.message_diff.proofs.line.Line.apply.Goals as goal

pub returns-in-Refused : goal.returns-in-Refused
returns-in-Refused c =
    let host = c.args.host.now in
    let key = c.in-Refused.key in
    let front = c.args.self.front.now in
    let told = c.args.self.told in
    let out = c.args.out.now.items in
    on_ok_weaker c.see.result
    (λ known. subst (λ (said : Said). Applies front told c.args.self.at said (picture host)
    (picture c.see.new.self) out out)
    (sym c.in-Refused.is) (
      record {
        of = λ q. ap seen_in (known q)
            ∙ seen_put (is_key key q) c.args.self.at (last_of (held host key)) (shot_of (seen_in (held host key)))
            (kind_of (seen_in (held host key))) (words_kept (seen_in (held host key))) (held host q)
            (sym (shot_is (held host key))) (sym (kind_is (held host key))) (sym (words_is (held host key)));
        run = ap run_in c.see.ensures.dump;
        whole = λ f. whole_same host c.see.new.self f c.see.ensures.whole;
      },
      tells_nothing front told (picture host) (Item.refused key) out (λ q. refl) refl,
    ))
    c.see.ensures.known

pub returns-in-Went : goal.returns-in-Went
returns-in-Went c =
    let host = c.args.host.now in
    on_ok_both c.end.result
    (λ known told. subst
    (λ (said : Said). Applies c.args.self.front.now c.args.self.told c.args.self.at said (picture host)
    (picture c.end.new.host) c.args.out.now.items c.end.new.out.items) (sym c.in-Went.is) (
      record {
        of = λ q. ap seen_in (known q) ∙ seen_taken (is_ended_with c.in-Went.key q) (held host q);
        run = ap run_in c.end.ensures.dump;
        whole = λ f. whole_same host c.end.new.host f c.end.ensures.whole;
      },
      told,
    ))
    c.end.ensures.known c.end.ensures.told

pub returns-in-Begin : goal.returns-in-Begin
returns-in-Begin c =
    let host = c.args.host.now in
    let front = c.args.self.front.now in
    let out = c.args.out.now.items in
    let is = stays front c.args.self.told c.args.self.at host c.begin.new.self (Item.started c.in-Begin.dump.items) out
    c.begin.ensures.known c.begin.ensures.whole (ap run_in c.begin.ensures.dump) (λ q. refl) (λ q. refl) (λ f. refl)
    refl in
    subst (λ (said : Said). Applies front c.args.self.told c.args.self.at said (picture host)
    (picture c.begin.new.self) out out)
    (sym c.in-Begin.is) is

pub returns-in-Blind : goal.returns-in-Blind
returns-in-Blind c =
    let host = c.args.host.now in
    let front = c.args.self.front.now in
    let out = c.args.out.now.items in
    let is = stays front c.args.self.told c.args.self.at host c.break_dump.new.self Item.blind out
    c.break_dump.ensures.known c.break_dump.ensures.whole (ap run_in c.break_dump.ensures.dump) (λ q. refl) (λ q. refl)
    (λ f. refl) refl in
    subst (λ (said : Said). Applies front c.args.self.told c.args.self.at said (picture host)
    (picture c.break_dump.new.self) out out)
    (sym c.in-Blind.is) is

nothing : (front : List ℕ) (told : Telling) (at : ℕ) (host : Host) (out : List ℕ)
    → IsAfter (picture host) at Item.nothing (picture host) × AddsTold front told (picture host) Item.nothing out out
nothing front told at host out =
    stays front told at host host Item.nothing out refl refl refl (λ q. refl) (λ q. refl) (λ f. refl) refl

pub returns-in-Lost : goal.returns-in-Lost
returns-in-Lost c =
    let host = c.args.host.now in
    let front = c.args.self.front.now in
    let out = c.args.out.now.items in
    let is = nothing front c.args.self.told c.args.self.at host out in
    subst (λ (said : Said). Applies front c.args.self.told c.args.self.at said (picture host) (picture host) out out)
    (sym c.in-Lost.is)
    is

pub returns-in-Nothing : goal.returns-in-Nothing
returns-in-Nothing c =
    let host = c.args.host.now in
    let front = c.args.self.front.now in
    let out = c.args.out.now.items in
    let is = nothing front c.args.self.told c.args.self.at host out in
    subst (λ (said : Said). Applies front c.args.self.told c.args.self.at said (picture host) (picture host) out out)
    (sym c.in-Nothing.is)
    is
