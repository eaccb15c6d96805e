use Rattle.std.proofs.Common.{◌∙◌, List, ℕ, sym, ap, arith, rules}
use Rattle.std.specs.List.{list_any}
use Rattle.std.proofs.lemmas.Bool.Decides.{nat_tests}
use Rattle.link_msg.specs.declared.numbers.TheConstants.{IFLA_WIRELESS}
use Rattle.message_diff.specs.Announced.{is_more, is_of, is_wireless_alone}
use Rattle.message_diff.specs.Frames.{frames_of}
use Rattle.message_diff.proofs.Wireless.{all_met, more_met, others_more}
use Rattle.message_diff.proofs.announced.is_wireless_alone.Goals as goal

pub returns-in_default-2 : goal.returns-in_default-2
unfolding is_wireless_alone
returns-in_default-2 c =
    let frame : List ℕ = c.in-Some.frame.now in
    let more = ap (list_any is_more) (sym c.in-Some.ensures.steps) ∙ c.loop-frame.invariant.more in
    more_met (list_any (is_of IFLA_WIRELESS) (frames_of c.args.message.now)) (is_more frame) _
    (list_any is_more (frames_of c.args.message.now))
    (others_more frame c.if-frame-lt-NLA_HEADER_SIZE.false (λ is. absurd (grind (arith, nat_tests)))
    (λ is. absurd (grind (arith, nat_tests)))) more

pub returns : goal.returns
unfolding is_wireless_alone
returns c = search (rules, all_met)
