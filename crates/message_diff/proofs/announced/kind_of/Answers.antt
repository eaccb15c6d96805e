use Rattle.std.proofs.Common.{◌≡◌, ◌<◌, List, ℕ, length, take, sym, ◌∙◌, arith, rules}
use Rattle.std.specs.Prelude.{option_map, Some}
use Rattle.std.proofs.lemmas.Bool.Decides.{nat_tests}
use Rattle.link_msg.specs.declared.numbers.TheConstants.{IFLA_LINKINFO}
use Rattle.message_diff.specs.Announced.{payload_of}
use Rattle.message_diff.specs.Frames.{frames_in, frames_of}
use Rattle.message_diff.proofs.TwoKinds.{kind_named, name_before, name_whole}
use Rattle.message_diff.proofs.announced.kind_of.Goals as goal

pub returns-in-Some : goal.returns-in-Some
returns-in-Some c =
    let payload : List ℕ = c.in_ok-payload.payload.now in
    let high : c.in-Some.len < length payload = c.in-Some.ensures.0.high in
    let first : payload_of IFLA_LINKINFO (frames_of c.args.message.now) ≡ Some c.in_ok-info.info.now = (search rules) in
    let second : payload_of 1 (frames_in c.in_ok-info.info.now) ≡ Some payload = (search rules) in
    let got : option_map (λ kind. kind.now) c.get.result ≡ Some (take c.in-Some.len payload) = (search rules) in
    got ∙ sym (kind_named c.args.message.now c.in_ok-info.info.now payload first second
    ∙ name_before payload c.in-Some.len (λ zero. absurd (grind (arith, nat_tests))) c.in-Some.ensures)

pub returns-in-None : goal.returns-in-None
returns-in-None c =
    let payload : List ℕ = c.in_ok-payload.payload.now in
    let first : payload_of IFLA_LINKINFO (frames_of c.args.message.now) ≡ Some c.in_ok-info.info.now = (search rules) in
    let second : payload_of 1 (frames_in c.in_ok-info.info.now) ≡ Some payload = (search rules) in
    sym (kind_named c.args.message.now c.in_ok-info.info.now payload first second
    ∙ name_whole payload c.in-None.ensures)
