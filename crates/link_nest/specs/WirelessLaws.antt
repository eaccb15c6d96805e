-- What is proved of wireless events as payloads.
use Rattle.std.specs.Prelude.{refl}
use Rattle.std.specs.Int.{w16, to_le_bytes}
use Rattle.std.proofs.Common.{◌≡◌, ℕ, ◌+◌, ◌≤◌, ◌<◌, ◌^◌, ◌==◌, Bool, true, false, if◌then◌else◌, List, ◌∷◌, length}
use Rattle.std.proofs.Common.{drop, sym, ap, subst, ◌∙◌, arith, lit<, length-drop}
use Rattle.nla_wire.specs.Sizes.{most_payload, plain_growth}
use Rattle.nla_wire.specs.Fields.{number_at}
use Rattle.nla_wire.proofs.FieldLemmas.{number_again_between}
use Rattle.nla_wire.proofs.Agreement.{sized_agrees}
use Rattle.nla_wire.proofs.Memory.{memory_sized}
use Rattle.nla_wire.proofs.Lawful.{LawfulPayload, always, none}
use Rattle.link_nest.specs.Wireless.{event_of, wireless_of, wireless_event, event_encoding, wireless_encoding}
use Rattle.link_nest.specs.declared.numbers.TheConstants.{IWEVASSOCREQIE, IWEVASSOCRESPIE}
use Rattle.link_nest.specs.declared.wireless.WirelessEvent.{WirelessEvent}
use Rattle.link_nest.specs.declared.wireless.WirelessEvent.TheVariants.{AssociateRequest, AssociateResponse, Other}

-- the event, by what its command is
abbrev event_by : Bool → Bool → List ℕ → WirelessEvent
event_by request response p =
    if request then AssociateRequest (drop 8 p) else if response then AssociateResponse (drop 8 p) else Other p

-- the command is read again from the encoding
event_again : (command : ℕ) (x : List ℕ) → command < 2 ^ 16
    → wireless_of (event_encoding command x) ≡ event_of command (event_encoding command x)
event_again command x h =
    ap (λ c. event_of c (event_encoding command x))
    (number_again_between w16 (to_le_bytes w16 (8 + length x)) command (0 ∷ 0 ∷ 0 ∷ 0 ∷ x) 2 h refl)

read_again : (request response : Bool) (p : List ℕ) → event_by request response p ≡ wireless_of p
    → event_by request response p ≡ wireless_of (wireless_encoding (event_by request response p))
read_again true response p is = sym (event_again IWEVASSOCREQIE (drop 8 p) (lit< tt))
read_again false true p is = sym (event_again IWEVASSOCRESPIE (drop 8 p) (lit< tt))
read_again false false p is = is

same_length : (request response : Bool) (p : List ℕ) → 8 ≤ length p
    → length (wireless_encoding (event_by request response p)) ≡ length p
same_length true response p long = omega (arith, length-drop 8 p)
same_length false true p long = omega (arith, length-drop 8 p)
same_length false false p long = refl

-- the encoding of an event is as long as the payload that it was read from
pub wireless_length : (p : List ℕ) (v : WirelessEvent) → wireless_event.means p v
    → length (wireless_encoding v) ≡ length p
wireless_length p v means =
    ap (λ w. length (wireless_encoding w)) means.1
    ∙ same_length (number_at w16 p 2 == IWEVASSOCREQIE) (number_at w16 p 2 == IWEVASSOCRESPIE) p means.0

wireless_again : (p : List ℕ) (v : WirelessEvent) → wireless_event.means p v → v ≡ wireless_of (wireless_encoding v)
wireless_again p v means =
    subst (λ w. w ≡ wireless_of (wireless_encoding w)) (sym means.1)
    (read_again (number_at w16 p 2 == IWEVASSOCREQIE) (number_at w16 p 2 == IWEVASSOCRESPIE) p refl)

pub wireless_lawful : (n : ℕ) → n ≤ most_payload
    → LawfulPayload wireless_event wireless_encoding always always none plain_growth 0 n
wireless_lawful n enough = record {
  agrees = sized_agrees 8 wireless_of;
  no_memory = memory_sized 8 wireless_of;
  back = λ p v small means fits good. (omega (arith, wireless_length p v means, means.0), wireless_again p v means);
  counted = λ p v means. omega arith;
  bounded = λ p v means. omega (arith, wireless_length p v means);
  small = λ p v short small means. (omega (arith, wireless_length p v means), tt);
}
