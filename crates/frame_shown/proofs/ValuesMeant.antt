-- Numbers, texts and bytes are shown as what payloads mean.
use Rattle.std.proofs.Common.{◌≡◌, ℕ, ◌==◌, List, [], ◌∷◌, Bool, true, false, cond, if◌then◌else◌, drop, length}
use Rattle.std.proofs.Common.{refl, sym, ap, ◌∙◌, eq-eqb}
use Rattle.std.specs.Prelude.{codes, slice_index}
use Rattle.std.specs.Int.{w8, w16, w32, cast_signed}
use Rattle.json.specs.Token.{string}
use Rattle.link_info.specs.Meanings.{Raw, Six, text_or_bytes}
use Rattle.link_info.specs.Styles.{width}
use Rattle.link_info.specs.declared.style.Plain.TheVariants as P
use Rattle.link_nest.specs.declared.numbers.TheConstants.{IWEVASSOCREQIE, IWEVASSOCRESPIE}
use Rattle.link_nest.specs.declared.wireless.WirelessEvent.TheVariants as Events
use Rattle.link_vals.proofs.PhysIds.{phys_id_bytes_is}
use Rattle.link_vals.specs.LinkPhysIdBytes.{phys_id_bytes}
use Rattle.nla_wire.proofs.FieldLemmas.{number_at_front}
use Rattle.nla_wire.proofs.Texts.{text_found}
use Rattle.nla_wire.specs.Fields.{number_at}
use Rattle.nla_wire.specs.Payloads.{address_of_octets, number_of}
use Rattle.shown.specs.Drafts.{object_of}
use Rattle.shown.specs.Values.{flags_of, hardware_address}
use Rattle.frame_shown.specs.Laws.{Shows, ValuesAreMeant, event_by}
use Rattle.frame_shown.specs.Values.{Nesting, bits_in, choice_token, elements_in, form_shown}
use Rattle.frame_shown.specs.Values.{hexadecimal, number_tokens, plain_shown, signed_value, text_shown, truth_of}
use Rattle.frame_shown.specs.declared.form.Around.{Around}
use Rattle.frame_shown.specs.declared.form.Choice.{Choice}
use Rattle.frame_shown.specs.declared.form.Choice.TheVariants as Choices
use Rattle.frame_shown.specs.declared.form.Form.TheVariants as Forms
use Rattle.frame_shown.proofs.Named.{one_byte}

first_byte : (p : List ℕ) (n : ℕ) → (number_of w8).means p n → slice_index p 0 ≡ n
first_byte p n means = one_byte p 0 ∙ number_at_front w8 p ∙ sym means.1

named_meant : (nest : Nesting) (cx : Around) (choice : Choice) → (choice ≡ Choices.Event → ⊥)
    → Shows (number_of w8) (form_shown nest cx (Forms.Choice choice)) (λ n. choice_token choice n ∷ [])
named_meant nest cx Choices.OperState not p n small means =
    ap (λ k. choice_token Choices.OperState k ∷ []) (first_byte p n means)
named_meant nest cx Choices.LinkMode not p n small means =
    ap (λ k. choice_token Choices.LinkMode k ∷ []) (first_byte p n means)
named_meant nest cx Choices.GenMode not p n small means =
    ap (λ k. choice_token Choices.GenMode k ∷ []) (first_byte p n means)
named_meant nest cx Choices.Attached not p n small means =
    ap (λ k. choice_token Choices.Attached k ∷ []) (first_byte p n means)
named_meant nest cx Choices.Event not p n small means = absurd (not refl)
named_meant nest cx Choices.Binding not p n small means =
    ap (λ k. choice_token Choices.Binding k ∷ []) (first_byte p n means)

ipv6_read : (b : Bool) (p : List ℕ) → b ≡ true
    → plain_shown P.Ipv6 (if b then Six (address_of_octets p) else Raw p) ≡ plain_shown P.Ipv6 (Six
    (address_of_octets p))
ipv6_read true p is = refl
ipv6_read false p is = absurd cc

-- its name and its bytes
abbrev part_by : Bool → Bool → List ℕ → List ℕ × List ℕ
part_by a b p = cond a (codes "assocreqie", elements_in (drop 8 p))
    (cond b (codes "assocrespie", elements_in (drop 8 p)) (codes "payload", p))

event_same : (a b : Bool) (p : List ℕ)
    → object_of (((part_by a b p).0, hexadecimal (part_by a b p).1) ∷ [])
    ≡ event_by (if a then Events.AssociateRequest (drop 8 p)
    else if b then Events.AssociateResponse (drop 8 p) else Events.Other p)
event_same true b p = refl
event_same false true p = refl
event_same false false p = refl

pub values_meant : (nest : Nesting) (cx : Around) → ValuesAreMeant nest cx
values_meant nest cx = record {
  numbers = λ size p n small means. ap number_tokens (number_at_front (width size) p ∙ sym means.1);
  exact = λ size p n small means. ap number_tokens (number_at_front (width size) p ∙ sym means.1);
  signed = λ p z small means.
      ap (λ (n : ℕ). signed_value (cast_signed w32 n)) (number_at_front w32 p ∙ sym means.1.1)
      ∙ ap signed_value (sym means.2);
  truths = λ p n small means. ap (λ k. number_tokens (truth_of k)) (first_byte p n means);
  texts = λ p s small means. ap (λ r. text_shown (text_or_bytes p r)) (text_found p s means.1 means.0);
  addresses = λ p v small means. ap (λ x. string (hardware_address x) ∷ []) (sym means);
  ids = λ p v small means. ap hexadecimal (sym (phys_id_bytes_is p) ∙ ap phys_id_bytes (sym means));
  flags = λ bits p n small means. ap (λ k. flags_of (bits_in bits) k) (number_at_front w32 p ∙ sym means.1);
  names = named_meant nest cx;
  events = λ p n small means. ap (λ k. choice_token Choices.Event k ∷ []) (number_at_front w32 p ∙ sym means.1);
  ipv6 = λ p a small means.
      ipv6_read (length p == 16) p (eq-eqb (length p) 16 means.1.0)
      ∙ ap (λ x. plain_shown P.Ipv6 (Six (address_of_octets x))) (sym means.1.1)
      ∙ ap (λ x. plain_shown P.Ipv6 (Six x)) (sym means.2);
  wireless = λ p v small means.
      event_same (number_at w16 p 2 == IWEVASSOCREQIE) (number_at w16 p 2 == IWEVASSOCRESPIE) p
      ∙ ap event_by (sym means.1);
}
