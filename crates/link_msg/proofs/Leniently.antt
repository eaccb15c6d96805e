-- The laws of lenient reading.
use Rattle.std.proofs.Common.{◌≡◌, ◌≢◌, ◌⊎◌, ℕ, ◌≤◌, inl, inr, List, [], ◌∷◌, length, refl, sym, ap, ◌∙◌, subst}
use Rattle.std.proofs.Common.{Result, Ok, Err, IsOk, IfErr, Some, None}
use Rattle.std.specs.List.{AllByRecursion}
use Rattle.nla_wire.specs.Frames.{Frame, IsBytes, IsFrame, Fault}
use Rattle.nla_wire.specs.Grammar.{Agrees, Every, FirstAfter}
use Rattle.nla_wire.specs.declared.error.Cause.{Cause}
use Rattle.nla_wire.specs.declared.error.Cause.TheVariants.{OutOfMemory}
use Rattle.nla_wire.specs.declared.error.DecodeError.{DecodeError}
use Rattle.nla_wire.specs.Sizes.{most_payload}
use Rattle.nla_wire.specs.Gives.{Gives, Adds}
use Rattle.nla_wire.specs.Canon.{canon, Weighs, HasRoom, Rewrites, Writes}
use Rattle.nla_wire.proofs.Loop.{gives_fault}
use Rattle.nla_wire.proofs.Back.{frames_framed}
use Rattle.nla_wire.proofs.Steps.{bytes_right}
use Rattle.link_vals.specs.declared.address_family.AddressFamily.{AddressFamily}
use Rattle.link_msg.specs.Header.{header_of}
use Rattle.link_msg.specs.Tables.{attribute_place, attribute_lawful, attribute_frame, AttributeFits}
use Rattle.link_msg.specs.Messages.{message_text}
use Rattle.link_msg.specs.Lenient.{FaultBy, read_by, message_by, kept_if_bad, lenient_place}
use Rattle.link_msg.specs.Lenient.{LenientFault, MeansLeniently, MeansNoneLeniently}
use Rattle.link_msg.specs.Lenient.{StrictIsLenient, OneLenientMeaning, FittingIsRead, LenientTextMeansTheSame}
use Rattle.link_msg.specs.Lenient.{SameLenientTextSameMessage, LenientTwice}
use Rattle.link_msg.specs.LenientTable.{always_kept, lenient_lawful, other_frame, other_fits}
use Rattle.link_msg.specs.declared.attribute.LinkAttribute.{LinkAttribute}
use Rattle.link_msg.specs.declared.attribute.LinkAttribute.TheVariants as Attributes
use Rattle.link_msg.specs.declared.message.LinkMessage.{LinkMessage}
use Rattle.link_msg.proofs.MessagesBy.{agrees_by, back_by, one_by}

-- ** laws

every_lenient : (family : AddressFamily) (fs : List Frame) (vs : List LinkAttribute)
    → Every (attribute_place family).means fs vs → Every (lenient_place family).means fs vs
every_lenient family [] [] h = tt
every_lenient family [] (v ∷ vs) h = absurd h
every_lenient family (f ∷ fs) [] h = absurd h
every_lenient family (f ∷ fs) (v ∷ vs) h = (inl h.0, every_lenient family fs vs h.1)

pub strict_is_lenient : StrictIsLenient
strict_is_lenient b m (h, c, whole, header, (fs, frames, every)) =
    (h, c, whole, header, (fs, frames, every_lenient m.header.interface_family fs m.attributes every))

pub one_lenient : OneLenientMeaning
one_lenient = one_by lenient_place lenient_lawful

each_kept : (family : AddressFamily) (fs : List Frame) → AllByRecursion IsFrame fs
    → (vs : List LinkAttribute) × Every (lenient_place family).means fs vs
each_kept family [] framed = ([], tt)
each_kept family (f ∷ fs) framed =
    let v = always_kept Attributes.Other (attribute_place family) (attribute_lawful family).agrees f framed.0 in
    let more = each_kept family fs framed.1 in
    (v.0 ∷ more.0, (v.1, more.1))

pub fitting_is_read : FittingIsRead
fitting_is_read h c fs small size frames =
    let family = (header_of h).interface_family in
    let values = each_kept family fs (frames_framed c fs (bytes_right h c small) frames) in (
      record { header = header_of h; attributes = values.0 },
      (h, c, refl, record { size = size; says = refl }, (fs, frames, values.1)),
    )

pub read_leniently : Agrees IsBytes (message_by lenient_place)
read_leniently = agrees_by lenient_place lenient_lawful

by_lenient_reading : (b : List ℕ) → IsBytes b → (r : Result LinkMessage Cause) → read_by lenient_place b ≡ r
    → ((m : LinkMessage) × MeansLeniently b m) ⊎ MeansNoneLeniently b
by_lenient_reading b bytes (Ok m) is = inl (m, read_leniently.found b m bytes is)
by_lenient_reading b bytes (Err c) is =
    inr (λ m means. let clash : Err c ≡ Ok m = sym is ∙ read_leniently.only b m means in absurd cc)

pub means_or_not : (b : List ℕ) → IsBytes b → ((m : LinkMessage) × MeansLeniently b m) ⊎ MeansNoneLeniently b
means_or_not b bytes = by_lenient_reading b bytes (read_by lenient_place b) refl

pub lenient_text : LenientTextMeansTheSame
lenient_text = back_by lenient_place lenient_lawful

pub same_lenient_text : SameLenientTextSameMessage
same_lenient_text a b m n small_a small_b means_a means_b fits_a fits_b ports_a ports_b = (
  λ e. one_lenient (message_text n) m n
      (subst (λ t. MeansLeniently t m) e (lenient_text a m small_a means_a fits_a ports_a))
      (lenient_text b n small_b means_b fits_b ports_b),
  λ e. ap message_text e,
)

pub lenient_twice : LenientTwice
lenient_twice b m n small means fits ports again =
    ap message_text (one_lenient (message_text m) n m again (lenient_text b m small means fits ports))

-- ** the fault

after_frames : (family : AddressFamily) (b : List ℕ) (fs : List Frame) (c : Cause)
    → FirstAfter (lenient_place family) b fs c → Fault b fs c
after_frames family b [] c (inl start) = start
after_frames family b [] c (inr (f, rest, begins, bad)) = absurd bad
after_frames family b (f ∷ fs) c (rest, begins, value, later) =
    (rest, begins, after_frames family rest fs c later)

pub fault_of_frames : (b : List ℕ) (c : Cause) → FaultBy lenient_place b c → LenientFault b c
fault_of_frames b c (inl short) = inl short
fault_of_frames b c (inr (h, d, v, whole, header, (fs, after))) =
    inr (h, d, whole, header.size, (fs, after_frames v.interface_family d fs c after))

pub lenient_fault : (b : List ℕ) → IsBytes b → (r : Result LinkMessage DecodeError)
    → Gives r (read_by lenient_place b) → IfErr r (λ e. e.cause ≢ OutOfMemory → LenientFault b e.cause)
lenient_fault b small (Ok m) gives = tt
lenient_fault b small (Err e) gives = λ other. fault_of_frames b e.cause
    (gives_fault (message_by lenient_place) read_leniently b small (Err e) gives other)

-- ** one frame, by what it is read as strictly

module _ (family : AddressFamily) (f : Frame) where
  -- what is refused weighs what it has
  pub kept_weighs : (r : Result LinkAttribute Cause) (c : Cause) → length f.payload ≤ most_payload → r ≡ Err c
      → Weighs (λ v. (attribute_frame v).payload) AttributeFits (kept_if_bad (Attributes.Other f) r)
      (Some (length f.payload))
  kept_weighs (Ok v) c small is = absurd cc
  kept_weighs (Err d) c small is =
      (other_fits f small, ap (λ (x : Frame). length x.payload) (sym (other_frame f)))

  -- what is read and has no length does not fit
  pub none_weighs : (r : Result LinkAttribute Cause) → IsOk r
      → Weighs (λ v. (attribute_frame v).payload) AttributeFits r None
      → Weighs (λ v. (attribute_frame v).payload) AttributeFits (kept_if_bad (Attributes.Other f) r) None
  none_weighs (Ok v) ok none = none
  none_weighs (Err c) ok none = absurd cc

  pub some_weighs : (r : Result LinkAttribute Cause) (n : ℕ)
      → Weighs (λ v. (attribute_frame v).payload) AttributeFits r (Some n)
      → Weighs (λ v. (attribute_frame v).payload) AttributeFits (kept_if_bad (Attributes.Other f) r) (Some n)
  some_weighs (Ok v) n weighs = weighs
  some_weighs (Err c) n weighs = absurd weighs

  -- room for what is kept, where the strict reading has no length
  pub kept_room : (r : Result LinkAttribute Cause) (room : ℕ)
      → Weighs (λ v. (attribute_frame v).payload) AttributeFits r None
      → HasRoom (λ v. canon (attribute_frame v)) AttributeFits (kept_if_bad (Attributes.Other f) r) room
      → length (canon f) ≤ room
  kept_room (Ok v) room none has = absurd (none has.0)
  kept_room (Err c) room none has = subst (λ x. length (canon x) ≤ room) (other_frame f) has.1

  pub kept_rewrites : (r : Result LinkAttribute Cause) (room : ℕ) (old new : List ℕ) (n : ℕ)
      → Weighs (λ v. (attribute_frame v).payload) AttributeFits r None
      → HasRoom (λ v. canon (attribute_frame v)) AttributeFits (kept_if_bad (Attributes.Other f) r) room
      → Writes (canon f) old new n
      → Rewrites (λ v. canon (attribute_frame v)) (kept_if_bad (Attributes.Other f) r) old new n
  kept_rewrites (Ok v) room old new n none has w = absurd (none has.0)
  kept_rewrites (Err c) room old new n none has w =
      subst (λ x. Writes (canon x) old new n) (sym (other_frame f)) w

  -- the same where it has one
  pub some_room : (r : Result LinkAttribute Cause) (room len : ℕ)
      → Weighs (λ v. (attribute_frame v).payload) AttributeFits r (Some len)
      → HasRoom (λ v. canon (attribute_frame v)) AttributeFits (kept_if_bad (Attributes.Other f) r) room
      → HasRoom (λ v. canon (attribute_frame v)) AttributeFits r room
  some_room (Ok v) room len weighs has = has
  some_room (Err c) room len weighs has = absurd weighs

  pub some_rewrites : (r : Result LinkAttribute Cause) (len : ℕ) (old new : List ℕ) (n : ℕ)
      → Weighs (λ v. (attribute_frame v).payload) AttributeFits r (Some len)
      → Rewrites (λ v. canon (attribute_frame v)) r old new n
      → Rewrites (λ v. canon (attribute_frame v)) (kept_if_bad (Attributes.Other f) r) old new n
  some_rewrites (Ok v) len old new n weighs w = w
  some_rewrites (Err c) len old new n weighs w = absurd weighs

  -- a check has nothing to say
  pub kept_checks : (r : Result LinkAttribute Cause) → IsOk (kept_if_bad (Attributes.Other f) r)
  kept_checks (Ok v) = refl
  kept_checks (Err c) = refl

  -- what was added strictly was added
  pub read_adds : (r : Result LinkAttribute Cause) (old new : List LinkAttribute) → Adds (Ok tt) r old new
      → Adds (Ok tt) (kept_if_bad (Attributes.Other f) r) old new
  read_adds r old new (v, is, added) = (v, ap (kept_if_bad (Attributes.Other f)) is, added)
