-- The state encoding of a lenient canonical encoding is one again, with the same attributes raw.
use Rattle.std.specs.Prelude.{◌↔◌}
use Rattle.std.proofs.Common.{◌≡◌, ℕ, ◌<◌, inl, inr, List, [], ◌∷◌, ◌++◌, length, take, drop, map, refl, sym, ap}
use Rattle.std.proofs.Common.{subst, ◌∙◌, arith, Result, Ok, Err, Bool, true, false, if◌then◌else◌}
use Rattle.std.specs.List.{AllByRecursion}
use Rattle.nla_wire.specs.Frames.{Frame, number, IsBytes, IsFrame}
use Rattle.nla_wire.specs.Grammar.{Every}
use Rattle.nla_wire.specs.declared.error.Cause.{Cause}
use Rattle.link_vals.specs.declared.address_family.AddressFamily.{AddressFamily}
use Rattle.link_msg.specs.Header.{header_size}
use Rattle.link_msg.specs.Tables.{attribute_place, attribute_frame, AttributeFits, NotEmptyPorts, attribute_lawful}
use Rattle.link_msg.specs.Messages.{message_text}
use Rattle.link_msg.specs.Lenient.{lenient_place, HasLenientLength}
use Rattle.link_msg.specs.LenientTable.{lenient_lawful, other_frame, other_fits}
use Rattle.link_msg.specs.declared.attribute.LinkAttribute.{LinkAttribute}
use Rattle.link_msg.specs.declared.attribute.LinkAttribute.TheVariants as Attributes
use Rattle.link_msg.specs.declared.encoding.CanonError.{CanonError}
use Rattle.link_msg.specs.declared.message.LinkMessage.{LinkMessage}
use Rattle.link_msg.proofs.Leniently.{one_lenient}
use Rattle.link_msg.proofs.Stays.{of_accepted}
use Rattle.link_state.specs.Table.{Action, action_of}
use Rattle.link_state.specs.Table.Action.{Keep, Clear, ClearPart, Enter, EnterInfo}
use Rattle.link_state.specs.Cleared.{info_level, payload_by, filled}
use Rattle.link_state.specs.Masks.{mask, stamp}
use Rattle.link_state.specs.State.{level_of, state}
use Rattle.link_state.specs.LenientState.{IsLenientlyCanonical, IsRaw, SameRaw, LenientStateIsCanonical}
use Rattle.link_state.specs.LenientState.{LenientFilledIsCanonical, StrictStateStays, HasLenientStateLength}
use Rattle.link_state.specs.declared.level.Level.{Level}
use Rattle.link_state.specs.declared.level.Level.TheVariants.{Message}
use Rattle.link_state.proofs.Walking.{length-payload_by}
use Rattle.link_state.proofs.Closing.{filled_frame, IsOwn, Becomes, Closes}
use Rattle.link_state.proofs.Masks.{filled_at_its_mask}
use Rattle.link_state.proofs.Payloads.{clear_leaves, part_leaves}
use Rattle.link_state.proofs.Places.{message_closes}
use Rattle.link_state.proofs.BeforeRows.{message_before}
use Rattle.link_state.proofs.States.{IsTextBy, state_by, filled_by, state_is_as_long, has_header}

-- ** bytes that are filled are bytes

one_of : (by x : ℕ) (t : Bool) → by < 256 → x < 256 → (if t then by else x) < 256
one_of by x true h k = h
one_of by x false h k = k

stamped_bytes : (by : ℕ) → by < 256 → (ms : List Bool) (b : List ℕ) → IsBytes b → IsBytes (stamp by ms b)
stamped_bytes by byte [] b small = small
stamped_bytes by byte (m ∷ ms) [] small = tt
stamped_bytes by byte (m ∷ ms) (x ∷ b) small = (one_of by x m byte small.0, stamped_bytes by byte ms b small.1)

filled_list_bytes : (by : ℕ) → by < 256 → (level : Level) (b : List ℕ) → IsBytes b → IsBytes (filled by level b)
filled_list_bytes by byte level b small =
    subst IsBytes (filled_at_its_mask by level b small) (stamped_bytes by byte (mask level b) b small)

filled_payload_bytes : (by : ℕ) → by < 256 → (action : Action) (p : List ℕ) → IsBytes p
    → IsBytes (payload_by by (filled by) action p)
filled_payload_bytes by byte Keep p small = small
filled_payload_bytes by byte Clear p small = clear_leaves by byte p small
filled_payload_bytes by byte (ClearPart from to) p small = part_leaves by byte from to p small
filled_payload_bytes by byte (Enter level) p small = filled_list_bytes by byte level p small
filled_payload_bytes by byte EnterInfo p small = filled_list_bytes by byte (info_level p) p small

-- ** attributes

module _ (by : ℕ) (byte : by < 256) (family : AddressFamily) where
  abbrev Strict : Frame → LinkAttribute → Type 0
  Strict = (attribute_place family).means

  abbrev Bad : Frame → Cause → Type 0
  Bad = (attribute_place family).bad

  abbrev Own : LinkAttribute → Type 0
  Own = IsOwn (lenient_place family) attribute_frame AttributeFits NotEmptyPorts

  abbrev filling : Frame → Frame
  filling = filled_frame by (Message family)

  -- no frame is both read and refused
  apart : (f : Frame) (v : LinkAttribute) (c : Cause) → Strict f v → Bad f c → ⊥
  apart f v c means bad =
      let clash = sym ((attribute_lawful family).agrees.only f v means)
      ∙ (attribute_lawful family).agrees.refused f c bad in
      absurd cc

  -- what is read is read once it is filled, and what is refused stays refused
  strict_own : (v : LinkAttribute) → Own v → Strict (attribute_frame v) v
      → Becomes (attribute_place family) attribute_frame AttributeFits NotEmptyPorts (filling (attribute_frame v))
  strict_own v own means = message_closes by byte family v
      (record { framed = own.framed; means = means; fits = own.fits; good = own.good })

  still_refused : (f : Frame) (c : Cause) → IsFrame f → Bad f c → (w : LinkAttribute) → Strict (filling f) w → ⊥
  still_refused f c one bad w means =
      let before = message_before by family f w one means in apart f before.0 c before.1 bad

  refused_by : (f : Frame) → IsFrame f → (r : Result LinkAttribute Cause) → (attribute_place family).reads f ≡ r
      → ((w : LinkAttribute) → Strict f w → ⊥) → (c : Cause) × Bad f c
  refused_by f one (Ok w) is none = absurd (none w ((attribute_lawful family).agrees.found f w one is))
  refused_by f one (Err c) is none = (c, (attribute_lawful family).agrees.fault f c one is)

  filling_framed : (f : Frame) → IsFrame f → IsFrame (filling f)
  filling_framed f one = record {
    kind = one.kind;
    size = omega (arith, one.size, length-payload_by by (action_of (Message family) (number f)) f.payload);
    bytes = filled_payload_bytes by byte (action_of (Message family) (number f)) f.payload one.bytes;
  }

  kept : (f : Frame) (c : Cause) → IsFrame f → Bad f c
      → Becomes (lenient_place family) attribute_frame AttributeFits NotEmptyPorts (filling f)
  kept f c one bad =
      let g = filling f in
      let framed = filling_framed f one in
      let refused = refused_by g framed ((attribute_place family).reads g) refl (still_refused f c one bad) in
      record {
        value = Attributes.Other g;
        means = inr (
          (refused.0, subst (λ x. Bad x refused.0) (sym (other_frame g)) refused.1),
          ap (λ x. Attributes.Other x) (sym (other_frame g)),
        );
        fits = other_fits g framed.size;
        good = tt;
        frame_is = other_frame g;
      }

  lenient_own : (v : LinkAttribute) → Own v
      → Becomes (lenient_place family) attribute_frame AttributeFits NotEmptyPorts (filling (attribute_frame v))
  lenient_own v own = elim own.means [
    | inl means ↦
        (let to = strict_own v own means in
        record {
          value = to.value;
          means = inl to.means;
          fits = to.fits;
          good = to.good;
          frame_is = to.frame_is;
        })
    | inr raw ↦ kept (attribute_frame v) raw.0.0 own.framed raw.0.1
  ]

  -- ** raw ones

  raw_frame : (v : LinkAttribute) → IsRaw family v → (c : Cause) × Bad (attribute_frame v) c
  raw_frame v (f, c, bad, is) =
      (c, subst (λ x. Bad x c) (sym (ap attribute_frame is ∙ other_frame f)) bad)

  is_raw : (v : LinkAttribute) → (lenient_place family).means (attribute_frame v) v
      → (Strict (attribute_frame v) v → ⊥) → IsRaw family v
  is_raw v (inl means) none = absurd (none means)
  is_raw v (inr ((c, bad), is)) none = (attribute_frame v, c, bad, is)

  same_raw : (v w : LinkAttribute) → Own v → (lenient_place family).means (attribute_frame w) w
      → attribute_frame w ≡ filling (attribute_frame v) → IsRaw family v ↔ IsRaw family w
  same_raw v w own means is = (
    λ raw. is_raw w means (λ strict.
        let old = raw_frame v raw in
        still_refused (attribute_frame v) old.0 own.framed old.1 w (subst (λ x. Strict x w) is strict)),
    λ raw. is_raw v own.means (λ strict.
        let new = raw_frame w raw in
        let to = strict_own v own strict in
        apart (attribute_frame to.value) to.value new.0 to.means
        (subst (λ x. Bad x new.0) (is ∙ sym to.frame_is) new.1)),
  )

  all_raw : (vs ws : List LinkAttribute) → AllByRecursion Own vs
      → Every (lenient_place family).means (map attribute_frame ws) ws
      → map attribute_frame ws ≡ map (λ a. filling (attribute_frame a)) vs → SameRaw family vs ws
  all_raw [] [] own every e = tt
  all_raw [] (w ∷ ws) own every e = absurd (omega (arith, ap (λ (fs : List Frame). length fs) e))
  all_raw (v ∷ vs) [] own every e = absurd (omega (arith, ap (λ (fs : List Frame). length fs) e))
  all_raw (v ∷ vs) (w ∷ ws) own every e =
      let first : attribute_frame w ≡ filling (attribute_frame v) = cc in
      let later : map attribute_frame ws ≡ map (λ a. filling (attribute_frame a)) vs = cc in
      (same_raw v w own.0 every.0 first, all_raw vs ws own.1 every.1 later)

-- each attribute that is read leniently is read so once it is filled
lenient_closes : (by : ℕ) → by < 256 → (family : AddressFamily)
    → Closes (lenient_place family) attribute_frame AttributeFits NotEmptyPorts by (Message family)
lenient_closes by byte family v own = lenient_own by byte family v own

-- ** messages

lenient_is_text : (t : List ℕ) (m : LinkMessage) → IsLenientlyCanonical t m → IsTextBy lenient_place t m
lenient_is_text t m own = record {
  means = own.accepted.means;
  fits = own.accepted.fits;
  ports = own.accepted.ports;
  text = own.text;
}

is_lenient : (t : List ℕ) (m : LinkMessage) → IsTextBy lenient_place t m → IsLenientlyCanonical t m
is_lenient t m own =
    record { accepted = record { means = own.means; fits = own.fits; ports = own.ports }; text = own.text }

pub lenient_state_is_canonical : LenientStateIsCanonical
lenient_state_is_canonical t m small own =
    let family = m.header.interface_family in
    let made = state_by lenient_place lenient_lawful lenient_closes t m small (lenient_is_text t m own) in (
      made.message,
      is_lenient (state t) made.message made.is_text,
      all_raw 0 (omega arith) family m.attributes made.message.attributes made.own made.every made.frames_are,
    )

pub lenient_filled_is_canonical : LenientFilledIsCanonical
lenient_filled_is_canonical by t m byte small own =
    let family = m.header.interface_family in
    let made = filled_by lenient_place lenient_lawful lenient_closes by t m byte small (lenient_is_text t m own) in (
      made.message,
      made.header_is,
      is_lenient (take header_size t ++ filled by (level_of t) (drop header_size t)) made.message made.is_text,
      all_raw by byte family m.attributes made.message.attributes made.own made.every made.frames_are,
    )

pub strict_state_stays : StrictStateStays
strict_state_stays b s t h k =
    let same = one_lenient b h.message k.message (of_accepted b h.message h.accepted).means k.accepted.means in
    h.text ∙ ap (λ (m : LinkMessage). state (message_text m)) same ∙ sym k.text

-- the state is as long as the encoding
pub state_length : (b : List ℕ) (r : Result ℕ CanonError) → HasLenientLength b r → HasLenientStateLength b r
state_length b (Ok n) (m, accepted, is) = (m, accepted, is ∙ sym (state_is_as_long (message_text m) (has_header m)))
state_length b (Err e) h = h
