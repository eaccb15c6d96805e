-- The state encoding of canonical encoding is canonical.
use Rattle.std.proofs.Common.{◌≡◌, ℕ, ◌≤◌, ◌<◌, List, ◌++◌, length, take, drop, map, refl, sym, ap, subst}
use Rattle.std.proofs.Common.{◌∙◌, ap₂, arith, take_at, drop_at, replicate}
use Rattle.std.specs.Prelude.{slice_index}
use Rattle.std.proofs.lemmas.List.{length-append, length-take, length-drop, length-replicate}
use Rattle.std.specs.List.{AllByRecursion}
use Rattle.nla_wire.specs.Sizes.{growth, attribute_small}
use Rattle.nla_wire.specs.Frames.{Frame, IsBytes}
use Rattle.nla_wire.specs.Grammar.{Grammar, Every, list}
use Rattle.nla_wire.proofs.Lawful.{LawfulPlace}
use Rattle.nla_wire.specs.Fields.{number_at}
use Rattle.nla_wire.specs.Canon.{canons}
use Rattle.nla_wire.proofs.Steps.{bytes_left, bytes_right}
use Rattle.link_vals.specs.declared.address_family.AddressFamily.{AddressFamily}
use Rattle.link_vals.specs.AddressFamilyTable.{address_family_of, address_family_number}
use Rattle.link_vals.proofs.Numbers.{address_family_again}
use Rattle.link_msg.specs.Header.{header_size, header_of, header_bytes, IsHeader}
use Rattle.link_msg.specs.Tables.{attribute_place, attribute_frame, AttributeFits, NotEmptyPorts, attribute_lawful}
use Rattle.link_msg.specs.Tables.{attribute_count}
use Rattle.link_msg.specs.Messages.{message_text, MessageFits, NoEmptyPorts}
use Rattle.link_msg.specs.Lenient.{MeansBy}
use Rattle.link_msg.specs.declared.attribute.LinkAttribute.{LinkAttribute}
use Rattle.link_msg.specs.declared.header.LinkHeader.{LinkHeader}
use Rattle.link_msg.specs.declared.message.LinkMessage.{LinkMessage}
use Rattle.link_msg.proofs.Messaging.{header_length}
use Rattle.link_msg.proofs.HeaderBack.{header_back}
use Rattle.link_state.specs.Cleared.{filled, cleared}
use Rattle.link_state.specs.State.{change_mask_at, level_of, state}
use Rattle.link_state.specs.Laws.{IsCanonical, StateIsCanonical, StateIsAsLong, FilledIsCanonical}
use Rattle.link_state.specs.Still.{StateMeansStill, no_changes}
use Rattle.link_state.specs.declared.level.Level.TheVariants.{Message}
use Rattle.link_state.proofs.Walking.{length-filled}
use Rattle.link_state.proofs.Closing.{filled_frame, IsOwn, Closes}
use Rattle.link_state.proofs.Payloads.{list_closes}
use Rattle.link_state.proofs.Places.{message_closes}

pub state_is_as_long : StateIsAsLong
state_is_as_long t long = omega (
  arith,
  long,
  length-append (take change_mask_at t ++ replicate 4 0) (cleared (level_of t) (drop header_size t)),
  length-append (take change_mask_at t) (replicate 4 0),
  length-replicate {A = ℕ} 4 0,
  length-filled 0 (level_of t) (drop header_size t),
  length-take change_mask_at t,
  length-drop header_size t,
)

-- ** the header

pub no_changes_bytes : (v : LinkHeader) (rest : List ℕ)
    → take change_mask_at (header_bytes v ++ rest) ++ replicate 4 0 ≡ header_bytes (no_changes v)
unfolding header_bytes
no_changes_bytes v rest = refl

no_changes_says : (v : LinkHeader) → header_of (header_bytes (no_changes v)) ≡ no_changes (header_of (header_bytes v))
unfolding header_bytes header_of number_at
no_changes_says v = refl

no_changes_back : (v : LinkHeader) → IsHeader (header_bytes v) v
    → IsHeader (header_bytes (no_changes v)) (no_changes v)
no_changes_back v is = record {
  size = header_length (no_changes v);
  says = ap no_changes is.says ∙ sym (no_changes_says v);
}

pub first_byte : (v : LinkHeader) (rest : List ℕ)
    → slice_index (header_bytes v ++ rest) 0 ≡ address_family_number v.interface_family
unfolding header_bytes
first_byte v rest = refl

-- a header's family is that of its number
pub family_again : (h : List ℕ) (v : LinkHeader) → IsHeader h v
    → address_family_of (address_family_number v.interface_family) ≡ v.interface_family
unfolding header_of
family_again h v is =
    let says : v.interface_family ≡ address_family_of (slice_index h 0) =
    ap (λ (x : LinkHeader). x.interface_family) is.says in
    ap (λ x. address_family_of (address_family_number x)) says
    ∙ ap address_family_of (address_family_again (slice_index h 0))
    ∙ sym says

-- ** the message

-- t is the text of m, which it means by this table, which fits and holds no empty list of ports
pub record IsTextBy (place : AddressFamily → Grammar Frame LinkAttribute) (t : List ℕ) (m : LinkMessage) : Type 0 where
  pub means : MeansBy place t m
  pub fits : MessageFits m
  pub ports : NoEmptyPorts m
  pub text : t ≡ message_text m

-- the header of such a text
pub own_header : (place : AddressFamily → Grammar Frame LinkAttribute) (t : List ℕ) (m : LinkMessage) → IsBytes t
    → IsTextBy place t m → IsHeader (header_bytes m.header) m.header
own_header place t m small own =
    header_back own.means.0 m.header (bytes_left own.means.0 own.means.1 (subst IsBytes own.means.2 small)) own.means.3

-- another message, of which the frames are filled
pub record FilledFrom (place : AddressFamily → Grammar Frame LinkAttribute) (by : ℕ) (m : LinkMessage) (v : LinkHeader)
    (t : List ℕ) : Type 0 where
  pub message : LinkMessage
  pub header_is : message.header ≡ v
  pub is_text : IsTextBy place t message
  pub own : AllByRecursion (IsOwn (place m.header.interface_family) attribute_frame AttributeFits NotEmptyPorts)
      m.attributes
  pub every : Every (place m.header.interface_family).means (map attribute_frame message.attributes) message.attributes
  pub frames_are : map attribute_frame message.attributes
      ≡ map (λ a. filled_frame by (Message m.header.interface_family) (attribute_frame a)) m.attributes

module _ (place : AddressFamily → Grammar Frame LinkAttribute)
    (lawful : (f : AddressFamily) → LawfulPlace (place f) attribute_frame AttributeFits NotEmptyPorts attribute_count
    growth 0 attribute_small)
    (closes : (by : ℕ) → by < 256 → (f : AddressFamily)
    → Closes (place f) attribute_frame AttributeFits NotEmptyPorts by (Message f)) where
  -- under another header of the same family
  with_header : (by : ℕ) → by < 256 → (t : List ℕ) (m : LinkMessage) → IsBytes t → IsTextBy place t m
      → (v : LinkHeader) → v.interface_family ≡ m.header.interface_family → IsHeader (header_bytes v) v
      → FilledFrom place by m v (header_bytes v ++ filled by (level_of t) (drop header_size t))
  with_header by byte t m small own v family_is header =
      let vs = m.attributes in
      let family = m.header.interface_family in
      let text = canons attribute_frame vs in
      let means = own.means in
      let c = means.1 in
      let c_is : drop header_size t ≡ c =
      ap (drop header_size) means.2 ∙ drop_at means.0 c header_size means.3.size in
      let text_is : drop header_size t ≡ text =
      ap (drop header_size) own.text ∙ drop_at (header_bytes m.header) text header_size (header_length m.header) in
      let small_text : IsBytes text = bytes_right (header_bytes m.header) text (subst IsBytes own.text small) in
      let level_is : level_of t ≡ Message family =
      ap level_of own.text
      ∙ ap (λ n. Message (address_family_of n)) (first_byte m.header text)
      ∙ ap Message (family_again means.0 m.header means.3) in
      let list_means : (list (place family)).means text vs =
      subst (λ x. (list (place family)).means x vs) (sym c_is ∙ text_is) means.4 in
      let to = list_closes (place family) attribute_frame AttributeFits NotEmptyPorts
      (lawful family).writable by (Message family) (closes by byte family) vs small_text list_means
      own.fits.0 own.ports in
      let n : LinkMessage = record { header = v; attributes = to.values } in
      let same : header_bytes v ++ filled by (level_of t) (drop header_size t) ≡ message_text n =
      ap₂ (λ l x. header_bytes v ++ filled by l x) level_is text_is
      ∙ ap (λ x. header_bytes v ++ x) (sym to.text_is) in
      record {
        message = n;
        header_is = refl;
        is_text = record {
          means = (
            header_bytes v,
            canons attribute_frame to.values,
            same,
            header,
            subst (λ f. (list (place f)).means (canons attribute_frame to.values) to.values)
                (sym family_is) to.means,
          );
          fits = (
            to.fits,
            omega (
              arith,
              own.fits.1,
              length-append (header_bytes v) (canons attribute_frame to.values),
              length-append (header_bytes m.header) text,
              header_length v,
              header_length m.header,
              ap (λ (b : List ℕ). length b) to.text_is,
              length-filled by (Message family) text,
            ),
          );
          ports = to.good;
          text = same;
        };
        own = to.own;
        every = to.every;
        frames_are = to.frames_are;
      }

  -- the state encoding
  pub state_by : (t : List ℕ) (m : LinkMessage) → IsBytes t → IsTextBy place t m
      → FilledFrom place 0 m (no_changes m.header) (state t)
  state_by t m small own =
      let v = m.header in
      let made = with_header 0 (omega arith) t m small own (no_changes v) refl
      (no_changes_back v (own_header place t m small own)) in
      let front : take change_mask_at t ++ replicate 4 0 ≡ header_bytes (no_changes v) =
      ap (λ x. take change_mask_at x ++ replicate 4 0) own.text
      ∙ no_changes_bytes v (canons attribute_frame m.attributes) in
      subst (λ a. FilledFrom place 0 m (no_changes v) (a ++ cleared (level_of t) (drop header_size t))) (sym front) made

  -- filled by another byte
  pub filled_by : (by : ℕ) (t : List ℕ) (m : LinkMessage) → by < 256 → IsBytes t → IsTextBy place t m
      → FilledFrom place by m m.header (take header_size t ++ filled by (level_of t) (drop header_size t))
  filled_by by t m byte small own =
      let v = m.header in
      let made = with_header by byte t m small own v refl (own_header place t m small own) in
      let front : take header_size t ≡ header_bytes v =
      ap (take header_size) own.text
      ∙ take_at (header_bytes v) (canons attribute_frame m.attributes) header_size (header_length v) in
      subst (λ a. FilledFrom place by m v (a ++ filled by (level_of t) (drop header_size t))) (sym front) made

-- ** what is read strictly

strict_text : (t : List ℕ) (m : LinkMessage) → IsCanonical t m → IsTextBy attribute_place t m
strict_text t m own = record {
  means = own.accepted.means;
  fits = own.accepted.fits;
  ports = own.accepted.ports;
  text = own.text;
}

is_canonical : (t : List ℕ) (m : LinkMessage) → IsTextBy attribute_place t m → IsCanonical t m
is_canonical t m own =
    record { accepted = record { means = own.means; fits = own.fits; ports = own.ports }; text = own.text }

pub state_is_canonical : StateIsCanonical
state_is_canonical t m small own =
    let made = state_by attribute_place attribute_lawful message_closes t m small (strict_text t m own) in
    (made.message, is_canonical (state t) made.message made.is_text)

pub state_means_still : StateMeansStill
state_means_still t m small own =
    let made = state_by attribute_place attribute_lawful message_closes t m small (strict_text t m own) in (
      made.message,
      is_canonical (state t) made.message made.is_text,
      record { header = made.header_is; attributes = made.frames_are },
    )

pub filled_is_canonical : FilledIsCanonical
filled_is_canonical by t m byte small own =
    let made = filled_by attribute_place attribute_lawful message_closes by t m byte small (strict_text t m own) in (
      made.message,
      made.header_is,
      is_canonical (take header_size t ++ filled by (level_of t) (drop header_size t)) made.message made.is_text,
    )

-- ** in place

pub has_header : (m : LinkMessage) → header_size ≤ length (message_text m)
has_header m = omega (
  arith,
  length-append (header_bytes m.header) (canons attribute_frame m.attributes),
  header_length m.header,
)
