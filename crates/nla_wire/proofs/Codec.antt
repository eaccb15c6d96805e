-- A type of payload with all that is proved of it, in one record: how bytes are read as a value, how the value is
-- written, what is inside of it, and within which bounds that stays. A place is the same of frames.
use Rattle.std.proofs.Common.{◌≡◌, ℕ, ℤ, ◌+◌, ◌*◌, ◌/◌, ◌^◌, ◌<◌, ◌≤◌, ◌-◌, Bool, true, false, List, [], ◌∷◌, ◌++◌}
use Rattle.std.proofs.Common.{length, refl, sym, ap, subst, ◌∙◌, arith, lit<, lit≤, leb-true, leb-false}
use Rattle.std.proofs.Common.{mul-le-mul_left, mul-le-mul_right, mul_comm, div-mul-le_self}
use Rattle.std.specs.Prelude.{Option, None, Some, if◌then◌else◌, nat_le}
use lib.Dec.{T, leb}
use mir.Val.{bits}
use Rattle.std.specs.Int.{Width, w8, w16, w32, w64, to_le_bytes, cast_signed, cast_unsigned}
use Rattle.std.specs.List.{AllByRecursion}
use Rattle.std.specs.Net.Addr.{segments_of, octets_of, ipv6_octets}
use Rattle.std.specs.declared.net.ipv6_addr.Ipv6Addr.{Ipv6Addr}
use Rattle.nla_wire.specs.Sizes.{most_payload, plain_growth, growth}
use Rattle.nla_wire.specs.Frames.{Frame, number, IsBytes, missing}
use Rattle.nla_wire.specs.Grammar.{Grammar, as_a, list, not_empty, picked, by_payload}
use Rattle.nla_wire.specs.Payloads as payload
use Rattle.nla_wire.specs.Canon.{canon, canons, AllFit, total}
use Rattle.nla_wire.specs.Records.{RecordLaws}
use Rattle.nla_wire.specs.PlaceLaws.{ReadsBack, ListReadsBack, ListsBounded}
use Rattle.nla_wire.proofs.Agreement.{as_agrees, exactly_agrees}
use Rattle.nla_wire.proofs.Memory.{memory_exactly}
use Rattle.nla_wire.proofs.Canonical.{octets_again}
use Rattle.nla_wire.proofs.Lawful.{LawfulPayload, LawfulPlace, always, none, as_lawful, wrapped_lawful, list_lawful}
use Rattle.nla_wire.proofs.Lawful.{some_lawful, picked_lawful, some_picked_lawful, encoding_bounded, bytes_lawful}
use Rattle.nla_wire.proofs.Lawful.{text_lawful, number_lawful, signed_lawful, enum_lawful, sized_record_lawful}
use Rattle.nla_wire.proofs.Lawful.{filled_record_lawful}
use Rattle.nla_wire.proofs.FieldLemmas.{signed_number_again, from_le_bytes_below}
use Rattle.nla_wire.proofs.PlaceLaws.{all_always, place_reads_back, list_reads_back, lists_bounded}

-- values of which only those with `Good` are read back from their encoding
pub record CodecWhere (A : Type 0) (Good : A → Type 0) : Type 1 where
  pub grammar : Grammar (List ℕ) A
  pub encoding : A → List ℕ
  -- what is inside fits
  pub Inside : A → Type 0
  -- how many values are inside
  pub count : A → ℕ
  -- the encoding has at most so many bytes for each whole four that were read, the header among them, and so many fewer
  pub factor : ℕ
  pub fewer : ℕ
  -- what was read from so few bytes fits
  pub enough : ℕ
  pub lawful : LawfulPayload grammar encoding Inside Good count factor fewer enough
  -- where nothing is inside that might not fit
  pub sure : Option ((a : A) → Inside a)

abbrev pub Codec : Type 0 → Type 1
Codec A = CodecWhere A always

-- a test that computes
pub truth : (a : Bool) → T a → a ≡ true
truth true h = refl
truth false h = absurd h

pub computed_le : {a b : ℕ} → T (nat_le a b) → a ≤ b
computed_le {a} {b} h = leb-true a b (truth _ h)

-- some codec, and whether its attributes have NLA_F_NESTED
pub record Any : Type 1 where
  pub A : Type 0
  pub Good : A → Type 0
  pub codec : CodecWhere A Good
  pub flags : Bool

abbrev pub any : {A : Type 0} {Good : A → Type 0} → CodecWhere A Good → Any
any {A} {Good} c = record { A = A; Good = Good; codec = c; flags = false }

abbrev pub nested : {A : Type 0} {Good : A → Type 0} → CodecWhere A Good → Any
nested {A} {Good} c = record { A = A; Good = Good; codec = c; flags = true }

-- a number with its flags
abbrev pub kind_of : Bool → ℕ → ℕ
kind_of false n = n
kind_of true n = n + 32768

pub record Place (V : Type 0) : Type 1 where
  pub grammar : Grammar Frame V
  pub frame : V → Frame
  pub Fits : V → Type 0
  pub count : V → ℕ
  pub factor : ℕ
  pub fewer : ℕ
  -- a frame that is kept takes `plain_growth`, and nothing takes more than `growth`
  pub spare : plain_growth + fewer ≤ factor
  pub within : factor ≤ growth
  pub enough : ℕ
  pub is_small : (v : V) → Fits v → length (frame v).payload ≤ most_payload
  -- whether nothing is inside of any value: then what is small fits
  pub is_flat : Bool
  pub when_small : T is_flat → (v : V) → length (frame v).payload ≤ most_payload → Fits v
  -- frames that are kept as they are
  pub Foreign : Frame → Type 0
  pub kept : (f : Frame) (v : V) → Foreign f → grammar.means f v → frame v ≡ f
  pub lawful : LawfulPlace grammar frame Fits always count factor fewer enough

-- ** payloads with nothing inside

abbrev pub flat : {A : Type 0} (g : Grammar (List ℕ) A) (encoding : A → List ℕ) (enough : ℕ)
    → LawfulPayload g encoding always always none plain_growth 0 enough → Codec A
flat g encoding enough h = record {
  grammar = g;
  encoding = encoding;
  Inside = always;
  count = none;
  factor = plain_growth;
  fewer = 0;
  enough = enough;
  lawful = h;
  sure = Some (λ a. tt);
}

abbrev pub bytes : Codec (List ℕ)
bytes = flat payload.bytes (λ p. p) most_payload (bytes_lawful most_payload (lit≤ tt))

-- a text is written with one NUL after it
abbrev pub text : Codec (List ℕ)
text = flat payload.text (λ s. s ++ 0 ∷ []) 65530 (text_lawful 65530 (lit< tt))

abbrev pub number_of : Width → Codec ℕ
number_of w = flat (payload.number_of w) (to_le_bytes w) most_payload (number_lawful w most_payload)

abbrev pub u8 : Codec ℕ
u8 = number_of w8

abbrev pub u16 : Codec ℕ
u16 = number_of w16

abbrev pub u32 : Codec ℕ
u32 = number_of w32

abbrev pub u64 : Codec ℕ
u64 = number_of w64

abbrev pub i32 : Codec ℤ
i32 = flat (payload.signed_of w32) (λ z. to_le_bytes w32 (cast_unsigned w32 z)) most_payload
    (signed_lawful w32 most_payload)

-- a number that was read as a signed one is written as it was
pub signed_same : (w : Width) (p : List ℕ) (x : ℕ) → IsBytes p → (payload.number_of w).means p x
    → to_le_bytes w (cast_unsigned w (cast_signed w x)) ≡ to_le_bytes w x
signed_same w p x small means =
    let below : x < 2 ^ bits w = subst (λ y. y < 2 ^ bits w) (sym means.1) (from_le_bytes_below w p small) in
    ap (to_le_bytes w) (signed_number_again w x below)

-- the values that stand for the numbers of a width, each of which is the number of its value
abbrev pub enum : {A : Type 0} (w : Width) (of : ℕ → A) (num : A → ℕ) → ((x : ℕ) → num (of x) ≡ x) → Codec A
enum w of num again = flat (as_a of (payload.number_of w)) (λ a. to_le_bytes w (num a)) most_payload
    (enum_lawful w of num most_payload again)

-- a record that is refused where the payload is short
abbrev pub sized : {A : Type 0} (size : ℕ) (of : List ℕ → A) (encoding : A → List ℕ)
    → ((p : List ℕ) → length (encoding (of p)) ≡ size)
    → ((p : List ℕ) → IsBytes p → of (encoding (of p)) ≡ of p)
    → size ≤ most_payload
    → Codec A
sized size of encoding sized_as again short =
    flat (payload.sized size of) encoding most_payload
    (sized_record_lawful size most_payload of encoding sized_as again short)

-- a record that is filled up with zeros where the payload is short
abbrev pub filled : {A : Type 0} (size : ℕ) (of : List ℕ → A) (encoding : A → List ℕ)
    → ((p : List ℕ) → length (encoding (of p)) ≡ size)
    → ((p : List ℕ) → IsBytes p → of (encoding (of p)) ≡ of p)
    → size ≤ most_payload
    → Codec A
filled size of encoding sized_as again short = record {
  grammar = payload.filled of;
  encoding = encoding;
  Inside = always;
  count = none;
  factor = 4 + size + missing size;
  fewer = 0;
  enough = most_payload;
  lawful = filled_record_lawful size most_payload of encoding sized_as again short;
  sure = Some (λ a. tt);
}

-- the same of a record with its laws
abbrev pub sized_record : {A : Type 0} {size : ℕ} {of : List ℕ → A} {encoding : A → List ℕ}
    → RecordLaws size of encoding
    → size ≤ most_payload → Codec A
sized_record {A} {size} {of} {encoding} laws short = sized size of encoding laws.sized laws.again short

abbrev pub filled_record : {A : Type 0} {size : ℕ} {of : List ℕ → A} {encoding : A → List ℕ}
    → RecordLaws size of encoding
    → size ≤ most_payload → Codec A
filled_record {A} {size} {of} {encoding} laws short = filled size of encoding laws.sized laws.again short

-- no more octets than were read
octets_short : (p : List ℕ) → length (octets_of (segments_of p)) ≤ length p
octets_short [] = omega arith
octets_short (a ∷ []) = omega arith
octets_short (a ∷ b ∷ p) = omega (arith, octets_short p)

address_short : (p : List ℕ) (a : Ipv6Addr) → payload.ipv6_address.means p a → length (ipv6_octets a) ≤ 16
address_short p a means =
    omega (arith, ap (λ b. length (ipv6_octets b)) means.2, octets_short means.0, ap length means.1.1, means.1.0)

address_again : (p : List ℕ) (a : Ipv6Addr) → IsBytes p → payload.ipv6_address.means p a → ipv6_octets a ≡ p
address_again p a small means =
    ap ipv6_octets means.2
    ∙ ap (λ (octets : List ℕ). octets_of (segments_of octets)) means.1.1
    ∙ octets_again p (omega (arith, means.1.0)) small

pub address_lawful : LawfulPayload payload.ipv6_address ipv6_octets always always none plain_growth 0 most_payload
address_lawful = record {
  agrees = as_agrees IsBytes payload.address_of_octets (payload.exactly 16) (exactly_agrees 16);
  no_memory = memory_exactly 16;
  back = λ p a small means fits good.
      subst (λ (octets : List ℕ). payload.ipv6_address.means octets a) (sym (address_again p a small means)) means;
  counted = λ p a means. omega arith;
  bounded = λ p a means. omega (arith, address_short p a means, means.1.0);
  small = λ p a short small means. (omega (arith, address_short p a means), tt);
}

-- an IPv6 address, its sixteen octets in order
abbrev pub address : Codec Ipv6Addr
address = flat payload.ipv6_address ipv6_octets most_payload address_lawful

-- ** lists of a place

abbrev pub least : ℕ → ℕ → ℕ
least a b = if leb a b then a else b

least_below : (a b : ℕ) (t : Bool) → leb a b ≡ t → ((if t then a else b) ≤ a) × ((if t then a else b) ≤ b)
least_below a b true e = (omega arith, leb-true a b e)
least_below a b false e = (omega (arith, leb-false a b e), omega arith)

-- what was read from so few bytes as a list fits
abbrev pub list_enough : ℕ → ℕ → ℕ → ℕ
list_enough factor fewer enough = least (enough + 4) (4 * ((most_payload + fewer) / factor) + 3)

enough_below : (factor fewer enough : ℕ) → factor * (list_enough factor fewer enough / 4) ≤ most_payload + fewer
enough_below factor fewer enough =
    let quarter : list_enough factor fewer enough / 4 ≤ (most_payload + fewer) / factor =
    omega (arith, (least_below (enough + 4) (4 * ((most_payload + fewer) / factor) + 3) _ refl).1) in
    omega (
      arith,
      mul-le-mul_left factor quarter,
      div-mul-le_self (most_payload + fewer) factor,
      mul_comm ((most_payload + fewer) / factor) factor,
    )

-- where nothing is asked of members, nothing is asked of the list
unasked : {V : Type 0} {g : Grammar (List ℕ) (List V)} {encoding : List V → List ℕ} {Fits : List V → Type 0}
    {count : List V → ℕ} {k e n : ℕ}
    → LawfulPayload g encoding Fits (AllByRecursion always) count k e n
    → LawfulPayload g encoding Fits always count k e n
unasked h = record {
  agrees = h.agrees;
  no_memory = h.no_memory;
  back = λ p vs small means fits good. h.back p vs small means fits (all_always vs);
  counted = h.counted;
  bounded = h.bounded;
  small = h.small;
}

abbrev pub listed : {V : Type 0} {Good : List V → Type 0} (p : Place V) (g : Grammar (List ℕ) (List V))
    → LawfulPayload g (canons p.frame) (AllFit p.Fits p.frame) Good (total p.count) p.factor (p.factor - plain_growth)
    (list_enough p.factor p.fewer p.enough) → CodecWhere (List V) Good
listed p g h = record {
  grammar = g;
  encoding = canons p.frame;
  Inside = AllFit p.Fits p.frame;
  count = total p.count;
  factor = p.factor;
  fewer = p.factor - plain_growth;
  enough = list_enough p.factor p.fewer p.enough;
  lawful = h;
  sure = None;
}

module _ {V : Type 0} (p : Place V) where
  pub list_of_lawful : LawfulPayload (list p.grammar) (canons p.frame) (AllFit p.Fits p.frame) always
      (total p.count) p.factor (p.factor - plain_growth) (list_enough p.factor p.fewer p.enough)
  list_of_lawful = unasked (list_lawful p.grammar p.frame p.Fits always p.count p.factor p.fewer p.enough p.lawful
      (p.factor - plain_growth) (list_enough p.factor p.fewer p.enough)
      (omega (arith, p.spare)) ((least_below (p.enough + 4) (4 * ((most_payload + p.fewer) / p.factor) + 3) _ refl).0)
      (enough_below p.factor p.fewer p.enough))

  pub some_of_lawful : LawfulPayload (not_empty (list p.grammar)) (canons p.frame) (AllFit p.Fits p.frame) always
      (total p.count) p.factor (p.factor - plain_growth) (list_enough p.factor p.fewer p.enough)
  some_of_lawful = unasked (some_lawful p.grammar p.frame p.Fits always p.count p.factor p.fewer p.enough p.lawful
      (p.factor - plain_growth) (list_enough p.factor p.fewer p.enough)
      (omega (arith, p.spare)) ((least_below (p.enough + 4) (4 * ((most_payload + p.fewer) / p.factor) + 3) _ refl).0)
      (enough_below p.factor p.fewer p.enough))

  -- members with another number than 1 dropped
  pub picked_of_lawful : ((v : V) → number (p.frame v) ≡ 1)
      → LawfulPayload (picked p.grammar) (canons p.frame) (AllFit p.Fits p.frame) always (total p.count) p.factor
      (p.factor - plain_growth) (list_enough p.factor p.fewer p.enough)
  picked_of_lawful ones = unasked (picked_lawful p.grammar p.frame p.Fits always
      p.count p.factor p.fewer p.enough p.lawful (p.factor - plain_growth) (list_enough p.factor p.fewer p.enough)
      (omega (arith, p.spare)) ((least_below (p.enough + 4) (4 * ((most_payload + p.fewer) / p.factor) + 3) _ refl).0)
      (enough_below p.factor p.fewer p.enough) ones)

  pub some_picked_of_lawful : ((v : V) → number (p.frame v) ≡ 1)
      → LawfulPayload (not_empty (picked p.grammar)) (canons p.frame) (AllFit p.Fits p.frame)
      (λ vs. (0 < length vs) × AllByRecursion always vs) (total p.count) p.factor (p.factor - plain_growth)
      (list_enough p.factor p.fewer p.enough)
  some_picked_of_lawful ones = some_picked_lawful p.grammar p.frame p.Fits always
      p.count p.factor p.fewer p.enough p.lawful (p.factor - plain_growth) (list_enough p.factor p.fewer p.enough)
      (omega (arith, p.spare)) ((least_below (p.enough + 4) (4 * ((most_payload + p.fewer) / p.factor) + 3) _ refl).0)
      (enough_below p.factor p.fewer p.enough) ones

-- a list of members of the place
abbrev pub list_of : {V : Type 0} → Place V → Codec (List V)
list_of p = listed p (list p.grammar) (list_of_lawful p)

-- the same, where the empty payload is refused
abbrev pub some_of : {V : Type 0} → Place V → Codec (List V)
some_of p = listed p (not_empty (list p.grammar)) (some_of_lawful p)

-- members with another number than 1 are dropped unread
abbrev pub picked_of : {V : Type 0} (p : Place V) → ((v : V) → number (p.frame v) ≡ 1) → Codec (List V)
picked_of p ones = listed p (picked p.grammar) (picked_of_lawful p ones)

-- the same, where the empty payload is refused: an encoding of no members would be
abbrev pub some_picked_of : {V : Type 0} (p : Place V) → ((v : V) → number (p.frame v) ≡ 1)
    → CodecWhere (List V) (λ vs. (0 < length vs) × AllByRecursion always vs)
some_picked_of p ones = listed p (not_empty (picked p.grammar)) (some_picked_of_lawful p ones)

-- ** a newtype around a value

module _ {A B : Type 0} (wrap : A → B) (inner : B → A) (c : Codec A) (same : (a : A) → inner (wrap a) ≡ a) where
  pub as_codec_lawful : LawfulPayload (as_a wrap c.grammar) (λ b. c.encoding (inner b)) (λ b. c.Inside (inner b)) always
      (λ b. c.count (inner b)) c.factor c.fewer c.enough
  as_codec_lawful = as_lawful wrap c.grammar c.encoding c.Inside always c.count c.factor c.fewer c.enough c.lawful
      (λ b. c.encoding (inner b)) (λ b. c.Inside (inner b)) always (λ b. c.count (inner b))
      (λ a. ap c.encoding (same a)) (λ a. ap c.count (same a))
      (λ a inside. subst c.Inside (same a) inside) (λ a inside. subst c.Inside (sym (same a)) inside) (λ a good. tt)

  pub place_of_lawful : (kind : ℕ) → kind < 2 ^ 16
      → LawfulPlace (by_payload (as_a wrap c.grammar)) (λ b. record { kind = kind; payload = c.encoding (inner b) })
      (λ b. (length (c.encoding (inner b)) ≤ most_payload) × c.Inside (inner b)) always
      (λ b. 1 + c.count (inner b)) c.factor c.fewer c.enough
  place_of_lawful kind small =
      wrapped_lawful wrap c.grammar c.encoding c.Inside always c.count c.factor c.fewer c.enough c.lawful
      kind (λ b. record { kind = kind; payload = c.encoding (inner b) })
      (λ b. (length (c.encoding (inner b)) ≤ most_payload) × c.Inside (inner b)) always (λ b. 1 + c.count (inner b))
      small
      (λ a. ap (λ x. record { kind = kind; payload = c.encoding x }) (same a)) (λ a. ap (λ x. 1 + c.count x) (same a))
      (λ a fits. (subst (λ x. length (c.encoding x) ≤ most_payload) (same a) fits.0, subst c.Inside (same a) fits.1))
      (λ a short inside. (
        subst (λ x. length (c.encoding x) ≤ most_payload) (sym (same a)) short,
        subst c.Inside (sym (same a)) inside,
      )) (λ a good. tt)

  abbrev pub as_codec : Codec B
  as_codec = record {
    grammar = as_a wrap c.grammar;
    encoding = λ b. c.encoding (inner b);
    Inside = λ b. c.Inside (inner b);
    count = λ b. c.count (inner b);
    factor = c.factor;
    fewer = c.fewer;
    enough = c.enough;
    lawful = as_codec_lawful;
    sure = None;
  }

  -- each frame is read by its payload, and written with one kind
  abbrev pub place_of : (kind : ℕ) → kind < 2 ^ 16 → T (nat_le (plain_growth + c.fewer) c.factor)
      → T (nat_le c.factor growth) → Place B
  place_of kind small spare within = record {
    grammar = by_payload (as_a wrap c.grammar);
    frame = λ b. record { kind = kind; payload = c.encoding (inner b) };
    Fits = λ b. (length (c.encoding (inner b)) ≤ most_payload) × c.Inside (inner b);
    count = λ b. 1 + c.count (inner b);
    factor = c.factor;
    fewer = c.fewer;
    spare = computed_le spare;
    within = computed_le within;
    enough = c.enough;
    is_small = λ b fits. fits.0;
    is_flat = false;
    when_small = λ h. absurd h;
    Foreign = λ f. ⊥;
    kept = λ f v foreign means. absurd foreign;
    lawful = place_of_lawful kind small;
  }

-- ** what a caller may rest on

-- a frame that no line accepts is kept as it is: kind, both flag bits and payload come back
abbrev pub ForeignKept : {V : Type 0} → Place V → Type 0
ForeignKept {V} p = (f : Frame) (v : V) → p.Foreign f → p.grammar.means f v → p.frame v ≡ f

-- values that fit are read back, lists are so bounded, and what no line accepts is kept
abbrev pub IsLawful : {V : Type 0} → ℕ → ℕ → Place V → Type 0
IsLawful factor fewer p =
    ReadsBack p.grammar.means p.frame p.Fits
    × ListReadsBack (list p.grammar).means p.frame p.Fits
    × ListsBounded factor fewer (list p.grammar).means p.count p.frame
    × ForeignKept p

pub is_lawful : {V : Type 0} (p : Place V) → IsLawful p.factor p.fewer p
is_lawful p = (
  place_reads_back p.grammar p.frame p.Fits p.count p.factor p.fewer p.enough p.lawful,
  list_reads_back p.grammar p.frame p.Fits p.count p.factor p.fewer p.enough p.lawful,
  lists_bounded p.grammar p.frame p.Fits p.count p.factor p.fewer p.enough p.lawful (omega (arith, p.spare)),
  p.kept,
)

pub place_bounded : {V : Type 0} (p : Place V) (f : Frame) (v : V) → p.grammar.means f v
    → length (canon (p.frame v)) ≤ growth * (1 + length f.payload / 4)
place_bounded p f v means =
    omega (arith, encoding_bounded p.lawful f v means, mul-le-mul_right (1 + length f.payload / 4) p.within)
