-- Refusals: all are there, and their paths lead to their faults.
use Rattle.std.proofs.Common.{◌≡◌, ℕ, ◌+◌, ◌<◌, ◌≤◌, ◌⊎◌, inl, inr, List, [], ◌∷◌, ◌++◌, length, take, drop, refl, sym}
use Rattle.std.proofs.Common.{ap}
use Rattle.std.proofs.Common.{◌∙◌, subst, arith, Result, Ok, Err, Option, Some, None, IsOk}
use Rattle.std.proofs.Common.{◌^◌}
use Rattle.std.proofs.lemmas.List.{take-append-drop}
use Rattle.std.proofs.Math.Seq.{take-append_seam, drop-append_seam}
use Rattle.nla_wire.specs.Frames.{Frame, number, IsBytes, IsFrame, missing, Begins, Frames}
use Rattle.nla_wire.specs.Items.{Item, items}
use Rattle.nla_wire.specs.Grammar.{Every}
use Rattle.nla_wire.specs.declared.error.Cause.{Cause}
use Rattle.nla_wire.proofs.Steps.{bytes_right, step_whole, step_begins, step_bad, step_framed, step_rest_bytes}
use Rattle.nla_wire.proofs.Steps.{length-begins}
use Rattle.nla_wire.proofs.Items.{items_nil, items_next, items_case}
use Rattle.link_vals.specs.declared.address_family.AddressFamily.{AddressFamily}
use Rattle.link_msg.specs.Header.{header_size, header_of}
use Rattle.link_msg.specs.Tables.{attribute_place, attribute_lawful}
use Rattle.link_msg.specs.Nested.{in_attribute}
use Rattle.link_msg.specs.FaultAt.{FaultIn}
use Rattle.link_msg.specs.FaultPath.{numbers_to, IsPathIn, Extends}
use Rattle.link_msg.specs.Lenient.{lenient_place}
use Rattle.link_msg.specs.Told.{Told, told_of, after, told_on, told, told_all, span, AreTold, AreFrames, AreRefusals}
use Rattle.link_msg.specs.Told.{LeadsThere, AreRaw, ToldAreRaw}
use Rattle.link_msg.specs.declared.fault_path.FaultPath.{FaultPath}
use Rattle.link_msg.specs.declared.header.LinkHeader.{LinkHeader}
use Rattle.link_msg.specs.declared.attribute.LinkAttribute.{LinkAttribute}
use Rattle.link_msg.proofs.Sound.{sound_outermost}
use Rattle.link_msg.proofs.MessagesBy.{parts, is_header}

-- ** how far frames reach

whole_or_last : (b : List ℕ) (f : Frame) (rest : List ℕ) (h : Begins b f rest) (n : ℕ)
    → (rest ≡ [] → n ≡ 0) → n ≤ length rest + 3
    → 4 + length f.payload + missing (length f.payload) + n ≤ length b + 3
whole_or_last b f rest h n ended more = elim h.full [
  | inl full ↦ omega (arith, length-begins b f rest h, full, more)
  | inr last ↦ omega (arith, length-begins b f rest h, ended last, h.padded)
]

none_left : (rest : List ℕ) → rest ≡ [] → span (items rest) ≡ 0
none_left rest is = ap (λ x. span (items x)) is ∙ ap span items_nil

pub span_bound : (b : List ℕ) → IsBytes b → span (items b) ≤ length b + 3
span_bound b = items_case (λ b xs. IsBytes b → span xs ≤ length b + 3) (λ small. omega arith)
    (λ b c e small. omega arith)
    (λ b f rest e more small. whole_or_last b f rest (step_begins b f rest small e) (span (items rest)) (none_left rest)
    (more (step_rest_bytes b f rest small e))) b

-- ** all that is refused is told

module _ (family : AddressFamily) where
  abbrev Tells : List ℕ → List Item → Type 0
  Tells b xs = IsBytes b → (at : ℕ)
      → (fs : List Frame) × (stop : Option Cause) × AreFrames b fs stop × AreTold family at fs stop (told family at xs)

  joined : (b : List ℕ) (f : Frame) (rest : List ℕ) → Begins b f rest → (fs : List Frame) (stop : Option Cause)
      → AreFrames rest fs stop → AreFrames b (f ∷ fs) stop
  joined b f rest begins fs None frames = (rest, begins, frames)
  joined b f rest begins fs (Some c) fault = (rest, begins, fault)

  told_frame : (at : ℕ) (f : Frame) → IsFrame f → (fs : List Frame) (stop : Option Cause) (more : List Told)
      → AreTold family (after at f) fs stop more
      → (r : Result LinkAttribute Cause) → (attribute_place family).reads f ≡ r
      → AreTold family at (f ∷ fs) stop (told_on family at f r more)
  told_frame at f one fs stop more later (Ok v) is =
      inl ((v, (attribute_lawful family).agrees.found f v one is), later)
  told_frame at f one fs stop more later (Err c) is =
      inr (c, more, (attribute_lawful family).agrees.fault f c one is, refl, later)

  pub all_told : (b : List ℕ) → Tells b (items b)
  all_told b = items_case Tells (λ small at. ([], None, refl, refl))
      (λ b c e small at. ([], Some c, step_bad b c e, refl))
      (λ b f rest e more small at.
      let begins = step_begins b f rest small e in
      let later = more (step_rest_bytes b f rest small e) (after at f) in (
        f ∷ later.0,
        later.1,
        joined b f rest begins later.0 later.1 later.2,
        told_frame at f (step_framed b f rest small e) later.0 later.1 (told family (after at f) (items rest)) later.3
            ((attribute_place family).reads f) refl,
      )) b

-- a frame that is read is not told
pub told_read : (family : AddressFamily) (at : ℕ) (f : Frame) (r : Result LinkAttribute Cause) (more : List Told)
    → IsOk r → told_on family at f r more ≡ more
told_read family at f (Ok v) more ok = refl
told_read family at f (Err c) more ok = absurd cc

-- ** where the fault is

module _ (family : AddressFamily) (at : ℕ) (f : Frame) (one : IsFrame f) (c : Cause)
    (bad : (attribute_place family).bad f c) (p : FaultPath) where
  path_there : (q : Option FaultPath) → IsPathIn (in_attribute family f) f.payload 3 q → Extends at (number f) q p
      → LeadsThere (told_of family at (Some f) c) p
  path_there None none is = inr (none, is.1, is.2)
  path_there (Some q) (deep, within, (d, deeper)) is =
      let same : c ≡ d = (sound_outermost family).2 f c d q.offset (numbers_to q) one (refl, bad) deeper in
      inl (
        q.offset,
        numbers_to q,
        subst (λ x. FaultIn (in_attribute family f) f.payload x q.offset (numbers_to q))
            (sym same) deeper,
        is.1,
        is.2,
      )

  pub leads_there : (q : Option FaultPath) → IsPathIn (in_attribute family f) f.payload 3 q → (n : ℕ) → n ≡ number f
      → Extends at n q p → LeadsThere (told_of family at (Some f) c) p
  leads_there q inside n named is = path_there q inside (subst (λ m. Extends at m q p) named is)

-- the cause that the check tells is the attribute's
pub is_bad : (family : AddressFamily) (f : Frame) → IsFrame f → (c : Cause) → (attribute_place family).reads f ≡ Err c
    → (attribute_place family).bad f c
is_bad family f one c is = (attribute_lawful family).agrees.fault f c one is

-- ** against what is read leniently

raw_on : (family : AddressFamily) (at : ℕ) (f : Frame) (v : LinkAttribute) (vs : List LinkAttribute) (more : List Told)
    → (lenient_place family).means f v → AreRaw family vs more
    → AreRaw family (v ∷ vs) (told_on family at f ((attribute_place family).reads f) more)
raw_on family at f v vs more (inl means) later =
    subst (λ r. AreRaw family (v ∷ vs) (told_on family at f r more))
    (sym ((attribute_lawful family).agrees.only f v means)) (inl ((f, means), later))
raw_on family at f v vs more (inr ((c, bad), is)) later =
    subst (λ r. AreRaw family (v ∷ vs) (told_on family at f r more))
    (sym ((attribute_lawful family).agrees.refused f c bad)) (inr (f, at, c, more, bad, is, refl, later))

raw_list : (family : AddressFamily) (at : ℕ) (d : List ℕ) (fs : List Frame) (vs : List LinkAttribute) → Frames d fs
    → Every (lenient_place family).means fs vs → AreRaw family vs (told family at (items d))
raw_list family at d [] [] frames every = ap (λ x. told family at (items x)) frames ∙ ap (told family at) items_nil
raw_list family at d [] (v ∷ vs) frames every = absurd every
raw_list family at d (f ∷ fs) [] frames every = absurd every
raw_list family at d (f ∷ fs) (v ∷ vs) (rest, begins, frames) every =
    subst (λ xs. AreRaw family (v ∷ vs) (told family at xs)) (sym (items_next d f rest (step_whole d f rest begins)))
    (raw_on family at f v vs (told family (after at f) (items rest)) every.0
    (raw_list family (after at f) rest fs vs frames every.1))

pub told_are_raw : ToldAreRaw
unfolding told_all
told_are_raw b m small (h, c, whole, header, (fs, frames, every)) =
    let family = m.header.interface_family in
    let front : take header_size b ≡ h =
    ap (take header_size) whole ∙ ap (λ n. take n (h ++ c)) (sym header.size) ∙ take-append_seam h c in
    let rest : drop header_size b ≡ c =
    ap (drop header_size) whole ∙ ap (λ n. drop n (h ++ c)) (sym header.size) ∙ drop-append_seam h c in
    let fields : header_of (take header_size b) ≡ m.header = ap header_of front ∙ sym header.says in
    subst (λ (v : LinkHeader).
    AreRaw family m.attributes (told v.interface_family header_size (items (drop header_size b))))
    (sym fields)
    (subst (λ x. AreRaw family m.attributes (told family header_size (items x))) (sym rest)
    (raw_list family header_size c fs m.attributes frames every))

-- ** the message

pub all_refusals : (b : List ℕ) → header_size ≤ length b → IsBytes b → (v : LinkHeader)
    → v ≡ header_of (take header_size b) → (ts : List Told)
    → ts ≡ told v.interface_family header_size (items (drop header_size b)) → AreRefusals b ts
all_refusals b long small v says ts is =
    let all = all_told v.interface_family (drop header_size b)
    (bytes_right (take header_size b) (drop header_size b) (subst IsBytes (parts b long) small)) header_size in
    record {
      header = take header_size b;
      fields = v;
      attributes = drop header_size b;
      parts = parts b long;
      says = record { size = (is_header b long).size; says = says };
      frames = all.0;
      stop = all.1;
      cut = all.2;
      told = subst (AreTold v.interface_family header_size all.0 all.1) (sym is) all.3;
    }

pub room_for_all : (b rest : List ℕ) (at : ℕ) (xs : List Item) → rest ≡ drop at b → IsBytes b → at < 2 ^ 64
    → (at + length rest < 2 ^ 63) ⊎ (rest ≡ []) → xs ≡ items rest → at + span xs < 2 ^ 64
room_for_all b rest at xs rest_is small counted room is = elim room [
  | inl within ↦
      (let bytes : IsBytes rest = subst IsBytes (sym rest_is) (bytes_right (take at b) (drop at b)
      (subst IsBytes (sym (take-append-drop at b)) small)) in
      omega (arith, span_bound rest bytes, within, ap span is))
  | inr none ↦ omega (arith, counted, none_left rest none, ap span is)
]
