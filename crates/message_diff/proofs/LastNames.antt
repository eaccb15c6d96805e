-- The last name among frames is that among the attributes that they mean leniently.
use Rattle.std.proofs.Common.{◌≡◌, ◌≢◌, ◌<◌, ℕ, ◌==◌, Bool, true, false, List, [], ◌∷◌, refl, sym, ap, ◌∙◌}
use Rattle.std.proofs.Common.{Option, None, take, drop, length, length-append, inl, inr, arith}
use Rattle.std.specs.Prelude.{cond}
use Rattle.std.specs.List.{fold}
use Rattle.std.proofs.Math.Seq.{take-append_seam, drop-append_seam}
use Rattle.std.proofs.lemmas.Bool.{le-ltb, lt-ltb}
use borrow.Author.Tests.{false-eqb}
use Rattle.nla_wire.specs.Frames.{Frame, number, Frames}
use Rattle.nla_wire.specs.Reading.{Cut}
use Rattle.nla_wire.specs.Items.{items_of, items}
use Rattle.nla_wire.specs.Grammar.{Every}
use Rattle.nla_wire.specs.declared.error.Cause.{Cause}
use Rattle.nla_wire.proofs.Cuts.{cut_frames}
use Rattle.link_vals.specs.declared.address_family.AddressFamily.{AddressFamily}
use Rattle.shown.specs.Drafts.{Members}
use Rattle.link_msg.specs.Header.{header_size, header_of}
use Rattle.link_msg.specs.Lenient.{MeansLeniently, lenient_place}
use Rattle.link_msg.specs.Tables.{attribute_place, attribute_frame, attribute_view, attribute_lawful, attribute_number}
use Rattle.link_msg.specs.declared.attribute.LinkAttribute.{LinkAttribute}
use Rattle.link_msg.specs.declared.attribute.LinkAttribute.TheVariants as Attributes
use Rattle.link_msg.specs.declared.message.LinkMessage.{LinkMessage}
use Rattle.link_msg.specs.declared.numbers.TheConstants.{IFLA_IFNAME}
use Rattle.message_diff.specs.Alone.{head_in, interface_members, last_name, name_or}
use Rattle.message_diff.specs.Named.{IsSplit, head_of, name_read, name_after, name_in}

-- what is written under another number is no name
no_name : (last : Option (List ℕ)) (v : LinkAttribute) → number (attribute_frame v) ≢ IFLA_IFNAME
    → name_or last v ≡ last
unfolding attribute_view
no_name last (Attributes.IfName name) other = absurd (other refl)
no_name last _ other = refl

module _ (family : AddressFamily) where
  read_name : (last : Option (List ℕ)) (f : Frame) (v : LinkAttribute) (is : Bool) → is ≡ (number f == IFLA_IFNAME)
      → (attribute_place family).means f v
      → cond is (name_read last ((attribute_place family).reads f)) last ≡ name_or last v
  read_name last f v true is means = ap (name_read last) ((attribute_lawful family).agrees.only f v means)
  read_name last f v false is means =
      sym (no_name last v
      (λ same. false-eqb (number f) IFLA_IFNAME is (sym (attribute_number family f v means) ∙ same)))

  kept_name : (last : Option (List ℕ)) (f : Frame) (c : Cause) (is : Bool) → (attribute_place family).bad f c
      → cond is (name_read last ((attribute_place family).reads f)) last ≡ last
  kept_name last f c true bad = ap (name_read last) ((attribute_lawful family).agrees.refused f c bad)
  kept_name last f c false bad = refl

  by_number : (last : Option (List ℕ)) (f : Frame) (v : LinkAttribute) → (lenient_place family).means f v
      → cond (number f == IFLA_IFNAME) (name_read last ((attribute_place family).reads f)) last ≡ name_or last v
  by_number last f v (inl means) = read_name last f v (number f == IFLA_IFNAME) refl means
  by_number last f v (inr ((c, bad), kept)) =
      kept_name last f c (number f == IFLA_IFNAME) bad ∙ ap (name_or last) (sym kept)

  names_same : (fs : List Frame) (vs : List LinkAttribute) → Every (lenient_place family).means fs vs
      → (last : Option (List ℕ)) → fold (name_after family) last (items_of fs None) ≡ fold name_or last vs
  names_same [] [] all last = refl
  names_same [] (v ∷ vs) all last = absurd all
  names_same (f ∷ fs) [] all last = absurd all
  names_same (f ∷ fs) (v ∷ vs) all last =
      ap (λ x. fold (name_after family) x (items_of fs None)) (by_number last f v all.0)
      ∙ names_same fs vs all.1 (name_or last v)

  name_found : (c : List ℕ) (fs : List Frame) (vs : List LinkAttribute) → Frames c fs
      → Every (lenient_place family).means fs vs → name_in family c ≡ last_name vs
  unfolding items
  name_found c fs vs frames all =
      ap (λ (k : Cut). fold (name_after family) None (items_of k.frames k.stop)) (cut_frames c fs frames)
      ∙ names_same fs vs all None

-- which interface an encoding is of, where it has a header and where it has none
pub head_read : (text attributes : List ℕ) (family : AddressFamily) (name : Option (List ℕ))
    → IsSplit text family attributes → name ≡ name_in family attributes
    → interface_members family name text ≡ head_of text
unfolding head_of
head_read text attributes family name split named =
    let own = (header_of (take header_size text)).interface_family in
    let some : Members = interface_members own (name_in own (drop header_size text)) text in
    let read : name ≡ name_in own (drop header_size text) =
    named ∙ (λ i. name_in (split.family_is i) (split.behind i)) in
    (λ i. interface_members (split.family_is i) (read i) text)
    ∙ sym (ap (λ b. cond b [] some) (le-ltb (length text) header_size split.long))

pub head_none : (text : List ℕ) → length text < header_size → [] ≡ head_of text
unfolding head_of
head_none text short =
    let own = (header_of (take header_size text)).interface_family in
    let some : Members = interface_members own (name_in own (drop header_size text)) text in
    sym (ap (λ b. cond b [] some) (lt-ltb (length text) header_size short))

-- it is what the message says that the encoding means
pub head_meant : (text : List ℕ) (m : LinkMessage) → MeansLeniently text m → head_of text ≡ head_in text m
head_meant text m (h, c, parts, says, (fs, frames, all)) =
    let family = m.header.interface_family in
    let front_is : take header_size text ≡ h =
    ap (λ n. take n text) (sym says.size) ∙ ap (λ (x : List ℕ). take (length h) x) parts ∙ take-append_seam h c in
    let rest_is : drop header_size text ≡ c =
    ap (λ n. drop n text) (sym says.size) ∙ ap (λ (x : List ℕ). drop (length h) x) parts ∙ drop-append_seam h c in
    let split : IsSplit text family c = record {
      long = omega (arith, says.size, ap (λ (x : List ℕ). length x) parts, length-append h c);
      family_is = ap (λ v. v.interface_family) says.says
          ∙ ap (λ (x : List ℕ). (header_of x).interface_family) (sym front_is);
      behind = sym rest_is;
    } in
    sym (head_read text c family (last_name m.attributes) split (sym (name_found family c fs m.attributes frames all)))
