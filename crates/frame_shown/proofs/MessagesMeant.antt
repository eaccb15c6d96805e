-- Bytes that mean one message are shown alike.
use Rattle.std.proofs.Common.{[], ◌≡◌, ℕ, ◌==◌, ◌+◌, ◌≤◌, Bool, true, false, cond, List, ◌∷◌, ◌++◌, map, length, drop}
use Rattle.std.proofs.Common.{refl, sym, ap, subst, ◌∙◌, arith}
use Rattle.std.proofs.lemmas.List.{drop_at, get_or_append_left}
use Rattle.std.specs.Prelude.{Option, None, Some, codes, slice_index}
use Rattle.std.specs.Fmt.{signed_decimal}
use Rattle.std.specs.Int.{Width, w16, w32, byte_len, cast_signed}
use Rattle.json.specs.Token.{number as number_token}
use Rattle.link_info.specs.Tables.{frames_in}
use Rattle.link_msg.specs.Header.{header_of}
use Rattle.link_msg.specs.Messages.{Means}
use Rattle.link_msg.specs.Tables.{attribute_place}
use Rattle.link_msg.specs.declared.header.LinkHeader.{LinkHeader}
use Rattle.link_msg.specs.declared.message.LinkMessage.{LinkMessage}
use Rattle.link_vals.proofs.Numbers.{address_family_again}
use Rattle.link_vals.specs.AddressFamilyTable.{address_family_number}
use Rattle.link_vals.specs.declared.address_family.AddressFamily.{AddressFamily}
use Rattle.nla_wire.proofs.FieldLemmas.{number_at_before}
use Rattle.nla_wire.proofs.Steps.{bytes_right}
use Rattle.nla_wire.specs.Fields.{number_at}
use Rattle.nla_wire.specs.Frames.{Frame, IsBytes, number}
use Rattle.nla_wire.specs.Grammar.{list}
use Rattle.nla_wire.specs.Items.{items}
use Rattle.shown.specs.Drafts.{Members}
use Rattle.shown.specs.Values.{flags_of, numbered}
use Rattle.frame_shown.specs.Frames.{frame_item, levels}
use Rattle.frame_shown.specs.Items.{Item, members_of}
use Rattle.frame_shown.specs.Meaning.{MeanOne, MessagesAreMeant}
use Rattle.frame_shown.specs.Messages.{address_len, attribute_members, frames_shown, header_members, link_flag_names}
use Rattle.frame_shown.specs.Messages.{message_members, with_address_len}
use Rattle.frame_shown.specs.Values.{Nesting}
use Rattle.frame_shown.specs.declared.form.Around.{Around}
use Rattle.frame_shown.specs.declared.form.List.TheVariants as Shapes
use Rattle.frame_shown.proofs.Alike.{of_list}
use Rattle.frame_shown.proofs.AttributesMeant.{said_of}
use Rattle.frame_shown.proofs.FramesMeant.{frames_alike}

-- ** attributes

abbrev Said : Type 0
Said = Item × Option ℕ

firsts : (nest : Nesting) (cx : Around) (n : ℕ) (fs : List Frame)
    → map (frame_item nest cx (Shapes.Message n)) fs ≡ map (λ (s : Said). s.0) (map (said_of nest cx n) fs)
firsts nest cx n [] = refl
firsts nest cx n (f ∷ fs) = ap (λ xs. frame_item nest cx (Shapes.Message n) f ∷ xs) (firsts nest cx n fs)

abbrev first_len : List Said → ℕ
first_len [] = 0
first_len ((item, None) ∷ ss) = first_len ss
first_len ((item, Some n) ∷ ss) = n

len_or : (b : Bool) (item : Item) (n k : ℕ) (ss : List Said) → k ≡ first_len ss
    → cond b n k ≡ first_len ((item, cond b (Some n) None) ∷ ss)
len_or true item n k ss h = refl
len_or false item n k ss h = h

len_is : (nest : Nesting) (cx : Around) (n : ℕ) (fs : List Frame)
    → address_len fs ≡ first_len (map (said_of nest cx n) fs)
len_is nest cx n [] = refl
len_is nest cx n (f ∷ fs) = len_or (number f == 1) (frame_item nest cx (Shapes.Message n) f) (length f.payload)
    (address_len fs) (map (said_of nest cx n) fs) (len_is nest cx n fs)

attributes_alike : (cx : Around) (m : LinkMessage) (p q : List ℕ) → IsBytes p → IsBytes q
    → (list (attribute_place m.header.interface_family)).means p m.attributes
    → (list (attribute_place m.header.interface_family)).means q m.attributes
    → attribute_members cx (address_family_number m.header.interface_family) p
    ≡ attribute_members cx (address_family_number m.header.interface_family) q
unfolding frames_shown
attributes_alike cx m p q small_p small_q a b =
    let family : AddressFamily = m.header.interface_family in
    let n : ℕ = address_family_number family in
    let alike = λ (c : Around). of_list (attribute_place family) (said_of (levels 5 c) c n) (frames_alike c family) p q
    m.attributes small_p small_q a b in
    let lens : address_len (frames_in (items p)) ≡ address_len (frames_in (items q)) =
    len_is (levels 5 cx) cx n (frames_in (items p)) ∙ ap first_len (alike cx)
    ∙ sym (len_is (levels 5 cx) cx n (frames_in (items q))) in
    let own : Around = with_address_len cx (address_len (frames_in (items q))) in
    ap (λ len. frames_shown (with_address_len cx len) n p) lens
    ∙ ap (members_of []) (firsts (levels 5 own) own n (frames_in (items p)) ∙ ap (map (λ (s : Said). s.0)) (alike own)
    ∙ sym (firsts (levels 5 own) own n (frames_in (items q))))

-- ** the header

module _ (bytes : List ℕ) (m : LinkMessage) (means : Means bytes m) where
  number_is : (w : Width) (place : ℕ) → place + byte_len w ≤ length means.0
      → number_at w bytes place ≡ number_at w means.0 place
  number_is w place within =
      ap (λ b. number_at w b place) means.2 ∙ number_at_before w means.0 means.1 place within

  family_is : slice_index bytes 0 ≡ address_family_number m.header.interface_family
  unfolding header_of
  family_is =
      ap (λ b. slice_index b 0) means.2
      ∙ get_or_append_left means.0 means.1 0 0 (omega (arith, means.3.size))
      ∙ sym (address_family_again (slice_index means.0 0))
      ∙ ap (λ (v : LinkHeader). address_family_number v.interface_family) (sym means.3.says)

  index_is : number_at w32 bytes 4 ≡ m.header.index
  unfolding header_of
  index_is = number_is w32 4 (omega (arith, means.3.size)) ∙ ap (λ (v : LinkHeader). v.index) (sym means.3.says)

  flags_are : number_at w32 bytes 8 ≡ m.header.flags.0
  unfolding header_of
  flags_are = number_is w32 8 (omega (arith, means.3.size)) ∙ ap (λ (v : LinkHeader). v.flags.0) (sym means.3.says)

  mask_is : number_at w32 bytes 12 ≡ m.header.change_mask.0
  unfolding header_of
  mask_is = number_is w32 12 (omega (arith, means.3.size))
      ∙ ap (λ (v : LinkHeader). v.change_mask.0) (sym means.3.says)

  rest_is : drop 16 bytes ≡ means.1
  rest_is = ap (drop 16) means.2 ∙ drop_at means.0 means.1 16 means.3.size

  rest_bytes : IsBytes bytes → IsBytes means.1
  rest_bytes small = bytes_right means.0 means.1 (subst IsBytes means.2 small)

-- ** messages

same_attributes : (cx : Around) (a b : List ℕ) (m : LinkMessage) → MeanOne a b m
    → attribute_members cx (slice_index a 0) (drop 16 a) ≡ attribute_members cx (slice_index b 0) (drop 16 b)
same_attributes cx a b m h =
    let n : ℕ = address_family_number m.header.interface_family in
    ap (λ k. attribute_members cx k (drop 16 a)) (family_is a m h.2)
    ∙ ap (attribute_members cx n) (rest_is a m h.2)
    ∙ attributes_alike cx m h.2.1 h.3.1 (rest_bytes a m h.2 h.0) (rest_bytes b m h.3 h.1) h.2.4 h.3.4
    ∙ sym (ap (attribute_members cx n) (rest_is b m h.3))
    ∙ sym (ap (λ k. attribute_members cx k (drop 16 b)) (family_is b m h.3))

abbrev header_with : ℕ → ℕ → ℕ → ℕ → ℕ → Members
header_with family kind index flags mask =
    numbered (codes "ifi-family") family
    ∷ numbered (codes "ifi-type") kind
    ∷ (codes "ifi-index", number_token (signed_decimal (cast_signed w32 index)) ∷ [])
    ∷ (codes "ifi-flags", flags_of link_flag_names flags)
    ∷ numbered (codes "ifi-change") mask
    ∷ []

same_header : (a b : List ℕ) (m : LinkMessage) → MeanOne a b m → number_at w16 a 2 ≡ number_at w16 b 2
    → header_members a ≡ header_members b
same_header a b m h kinds =
    let family : slice_index a 0 ≡ slice_index b 0 = family_is a m h.2 ∙ sym (family_is b m h.3) in
    let index : number_at w32 a 4 ≡ number_at w32 b 4 = index_is a m h.2 ∙ sym (index_is b m h.3) in
    let flags : number_at w32 a 8 ≡ number_at w32 b 8 = flags_are a m h.2 ∙ sym (flags_are b m h.3) in
    let mask : number_at w32 a 12 ≡ number_at w32 b 12 = mask_is a m h.2 ∙ sym (mask_is b m h.3) in
    λ i. header_with (family i) (kinds i) (index i) (flags i) (mask i)

same_members : (cx : Around) (a b : List ℕ) (m : LinkMessage) → MeanOne a b m → number_at w16 a 2 ≡ number_at w16 b 2
    → message_members cx a ≡ message_members cx b
same_members cx a b m h kinds =
    let heads : header_members a ≡ header_members b = same_header a b m h kinds in
    let attributes : attribute_members cx (slice_index a 0) (drop 16 a)
    ≡ attribute_members cx (slice_index b 0) (drop 16 b) = same_attributes cx a b m h in
    λ i. heads i ++ attributes i

pub messages_meant : (cx : Around) → MessagesAreMeant cx
messages_meant cx = record { attributes = same_attributes cx; whole = same_members cx }
