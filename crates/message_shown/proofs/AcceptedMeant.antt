-- Of bytes that are no message the attributes that are shown mean the part of the message that is accepted.
use Rattle.std.proofs.Common.{◌≡◌, ◌⊎◌, ℕ, Bool, true, false, List, [], ◌∷◌, ◌++◌, cond, drop, length, take, refl, sym}
use Rattle.std.proofs.Common.{ap, subst, ◌∙◌, arith, inl, inr, slice_index, ◌≤◌, length-append}
use Rattle.std.specs.Prelude.{◌%◌, Option, None, Some, Result}
use Rattle.std.specs.List.{AllByRecursion}
use Rattle.std.proofs.Math.Seq.{take-append_seam}
use Rattle.std.proofs.lemmas.List.{get_or_append_left, map-id}
use Rattle.nla_wire.specs.Canon.{IsWritable, canons}
use Rattle.nla_wire.specs.Frames.{Begins, Frame, Frames, IsBytes, IsFrame, missing}
use Rattle.nla_wire.specs.Grammar.{Every}
use Rattle.nla_wire.specs.Items.{Item, items}
use Rattle.nla_wire.specs.declared.error.Cause.{Cause}
use Rattle.nla_wire.proofs.Back.{canons_frames, frames_framed}
use Rattle.nla_wire.proofs.Items.{items_bad, items_next, items_nil}
use Rattle.nla_wire.proofs.Joined.{begins_join}
use Rattle.nla_wire.proofs.Steps.{bad_step, bytes_left, length-begins, step_whole}
use Rattle.link_info.specs.Tables.{frames_in}
use Rattle.link_vals.specs.AddressFamilyTable.{address_family_of}
use Rattle.link_vals.specs.declared.address_family.AddressFamily.{AddressFamily}
use Rattle.link_msg.specs.BeforeFault.{ReadsBefore}
use Rattle.link_msg.specs.FaultAt.{FaultsAlone}
use Rattle.link_msg.specs.Header.{IsHeader, header_of, header_size}
use Rattle.link_msg.specs.Lenient.{MeansLeniently, lenient_place}
use Rattle.link_msg.specs.Messages.{Means}
use Rattle.link_msg.specs.Nested.{Refuses}
use Rattle.link_msg.specs.Tables.{attribute_place, attribute_lawful}
use Rattle.link_msg.specs.declared.attribute.LinkAttribute.{LinkAttribute}
use Rattle.link_msg.specs.declared.header.LinkHeader.{LinkHeader}
use Rattle.link_msg.specs.declared.message.LinkMessage.{LinkMessage}
use Rattle.link_msg.proofs.MessagesBy.{is_header}
use Rattle.frame_shown.specs.Accepted.{accepts, is_read, picked}
use Rattle.frame_shown.proofs.Alike.{frames_are}
use Rattle.message_shown.specs.Leniently.{accepted, accepted_part, taken}
use Rattle.message_shown.specs.Meaning.{AcceptedAreMeant, accepted_bytes}
use Rattle.message_shown.proofs.Leniently.{after_is, bytes_after, header_is, long_enough}

-- whether a frame is accepted under a family
abbrev test : AddressFamily → Frame → Bool
test family f = is_read ((attribute_place family).reads f)

picked_on : (family : AddressFamily) (f : Frame) (v : LinkAttribute) (gs : List Frame) (vs : List LinkAttribute)
    → (lenient_place family).means f v → Every (attribute_place family).means gs vs
    → Every (attribute_place family).means (cond (test family f) (f ∷ gs) gs)
    (taken ((attribute_place family).reads f) vs)
picked_on family f v gs vs (inl means) later =
    subst (λ (r : Result LinkAttribute Cause). Every (attribute_place family).means (cond (is_read r) (f ∷ gs) gs)
    (taken r vs)) (sym ((attribute_lawful family).agrees.only f v means)) (means, later)
picked_on family f v gs vs (inr ((c, bad), is)) later =
    subst (λ (r : Result LinkAttribute Cause). Every (attribute_place family).means (cond (is_read r) (f ∷ gs) gs)
    (taken r vs)) (sym ((attribute_lawful family).agrees.refused f c bad)) later

picked_means : (family : AddressFamily) (d : List ℕ) (fs : List Frame) (all : List LinkAttribute) → Frames d fs
    → Every (lenient_place family).means fs all
    → Every (attribute_place family).means (picked true (test family) (frames_in (items d))) (accepted family (items d))
picked_means family d [] [] frames every =
    subst (λ (xs : List Item). Every (attribute_place family).means (picked true (test family) (frames_in xs))
    (accepted family xs)) (sym (ap items frames ∙ items_nil)) tt
picked_means family d [] (v ∷ all) frames every = absurd every
picked_means family d (f ∷ fs) [] frames every = absurd every
picked_means family d (f ∷ fs) (v ∷ all) (rest, begins, frames) every =
    subst (λ (xs : List Item). Every (attribute_place family).means (picked true (test family) (frames_in xs))
    (accepted family xs)) (sym (items_next d f rest (step_whole d f rest begins)))
    (picked_on family f v (picked true (test family) (frames_in (items rest))) (accepted family (items rest)) every.0
    (picked_means family rest fs all frames every.1))

writable_on : (b : Bool) (f : Frame) (gs : List Frame) → IsFrame f → AllByRecursion IsWritable gs
    → AllByRecursion IsWritable (cond b (f ∷ gs) gs)
writable_on true f gs is later = (record { kind = is.kind; size = is.size }, later)
writable_on false f gs is later = later

picked_writable : (choose : Frame → Bool) (fs : List Frame) → AllByRecursion IsFrame fs
    → AllByRecursion IsWritable (picked true choose fs)
picked_writable choose [] framed = tt
picked_writable choose (f ∷ fs) framed =
    writable_on (choose f) f (picked true choose fs) framed.0 (picked_writable choose fs framed.1)

-- by the family that the first byte is
tests_same : (family : AddressFamily) (n : ℕ) → family ≡ address_family_of n → accepts n ≡ test family
unfolding accepts
tests_same family n same = λ i f. test (sym same i) f

accepted_means : (b : List ℕ) (m : LinkMessage) → IsBytes b → MeansLeniently b m
    → Means (accepted_bytes true b) (accepted_part b m)
unfolding header_of
accepted_means b m bytes (h, c, whole, header, (fs, frames, every)) =
    let family : AddressFamily = m.header.interface_family in
    let n : ℕ = slice_index b 0 in
    let d : List ℕ = drop header_size b in
    let own : MeansLeniently b m = (h, c, whole, header, (fs, frames, every)) in
    let framed : Frames d fs = subst (λ x. Frames x fs) (sym (after_is b h c whole header.size)) frames in
    let first : slice_index b 0 ≡ slice_index h 0 =
    ap (λ x. slice_index x 0) whole ∙ get_or_append_left h c 0 0 (omega (arith, header.size)) in
    let same : family ≡ address_family_of n =
    ap (λ (v : LinkHeader). v.interface_family) header.says ∙ ap address_family_of (sym first) in
    let gs : List Frame = picked true (accepts n) (frames_in (items d)) in
    let all : AllByRecursion IsWritable gs = picked_writable (accepts n) (frames_in (items d))
    (subst (AllByRecursion IsFrame) (sym (frames_are d fs framed))
    (frames_framed d fs (bytes_after b bytes) framed)) in (
      take header_size b,
      canons (λ f. f) gs,
      refl,
      subst (λ (v : LinkHeader). IsHeader (take header_size b) v) (sym (header_is b m own))
          (is_header b (long_enough b m own)),
      (
        gs,
        subst (λ (x : List Frame). Frames (canons (λ f. f) gs) x) (map-id gs) (canons_frames (λ f. f) gs all),
        subst (λ (choose : Frame → Bool). Every (attribute_place family).means
            (picked true choose (frames_in (items d))) (accepted family (items d))) (sym (tests_same family n same))
            (picked_means family d fs m.attributes framed every),
      ),
    )

-- ** in front of a fault

rest_whole : (c : List ℕ) (f : Frame) (rest : List ℕ) (h : Begins c f rest) → length c % 4 ≡ 0
    → (length h.padding ≡ missing (length f.payload)) ⊎ (rest ≡ []) → length rest % 4 ≡ 0
rest_whole c f rest h whole (inl full) = omega (arith, length-begins c f rest h, full)
rest_whole c f rest h whole (inr ended) = omega (arith, ap (λ (x : List ℕ). length x) ended)

-- frames in front of other bytes are read first
items_join : (c d : List ℕ) (fs : List Frame) → length c % 4 ≡ 0 → Frames c fs
    → frames_in (items (c ++ d)) ≡ fs ++ frames_in (items d)
items_join c d [] whole none = ap (λ x. frames_in (items (x ++ d))) none
items_join c d (f ∷ fs) whole (rest, begins, frames) =
    ap frames_in (items_next (c ++ d) f (rest ++ d)
    (step_whole (c ++ d) f (rest ++ d) (begins_join c d f rest whole begins)))
    ∙ ap (λ gs. f ∷ gs) (items_join rest d fs (rest_whole c f rest begins whole begins.full) frames)

picked_front : (family : AddressFamily) (fs gs : List Frame) (vs : List LinkAttribute)
    → Every (attribute_place family).means fs vs → picked false (test family) gs ≡ []
    → picked false (test family) (fs ++ gs) ≡ fs
picked_front family [] gs [] every none = none
picked_front family [] gs (v ∷ vs) every none = absurd every
picked_front family (f ∷ fs) gs [] every none = absurd every
picked_front family (f ∷ fs) gs (v ∷ vs) every none =
    ap (λ (r : Result LinkAttribute Cause). cond (is_read r) (f ∷ picked false (test family) (fs ++ gs)) [])
    ((attribute_lawful family).agrees.only f v every.0)
    ∙ ap (λ hs. f ∷ hs) (picked_front family fs gs vs every.1 none)

-- what has a fault by itself is not accepted
none_picked : (family : AddressFamily) (later : List ℕ) (frame : Option Frame) (c : Cause)
    → FaultsAlone (Refuses false (attribute_place family)) later frame c
    → picked false (test family) (frames_in (items later)) ≡ []
none_picked family later None c bad =
    ap (λ (xs : List Item). picked false (test family) (frames_in xs)) (items_bad later c (bad_step later c bad))
none_picked family later (Some f) c (rest, begins, refused) =
    ap (λ (xs : List Item). picked false (test family) (frames_in xs))
    (items_next later f rest (step_whole later f rest begins))
    ∙ ap (λ (r : Result LinkAttribute Cause). cond (is_read r)
    (f ∷ picked false (test family) (frames_in (items rest))) [])
    ((attribute_lawful family).agrees.refused f c refused.1)

all_writable : (fs : List Frame) → AllByRecursion IsFrame fs → AllByRecursion IsWritable fs
all_writable [] framed = tt
all_writable (f ∷ fs) framed =
    (record { kind = framed.0.kind; size = framed.0.size }, all_writable fs framed.1)

front_means : (b : List ℕ) (c : Cause) (m : LinkMessage) → IsBytes b → ReadsBefore b c m
    → Means (accepted_bytes false b) m
unfolding header_of
front_means b c m bytes r =
    let family : AddressFamily = m.header.interface_family in
    let n : ℕ = slice_index b 0 in
    let d : List ℕ = drop header_size b in
    let fault = r.fault in
    let fs : List Frame = r.before.0 in
    let long : header_size ≤ length b =
    omega (arith, ap (λ (x : List ℕ). length x) r.parts, length-append r.header r.attributes, r.says.size) in
    let head : take header_size b ≡ r.header =
    ap (take header_size) r.parts ∙ ap (λ k. take k (r.header ++ r.attributes)) (sym r.says.size)
    ∙ take-append_seam r.header r.attributes in
    let rest : d ≡ fault.before ++ fault.later = after_is b r.header r.attributes r.parts r.says.size ∙ fault.parts in
    let first : slice_index b 0 ≡ slice_index r.header 0 =
    ap (λ x. slice_index x 0) r.parts
    ∙ get_or_append_left r.header r.attributes 0 0 (omega (arith, r.says.size)) in
    let same : family ≡ address_family_of n =
    ap (λ (v : LinkHeader). v.interface_family) r.says.says ∙ ap address_family_of (sym first) in
    let whole : length fault.before % 4 ≡ 0 = ap (λ k. k % 4) (sym fault.at_end) ∙ fault.aligned in
    let framed : AllByRecursion IsFrame fs = frames_framed fault.before fs
    (bytes_left fault.before fault.later (subst IsBytes rest (bytes_after b bytes))) r.before.1 in
    let gs : List Frame = picked false (accepts n) (frames_in (items d)) in
    let are : gs ≡ fs =
    ap (λ (choose : Frame → Bool). picked false choose (frames_in (items d))) (tests_same family n same)
    ∙ ap (λ x. picked false (test family) (frames_in (items x))) rest
    ∙ ap (picked false (test family)) (items_join fault.before fault.later fs whole r.before.1)
    ∙ picked_front family fs (frames_in (items fault.later)) m.attributes r.before.2
    (none_picked family fault.later r.frame c fault.alone) in (
      take header_size b,
      canons (λ f. f) gs,
      refl,
      subst (λ h. IsHeader h m.header) (sym head) r.says,
      (
        fs,
        subst (λ (x : List Frame). Frames (canons (λ f. f) gs) x) (map-id gs ∙ are) (canons_frames (λ f. f) gs
            (subst (AllByRecursion IsWritable) (sym are) (all_writable fs framed))),
        r.before.2,
      ),
    )

pub accepted_are_meant : AcceptedAreMeant
accepted_are_meant = record { leniently = accepted_means; before = front_means }
