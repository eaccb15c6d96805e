-- What a state leaves out.
use Rattle.std.proofs.Common.{◌≡◌, ℕ, List, [], ◌∷◌, ◌++◌, length, drop, take, map, replicate, refl, sym, ap, ap₂}
use Rattle.std.proofs.Common.{◌∙◌, subst, inl, inr, drop_at, arith, length-drop, length-take}
use Rattle.std.specs.List.{AllByRecursion, AllZip}
use Rattle.nla_wire.specs.Frames.{Frame, IsBytes, number}
use Rattle.nla_wire.specs.Canon.{canon, canons, IsWritable}
use Rattle.nla_wire.proofs.Back.{every_writable, frames_framed}
use Rattle.nla_wire.proofs.Steps.{bytes_right}
use Rattle.link_recs.specs.StatsFields.{stats_bytes, stats_fields}
use Rattle.link_recs.specs.Stats64Fields.{stats64_bytes, stats64_fields}
use Rattle.link_vals.specs.AddressFamilyTable.{address_family_of}
use Rattle.link_vals.specs.declared.address_family.AddressFamily.{AddressFamily}
use Rattle.link_msg.specs.Canonical.{IsAccepted}
use Rattle.link_msg.specs.Header.{header_size, header_bytes}
use Rattle.link_msg.specs.Messages.{message_text}
use Rattle.link_msg.specs.Tables.{attribute_place, attribute_frame, attribute_lawful, attribute_view, AttributeFits}
use Rattle.link_msg.specs.declared.attribute.LinkAttribute.{LinkAttribute}
use Rattle.link_msg.specs.declared.header.LinkHeader.{LinkHeader}
use Rattle.link_msg.specs.declared.message.LinkMessage.{LinkMessage}
use Rattle.link_msg.proofs.Messaging.{header_length}
use Rattle.link_state.specs.Cleared.{cleared, filled, info_level, part, payload_by}
use Rattle.link_state.specs.State.{HasState, level_of, state}
use Rattle.link_state.specs.Still.{AreCounters, CountersLeave, SameButCounters, no_changes, still_frame}
use Rattle.link_state.specs.Still.{AreIn, DifferBetween, DifferInMoving, MovingLeaves}
use Rattle.link_state.specs.Table.{Action, action_of}
use Rattle.link_state.specs.Table.Action.{Clear, ClearPart, Enter, EnterInfo}
use Rattle.link_state.specs.declared.level.Level.{Level}
use Rattle.link_state.specs.declared.level.Level.TheVariants.{Message}
use Rattle.link_state.proofs.Closing.{filled_canon, filled_frame}
use Rattle.link_state.proofs.States.{family_again, first_byte, no_changes_bytes}
use Rattle.link_state.proofs.Walking.{filled_nil}

-- ** a state, of the frames of its message

-- the encoding of frames
abbrev encoded : List Frame → List ℕ
encoded fs = canons (λ f. f) fs

frames_of : AddressFamily → List LinkAttribute → List Frame
frames_of family vs = map (λ v. still_frame family (attribute_frame v)) vs

cleared_canons : (family : AddressFamily) (vs : List LinkAttribute)
    → AllByRecursion (λ v. IsWritable (attribute_frame v)) vs
    → cleared (Message family) (canons attribute_frame vs) ≡ encoded (frames_of family vs)
unfolding frames_of
cleared_canons family [] writable = filled_nil 0 (Message family) [] refl
cleared_canons family (v ∷ vs) writable =
    filled_canon 0 (Message family) (attribute_frame v) (canons attribute_frame vs) writable.0
    ∙ ap (λ xs. canon (still_frame family (attribute_frame v)) ++ xs) (cleared_canons family vs writable.1)

all_writable : (b : List ℕ) (m : LinkMessage) → IsBytes b → IsAccepted b m
    → AllByRecursion (λ v. IsWritable (attribute_frame v)) m.attributes
all_writable b m small accepted =
    let means = accepted.means in
    let family = m.header.interface_family in
    let list = means.4 in
    every_writable (attribute_place family) attribute_frame AttributeFits (attribute_lawful family).writable list.0
    m.attributes
    (frames_framed means.1 list.0 (bytes_right means.0 means.1 (subst IsBytes means.2 small)) list.1)
    list.2 accepted.fits.0

-- the state of a message, by its header and the frames of its attributes
still_text : (b : List ℕ) (m : LinkMessage) → IsBytes b → IsAccepted b m
    → state (message_text m)
    ≡ header_bytes (no_changes m.header) ++ encoded (frames_of m.header.interface_family m.attributes)
still_text b m small accepted =
    let text = canons attribute_frame m.attributes in
    let family = m.header.interface_family in
    let level_is : level_of (message_text m) ≡ Message family =
    ap (λ n. Message (address_family_of n)) (first_byte m.header text)
    ∙ ap Message (family_again accepted.means.0 m.header accepted.means.3) in
    let rest : drop header_size (message_text m) ≡ text =
    drop_at (header_bytes m.header) text header_size (header_length m.header) in
    ap (λ a. a ++ cleared (level_of (message_text m)) (drop header_size (message_text m)))
    (no_changes_bytes m.header text)
    ∙ ap₂ (λ (l : Level) x. header_bytes (no_changes m.header) ++ cleared l x) level_is rest
    ∙ ap (λ xs. header_bytes (no_changes m.header) ++ xs)
    (cleared_canons family m.attributes (all_writable b m small accepted))

-- ** attributes that differ in counters alone

same_counters : (family : AddressFamily) (v w : LinkAttribute) → AreCounters v w
    → still_frame family (attribute_frame v) ≡ still_frame family (attribute_frame w)
unfolding attribute_view stats_bytes stats_fields stats64_bytes stats64_fields
same_counters family v w (AreCounters.stats x y) = refl
same_counters family v w (AreCounters.stats64 x y) = refl
same_counters family v w (AreCounters.changes x y) = refl
same_counters family v w (AreCounters.ups x y) = refl
same_counters family v w (AreCounters.downs x y) = refl

same_still : (family : AddressFamily) (v w : LinkAttribute) → SameButCounters v w
    → still_frame family (attribute_frame v) ≡ still_frame family (attribute_frame w)
same_still family v w (inl same) = ap (λ x. still_frame family (attribute_frame x)) same
same_still family v w (inr counters) = same_counters family v w counters

same_frames : (family : AddressFamily) (vs ws : List LinkAttribute) → AllZip SameButCounters vs ws
    → frames_of family vs ≡ frames_of family ws
unfolding frames_of
same_frames family [] [] h = refl
same_frames family [] (w ∷ ws) h = absurd h
same_frames family (v ∷ vs) [] h = absurd h
same_frames family (v ∷ vs) (w ∷ ws) h =
    ap₂ (λ (f : Frame) fs. f ∷ fs) (same_still family v w h.0) (same_frames family vs ws h.1)

-- messages whose frames are the same without what moves
same_state : (a b s t : List ℕ) → IsBytes a → IsBytes b → (h : HasState a s) → (k : HasState b t)
    → no_changes h.message.header ≡ no_changes k.message.header
    → frames_of h.message.header.interface_family h.message.attributes
    ≡ frames_of h.message.header.interface_family k.message.attributes
    → s ≡ t
same_state a b s t small_a small_b h k headers frames =
    let m = h.message in
    let n = k.message in
    let family : m.header.interface_family ≡ n.header.interface_family =
    ap (λ (v : LinkHeader). v.interface_family) headers in
    h.text
    ∙ still_text a m small_a h.accepted
    ∙ ap₂ (λ (v : LinkHeader) fs. header_bytes v ++ encoded fs) headers
    (frames ∙ ap (λ f. frames_of f n.attributes) family)
    ∙ sym (still_text b n small_b k.accepted)
    ∙ sym k.text

pub counters_leave : CountersLeave
counters_leave a b s t small_a small_b h k differ =
    same_state a b s t small_a small_b h k differ.header
    (same_frames h.message.header.interface_family h.message.attributes k.message.attributes differ.attributes)

-- ** frames that differ in what moves, at any depth

part_same : (from to : ℕ) (p q : List ℕ) → DifferBetween from to p q → part 0 from to p ≡ part 0 from to q
part_same from to p q h =
    let long : length (drop from (take to p)) ≡ length (drop from (take to q)) = omega (
      arith,
      h.as_long,
      length-drop from (take to p),
      length-drop from (take to q),
      length-take to p,
      length-take to q,
    ) in
    ap (λ xs. xs ++ replicate (length (drop from (take to p))) 0 ++ drop to p) h.before
    ∙ ap (λ n. take from (take to q) ++ replicate n 0 ++ drop to p) long
    ∙ ap (λ xs. take from (take to q) ++ replicate (length (drop from (take to q))) 0 ++ xs) h.behind

abbrev with_payload : ℕ → List ℕ → Frame
with_payload k p = record { kind = k; payload = p }

same_action : (l : Level) (f g : Frame) (action : Action) → f.kind ≡ g.kind → action_of l (number f) ≡ action
    → payload_by 0 (filled 0) action f.payload ≡ payload_by 0 (filled 0) action g.payload
    → filled_frame 0 l f ≡ filled_frame 0 l g
same_action l f g action kinds is same =
    let other : action_of l (number g) ≡ action =
    sym (ap (λ k. action_of l (number (with_payload k []))) kinds) ∙ is in
    ap₂ with_payload kinds (ap (λ it. payload_by 0 (filled 0) it f.payload) is ∙ same
    ∙ sym (ap (λ it. payload_by 0 (filled 0) it g.payload) other))

cleared_encoded : (l : Level) (fs : List Frame) → AllByRecursion IsWritable fs
    → filled 0 l (encoded fs) ≡ encoded (map (filled_frame 0 l) fs)
cleared_encoded l [] writable = filled_nil 0 l [] refl
cleared_encoded l (f ∷ fs) writable =
    filled_canon 0 l f (encoded fs) writable.0
    ∙ ap (λ xs. canon (filled_frame 0 l f) ++ xs) (cleared_encoded l fs writable.1)

same_inside : (l : Level) (xs ys : List Frame) (p q : List ℕ) → AreIn xs p → AreIn ys q
    → map (filled_frame 0 l) xs ≡ map (filled_frame 0 l) ys → filled 0 l p ≡ filled 0 l q
same_inside l xs ys p q in_p in_q same =
    ap (filled 0 l) in_p.encoded
    ∙ cleared_encoded l xs in_p.writable
    ∙ ap encoded same
    ∙ sym (cleared_encoded l ys in_q.writable)
    ∙ sym (ap (filled 0 l) in_q.encoded)

abbrev in_front : Frame → List Frame → List Frame
in_front f fs = f ∷ fs

same_filled : (l : Level) (us vs : List Frame) → DifferInMoving l us vs
    → map (filled_frame 0 l) us ≡ map (filled_frame 0 l) vs
same_filled l us vs (DifferInMoving.none _) = refl
same_filled l us vs (DifferInMoving.same _ f fs gs later) =
    ap (in_front (filled_frame 0 l f)) (same_filled l fs gs later)
same_filled l us vs (DifferInMoving.all _ f g fs gs kinds is long later) =
    ap₂ in_front (same_action l f g Clear kinds is (ap (λ n. replicate n 0) long)) (same_filled l fs gs later)
same_filled l us vs (DifferInMoving.some _ from to f g fs gs kinds is between later) =
    ap₂ in_front (same_action l f g (ClearPart from to) kinds is (part_same from to f.payload g.payload between))
    (same_filled l fs gs later)
same_filled l us vs (DifferInMoving.inside _ inner f g xs ys fs gs kinds is in_f in_g deeper later) =
    ap₂ in_front (same_action l f g (Enter inner) kinds is
    (same_inside inner xs ys f.payload g.payload in_f in_g (same_filled inner xs ys deeper)))
    (same_filled l fs gs later)
same_filled l us vs (DifferInMoving.by_kind _ f g xs ys fs gs kinds is named in_f in_g deeper later) =
    ap₂ in_front (same_action l f g EnterInfo kinds is
    (same_inside (info_level f.payload) xs ys f.payload g.payload in_f in_g
    (same_filled (info_level f.payload) xs ys deeper) ∙ ap (λ it. filled 0 it g.payload) named))
    (same_filled l fs gs later)

frames_filled : (family : AddressFamily) (vs : List LinkAttribute)
    → frames_of family vs ≡ map (filled_frame 0 (Message family)) (map attribute_frame vs)
unfolding frames_of
frames_filled family [] = refl
frames_filled family (v ∷ vs) = ap (in_front (still_frame family (attribute_frame v))) (frames_filled family vs)

pub moving_leaves : MovingLeaves
moving_leaves a b s t small_a small_b h k differ =
    let m = h.message in
    let family = m.header.interface_family in
    same_state a b s t small_a small_b h k differ.header (frames_filled family m.attributes
    ∙ same_filled (Message family) (map attribute_frame m.attributes) (map attribute_frame k.message.attributes)
    differ.attributes
    ∙ sym (frames_filled family k.message.attributes))
