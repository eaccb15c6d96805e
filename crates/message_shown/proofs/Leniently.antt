-- Bytes that are read leniently: which they are, and what their answers hold.
use Rattle.std.proofs.Common.{◌≡◌, ℕ, ◌<◌, ◌≤◌, Bool, true, false, List, [], ◌∷◌, ◌++◌, length, take, drop, refl}
use Rattle.std.proofs.Common.{sym, ap, ◌∙◌, subst, arith, inl, inr, append-nil, append_assoc, length-append}
use Rattle.std.specs.Prelude.{Result, Err, codes, decimal}
use Rattle.std.proofs.lemmas.List.Sums.{fold-append}
use Rattle.json.specs.Token.{number, string}
use Rattle.std.proofs.Math.Seq.{take-append_seam, drop-append_seam}
use Rattle.std.proofs.lemmas.List.{take-append-drop}
use Rattle.nla_wire.specs.Frames.{Frame, Frames, IsBytes}
use Rattle.nla_wire.specs.Grammar.{Every}
use Rattle.nla_wire.specs.Items.{Item, items, all_frames}
use Rattle.nla_wire.specs.declared.error.Cause.{Cause}
use Rattle.nla_wire.proofs.Cuts.{frames_not_fault}
use Rattle.nla_wire.proofs.Items.{items_are, items_next, items_nil}
use Rattle.nla_wire.proofs.Steps.{bytes_right, step_whole}
use Rattle.link_info.specs.Styles.{are_frames}
use Rattle.link_vals.specs.declared.address_family.AddressFamily.{AddressFamily}
use Rattle.link_msg.specs.Header.{header_size, header_of}
use Rattle.link_msg.specs.Lenient.{MeansLeniently, MeansNoneLeniently, lenient_place}
use Rattle.link_msg.specs.Messages.{MeansNothing}
use Rattle.link_msg.specs.Tables.{attribute_place, attribute_lawful}
use Rattle.link_msg.specs.FaultPath.{numbers_to}
use Rattle.link_msg.specs.Told.{Told, after, told_all, told_on}
use Rattle.link_msg.specs.Told.{told as told_in}
use Rattle.link_msg.specs.declared.fault_path.FaultPath.{FaultPath}
use Rattle.link_msg.specs.declared.attribute.LinkAttribute.{LinkAttribute}
use Rattle.link_msg.specs.declared.header.LinkHeader.{LinkHeader}
use Rattle.link_msg.specs.declared.message.LinkMessage.{LinkMessage}
use Rattle.link_msg.proofs.Leniently.{strict_is_lenient, fitting_is_read}
use Rattle.link_msg.proofs.MessagesBy.{is_header}
use Rattle.line_filter.specs.Lines.{with_lf}
use Rattle.shown.specs.Drafts.{Draft, Members, empty_object, object_of, with_members, with_value}
use Rattle.shown.specs.Pages.{AddsText, IsObject, IsWholeText}
use Rattle.shown.specs.Values.{numbered}
use Rattle.shown.proofs.Pages.{object_found, whole_text}
use Rattle.frame_shown.specs.Accepted.{lenient_members}
use Rattle.frame_shown.specs.Items.{objects}
use Rattle.frame_shown.proofs.Items.{both_added}
use Rattle.message_shown.specs.Causes.{cause_members, cause_text}
use Rattle.message_shown.specs.Leniently.{taken, accepted, AreTold}
use Rattle.message_shown.specs.Leniently.{Fits, IsSplit, EachIsTold}
use Rattle.message_shown.specs.Leniently.{AddsOne, AddsTold, IsLenientAnswerTo, TellsLeniently, frame_told}
use Rattle.message_shown.specs.Leniently.{lenient_line, refusal_members, refused_member}
use Rattle.message_shown.specs.Lines.{AddsAnswerTo, family_member, head, message_head}
use Rattle.message_shown.specs.Whole.{BeginsAs, TellsAs, IsWholeAnswerTo, IsWholeLenientAnswerTo}
use Rattle.message_shown.specs.declared.context.Context.{Context}
use Rattle.message_shown.proofs.Added.{begins, family_begins, lf_after, means_nothing}

-- ** which bytes mean a message leniently

-- the front of its bytes is its header
pub header_is : (b : List ℕ) (m : LinkMessage) → MeansLeniently b m → m.header ≡ header_of (take header_size b)
header_is b m (h, c, whole, header, means) =
    header.says ∙ ap header_of (sym (ap (take header_size) whole ∙ ap (λ n. take n (h ++ c)) (sym header.size)
    ∙ take-append_seam h c))

pub after_is : (b h c : List ℕ) → b ≡ h ++ c → length h ≡ header_size → drop header_size b ≡ c
after_is b h c whole size =
    ap (drop header_size) whole ∙ ap (λ n. drop n (h ++ c)) (sym size) ∙ drop-append_seam h c

pub none_short : (b : List ℕ) → length b < header_size → MeansNoneLeniently b
none_short b short m (h, c, whole, header, means) =
    absurd (omega (arith, short, ap (λ (x : List ℕ). length x) whole, length-append h c, header.size))

pub long_enough : (b : List ℕ) (m : LinkMessage) → MeansLeniently b m → header_size ≤ length b
long_enough b m (h, c, whole, header, means) =
    omega (arith, ap (λ (x : List ℕ). length x) whole, length-append h c, header.size)

frames_whole : (fs : List Frame) → are_frames (all_frames fs) ≡ true
frames_whole [] = refl
frames_whole (f ∷ fs) = frames_whole fs

fault_breaks : (fs : List Frame) (c : Cause) → are_frames (all_frames fs ++ Err c ∷ []) ≡ false
fault_breaks [] c = refl
fault_breaks (f ∷ fs) c = fault_breaks fs c

pub bytes_after : (b : List ℕ) → IsBytes b → IsBytes (drop header_size b)
bytes_after b bytes = bytes_right (take header_size b) (drop header_size b)
    (subst IsBytes (sym (take-append-drop header_size b)) bytes)

-- bytes that are no frame stand among them
pub none_stray : (b : List ℕ) → IsBytes b → are_frames (items (drop header_size b)) ≡ false → MeansNoneLeniently b
none_stray b bytes stray m (h, c, whole, header, (fs, frames, every)) =
    let d = drop header_size b in
    let framed : Frames d fs = subst (λ x. Frames x fs) (sym (after_is b h c whole header.size)) frames in
    elim (items_are d (bytes_after b bytes)) [
      | inl (gs, _, is) ↦
          (let clash : true ≡ false = sym (frames_whole gs) ∙ ap are_frames (sym is) ∙ stray in absurd cc)
      | inr (gs, cause, fault, _) ↦ absurd (frames_not_fault d fs gs cause framed fault)
    ]

pub meant_whole : (b : List ℕ) → IsBytes b → header_size ≤ length b → are_frames (items (drop header_size b)) ≡ true
    → (m : LinkMessage) × MeansLeniently b m
meant_whole b bytes long whole =
    let h = take header_size b in
    let d = drop header_size b in
    let parts : h ++ d ≡ b = take-append-drop header_size b in
    elim (items_are d (bytes_after b bytes)) [
      | inl (fs, frames, _) ↦
          (let it = fitting_is_read h d fs (subst IsBytes (sym parts) bytes)
          (is_header b long).size frames in
          (it.0, subst (λ x. MeansLeniently x it.0) parts it.1))
      | inr (fs, cause, _, is) ↦
          (let clash : false ≡ true = sym (fault_breaks fs cause) ∙ ap are_frames (sym is) ∙ whole in absurd cc)
    ]

-- which of both it is
pub fits_or_not : (b : List ℕ) → IsBytes b → header_size ≤ length b → (whole : Bool)
    → whole ≡ are_frames (items (drop header_size b)) → Fits b whole
fits_or_not b bytes long true is = meant_whole b bytes long (sym is)
fits_or_not b bytes long false is = none_stray b bytes (sym is)

-- ** nothing is left out

split_on : (family : AddressFamily) (at : ℕ) (f : Frame) (v : LinkAttribute) (all vs : List LinkAttribute)
    (ts : List Told) → (lenient_place family).means f v → IsSplit family all vs ts
    → IsSplit family (v ∷ all) (taken ((attribute_place family).reads f) vs)
    (told_on family at f ((attribute_place family).reads f) ts)
split_on family at f v all vs ts (inl means) later =
    subst (λ (r : Result LinkAttribute Cause). IsSplit family (v ∷ all) (taken r vs) (told_on family at f r ts))
    (sym ((attribute_lawful family).agrees.only f v means)) (inl (vs, refl, later))
split_on family at f v all vs ts (inr ((c, bad), is)) later =
    subst (λ (r : Result LinkAttribute Cause). IsSplit family (v ∷ all) (taken r vs) (told_on family at f r ts))
    (sym ((attribute_lawful family).agrees.refused f c bad)) (inr (f, at, c, ts, is, refl, later))

split_list : (family : AddressFamily) (at : ℕ) (d : List ℕ) (fs : List Frame) (all : List LinkAttribute) → Frames d fs
    → Every (lenient_place family).means fs all
    → IsSplit family all (accepted family (items d)) (told_in family at (items d))
split_list family at d [] [] frames every = (
  ap (λ x. accepted family (items x)) frames ∙ ap (accepted family) items_nil,
  ap (λ x. told_in family at (items x)) frames ∙ ap (told_in family at) items_nil,
)
split_list family at d [] (v ∷ all) frames every = absurd every
split_list family at d (f ∷ fs) [] frames every = absurd every
split_list family at d (f ∷ fs) (v ∷ all) (rest, begins, frames) every =
    subst (λ (xs : List Item). IsSplit family (v ∷ all) (accepted family xs) (told_in family at xs))
    (sym (items_next d f rest (step_whole d f rest begins)))
    (split_on family at f v all (accepted family (items rest)) (told_in family (after at f) (items rest)) every.0
    (split_list family (after at f) rest fs all frames every.1))

pub each_is_told : EachIsTold
unfolding told_all
each_is_told b m (h, c, whole, header, (fs, frames, every)) =
    let family = m.header.interface_family in
    let d = drop header_size b in
    let framed : Frames d fs = subst (λ x. Frames x fs) (sym (after_is b h c whole header.size)) frames in
    subst (λ (v : LinkHeader). IsSplit family m.attributes (accepted family (items d))
    (told_in v.interface_family header_size (items d)))
    (header_is b m (h, c, whole, header, (fs, frames, every)))
    (split_list family header_size d fs m.attributes framed every)

-- ** answers

-- an answer to a message, or to bytes that mean none leniently either
leniently : (cx : Context) (words : Members) (b answer : List ℕ) → (MeansNothing b → MeansNoneLeniently b)
    → IsWholeAnswerTo cx words b answer → IsWholeLenientAnswerTo cx words b answer
leniently cx words b answer none (IsWholeAnswerTo.fault c fault o ms are is) =
    IsWholeLenientAnswerTo.fault c fault (none (λ m. means_nothing b c m fault)) o ms are is
leniently cx words b answer none (IsWholeAnswerTo.message m means o is) = IsWholeLenientAnswerTo.message m means o is

pub added_leniently : (cx : Context) (words : Members) (b old new : List ℕ) → (MeansNothing b → MeansNoneLeniently b)
    → AddsAnswerTo (IsWholeAnswerTo cx) words b old new → AddsAnswerTo (IsWholeLenientAnswerTo cx) words b old new
added_leniently cx words b old new none added = (added.0, leniently cx words b added.0 none added.1, added.2)

-- ** what follows from a whole answer
pub begins_leniently : BeginsAs IsWholeLenientAnswerTo IsLenientAnswerTo
begins_leniently cx words b answer (IsWholeLenientAnswerTo.fault c fault none o ms are is) =
    IsLenientAnswerTo.fault c fault none o
begins_leniently cx words b answer (IsWholeLenientAnswerTo.message m means o is) =
    IsLenientAnswerTo.message m (strict_is_lenient b m means) o
begins_leniently cx words b answer (IsWholeLenientAnswerTo.part m means nothing o told are is) =
    IsLenientAnswerTo.message m means o

tells_by : (cx : Context) (words : Members) (b answer old new : List ℕ) → IsWholeLenientAnswerTo cx words b answer
    → new ≡ old ++ with_lf answer → TellsLeniently words cx b old new
tells_by cx words b answer old new (IsWholeLenientAnswerTo.fault c fault none o ms are is) added = (
  λ n means. absurd (means_nothing b c n fault means),
  λ n means nothing. absurd (none n means),
)
tells_by cx words b answer old new (IsWholeLenientAnswerTo.message m means o is) added = (
  λ n too. added ∙ ap (λ t. old ++ with_lf t) is,
  λ n too nothing. absurd (nothing m means),
)
tells_by cx words b answer old new (IsWholeLenientAnswerTo.part m means nothing o told are is) added = (
  λ n too. absurd (nothing n too),
  λ n too none. (
    told,
    are,
    added ∙ ap (λ t. old ++ with_lf t) is,
  ),
)

pub tells_leniently : TellsAs IsWholeLenientAnswerTo TellsLeniently
tells_leniently cx words b old new s = tells_by cx words b s.0 old new s.1 s.2

-- ** the attributes that are refused

-- the members of one
pub one_page : (place : List ℕ) (path : FaultPath) (t : Told) (begun named caused counted at page : Draft)
    → named ≡ with_value (codes "at") (string place ∷ []) begun
    → caused ≡ with_value (codes "fault") (string (cause_text t.cause) ∷ []) named
    → counted ≡ with_members (cause_members t.cause) caused
    → at ≡ with_value (codes "offset") (number (decimal path.offset) ∷ []) counted
    → page ≡ with_members (frame_told (numbers_to path) t.frame) at
    → page ≡ with_members (refusal_members place path t) begun
one_page place path t begun named caused counted at page n c k o is =
    let first = with_value (codes "fault") (string (cause_text t.cause) ∷ [])
    (with_value (codes "at") (string place ∷ []) begun) in
    let rest = frame_told (numbers_to path) t.frame in
    is ∙ ap (with_members rest)
    (o ∙ ap (λ (d : Draft). with_value (codes "offset") (number (decimal path.offset) ∷ []) d)
    (k ∙ ap (with_members (cause_members t.cause))
    (c ∙ ap (λ (d : Draft). with_value (codes "fault") (string (cause_text t.cause) ∷ []) d) n)))
    ∙ sym (fold-append (λ (d : Draft) m. with_value m.0 m.1 d) first (cause_members t.cause)
    (numbered (codes "offset") path.offset ∷ rest))

objects_more : (os : List Members) (o : Members) → objects (os ++ o ∷ []) ≡ objects os ++ ([], object_of o) ∷ []
objects_more [] o = refl
objects_more (x ∷ os) o = ap (λ ms. ([], object_of x) ∷ ms) (objects_more os o)

-- the members of those that were told, in front of those that are left
abbrev pub Telling : List Told → List Told → Draft → Draft → Type 0
Telling all left old page = (told : List Members) × (page ≡ with_members (objects told) old)
    × ((more : List Members) → AreTold left more → AreTold all (told ++ more))

pub one_told : (all left rest : List Told) (t : Told) (old page new : Draft) → left ≡ t ∷ rest → AddsOne t page new
    → Telling all left old page → Telling all rest old new
one_told all left rest t old page new is (ms, told, added) (done, so_far, go) = (
  done ++ ms ∷ [],
  both_added (objects done) (([], object_of ms) ∷ []) old page new so_far added
      ∙ ap (λ os. with_members os old) (sym (objects_more done ms)),
  λ more h. subst (AreTold all) (sym (append_assoc done (ms ∷ []) more))
      (go (ms ∷ more) (subst (λ ts. AreTold ts (ms ∷ more)) (sym is) (told, h))),
)

pub telling_ends : (all left : List Told) (old page : Draft) → left ≡ [] → Telling all left old page
    → AddsTold all old page
telling_ends all left old page is (done, so_far, go) = (
  done,
  subst (AreTold all) (append-nil done) (go [] (subst (λ ts. AreTold ts []) (sym is) tt)),
  so_far,
)

-- ** the line
lenient_text : (words : Members) (cx : Context) (b : List ℕ) (told : List Members) (page : Draft) (text : List ℕ)
    → page ≡ with_members (words ++ (lenient_members cx.around b ++ refused_member told ∷ [])) empty_object
    → IsWholeText page text → text ≡ lenient_line words cx b told
unfolding lenient_line
lenient_text words cx b told page text is whole =
    whole_text (words ++ (lenient_members cx.around b ++ refused_member told ∷ [])) page text is whole

module _ (words : Members) (cx : Context) (b old mid new : List ℕ) (told : List Members) (page : Draft)
    (reads : (m : LinkMessage) × MeansLeniently b m)
    (is : page ≡ with_members (words ++ (lenient_members cx.around b ++ refused_member told ∷ [])) empty_object)
    (s : AddsText page old mid) (k : new ≡ mid ++ 10 ∷ []) where
  found : IsObject (message_head words reads.0) s.0
  found = object_found page (head words (family_member reads.0)) _ s.0
      (begins words _ (family_member reads.0) page
      (family_begins lenient_place b reads.0 reads.1 words _ page is)) s.1

  pub accepted_answered : AddsAnswerTo IsLenientAnswerTo words b old new
  accepted_answered =
      (s.0, IsLenientAnswerTo.message reads.0 reads.1 found, lf_after old s.0 mid new s.2 k)

  pub accepted_shown : AreTold (told_all b) told → MeansNothing b
      → AddsAnswerTo (IsWholeLenientAnswerTo cx) words b old new
  accepted_shown are nothing = (
    s.0,
    IsWholeLenientAnswerTo.part reads.0 reads.1 nothing found told are
        (lenient_text words cx b told page s.0 is s.1),
    lf_after old s.0 mid new s.2 k,
  )
