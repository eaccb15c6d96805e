-- The last frame of a number, of a message that is read: it means the message's last attribute of that number.
use Rattle.std.proofs.Common.{◌≡◌, ℕ, List, [], ◌∷◌, refl, ap, sym, ◌∙◌, subst, Bool, true, false}
use Rattle.std.proofs.Common.{Option, Some, None, Result, Ok, Err}
use Rattle.std.specs.Prelude.{◌==◌, if◌then◌else◌}
use Rattle.nla_wire.specs.Frames.{Frame, number, IsBytes, Frames}
use Rattle.nla_wire.specs.Gives.{without_place}
use Rattle.nla_wire.specs.Grammar.{list, Every}
use Rattle.nla_wire.specs.Items.{Item, items, all_frames}
use Rattle.nla_wire.specs.Reading.{◌>>=◌}
use Rattle.nla_wire.specs.declared.error.Cause.{Cause}
use Rattle.nla_wire.specs.declared.error.DecodeError.{DecodeError}
use Rattle.nla_wire.proofs.Items.{items_nil, items_next}
use Rattle.nla_wire.proofs.Lists.{list_found}
use Rattle.nla_wire.proofs.Steps.{step_whole}
use Rattle.link_vals.specs.declared.address_family.AddressFamily.{AddressFamily}
use Rattle.link_msg.specs.Tables.{attribute_place, attribute_frame, attribute_number, attribute_lawful, Values}
use Rattle.link_msg.specs.Messages.{Means, read_message, with_header}
use Rattle.link_msg.specs.declared.attribute.LinkAttribute.{LinkAttribute}
use Rattle.link_msg.specs.declared.header.LinkHeader.{LinkHeader}
use Rattle.link_msg.specs.declared.message.LinkMessage.{LinkMessage}
use Rattle.link_msg.proofs.Reading.{message_agrees}
use Rattle.link_view.specs.Views.{Opened, parsed, latest, last_of, IsMeant, IsLastOf, AreFramesOf}
use Rattle.link_view.specs.Told.{told_found, read_found, each_read, all_read}
use Rattle.link_view.specs.Borrowed.{owned}
use Rattle.link_view.specs.declared.borrowed.BorrowedAttribute.{BorrowedAttribute}

-- ** frame by frame

chosen : (family : AddressFamily) (b : Bool) (g : Frame) (w : LinkAttribute) (f : Option Frame)
    (v : Option LinkAttribute) → (attribute_place family).means g w → IsMeant family f v
    → IsMeant family (if b then Some g else f) (if b then Some w else v)
chosen family true g w f v means meant = means
chosen family false g w f v means meant = meant

follows : (family : AddressFamily) (n : ℕ) (fs : List Frame) (vs : Values) (f : Option Frame) (v : Option LinkAttribute)
    → Every (attribute_place family).means fs vs → IsMeant family f v
    → (r : Option Frame) × (latest n f (all_frames fs) ≡ Ok r) × IsMeant family r (last_of n v vs)
follows family n [] [] f v every meant = (f, refl, meant)
follows family n [] (w ∷ vs) f v every meant = absurd every
follows family n (g ∷ fs) [] f v every meant = absurd every
follows family n (g ∷ fs) (w ∷ vs) f v every meant =
    follows family n fs vs (if number g == n then Some g else f)
    (if number (attribute_frame w) == n then Some w else v) every.1
    (subst (λ k. IsMeant family (if number g == n then Some g else f) (if k == n then Some w else v))
    (sym (attribute_number family g w every.0)) (chosen family (number g == n) g w f v every.0 meant))

-- ** bytes

frames_items : (d : List ℕ) (fs : List Frame) → Frames d fs → items d ≡ all_frames fs
frames_items d [] h = ap items h ∙ items_nil
frames_items d (f ∷ fs) h =
    items_next d f h.0 (step_whole d f h.0 h.1)
    ∙ ap (λ (xs : List Item). Ok f ∷ xs) (frames_items h.0 fs h.2)

-- of attributes that are read
in_list : (family : AddressFamily) (n : ℕ) (d : List ℕ) (vs : Values) → IsBytes d
    → (list (attribute_place family)).reads d ≡ Ok vs
    → (r : Option Frame) × (latest n None (items d) ≡ Ok r) × IsMeant family r (last_of n None vs)
in_list family n d vs small e =
    let m = list_found (attribute_place family) (attribute_lawful family).agrees d vs small e in
    let t = follows family n m.0 vs None None m.2 tt in
    (t.0, ap (latest n None) (frames_items d m.0 m.1) ∙ t.1, t.2)

-- ** messages

with_header_ok : (h : LinkHeader) (r : Result Values Cause) (m : LinkMessage) → with_header h r ≡ Ok m
    → (h ≡ m.header) × (r ≡ Ok m.attributes)
with_header_ok h (Err c) m e = absurd cc
with_header_ok h (Ok vs) m e = (cc, cc)

told : (m : LinkMessage) (n : ℕ) (result : Result (Option Frame) DecodeError) (r : Option Frame)
    → without_place result ≡ Ok r → IsMeant m.header.interface_family r (last_of n None m.attributes)
    → IsLastOf m n result
told m n (Err e) r h meant = absurd cc
told m n (Ok f) r h meant =
    let same : f ≡ r = cc in
    subst (λ k. IsMeant m.header.interface_family k (last_of n None m.attributes)) (sym same) meant

-- what is read of the bytes behind a header, where the message is read
rest_read : (v : Opened) (m : LinkMessage) → parsed v ≡ Ok m
    → (list (attribute_place m.header.interface_family)).reads v.list ≡ Ok m.attributes
rest_read v m e =
    let w = with_header_ok v.header _ m e in
    subst (λ (h : LinkHeader). (list (attribute_place h.interface_family)).reads v.list ≡ Ok m.attributes) w.0 w.1

pub last_told : (v : Opened) (m : LinkMessage) (n : ℕ) (result : Result (Option Frame) DecodeError) → IsBytes v.list
    → without_place result ≡ latest n None (items v.list) → parsed v ≡ Ok m → IsLastOf m n result
last_told v m n result small found e =
    let t = in_list m.header.interface_family n v.list m.attributes small (rest_read v m e) in
    told m n result t.0 (found ∙ t.1) t.2

pub frames_told : (v : Opened) (m : LinkMessage) → IsBytes v.list → parsed v ≡ Ok m → AreFramesOf m (items v.list)
frames_told v m small e =
    let place = attribute_place m.header.interface_family in
    let t = list_found place (attribute_lawful m.header.interface_family).agrees v.list m.attributes small
    (rest_read v m e) in
    (t.0, frames_items v.list t.0 t.1, t.2)

-- a message is what its view is read as
pub opened_means : (b : List ℕ) (v : Opened) → ((m : LinkMessage) × Means b m) → read_message b ≡ parsed v
    → (m : LinkMessage) × Means b m × (parsed v ≡ Ok m)
opened_means b v m same = (m.0, m.1, sym same ∙ message_agrees.only b m.0 m.1)

-- ** values

meant_read : (family : AddressFamily) (f : Option Frame) (v : Option LinkAttribute) → IsMeant family f v
    → read_found (attribute_place family).reads (Ok f) ≡ Ok v
meant_read family None None h = refl
meant_read family None (Some v) h = absurd h
meant_read family (Some f) None h = absurd h
meant_read family (Some f) (Some v) h =
    ap (λ (r : Result LinkAttribute Cause). r >>= λ a. Ok (Some a)) ((attribute_lawful family).agrees.only f v h)

every_read : (family : AddressFamily) (fs : List Frame) (vs : Values) → Every (attribute_place family).means fs vs
    → each_read (attribute_place family).reads (all_frames fs) ≡ all_read vs
every_read family [] [] h = refl
every_read family [] (v ∷ vs) h = absurd h
every_read family (f ∷ fs) [] h = absurd h
every_read family (f ∷ fs) (v ∷ vs) h =
    ap (λ (r : Result LinkAttribute Cause). r ∷ each_read (attribute_place family).reads (all_frames fs))
    ((attribute_lawful family).agrees.only f v h.0)
    ∙ ap (λ (rs : List (Result LinkAttribute Cause)). Ok v ∷ rs) (every_read family fs vs h.1)

-- a message's header is that of its view
same_header : (v : Opened) (m : LinkMessage) → parsed v ≡ Ok m → v.header ≡ m.header
same_header v m e = (with_header_ok v.header _ m e).0

pub value_told : (v : Opened) (m : LinkMessage) (n : ℕ) (result : Result (Option BorrowedAttribute) DecodeError)
    → IsBytes v.list
    → told_found owned result
    ≡ read_found (attribute_place v.header.interface_family).reads (latest n None (items v.list))
    → parsed v ≡ Ok m → told_found owned result ≡ Ok (last_of n None m.attributes)
value_told v m n result small found e =
    let t = in_list m.header.interface_family n v.list m.attributes small (rest_read v m e) in
    found
    ∙ ap (λ (r : Result (Option Frame) Cause). read_found (attribute_place v.header.interface_family).reads r) t.1
    ∙ subst
    (λ (h : LinkHeader). read_found (attribute_place h.interface_family).reads (Ok t.0)
    ≡ Ok (last_of n None m.attributes))
    (sym (same_header v m e)) (meant_read m.header.interface_family t.0 (last_of n None m.attributes) t.2)

pub values_told : (v : Opened) (m : LinkMessage) → IsBytes v.list → parsed v ≡ Ok m
    → each_read (attribute_place v.header.interface_family).reads (items v.list) ≡ all_read m.attributes
values_told v m small e =
    let t = frames_told v m small e in
    ap (λ (xs : List Item). each_read (attribute_place v.header.interface_family).reads xs) t.1
    ∙ subst
    (λ (h : LinkHeader). each_read (attribute_place h.interface_family).reads (all_frames t.0)
    ≡ all_read m.attributes)
    (sym (same_header v m e)) (every_read m.header.interface_family t.0 m.attributes t.2)
