-- What bytes mean by a style, and what they are shown as, depends on the style as a value, and not on where it stands
-- in memory.
use Rattle.std.proofs.Common.{◌≡◌, ℕ, zero, suc, ◌+◌, Bool, true, false, List, [], ◌∷◌, refl, ap, ◌∙◌}
use Rattle.std.specs.Prelude.{Result, Ok, Err, ◌==◌, drop, if◌then◌else◌, length, map, take}
use Rattle.std.specs.Borrow.{Bor}
use Rattle.std.specs.List.{fold}
use Rattle.nla_wire.specs.Items.{Item as Read, items}
use Rattle.nla_wire.specs.Payloads.{text}
use Rattle.nla_wire.specs.declared.error.Cause.{Cause}
use Rattle.link_info.specs.Lent.{member_now, name_now, plain_now, style_now}
use Rattle.link_info.specs.Meanings.{Meaning, Raw, Present, Number, Signed, Words, Hardware, Four, Six}
use Rattle.link_info.specs.Meanings.{Members as Fields, Elements, Listed, Nested, flag_meaning, form_meaning, read_as}
use Rattle.link_info.specs.Meanings.{plain_or_bytes, record_or_bytes, text_or_bytes}
use Rattle.link_info.specs.Styles.{Form, Host, are_frames}
use Rattle.link_info.specs.Styles.{are_frames_of, form, form_size, is_multiple, plain_in, plain_size, record_size}
use Rattle.link_info.specs.declared.style.Element.TheVariants as E
use Rattle.link_info.specs.declared.style.Member.{Member}
use Rattle.link_info.specs.declared.style.Plain.{Plain}
use Rattle.link_info.specs.declared.style.Plain.TheVariants as P
use Rattle.link_info.specs.declared.style.Style.{Style}
use Rattle.link_info.specs.declared.style.Style.TheVariants as S
use Rattle.shown.specs.Drafts.{object_of}
use Rattle.shown.specs.Values.{flags_of, named_number}
use Rattle.frame_shown.specs.Values.{Nesting, count_of, elements_shown, listed, meaning_shown, number_shown}
use Rattle.frame_shown.specs.Values.{payloads_shown, plain_shown, record_shown, spelled, style_shown}
use Rattle.frame_shown.specs.Values.{texts_of}

-- ** values of a fixed size

texts_now : (names : List (ℕ × Bor (List ℕ))) → texts_of (map name_now names) ≡ texts_of names
texts_now [] = refl
texts_now (n ∷ names) = ap (λ texts. (n.0, n.1.now) ∷ texts) (texts_now names)

number_now : (plain : Plain) (n : ℕ) → number_shown (plain_now plain) n ≡ number_shown plain n
number_now (P.Named size names) n = ap (λ texts. named_number texts n ∷ []) (texts_now names.now)
number_now (P.BigEndianNamed size names) n = ap (λ texts. named_number texts n ∷ []) (texts_now names.now)
number_now (P.Flags size names) n = ap (λ texts. flags_of texts n) (texts_now names.now)
number_now (P.BigEndianFlags size names) n = ap (λ texts. flags_of texts n) (texts_now names.now)
number_now _ n = refl

form_now : (plain : Plain) → form (plain_now plain) ≡ form plain
form_now (P.Unsigned size) = refl
form_now _ = refl

pub size_now : (plain : Plain) → plain_size (plain_now plain) ≡ plain_size plain
size_now plain = ap form_size (form_now plain)

-- ** what bytes mean

-- a meaning without the addresses in it
abbrev pub meaning_now : Meaning → Meaning
meaning_now (Fields members p) = Fields (map member_now members) p
meaning_now (Elements plain p) = Elements (plain_now plain) p
meaning_now (Listed plain p) = Listed (plain_now plain) p
meaning_now (Raw p) = Raw p
meaning_now Present = Present
meaning_now (Number n) = Number n
meaning_now (Signed z) = Signed z
meaning_now (Words s) = Words s
meaning_now (Hardware octets) = Hardware octets
meaning_now (Four address) = Four address
meaning_now (Six address) = Six address
meaning_now (Nested place p) = Nested place p

either_now : (b : Bool) (m : Meaning) (p : List ℕ)
    → (if b then meaning_now m else Raw p) ≡ meaning_now (if b then m else Raw p)
either_now true m p = refl
either_now false m p = refl

-- what bytes mean by a form
abbrev by_form : List ℕ → Form → Meaning
by_form p f = if length p == form_size f then form_meaning f p else Raw p

form_meant : (f : Form) (p : List ℕ) → form_meaning f p ≡ meaning_now (form_meaning f p)
form_meant (Host size) p = refl
form_meant _ p = refl

flag_meant : (p : List ℕ) → flag_meaning p ≡ meaning_now (flag_meaning p)
flag_meant [] = refl
flag_meant (x ∷ p) = refl

text_meant : (p : List ℕ) (r : Result (List ℕ) Cause) → text_or_bytes p r ≡ meaning_now (text_or_bytes p r)
text_meant p (Ok s) = refl
text_meant p (Err c) = refl

sizes_now : (a : ℕ) (ms : List Member)
    → fold (λ a m. a + plain_size m.1) a (map member_now ms) ≡ fold (λ a m. a + plain_size m.1) a ms
sizes_now a [] = refl
sizes_now a (m ∷ ms) =
    ap (λ n. fold (λ a m. a + plain_size m.1) (a + n) (map member_now ms)) (size_now m.1)
    ∙ sizes_now (a + plain_size m.1) ms

plain_meant : (plain : Plain) (p : List ℕ)
    → plain_or_bytes (plain_now plain) p ≡ meaning_now (plain_or_bytes plain p)
plain_meant plain p =
    ap (by_form p) (form_now plain)
    ∙ ap (λ m. if length p == plain_size plain then m else Raw p) (form_meant (form plain) p)
    ∙ either_now (length p == plain_size plain) (form_meaning (form plain) p) p

record_meant : (members : List Member) (p : List ℕ)
    → record_or_bytes (map member_now members) p ≡ meaning_now (record_or_bytes members p)
record_meant members p =
    ap (λ n. if n == length p then Fields (map member_now members) p else Raw p) (sizes_now 0 members)
    ∙ either_now (record_size members == length p) (Fields members p) p

pub read_now : (style : Style) (p : List ℕ) → read_as (style_now style) p ≡ meaning_now (read_as style p)
read_now S.Bytes p = refl
read_now S.Flag p = flag_meant p
read_now S.Text p = text_meant p (text.reads p)
read_now (S.Plain plain) p = plain_meant plain p
read_now (S.Record members) p = record_meant members.now p
read_now (S.Array plain) p =
    ap (λ n. if is_multiple n (length p) then Elements (plain_now plain) p else Raw p) (size_now plain)
    ∙ either_now (is_multiple (plain_size plain) (length p)) (Elements plain p) p
read_now (S.List plain) p =
    ap (λ n. if are_frames_of n (items p) then Listed (plain_now plain) p else Raw p) (size_now plain)
    ∙ either_now (are_frames_of (plain_size plain) (items p)) (Listed plain p) p
read_now (S.Nest place) p = either_now (are_frames (items p)) (Nested place p) p
read_now (S.Each (E.Plain plain)) p = plain_meant plain p
read_now (S.Each (E.Record members)) p = record_meant members.now p
read_now (S.Each (E.Nest place)) p = either_now (are_frames (items p)) (Nested place p) p

-- ** what they are shown as

plain_shown_now : (plain : Plain) (m : Meaning) → plain_shown (plain_now plain) m ≡ plain_shown plain m
plain_shown_now plain (Number n) = number_now plain n
plain_shown_now plain _ = refl

spelled_now : (plain : Plain) (p : List ℕ) → spelled (plain_now plain) p ≡ spelled plain p
spelled_now plain p =
    plain_shown_now plain (read_as (S.Plain (plain_now plain)) p)
    ∙ ap (λ f. plain_shown plain (by_form p f)) (form_now plain)

pub record_now : (ms : List Member) (p : List ℕ) → record_shown (map member_now ms) p ≡ record_shown ms p
record_now [] p = refl
record_now (m ∷ ms) p =
    ap (λ n. (m.0.now, spelled (plain_now m.1) (take n p)) ∷ record_shown (map member_now ms) (drop n p))
    (size_now m.1)
    ∙ λ i. (m.0.now, spelled_now m.1 (take (plain_size m.1) p) i) ∷ record_now ms (drop (plain_size m.1) p) i

elements_now : (plain : Plain) (n : ℕ) (p : List ℕ) → elements_shown (plain_now plain) n p ≡ elements_shown plain n p
elements_now plain zero p = refl
elements_now plain (suc n) p =
    ap (λ k. ([], spelled (plain_now plain) (take k p)) ∷ elements_shown (plain_now plain) n (drop k p))
    (size_now plain)
    ∙ λ i. ([], spelled_now plain (take (plain_size plain) p) i) ∷ elements_now plain n (drop (plain_size plain) p) i

payloads_now : (plain : Plain) (xs : List Read) → payloads_shown (plain_now plain) xs ≡ payloads_shown plain xs
payloads_now plain [] = refl
payloads_now plain (Ok f ∷ xs) = λ i. ([], spelled_now plain f.payload i) ∷ payloads_now plain xs i
payloads_now plain (Err c ∷ xs) = refl

plain_in_now : (style : Style) → plain_in (style_now style) ≡ plain_now (plain_in style)
plain_in_now (S.Each (E.Plain plain)) = refl
plain_in_now (S.Each (E.Record members)) = refl
plain_in_now (S.Each (E.Nest place)) = refl
plain_in_now _ = refl

shown_now : (nest : Nesting) (style : Style) (m : Meaning)
    → meaning_shown nest (style_now style) (meaning_now m) ≡ meaning_shown nest style m
shown_now nest style (Fields members p) = ap object_of (record_now members p)
shown_now nest style (Elements plain p) =
    ap (λ n. listed (elements_shown (plain_now plain) (count_of n (length p)) p)) (size_now plain)
    ∙ ap listed (elements_now plain (count_of (plain_size plain) (length p)) p)
shown_now nest style (Listed plain p) = ap listed (payloads_now plain (items p))
shown_now nest style (Number n) =
    ap (λ plain. number_shown plain n) (plain_in_now style) ∙ number_now (plain_in style) n
shown_now nest style _ = refl

pub style_now_same : (nest : Nesting) (style : Style) (p : List ℕ)
    → style_shown nest (style_now style) p ≡ style_shown nest style p
style_now_same nest style p =
    ap (meaning_shown nest (style_now style)) (read_now style p) ∙ shown_now nest style (read_as style p)
