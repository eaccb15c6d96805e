-- The number that a value of a list says does not depend on where in memory the rows stand that it is read by.
use Rattle.std.proofs.Common.{◌≡◌, ℕ, List, [], ◌∷◌, refl, sym, ap, ◌∙◌}
use Rattle.std.specs.Prelude.{◌==◌, ◌&&◌, ◌||◌, Option, None, Some, cond, drop, map, not, take}
use Rattle.std.specs.Int.{w32}
use Rattle.std.specs.List.{list_any}
use Rattle.nla_wire.specs.Fields.{number_at}
use Rattle.nla_wire.specs.Frames.{Frame, number}
use Rattle.nla_wire.specs.Items.{items}
use Rattle.link_info.specs.Lent.{member_now, plain_now}
use Rattle.link_info.specs.Meanings.{Meaning, Members as Fields, Nested, read_as}
use Rattle.link_info.specs.Styles.{plain_size}
use Rattle.link_info.specs.Tables.{frames_in}
use Rattle.link_info.specs.declared.style.Member.{Member as Part}
use Rattle.link_info.specs.declared.style.Plain.{Plain}
use Rattle.link_info.specs.declared.style.Plain.TheVariants as P
use Rattle.link_info.specs.declared.style.Style.TheVariants as S
use Rattle.frame_shown.specs.Tables.{Known, entry_list, row_in}
use Rattle.frame_shown.specs.declared.form.Around.{Around}
use Rattle.frame_shown.specs.declared.form.List.{List as Shape}
use Rattle.frame_shown.specs.declared.form.List.TheVariants as Shapes
use Rattle.frame_shown.specs.declared.form.Way.{Way}
use Rattle.frame_shown.specs.declared.form.Way.TheVariants as Ways
use Rattle.frame_shown.proofs.Plain.{AreAlike, each_now, kept_now, row_same, way_now}
use Rattle.frame_shown.proofs.PlainStyles.{meaning_now, read_now, size_now}
use Rattle.frame_diff.specs.Forests.{is_text}
use Rattle.frame_diff.specs.Keys.{bounded, entry_number, field_number, frame_number, function_in}
use Rattle.frame_diff.specs.Keys.{is_function, is_record}
use Rattle.frame_diff.specs.Keys.{key_name, meaning_number, member_number, named_number, number_by, number_in}
use Rattle.frame_diff.specs.Keys.{plain_number, way_number}
use Rattle.frame_diff.specs.Named.{is_named, is_unnamed, last_named}
use Rattle.frame_diff.specs.declared.keys.Key.{Key}

-- ** by rows as values

plain_number_now : (plain : Plain) (p : List ℕ) → plain_number (plain_now plain) p ≡ plain_number plain p
plain_number_now (P.Unsigned size) p = refl
plain_number_now _ p = refl

member_number_now : (ms : List Part) (name p : List ℕ)
    → member_number (map member_now ms) name p ≡ member_number ms name p
member_number_now [] name p = refl
member_number_now (m ∷ ms) name p =
    ap (λ n. cond (is_text m.0.now name) (plain_number (plain_now m.1) (take n p))
    (member_number (map member_now ms) name (drop n p))) (size_now m.1)
    ∙ λ i. cond (is_text m.0.now name) (plain_number_now m.1 (take (plain_size m.1) p) i)
    (member_number_now ms name (drop (plain_size m.1) p) i)

way_number_now : (way : Way) (p : List ℕ) → way_number (way_now way) p ≡ way_number way p
way_number_now (Ways.By (S.Plain plain)) p = plain_number_now plain p
way_number_now _ p = refl

unnamed_now : (way : Way) (p : List ℕ) → is_unnamed (way_now way) p ≡ is_unnamed way p
unnamed_now way p = λ i. kept_now way p i || each_now way i

record_now : (way : Way) → is_record (way_now way) ≡ is_record way
record_now (Ways.Own form) = refl
record_now (Ways.By style) = refl

module _ (cx : Around) (name : List ℕ) where
  meaning_number_now : (m : Meaning) → meaning_number cx name (meaning_now m) ≡ meaning_number cx name m
  meaning_number_now (Fields members p) = member_number_now members name p
  meaning_number_now _ = refl

  field_number_now : (way : Way) (p : List ℕ) → field_number cx name (way_now way) p ≡ field_number cx name way p
  field_number_now (Ways.Own form) p = refl
  field_number_now (Ways.By style) p =
      ap (meaning_number cx name) (read_now style p) ∙ meaning_number_now (read_as style p)

number_by_now : (cx : Around) (key : Key) (list : Shape) (way : Way) (p : List ℕ)
    → number_by cx key list (way_now way) p ≡ number_by cx key list way p
number_by_now cx key (Shapes.Entries group) way p = refl
number_by_now cx key _ way p = ap bounded (field_number_now cx (key_name key) way p)

-- ** where they stand elsewhere

module _ (cx other : Around) (s : AreAlike cx other) where
  frame_number_same : (list : Shape) (found : Option Frame)
      → frame_number cx list found ≡ frame_number other list found
  frame_number_same list None = refl
  frame_number_same list (Some f) =
      sym (way_number_now (row_in cx list (number f)).1 f.payload)
      ∙ ap (λ (row : Known). way_number row.1 f.payload) (row_same cx other s list (number f))
      ∙ way_number_now (row_in other list (number f)).1 f.payload

  unnamed_same : (list : Shape) (f : Frame)
      → is_unnamed (row_in cx list (number f)).1 f.payload ≡ is_unnamed (row_in other list (number f)).1 f.payload
  unnamed_same list f =
      sym (unnamed_now (row_in cx list (number f)).1 f.payload)
      ∙ ap (λ (row : Known). is_unnamed row.1 f.payload) (row_same cx other s list (number f))
      ∙ unnamed_now (row_in other list (number f)).1 f.payload

  name_same : (list : Shape) (n : ℕ) → (row_in cx list n).0 ≡ (row_in other list n).0
  name_same list n = ap (λ (row : Known). row.0) (row_same cx other s list n)

  named_same : (list : Shape) (name : List ℕ) (f : Frame) → is_named cx list name f ≡ is_named other list name f
  named_same list name f = λ i. not (unnamed_same list f i) && is_text (name_same list (number f) i) name

  last_same : (list : Shape) (name : List ℕ) (before : Option Frame) (fs : List Frame)
      → last_named cx list name before fs ≡ last_named other list name before fs
  last_same list name before [] = refl
  last_same list name before (f ∷ fs) =
      ap (λ b. last_named cx list name (cond b (Some f) before) fs) (named_same list name f)
      ∙ last_same list name (cond (is_named other list name f) (Some f) before) fs

  named_number_same : (list : Shape) (name p : List ℕ)
      → named_number cx list name p ≡ named_number other list name p
  named_number_same list name p =
      let fs = frames_in (items p) in
      ap (frame_number cx list) (last_same list name None fs)
      ∙ frame_number_same list (last_named other list name None fs)

  meaning_number_same : (name : List ℕ) (m : Meaning) → meaning_number cx name m ≡ meaning_number other name m
  meaning_number_same name (Nested place p) = named_number_same (Shapes.Of place) name p
  meaning_number_same name _ = refl

  field_number_same : (name : List ℕ) (way : Way) (p : List ℕ)
      → field_number cx name way p ≡ field_number other name way p
  field_number_same name (Ways.Own form) p = refl
  field_number_same name (Ways.By style) p = meaning_number_same name (read_as style p)

  record_same : (list : Shape) (n : ℕ) → is_record (row_in cx list n).1 ≡ is_record (row_in other list n).1
  record_same list n =
      sym (record_now (row_in cx list n).1)
      ∙ ap (λ (row : Known). is_record row.1) (row_same cx other s list n)
      ∙ record_now (row_in other list n).1

  function_same : (list : Shape) (fs : List Frame) → function_in cx list fs ≡ function_in other list fs
  function_same list [] = refl
  function_same list (f ∷ fs) = λ i.
      cond (record_same list (number f) i && not (list_any (λ g. number g == number f) fs))
      (Some (number_at w32 f.payload 0)) (function_same list fs i)

  entry_number_same : (name : List ℕ) (list : Shape) (p : List ℕ)
      → entry_number cx name list p ≡ entry_number other name list p
  entry_number_same name list p = λ i.
      cond (is_function list) (function_same list (frames_in (items p)) i) (named_number_same list name p i)

  number_by_same : (key : Key) (list : Shape) (way : Way) (p : List ℕ)
      → number_by cx key list way p ≡ number_by other key list way p
  number_by_same key (Shapes.Entries group) way p =
      ap bounded (entry_number_same (key_name key) (entry_list group) p)
  number_by_same key _ way p = ap bounded (field_number_same (key_name key) way p)

  pub number_same : (key : Option Key) (list : Shape) (f : Frame)
      → number_in cx key list f ≡ number_in other key list f
  number_same None list f = refl
  number_same (Some key) list f =
      sym (number_by_now cx key list (row_in cx list (number f)).1 f.payload)
      ∙ ap (λ (row : Known). number_by cx key list row.1 f.payload) (row_same cx other s list (number f))
      ∙ number_by_now cx key list (row_in other list (number f)).1 f.payload
      ∙ number_by_same key list (row_in other list (number f)).1 f.payload
