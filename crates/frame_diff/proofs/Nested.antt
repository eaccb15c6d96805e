-- Which values are shown as objects or lists.
use Rattle.std.proofs.Common.{◌≡◌, ℕ, Bool, true, false, List, [], ◌∷◌, refl, ◌∙◌}
use Rattle.std.specs.Prelude.{Option, Some, None, ◌==◌, ◌&&◌, cond, drop, get_or, map, nat_lt, take}
use Rattle.std.specs.Int.{w32}
use Rattle.std.specs.List.{find}
use Rattle.json.specs.Token.{Token, string}
use Rattle.nla_wire.specs.Fields.{number_at, zero_filled}
use Rattle.link_info.specs.Meanings.{Meaning, Raw, Present, Number, Signed, Words, Hardware, Four, Six}
use Rattle.link_info.specs.Meanings.{Members as Fields, Elements, Listed, Nested, read_as}
use Rattle.link_info.specs.Styles.{plain_in}
use Rattle.link_info.specs.declared.style.Plain.{Plain}
use Rattle.link_info.specs.declared.style.Plain.TheVariants as P
use Rattle.link_info.specs.declared.style.Style.{Style}
use Rattle.link_info.specs.declared.style.Style.TheVariants as S
use Rattle.shown.specs.Values.{BitNames, hardware_address, name_else_number, name_in_row, name_or_number}
use Rattle.shown.specs.Values.{named_number}
use Rattle.frame_shown.specs.Values.{Nesting, choice_number, choice_token, choices, field_shown, form_shown}
use Rattle.frame_shown.specs.Values.{hexadecimal}
use Rattle.frame_shown.specs.Values.{ipv6_counters_shown, meaning_shown, number_shown, plain_shown, texts_of}
use Rattle.frame_shown.specs.declared.form.Around.{Around}
use Rattle.frame_shown.specs.declared.form.Choice.{Choice}
use Rattle.frame_shown.specs.declared.form.Choice.TheVariants as Choices
use Rattle.frame_shown.specs.declared.form.Field.{Field}
use Rattle.frame_shown.specs.declared.form.Field.TheVariants as Kinds
use Rattle.frame_shown.specs.declared.form.Form.{Form}
use Rattle.frame_shown.specs.declared.form.Form.TheVariants as Forms
use Rattle.frame_shown.specs.declared.form.List.{List as Shape}
use Rattle.frame_shown.specs.declared.form.Order.{Order}
use Rattle.frame_shown.specs.declared.form.Order.TheVariants as Orders
use Rattle.frame_shown.specs.declared.tables.functions.TheConstants.{VF_LINK_STATES}
use Rattle.frame_diff.specs.Members.{is_nest}
use Rattle.frame_diff.specs.Nests.{are_flags, nest_form, nest_meaning}

-- ** values that are written as one token

row_flat : (row : Option (ℕ × List ℕ)) (n : ℕ) → is_nest (name_in_row row n ∷ []) ≡ false
row_flat None n = refl
row_flat (Some row) n = refl

name_flat : (name : List ℕ) (n : ℕ) → is_nest (name_else_number name n ∷ []) ≡ false
name_flat [] n = refl
name_flat (x ∷ name) n = refl

named_flat : (names : BitNames) (n : ℕ) → is_nest (named_number names n ∷ []) ≡ false
named_flat names n = row_flat (find (λ row. row.0 == n) names) n

listed_flat : (names : List (List ℕ)) (n : ℕ) → is_nest (name_or_number names n ∷ []) ≡ false
listed_flat names n = name_flat (get_or names n []) n

-- ** by a style

number_nest : (plain : Plain) (n : ℕ) → is_nest (number_shown plain n) ≡ are_flags plain
number_nest (P.Named size names) n = named_flat (texts_of names.now) n
number_nest (P.BigEndianNamed size names) n = named_flat (texts_of names.now) n
number_nest (P.Flags size names) n = refl
number_nest (P.BigEndianFlags size names) n = refl
number_nest (P.Unsigned size) n = refl
number_nest (P.BigEndian size) n = refl
number_nest (P.Signed size) n = refl
number_nest P.Mac n = refl
number_nest P.Ipv4 n = refl
number_nest P.Ipv6 n = refl
number_nest (P.Octets size) n = refl

-- a value of one size that is no number of flags
plain_flat : (plain : Plain) → are_flags plain ≡ false → (m : Meaning) → is_nest (plain_shown plain m) ≡ false
plain_flat plain h (Number n) = number_nest plain n ∙ h
plain_flat plain h (Raw p) = refl
plain_flat plain h Present = refl
plain_flat plain h (Signed z) = refl
plain_flat plain h (Words s) = refl
plain_flat plain h (Hardware octets) = refl
plain_flat plain h (Four address) = refl
plain_flat plain h (Six address) = refl
plain_flat plain h (Fields members p) = refl
plain_flat plain h (Elements elements p) = refl
plain_flat plain h (Listed elements p) = refl
plain_flat plain h (Nested place p) = refl

-- a text is none
pub text_flat : (nest : Nesting) (cx : Around) (p : List ℕ) → is_nest (form_shown nest cx Forms.Text p) ≡ false
text_flat nest cx p = plain_flat (P.Octets 0) refl (read_as S.Text p)

module _ (nest : Nesting) (deep : Bool) (lists : (list : Shape) (p : List ℕ) → is_nest (nest list p) ≡ deep) where
  pub meaning_nest : (style : Style) (m : Meaning)
      → is_nest (meaning_shown nest style m) ≡ nest_meaning deep style m
  meaning_nest style (Fields members p) = refl
  meaning_nest style (Elements plain p) = refl
  meaning_nest style (Listed plain p) = refl
  meaning_nest style (Nested place p) = lists _ p
  meaning_nest style (Number n) = number_nest (plain_in style) n
  meaning_nest style (Raw p) = refl
  meaning_nest style Present = refl
  meaning_nest style (Signed z) = refl
  meaning_nest style (Words s) = refl
  meaning_nest style (Hardware octets) = refl
  meaning_nest style (Four address) = refl
  meaning_nest style (Six address) = refl

  -- ** by a form

  ipv6_nest : (order : Order) (p : List ℕ) → is_nest (ipv6_counters_shown order p) ≡ true
  ipv6_nest Orders.Unknown p = refl
  ipv6_nest Orders.Before p = refl
  ipv6_nest Orders.Since p = refl

  binding_flat : (b : Bool) (names : List (List ℕ)) (n : ℕ) (token : Token) → is_nest (token ∷ []) ≡ false
      → is_nest (cond b token (name_or_number names n) ∷ []) ≡ false
  binding_flat true names n token h = h
  binding_flat false names n token h = listed_flat names n

  choice_flat : (choice : Choice) (n : ℕ) → is_nest (choice_token choice n ∷ []) ≡ false
  choice_flat Choices.Binding n = binding_flat (n == 255) (choices Choices.Binding) n _ refl
  choice_flat Choices.OperState n = listed_flat (choices Choices.OperState) n
  choice_flat Choices.LinkMode n = listed_flat (choices Choices.LinkMode) n
  choice_flat Choices.GenMode n = listed_flat (choices Choices.GenMode) n
  choice_flat Choices.Attached n = listed_flat (choices Choices.Attached) n
  choice_flat Choices.Event n = listed_flat (choices Choices.Event) n

  either_flat : (b : Bool) (v w : List Token) → is_nest v ≡ false → is_nest w ≡ false → is_nest (cond b v w) ≡ false
  either_flat true v w h k = h
  either_flat false v w h k = k

  field_flat : (cx : Around) (field : Field) (p : List ℕ) (place : ℕ)
      → is_nest (field_shown cx field p place) ≡ false
  field_flat cx (Kinds.Number size) p place = refl
  field_flat cx Kinds.Setting p place = refl
  field_flat cx Kinds.LinkState p place =
      listed_flat (map (λ name. name.now) VF_LINK_STATES) (number_at w32 p place)
  field_flat cx Kinds.Protocol p place = refl
  field_flat cx Kinds.Address p place =
      let bytes = zero_filled 32 (drop place p) in
      either_flat (nat_lt 0 cx.address_len && nat_lt cx.address_len 33)
      (string (hardware_address (take cx.address_len bytes)) ∷ []) (hexadecimal bytes) refl refl

  pub form_nest : (cx : Around) (form : Form) (p : List ℕ) → is_nest (form_shown nest cx form p) ≡ nest_form deep form
  form_nest cx (Forms.Counters words) p = refl
  form_nest cx Forms.Ipv6Counters p = ipv6_nest cx.order p
  form_nest cx (Forms.Settings set) p = refl
  form_nest cx (Forms.Record parts) p = refl
  form_nest cx Forms.Wireless p = refl
  form_nest cx (Forms.Flags bits) p = refl
  form_nest cx (Forms.List list) p = lists list p
  form_nest cx Forms.Info p = lists _ p
  form_nest cx Forms.Kept p = refl
  form_nest cx Forms.Unflagged p = refl
  form_nest cx (Forms.Number size) p = refl
  form_nest cx Forms.Signed p = refl
  form_nest cx Forms.Text p = text_flat nest cx p
  form_nest cx (Forms.Exact size) p = refl
  form_nest cx Forms.Truth p = refl
  form_nest cx Forms.Id p = refl
  form_nest cx Forms.Address p = refl
  form_nest cx (Forms.Choice choice) p = choice_flat choice (choice_number choice p)
  form_nest cx Forms.Ipv6 p = plain_flat P.Ipv6 refl (read_as (S.Plain P.Ipv6) p)
  form_nest cx (Forms.Field field) p = field_flat cx field p 0
