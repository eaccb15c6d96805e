-- A row of a table: what is shown of the frames of its number is of what they mean.
use Rattle.std.proofs.Common.{[], ◌≡◌, ℕ, suc, ◌==◌, Bool, true, false, cond, List, ◌∷◌, map, filter, refl, sym, ap}
use Rattle.std.proofs.Common.{subst}
use Rattle.std.proofs.Common.{◌∙◌}
use Rattle.std.specs.Int.{w8, w32, w64}
use Rattle.json.specs.Token.{Token}
use Rattle.link_info.specs.declared.place.Place.{Place}
use Rattle.link_info.specs.declared.style.Size.TheVariants as Sizes
use Rattle.link_info.specs.Tables.{frames_in}
use Rattle.nla_wire.specs.Frames.{Frame, number}
use Rattle.nla_wire.specs.Grammar.{Grammar, as_a, by_payload, list, picked, is_one}
use Rattle.nla_wire.specs.Items.{items}
use Rattle.nla_wire.specs.Payloads as payload
use Rattle.shown.specs.Drafts.{Members, object_of}
use Rattle.frame_shown.specs.Frames.{by_row, entries_in, frame_item, items_in, levels}
use Rattle.frame_shown.specs.Items.{Item, listed_under, members_of, objects_under}
use Rattle.frame_shown.specs.Laws.{Shows}
use Rattle.frame_shown.specs.Tables.{entry_list, group_name, is_kept_form, kind_shown, lists_in, row_in}
use Rattle.frame_shown.specs.Values.{Nesting, form_shown, number_tokens, signed_value}
use Rattle.frame_shown.specs.declared.form.Around.{Around}
use Rattle.frame_shown.specs.declared.form.Choice.{Choice}
use Rattle.frame_shown.specs.declared.form.Choice.TheVariants as Choices
use Rattle.frame_shown.specs.declared.form.Form.{Form}
use Rattle.frame_shown.specs.declared.form.Form.TheVariants as Forms
use Rattle.frame_shown.specs.declared.form.Group.{Group}
use Rattle.frame_shown.specs.declared.form.List.{List as Shape}
use Rattle.frame_shown.specs.declared.form.List.TheVariants as Shapes
use Rattle.frame_shown.specs.declared.form.Table.{Table}
use Rattle.frame_shown.specs.declared.form.Way.{Way}
use Rattle.frame_shown.specs.declared.form.Way.TheVariants as Ways
use Rattle.frame_shown.proofs.Alike.{OfMeaning, OfFrames, OfNumber, OneToOne, of_list, of_picked, through}
use Rattle.frame_shown.proofs.ValuesMeant.{values_meant}

infixr 5 ◌&◌
abbrev pub ◌&◌ : {A B : Type 0} → A → B → A × B
x & y = (x, y)

-- ** a row

pub shown_alike : {A : Type 0} (g : Grammar (List ℕ) A) (shown : List ℕ → List Token) (by : A → List Token)
    → Shows g shown by → OfMeaning g shown
shown_alike g shown by h p q v small_p small_q a b = h p v small_p a ∙ sym (h q v small_q b)

pub bytes_alike : {X : Type 0} (said : List ℕ → X) → OfMeaning payload.bytes said
bytes_alike said p q v small_p small_q a b = ap said (sym a ∙ b)

module _ (nest : Nesting) (cx : Around) (list : Shape) where
  named_item : (n : ℕ) (form : Form) (f : Frame) → (row_in cx list n).1 ≡ Ways.Own form
      → is_kept_form form f.payload ≡ false → number f ≡ n
      → frame_item nest cx list f ≡ Item.named n (((row_in cx list n).0, form_shown nest cx form f.payload) ∷ [])
  named_item n form f row named is =
      let name : List ℕ = (row_in cx list n).0 in
      ap (λ k. by_row nest cx (row_in cx list k) f) is
      ∙ ap (λ (way : Way). by_row nest cx (name, way) f) row
      ∙ ap (λ b. cond b (Item.as_is name (kind_shown (Ways.Own form) f.kind) f.payload)
      (Item.named (number f) ((name, form_shown nest cx form f.payload) ∷ []))) named
      ∙ ap (λ k. Item.named k ((name, form_shown nest cx form f.payload) ∷ [])) is

  pub number_row : (n : ℕ) (form : Form) {A V : Type 0} (g : Grammar (List ℕ) A) (variant : A → V)
      → (row_in cx list n).1 ≡ Ways.Own form
      → ((p : List ℕ) (a : A) → g.means p a → is_kept_form form p ≡ false)
      → OfMeaning g (form_shown nest cx form) → OneToOne variant
      → OfNumber n (by_payload (as_a variant g)) (frame_item nest cx list)
  number_row n form {A} {V} g variant row named h one f k v f_is k_is number_f number_k a b =
      let again : g.means k.payload a.0 =
      subst (λ (x : A). g.means k.payload x) (one b.0 a.0 (sym b.2 ∙ a.2)) b.1 in
      named_item n form f row (named f.payload a.0 a.1) number_f
      ∙ ap (λ t. Item.named n (((row_in cx list n).0, t) ∷ []))
      (h f.payload k.payload a.0 f_is.bytes k_is.bytes a.1 again)
      ∙ sym (named_item n form k row (named k.payload a.0 again) number_k)

  -- of one line of a table
  pub row : (n : ℕ) (form : Form) {A V : Type 0} (g : Grammar (List ℕ) A) (variant : A → V)
      → (row_in cx list n).1 ≡ Ways.Own form → ((p : List ℕ) → is_kept_form form p ≡ false)
      → OfMeaning g (form_shown nest cx form) → OneToOne variant
      → OfNumber n (by_payload (as_a variant g)) (frame_item nest cx list) × Unit {0}
  row n form g variant is named h one = (number_row n form g variant is (λ p a m. named p) h one, tt)

-- ** lists by their members

module _ (n : ℕ) (cx : Around) {V : Type 0} (g : Grammar Frame V) where
  pub own_list : (table : Table) → OfFrames g (frame_item (levels n cx) cx (Shapes.Own table))
      → OfMeaning (list g) (form_shown (levels (suc n) cx) cx (Forms.List (Shapes.Own table)))
  own_list table of p q vs small_p small_q a b = ap (λ xs. object_of (members_of [] xs))
      (of_list g (frame_item (levels n cx) cx (Shapes.Own table)) of p q vs small_p small_q a b)

  pub place_list : (place : Place) → OfFrames g (frame_item (levels n cx) cx (Shapes.Of place))
      → OfMeaning (list g) (form_shown (levels (suc n) cx) cx (Forms.List (Shapes.Of place)))
  place_list place of p q vs small_p small_q a b = ap (λ xs. object_of
      (members_of (lists_in cx (Shapes.Of place)) xs))
      (of_list g (frame_item (levels n cx) cx (Shapes.Of place)) of p q vs small_p small_q a b)

  pub inet6_list : OfFrames g (frame_item (levels n cx) cx Shapes.ProtoInet6)
      → OfMeaning (list g) (form_shown (levels (suc n) cx) cx (Forms.List Shapes.ProtoInet6))
  inet6_list of p q vs small_p small_q a b = ap (λ xs. object_of (members_of (lists_in cx Shapes.ProtoInet6) xs))
      (of_list g (frame_item (levels n cx) cx Shapes.ProtoInet6) of p q vs small_p small_q a b)

  pub named_list : (group : Group) (table : Table)
      → OfFrames g (frame_item (levels n cx) cx (Shapes.Listed group table))
      → OfMeaning (list g) (form_shown (levels (suc n) cx) cx (Forms.List (Shapes.Listed group table)))
  named_list group table of p q vs small_p small_q a b = ap (λ xs. object_of (listed_under (group_name group) xs))
      (of_list g (frame_item (levels n cx) cx (Shapes.Listed group table)) of p q vs small_p small_q a b)

one_more : {X : Type 0} (said : Frame → X) (b : Bool) (f : Frame) (more : List X) (rest : List Frame)
    → more ≡ map said rest → cond b (said f ∷ more) more ≡ map said (cond b (f ∷ rest) rest)
one_more said true f more rest h = ap (λ ms. said f ∷ ms) h
one_more said false f more rest h = h

-- what an entry says
abbrev pub entry_members : Nesting → Around → Shape → Frame → Members
entry_members nest cx list f = members_of (lists_in cx list) (items_in nest cx list (items f.payload))

entries_are : (nest : Nesting) (cx : Around) (list : Shape) (fs : List Frame)
    → entries_in nest cx list fs ≡ map (entry_members nest cx list) (filter is_one fs)
entries_are nest cx list [] = refl
entries_are nest cx list (f ∷ fs) = one_more (entry_members nest cx list) (number f == 1) f
    (entries_in nest cx list fs) (filter is_one fs) (entries_are nest cx list fs)

pub entries_alike : (n : ℕ) (cx : Around) (group : Group) {V : Type 0} (g : Grammar Frame V)
    → OfFrames g (entry_members (levels n cx) cx (entry_list group))
    → OfMeaning (picked g) (form_shown (levels (suc n) cx) cx (Forms.List (Shapes.Entries group)))
entries_alike n cx group g of p q vs small_p small_q a b =
    ap (λ ms. object_of (objects_under (group_name group) ms))
    (entries_are (levels n cx) cx (entry_list group) (frames_in (items p))
    ∙ of_picked g (entry_members (levels n cx) cx (entry_list group)) of p q vs small_p small_q a b
    ∙ sym (entries_are (levels n cx) cx (entry_list group) (frames_in (items q))))

-- ** values of a fixed size, and texts

abbrev IsEvent : Choice → Type 0
IsEvent Choices.Event = Unit {0}
IsEvent _ = ⊥

pub no_event : (choice : Choice) → (IsEvent choice → ⊥) → choice ≡ Choices.Event → ⊥
no_event choice h e = h (subst IsEvent (sym e) tt)

module _ (nest : Nesting) (cx : Around) where
  pub bytes_one : OfMeaning (payload.number_of w8) (form_shown nest cx (Forms.Number Sizes.One))
  bytes_one = shown_alike (payload.number_of w8) (form_shown nest cx (Forms.Number Sizes.One)) number_tokens
      ((values_meant nest cx).numbers Sizes.One)

  pub bytes_four : OfMeaning (payload.number_of w32) (form_shown nest cx (Forms.Number Sizes.Four))
  bytes_four = shown_alike (payload.number_of w32) (form_shown nest cx (Forms.Number Sizes.Four)) number_tokens
      ((values_meant nest cx).numbers Sizes.Four)

  pub bytes_eight : OfMeaning (payload.number_of w64) (form_shown nest cx (Forms.Number Sizes.Eight))
  bytes_eight = shown_alike (payload.number_of w64) (form_shown nest cx (Forms.Number Sizes.Eight)) number_tokens
      ((values_meant nest cx).numbers Sizes.Eight)

  pub signed_four : OfMeaning (payload.signed_of w32) (form_shown nest cx Forms.Signed)
  signed_four = shown_alike (payload.signed_of w32) (form_shown nest cx Forms.Signed) signed_value
      (values_meant nest cx).signed

  pub texts : OfMeaning payload.text (form_shown nest cx Forms.Text)
  texts = shown_alike payload.text (form_shown nest cx Forms.Text) _ (values_meant nest cx).texts

  -- one byte that stands for one of an enum's values
  pub choices : (choice : Choice) → (IsEvent choice → ⊥) → {B : Type 0} (of : ℕ → B) (number : B → ℕ)
      → ((k : ℕ) → number (of k) ≡ k)
      → OfMeaning (as_a of (payload.number_of w8)) (form_shown nest cx (Forms.Choice choice))
  choices choice not of number again = through (payload.number_of w8) (form_shown nest cx (Forms.Choice choice)) of
      number (λ p k small means. again k)
      (shown_alike (payload.number_of w8) (form_shown nest cx (Forms.Choice choice)) _
      ((values_meant nest cx).names choice (no_event choice not)))
