-- What turned of a value whose members have the same names in both messages is told of the old one.
use Rattle.std.proofs.Common.{◌≡◌, ℕ, ◌+◌, Bool, true, false, List, [], ◌∷◌, ◌++◌, length, refl, sym, ap, ◌∙◌, map}
use Rattle.std.specs.Prelude.{◌==◌, Option, Some, None, Result, Ok, Err, cond, if◌then◌else◌, option_map}
use Rattle.std.specs.Int.{Width, byte_len}
use Rattle.json.specs.Token.{Token}
use Rattle.nla_wire.specs.Payloads.{text as spelling}
use Rattle.nla_wire.specs.declared.error.Cause.{Cause}
use Rattle.link_info.specs.Meanings.{Raw, flag_meaning, form_meaning, plain_meaning, read_as, text_or_bytes}
use Rattle.link_info.specs.Meanings.{Elements}
use Rattle.link_info.specs.Styles.{Form as Spelling, Host, Network, Twos, SixOctets, FourOctets, SixteenOctets, Octets}
use Rattle.link_info.specs.Styles.{form, is_multiple, plain_size}
use Rattle.link_info.specs.declared.style.Style.{Style}
use Rattle.link_info.specs.declared.style.Style.TheVariants as S
use Rattle.link_state.specs.Table.{Action}
use Rattle.shown.specs.Drafts.{Draft, Members, with_members}
use Rattle.frame_shown.specs.Items.{objects}
use Rattle.frame_shown.specs.Values.{counter_names, counter_width, counters_shown, fields_in, fields_shown}
use Rattle.frame_shown.specs.declared.form.Around.{Around}
use Rattle.frame_shown.specs.declared.form.Field.{Field}
use Rattle.frame_shown.specs.declared.form.Form.{Form}
use Rattle.frame_shown.specs.declared.form.Form.TheVariants as Forms
use Rattle.frame_shown.specs.declared.form.Way.{Way}
use Rattle.frame_shown.specs.declared.form.Way.TheVariants as Ways
use Rattle.frame_diff.specs.Counters.{action_in, is_clear}
use Rattle.frame_diff.specs.Differences.{leaf_in}
use Rattle.frame_diff.specs.Forests.{Forest, Held, Step, comes, field_step, find, is_step}
use Rattle.frame_diff.specs.Inside.{has_none, is_texts}
use Rattle.frame_diff.specs.Items.{items_told, joined, leaf_items, member_items}
use Rattle.frame_diff.specs.Members.{Inner, fields, form_inside, held_inside, meaning_inside, named, way_inside}
use Rattle.frame_diff.specs.Nests.{is_fixed_form, is_fixed_style, is_fixed_way}
use Rattle.frame_diff.specs.Walked.{HasRowOf, Holding, Showing, held_at, held_items, is_told_of_old}
use Rattle.frame_diff.specs.declared.side.Side.{Side}
use Rattle.frame_diff.specs.declared.side.Side.TheVariants.{Old, New, Moved}
use Rattle.frame_diff.specs.declared.walk.Attribute.{Attribute}
use Rattle.frame_diff.proofs.Apart.{find_none}
use Rattle.frame_diff.proofs.Beside.{found_last, last_at, or_else}
use Rattle.frame_diff.proofs.Classes.{forest_no_texts}
use Rattle.frame_diff.proofs.Steps.{step_is}
use Rattle.frame_diff.proofs.Walked.{last_further}

-- ** fields

abbrev names : Members → List (List ℕ)
names ms = map (λ m. m.0) ms

-- whether a name comes, and whether there is a field, goes by the names
comes_by : (s : Step) (ms os : Members) → names ms ≡ names os → comes s (named ms) ≡ comes s (named os)
comes_by s [] [] same = refl
comes_by s [] (o ∷ os) same = absurd cc
comes_by s (m ∷ ms) [] same = absurd cc
comes_by s (m ∷ ms) (o ∷ os) same =
    let one : m.0 ≡ o.0 = cc in
    let rest : names ms ≡ names os = cc in
    (λ k. cond (is_step (field_step (one k)) s) true (comes_by s ms os rest k))

some_by : (ms os : Members) → names ms ≡ names os → has_none (fields ms) ≡ has_none (fields os)
some_by [] [] same = refl
some_by [] (o ∷ os) same = absurd cc
some_by (m ∷ ms) [] same = absurd cc
some_by (m ∷ ms) (o ∷ os) same =
    let one : m.0 ≡ o.0 = cc in
    let rest : names ms ≡ names os = cc in
    (λ k. has_none (cond (comes (field_step (one k)) (named ms)) (fields ms)
    (Forest.tree (field_step m.0) m.1 Forest.none (fields ms))))
    ∙ by (comes (field_step o.0) (named ms)) (comes (field_step o.0) (named os)) (comes_by (field_step o.0) ms os rest)
    (some_by ms os rest)
  where
    by : (b c : Bool) → b ≡ c → has_none (fields ms) ≡ has_none (fields os)
        → has_none (cond b (fields ms) (Forest.tree (field_step m.0) m.1 Forest.none (fields ms)))
        ≡ has_none (cond c (fields os) (Forest.tree (field_step o.0) o.1 Forest.none (fields os)))
    by true true is later = later
    by false false is later = refl
    by true false is later = absurd cc
    by false true is later = absurd cc

-- a field is a leaf
there : (s : Step) (os : Members) → comes s (named os) ≡ true
    → (w : List Token) × (leaf_in (last_at s (named os)) ≡ Some w)
there s [] some = absurd cc
there s (o ∷ os) some =
    by (comes s (named os)) refl (is_step (field_step o.0) s) some (last_at s (named os)) refl (there s os)
  where
    by : (c : Bool) → comes s (named os) ≡ c → (b : Bool) → cond b true c ≡ true → (l : Option Held)
        → last_at s (named os) ≡ l
        → (comes s (named os) ≡ true → (w : List Token) × (leaf_in (last_at s (named os)) ≡ Some w))
        → (w : List Token) × (leaf_in (or_else l (cond b (Some (o.1, Forest.none)) None)) ≡ Some w)
    by true again b h None is later =
        let found = later again in
        let clash : None ≡ Some found.0 = ap leaf_in (sym is) ∙ found.1 in absurd cc
    by true again b h (Some x) is later =
        let found = later again in (found.0, ap leaf_in (sym is) ∙ found.1)
    by false once true h l is later =
        let none : l ≡ None = sym is ∙ sym (found_last s (named os)) ∙ find_none s (named os) once in
        (o.1, ap (λ x. leaf_in (or_else x (Some (o.1, Forest.none)))) none)
    by false once false h l is later = absurd cc

-- ** where nothing is told of a leaf beside another one

module _ (side : Side) (silent : (at : List ℕ) (v w : List Token) → leaf_items side at v (Some w) ≡ []) where
  quiet : (os : Members) (s : Step) → comes s (named os) ≡ true → (at : List ℕ) (v : List Token)
      → leaf_items side at v (leaf_in (find s (fields os))) ≡ []
  quiet os s some at v =
      let found = there s os some in
      ap (λ l. leaf_items side at v (leaf_in l)) (found_last s (named os))
      ∙ ap (leaf_items side at v) found.1 ∙ silent at v found.0

  fields_quiet : (text : List ℕ) (ms os : Members)
      → ((s : Step) → comes s (named ms) ≡ true → comes s (named os) ≡ true)
      → items_told side text (fields ms) (fields os) ≡ []
  fields_quiet text [] os come = refl
  fields_quiet text (m ∷ ms) os come =
      let s = field_step m.0 in
      let here = come s (ap (λ b. cond b true (comes s (named ms))) (step_is s)) in
      let behind : (t : Step) → comes t (named ms) ≡ true → comes t (named os) ≡ true =
      λ t later. come t (ap (cond (is_step s t) true) later ∙ both (is_step s t)) in
      last_further side text (fields os) (s, (m.1, Forest.none)) (named ms)
      ∙ (λ k. (ap (cond (comes s (named ms)) []) (quiet os s here (joined text m.0) m.1)
      ∙ nothing (comes s (named ms))) k ++ fields_quiet text ms os behind k)
    where
      none : List Members
      none = []

      nothing : (b : Bool) → cond b [] [] ≡ none
      nothing true = refl
      nothing false = refl

      both : (b : Bool) → cond b true true ≡ true
      both true = refl
      both false = refl

  fields_untold : (text : List ℕ) (v w : List Token) (ms os : Members) → names ms ≡ names os
      → member_items side text v (fields ms) (items_told side text (fields ms)) (Some (w, fields os)) ≡ []
  fields_untold text v w ms os same =
      by (fields ms) (fields os) (fields_quiet text ms os (λ s some. sym (comes_by s ms os same) ∙ some))
      (some_by ms os same) (forest_no_texts (named ms))
    where
      by : (f g : Forest) → items_told side text f g ≡ [] → has_none f ≡ has_none g → is_texts f ≡ false
          → member_items side text v f (items_told side text f) (Some (w, g)) ≡ []
      by Forest.none Forest.none told alike plain = silent text v w
      by Forest.none (Forest.texts us) told alike plain = silent text v w
      by Forest.none Forest.passed told alike plain = absurd cc
      by Forest.none (Forest.vlans runs) told alike plain = absurd cc
      by Forest.none (Forest.tree a b c d) told alike plain = absurd cc
      by Forest.passed g told alike plain = refl
      by (Forest.vlans runs) g told alike plain = told
      by (Forest.texts us) g told alike plain = absurd cc
      by (Forest.tree a b c d) g told alike plain = told

-- ** payloads of one form or one style

counters_named : (ns : List (List ℕ)) (w : Width) (p q : List ℕ) (place : ℕ)
    → names (counters_shown ns w p place) ≡ names (counters_shown ns w q place)
counters_named [] w p q place = refl
counters_named (n ∷ ns) w p q place = ap (λ l. n ∷ l) (counters_named ns w p q (place + byte_len w))

fields_named : (cx : Around) (fs : List (List ℕ × (ℕ × Field))) (p q : List ℕ)
    → names (fields_shown cx fs p) ≡ names (fields_shown cx fs q)
fields_named cx [] p q = refl
fields_named cx (f ∷ fs) p q = ap (λ l. f.0 ∷ l) (fields_named cx fs p q)

spelled_leaf : (inner : Inner) (action : Action) (f : Spelling) (p : List ℕ)
    → meaning_inside inner action (form_meaning f p) ≡ Forest.none
spelled_leaf inner action (Host size) p = refl
spelled_leaf inner action (Network size) p = refl
spelled_leaf inner action (Twos size) p = refl
spelled_leaf inner action SixOctets p = refl
spelled_leaf inner action FourOctets p = refl
spelled_leaf inner action SixteenOctets p = refl
spelled_leaf inner action (Octets n) p = refl

text_leaf : (inner : Inner) (action : Action) (p : List ℕ) (r : Result (List ℕ) Cause)
    → meaning_inside inner action (text_or_bytes p r) ≡ Forest.none
text_leaf inner action p (Ok s) = refl
text_leaf inner action p (Err c) = refl

flag_leaf : (inner : Inner) (action : Action) (p : List ℕ) → meaning_inside inner action (flag_meaning p) ≡ Forest.none
flag_leaf inner action [] = refl
flag_leaf inner action (x ∷ p) = refl

style_leaf : (inner : Inner) (action : Action) (style : Style) (p : List ℕ) → is_fixed_style style ≡ true
    → meaning_inside inner action (read_as style p) ≡ Forest.none
style_leaf inner action S.Bytes p fixed = refl
style_leaf inner action S.Flag p fixed = flag_leaf inner action p
style_leaf inner action S.Text p fixed = text_leaf inner action p (spelling.reads p)
style_leaf inner action (S.Plain plain) p fixed = by (length p == plain_size plain)
  where
    by : (b : Bool) → meaning_inside inner action (if b then plain_meaning plain p else Raw p) ≡ Forest.none
    by true = spelled_leaf inner action (form plain) p
    by false = refl
style_leaf inner action (S.Array plain) p fixed = by (is_multiple (plain_size plain) (length p))
  where
    by : (b : Bool) → meaning_inside inner action (if b then Elements plain p else Raw p) ≡ Forest.none
    by true = refl
    by false = refl
style_leaf inner action (S.Record members) p fixed = absurd cc
style_leaf inner action (S.List plain) p fixed = absurd cc
style_leaf inner action (S.Nest place) p fixed = absurd cc
style_leaf inner action (S.Each element) p fixed = absurd cc

module _ (side : Side) (silent : (at : List ℕ) (v w : List Token) → leaf_items side at v (Some w) ≡ [])
    (inner : Inner) (cx : Around) (action : Action) (text : List ℕ) (v w : List Token) where
  form_untold : (form : Form) (p q : List ℕ) → is_fixed_form form ≡ true
      → member_items side text v (form_inside inner cx action form p)
      (items_told side text (form_inside inner cx action form p)) (Some (w, form_inside inner cx action form q)) ≡ []
  form_untold (Forms.Counters words) p q fixed =
      fields_untold side silent text v w (counters_shown (counter_names words) (counter_width words) p 0)
      (counters_shown (counter_names words) (counter_width words) q 0)
      (counters_named (counter_names words) (counter_width words) p q 0)
  form_untold (Forms.Record parts) p q fixed =
      fields_untold side silent text v w (fields_shown cx (fields_in parts) p) (fields_shown cx (fields_in parts) q)
      (fields_named cx (fields_in parts) p q)
  form_untold Forms.Ipv6Counters p q fixed = absurd cc
  form_untold (Forms.Settings set) p q fixed = absurd cc
  form_untold Forms.Wireless p q fixed = absurd cc
  form_untold (Forms.List list) p q fixed = absurd cc
  form_untold Forms.Info p q fixed = absurd cc
  form_untold Forms.Kept p q fixed = silent text v w
  form_untold Forms.Unflagged p q fixed = silent text v w
  form_untold (Forms.Number size) p q fixed = silent text v w
  form_untold Forms.Signed p q fixed = silent text v w
  form_untold Forms.Text p q fixed = silent text v w
  form_untold (Forms.Exact size) p q fixed = silent text v w
  form_untold Forms.Truth p q fixed = silent text v w
  form_untold Forms.Id p q fixed = silent text v w
  form_untold Forms.Address p q fixed = silent text v w
  form_untold (Forms.Choice choice) p q fixed = silent text v w
  form_untold (Forms.Flags bits) p q fixed = silent text v w
  form_untold Forms.Ipv6 p q fixed = silent text v w
  form_untold (Forms.Field field) p q fixed = silent text v w

  way_untold : (way : Way) (p q : List ℕ) → is_fixed_way way ≡ true
      → member_items side text v (way_inside inner cx action way p)
      (items_told side text (way_inside inner cx action way p)) (Some (w, way_inside inner cx action way q)) ≡ []
  way_untold (Ways.Own form) p q fixed = form_untold form p q fixed
  way_untold (Ways.By style) p q fixed =
      let here = style_leaf inner action style p fixed in
      let there = style_leaf inner action style q fixed in
      (λ k. member_items side text v (here k) (items_told side text (here k)) (Some (w, there k))) ∙ silent text v w

  held_untold : (way : Way) (p q : List ℕ) → is_fixed_way way ≡ true
      → member_items side text v (held_inside inner cx action way p)
      (items_told side text (held_inside inner cx action way p)) (Some (w, held_inside inner cx action way q)) ≡ []
  held_untold way p q fixed = by (is_clear action)
    where
      by : (c : Bool) → member_items side text v (cond c Forest.passed (way_inside inner cx action way p))
          (items_told side text (cond c Forest.passed (way_inside inner cx action way p)))
          (Some (w, cond c Forest.passed (way_inside inner cx action way q))) ≡ []
      by true = refl
      by false = way_untold way p q fixed

-- ** attributes

module _ (nest : Showing) (inner : Holding) (is_state : Bool) where
  old_tells : (side : Side) (text : List ℕ) (own : Attribute) (beside : Option Attribute) → HasRowOf own beside
      → is_told_of_old side own.way beside ≡ true
      → held_items side text (held_at nest inner is_state own) (option_map (held_at nest inner is_state) beside) ≡ []
  old_tells Old text own None row h = absurd cc
  old_tells New text own None row h = absurd cc
  old_tells Moved text own None row h = absurd cc
  old_tells side text own (Some a) row h = by side h
    where
      cx : Around
      cx = own.around.now

      action : Action
      action = action_in is_state own.list own.number

      here : Held
      here = held_at nest inner is_state own

      w : List Token
      w = (held_at nest inner is_state a).0

      beside : (held_at nest inner is_state a).1 ≡ held_inside (inner is_state cx) cx action own.way a.payload.now
      beside = (λ k. held_inside (inner is_state (row.0 k)) (row.0 k) (action_in is_state (row.1 k) (row.2 k)) (row.3 k)
          a.payload.now)

      by : (side : Side) → is_told_of_old side own.way (Some a) ≡ true
          → held_items side text here (Some (held_at nest inner is_state a)) ≡ []
      by Old told = absurd cc
      by New told =
          ap (λ f. held_items New text here (Some (w, f))) beside
          ∙ held_untold New (λ at v w. refl) (inner is_state cx) cx action text here.0 w own.way own.payload.now
          a.payload.now told
      by Moved told =
          ap (λ f. held_items Moved text here (Some (w, f))) beside
          ∙ held_untold Moved (λ at v w. refl) (inner is_state cx) cx action text here.0 w own.way own.payload.now
          a.payload.now told

  pub old_tells_page : (side : Side) (text : List ℕ) (own : Attribute) (beside : Option Attribute) (page : Draft)
      → HasRowOf own beside → is_told_of_old side own.way beside ≡ true
      → page ≡ with_members (objects (held_items side text (held_at nest inner is_state own)
      (option_map (held_at nest inner is_state) beside))) page
  old_tells_page side text own beside page row h =
      sym (ap (λ os. with_members (objects os) page) (old_tells side text own beside row h))
