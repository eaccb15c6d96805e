-- Actions that clear the same fields leave the same members; among what IPv6 says alone a part is cleared.
use Rattle.std.proofs.Common.{◌≡◌, ℕ, ◌+◌, ◌==◌, Bool, true, false, List, [], ◌∷◌, ◌++◌, refl, ap, map}
use Rattle.std.specs.Prelude.{◌||◌, Option, Some, None, cond, if◌then◌else◌}
use Rattle.std.specs.List.{list_any}
use Rattle.link_info.specs.Meanings.{Meaning, Raw, Present, Number, Signed, Words, Hardware, Four, Six, read_as}
use Rattle.link_info.specs.Meanings.{Members as Fields, Elements, Listed, Nested}
use Rattle.link_info.specs.Styles.{plain_size}
use Rattle.link_state.specs.Table.{Action, action_of, data_action, find, rows, slave_data_action}
use Rattle.link_state.specs.declared.kind.Kind.{Kind}
use Rattle.link_state.specs.declared.kind.Kind.TheVariants as Kinds
use Rattle.link_state.specs.declared.level.Level.{Level}
use Rattle.link_state.specs.declared.level.Level.TheVariants as Levels
use Rattle.link_vals.specs.declared.address_family.AddressFamily.{AddressFamily}
use Rattle.link_vals.specs.declared.address_family.AddressFamily.TheVariants as Family
use Rattle.shown.specs.Drafts.{Members}
use Rattle.frame_shown.specs.Values.{behind_settings, record_shown, setting_names, settings_shown}
use Rattle.frame_shown.specs.declared.form.Around.{Around}
use Rattle.frame_shown.specs.declared.form.Form.{Form}
use Rattle.frame_shown.specs.declared.form.Form.TheVariants as Forms
use Rattle.frame_shown.specs.declared.form.Way.{Way}
use Rattle.frame_shown.specs.declared.form.Way.TheVariants as Ways
use Rattle.frame_diff.specs.Counters.{action_at, clears_at, fields_left}
use Rattle.frame_diff.specs.Forests.{left_of}
use Rattle.frame_diff.specs.Members.{Inner, fields_kept, form_inside, is_some, meaning_inside, named, way_inside}
use Rattle.frame_diff.specs.Rows.{is_inet6}

abbrev pub AreSame : Action → Action → Type 0
AreSame a b = (place : ℕ) → clears_at a place ≡ clears_at b place

left_same : (a b : Action) → AreSame a b → (place : ℕ) (sizes : List ℕ) (ms : Members)
    → fields_left a place sizes ms ≡ fields_left b place sizes ms
left_same a b same place [] ms = refl
left_same a b same place (size ∷ sizes) [] = refl
left_same a b same place (size ∷ sizes) (m ∷ ms) =
    (λ k. cond (same place k) [] (m ∷ []) ++ left_same a b same (place + size) sizes ms k)

kept_same : (a b : Action) → AreSame a b → (sizes : List ℕ) (ms : Members)
    → fields_kept a sizes ms ≡ fields_kept b sizes ms
kept_same a b same sizes ms = ap (λ left. left_of (is_some ms) (named left)) (left_same a b same 0 sizes ms)

module _ (inner : Inner) (cx : Around) (a b : Action) (same : AreSame a b) where
  meaning_same : (m : Meaning) → meaning_inside inner a m ≡ meaning_inside inner b m
  meaning_same (Fields members p) = kept_same a b same (map (λ m. plain_size m.1) members) (record_shown members p)
  meaning_same (Nested place p) = refl
  meaning_same (Elements plain p) = refl
  meaning_same (Listed plain p) = refl
  meaning_same (Raw p) = refl
  meaning_same Present = refl
  meaning_same (Number n) = refl
  meaning_same (Signed z) = refl
  meaning_same (Words s) = refl
  meaning_same (Hardware octets) = refl
  meaning_same (Four address) = refl
  meaning_same (Six address) = refl

  form_same : (form : Form) (p : List ℕ) → form_inside inner cx a form p ≡ form_inside inner cx b form p
  form_same (Forms.Settings set) p = kept_same a b same (map (λ name. 4) (setting_names set))
      (settings_shown (setting_names set) p 0 ++ behind_settings set p)
  form_same (Forms.Counters words) p = refl
  form_same Forms.Ipv6Counters p = refl
  form_same (Forms.Record parts) p = refl
  form_same Forms.Wireless p = refl
  form_same (Forms.List list) p = refl
  form_same Forms.Info p = refl
  form_same Forms.Kept p = refl
  form_same Forms.Unflagged p = refl
  form_same (Forms.Number size) p = refl
  form_same Forms.Signed p = refl
  form_same Forms.Text p = refl
  form_same (Forms.Exact size) p = refl
  form_same Forms.Truth p = refl
  form_same Forms.Id p = refl
  form_same Forms.Address p = refl
  form_same (Forms.Choice choice) p = refl
  form_same (Forms.Flags bits) p = refl
  form_same Forms.Ipv6 p = refl
  form_same (Forms.Field field) p = refl

  pub way_same : (way : Way) (p : List ℕ) → way_inside inner cx a way p ≡ way_inside inner cx b way p
  way_same (Ways.Own form) p = form_same form p
  way_same (Ways.By style) p = meaning_same (read_as style p)

-- ** the part that the table clears

abbrev is_part : Action → Bool
is_part (Action.ClearPart from to) = true
is_part Action.Keep = false
is_part Action.Clear = false
is_part (Action.Enter level) = false
is_part Action.EnterInfo = false

no_part : (a : Action) → is_part a ≡ false → AreSame a Action.Keep
no_part (Action.ClearPart from to) h place = absurd cc
no_part Action.Keep h place = refl
no_part Action.Clear h place = refl
no_part (Action.Enter level) h place = refl
no_part Action.EnterInfo h place = refl

abbrev has_part : List (ℕ × Action) → Bool
has_part rs = list_any (λ row. is_part row.1) rs

none_found : (rs : List (ℕ × Action)) (n : ℕ) → has_part rs ≡ false → is_part (find rs n) ≡ false
none_found [] n h = refl
none_found (row ∷ rs) n h = by (n == row.0) (is_part row.1) refl h (none_found rs n)
  where
    by : (b p : Bool) → is_part row.1 ≡ p → (p || has_part rs) ≡ false
        → (has_part rs ≡ false → is_part (find rs n) ≡ false)
        → is_part (if b then row.1 else find rs n) ≡ false
    by true false is none later = is
    by true true is none later = absurd cc
    by false false is none later = later none
    by false true is none later = absurd cc

message_rows : (f : AddressFamily) → has_part (rows (Levels.Message f)) ≡ false
message_rows Family.Unspec = refl
message_rows Family.Inet = refl
message_rows Family.Bridge = refl
message_rows Family.Inet6 = refl
message_rows Family.Mctp = refl
message_rows (Family.Other n) = refl

data_none : (k : Kind) → is_part (data_action k) ≡ false
data_none Kinds.Bridge = refl
data_none Kinds.Bond = refl
data_none Kinds.Can = refl
data_none Kinds.Hsr = refl
data_none Kinds.Other = refl

slave_none : (k : Kind) → is_part (slave_data_action k) ≡ false
slave_none Kinds.Bridge = refl
slave_none Kinds.Bond = refl
slave_none Kinds.Can = refl
slave_none Kinds.Hsr = refl
slave_none Kinds.Other = refl

info_rows : (k s : Kind) → has_part (rows (Levels.Info k s)) ≡ false
info_rows k s = (λ i. data_none k i || (false || (slave_none s i || false)))

level_rows : (level : Level) → is_inet6 (Some level) ≡ false → has_part (rows level) ≡ false
level_rows (Levels.Message f) h = message_rows f
level_rows Levels.Families h = refl
level_rows Levels.Inet6 h = absurd cc
level_rows Levels.Functions h = refl
level_rows Levels.Function h = refl
level_rows Levels.FunctionStats h = refl
level_rows (Levels.Info k s) h = info_rows k s
level_rows Levels.Bridge h = refl
level_rows Levels.Querier h = refl
level_rows Levels.BridgePort h = refl
level_rows Levels.BondPort h = refl
level_rows Levels.Can h = refl
level_rows Levels.Hsr h = refl

pub other_level : (o : Option Level) (n : ℕ) → is_inet6 o ≡ false → AreSame (action_at o n) Action.Keep
other_level None n h place = refl
other_level (Some level) n h place = no_part (action_of level n) (none_found (rows level) n (level_rows level h)) place

pub this_level : (o : Option Level) → is_inet6 o ≡ true → o ≡ Some Levels.Inet6
this_level (Some Levels.Inet6) h = refl
this_level None h = absurd cc
this_level (Some level) h = absurd cc
