-- Fields of records: how they are made one after another, and what they tell.
use Rattle.std.proofs.Common.{◌≡◌, ℕ, ◌+◌, Bool, true, false, List, [], ◌∷◌, ◌++◌, append_assoc, refl, sym, ap, ◌∙◌}
use Rattle.std.proofs.Common.{map}
use Rattle.std.specs.Prelude.{◌||◌, Option, Some, None, cond, option_map}
use Rattle.std.specs.Int.{w32}
use Rattle.std.specs.List.{list_any}
use Rattle.json.specs.Token.{Token}
use Rattle.nla_wire.specs.Fields.{signed_at}
use Rattle.link_state.specs.Table.{Action}
use Rattle.shown.specs.Drafts.{Members}
use Rattle.frame_shown.specs.Values.{hexadecimal, settings_shown, signed_value}
use Rattle.frame_shown.specs.declared.form.Around.{Around}
use Rattle.frame_diff.specs.Counters.{clears_at, fields_left}
use Rattle.frame_diff.specs.Differences.{leaf_in}
use Rattle.frame_diff.specs.Forests.{Forest, Held, Member, comes, field_step, find}
use Rattle.frame_diff.specs.Members.{fields, named}
use Rattle.frame_diff.specs.Rows.{is_under, last_value, row_shown}
use Rattle.frame_diff.specs.Values.{value_shown}
use Rattle.frame_diff.specs.declared.leaf.Value.{Value}
use Rattle.frame_diff.specs.declared.rows.Row.{Row}
use Rattle.frame_diff.proofs.Beside.{found_last, last_at, or_else, or_none}

-- ** how they are made

-- what stands behind settings is no part of what is cleared
pub settings_behind : (a : Action) (place at : ℕ) (names : List (List ℕ)) (p : List ℕ) (more : Members)
    → fields_left a place (map (λ name. 4) names) (settings_shown names p at ++ more)
    ≡ fields_left a place (map (λ name. 4) names) (settings_shown names p at) ++ more
settings_behind a place at [] p more = refl
settings_behind a place at (name ∷ names) p more =
    let first : Members = cond (clears_at a place) [] ((name, signed_value (signed_at w32 p at)) ∷ []) in
    ap (λ ms. first ++ ms) (settings_behind a (place + 4) (at + 4) names p more)
    ∙ sym (append_assoc first (fields_left a (place + 4) (map (λ name. 4) names) (settings_shown names p (at + 4)))
    more)

-- ** the last field of a name

module _ (cx : Around) (name : List ℕ) where
  abbrev members : List Row → List Member
  members rows = named (map (row_shown cx) rows)

  abbrev value : Value → List Token
  value v = value_shown (λ list p. hexadecimal p) cx v

  abbrev held : Value → Held
  held v = (value v, Forest.none)

  pub comes_is : (rows : List Row) → list_any (is_under name) rows ≡ comes (field_step name) (members rows)
  comes_is [] = refl
  comes_is (row ∷ rows) = by (is_under name row) (comes_is rows)
    where
      by : (b : Bool) → list_any (is_under name) rows ≡ comes (field_step name) (members rows)
          → (b || list_any (is_under name) rows) ≡ cond b true (comes (field_step name) (members rows))
      by true later = refl
      by false later = later

  one_before : (before : Option Value) (rows : List Row)
      → last_value name before rows ≡ or_else (last_value name None rows) before
  one_before before [] = refl
  one_before before (row ∷ rows) = by (is_under name row) (one_before (Some row.value) rows) (one_before before rows)
    where
      or_some : (a : Option Value) → or_else a (Some row.value) ≡ or_else (or_else a (Some row.value)) before
      or_some None = refl
      or_some (Some x) = refl

      by : (b : Bool) → last_value name (Some row.value) rows ≡ or_else (last_value name None rows) (Some row.value)
          → last_value name before rows ≡ or_else (last_value name None rows) before
          → last_value name (cond b (Some row.value) before) rows
          ≡ or_else (last_value name (cond b (Some row.value) None) rows) before
      by true some later = some ∙ or_some (last_value name None rows) ∙ ap (λ l. or_else l before) (sym some)
      by false some later = later

  mapped : (a b : Option Value) → or_else (option_map held a) (option_map held b) ≡ option_map held (or_else a b)
  mapped None b = refl
  mapped (Some x) b = refl

  last_is : (rows : List Row)
      → last_at (field_step name) (members rows) ≡ option_map held (last_value name None rows)
  last_is [] = refl
  last_is (row ∷ rows) = by (is_under name row) (last_is rows)
    where
      by : (b : Bool) → last_at (field_step name) (members rows) ≡ option_map held (last_value name None rows)
          → or_else (last_at (field_step name) (members rows)) (cond b (Some (held row.value)) None)
          ≡ option_map held (last_value name (cond b (Some row.value) None) rows)
      by true later =
          ap (λ l. or_else l (Some (held row.value))) later
          ∙ mapped (last_value name None rows) (Some row.value)
          ∙ ap (option_map held) (sym (one_before (Some row.value) rows))
      by false later =
          ap (λ l. or_else l None) later ∙ or_none (option_map held (last_value name None rows))

  leaf_held : (v : Option Value) → option_map value v ≡ leaf_in (option_map held v)
  leaf_held None = refl
  leaf_held (Some v) = refl

  pub value_is : (rows : List Row)
      → option_map value (last_value name None rows)
      ≡ leaf_in (find (field_step name) (fields (map (row_shown cx) rows)))
  value_is rows =
      leaf_held (last_value name None rows)
      ∙ ap leaf_in (sym (last_is rows) ∙ sym (found_last (field_step name) (members rows)))
