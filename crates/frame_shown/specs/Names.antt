-- No name stands twice in one object: the names of a table, of a record and of counters differ from each other.
use Rattle.std.specs.Prelude.{◌≡◌, ℕ, ◌==◌, ◌&&◌, List, [], ◌∷◌, Bool, true, drop, map, not}
use Rattle.std.specs.List.{list_any}
use lib.Pointwise.{pointwise}
use Rattle.frame_shown.specs.Tables.{rows_in}
use Rattle.frame_shown.specs.Values.{counter_names, fields_in, setting_names}
use Rattle.frame_shown.specs.declared.form.Record.{Record}
use Rattle.frame_shown.specs.declared.form.Settings.{Settings}
use Rattle.frame_shown.specs.declared.form.Table.{Table}
use Rattle.frame_shown.specs.declared.form.Words.{Words}
use Rattle.frame_shown.specs.declared.tables.family.TheConstants.{INET6_STATS}
use Rattle.frame_shown.specs.declared.tables.link.TheConstants.{MESSAGE}

-- none of these names is that of another
abbrev pub are_apart : List (List ℕ) → Bool
are_apart [] = true
are_apart (name ∷ names) = not (list_any (λ other. pointwise ◌==◌ other name) names) && are_apart names

pub record NamesAreApart : Type 0 where
  -- the number 0 has no name
  pub link : are_apart (drop 1 (map (λ row. row.0.now) MESSAGE)) ≡ true
  pub tables : (table : Table) → are_apart (map (λ row. row.1.0) (rows_in table)) ≡ true
  pub records : (kind : Record) → are_apart (map (λ field. field.0) (fields_in kind)) ≡ true
  pub counters : (words : Words) → are_apart (counter_names words) ≡ true
  pub settings : (set : Settings) → are_apart (setting_names set) ≡ true
  pub ipv6 : are_apart (map (λ row. row.0.now) INET6_STATS) ≡ true
