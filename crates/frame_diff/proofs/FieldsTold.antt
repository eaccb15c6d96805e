-- Fields of records, one further.
use Rattle.std.proofs.Common.{◌≡◌, ◌<◌, ◌≤◌, ◌+◌, ℕ, List, [], ◌∷◌, ◌++◌, append-nil, append_assoc, ap, arith, drop}
use Rattle.std.proofs.Common.{get_or, length, map, sym, ◌∙◌}
use Rattle.std.proofs.lemmas.List.{drop_more, map-append}
use Rattle.std.specs.Borrow.{Bor}
use Rattle.std.specs.Int.{byte_len, w32, w64}
use Rattle.std.specs.Prelude.{Bool, cond, ℤ, ◌*◌}
use Rattle.link_state.specs.Table.{Action}
use Rattle.link_info.specs.Styles.{width}
use Rattle.link_info.specs.declared.style.Size.{Size}
use Rattle.link_info.specs.declared.style.Size.TheVariants as Sizes
use Rattle.nla_wire.specs.Fields.{number_at, signed_at}
use Rattle.shown.specs.Drafts.{Members}
use Rattle.shown.specs.Values.{numbered}
use Rattle.frame_shown.specs.Values.{counter_place, counters_shown, placed_shown, settings_shown, signed_value}
use Rattle.frame_shown.specs.declared.form.Around.{Around}
use Rattle.frame_diff.specs.Counters.{clears_at, fields_left}
use Rattle.frame_diff.specs.Rows.{row_shown}
use Rattle.frame_diff.specs.declared.leaf.Value.TheVariants as Values
use Rattle.frame_diff.specs.declared.rows.Row.{Row}

-- a field behind others, and those that follow
pub row_next : (cx : Around) (rows new : List Row) (row : Row) (left more all : Members)
    → new ≡ rows ++ row ∷ [] → left ≡ row_shown cx row ∷ more → map (row_shown cx) rows ++ left ≡ all
    → map (row_shown cx) new ++ more ≡ all
row_next cx rows new row left more all pushed is was =
    ap (λ rs. map (row_shown cx) rs ++ more) pushed
    ∙ ap (λ ms. ms ++ more) (map-append (row_shown cx) rows (row ∷ []))
    ∙ append_assoc (map (row_shown cx) rows) (row_shown cx row ∷ []) more
    ∙ ap (λ ms. map (row_shown cx) rows ++ ms) (sym is)
    ∙ was

-- and after the last one
pub rows_over : (ms left all : Members) → left ≡ [] → ms ++ left ≡ all → ms ≡ all
rows_over ms left all none was = sym (append-nil ms) ∙ ap (λ l. ms ++ l) (sym none) ∙ was

pub size_small : (size : Size) → byte_len (width size) ≤ 8
size_small Sizes.One = omega arith
size_small Sizes.Two = omega arith
size_small Sizes.Four = omega arith
size_small Sizes.Eight = omega arith

-- numbers of one size
pub number_left : (size : Size) (names : List (Bor (List ℕ))) (i : ℕ) (d : Bor (List ℕ)) (bytes : List ℕ)
    (place next n : ℕ) (cx : Around) → i < length names → n ≡ number_at (width size) bytes place
    → next ≡ byte_len (width size)
    → counters_shown (map (λ name. name.now) (drop i names)) (width size) bytes place
    ≡ row_shown cx (record { name = get_or names i d; value = Values.Unsigned n })
    ∷ counters_shown (map (λ name. name.now) (drop (i + 1) names)) (width size) bytes (place + next)
number_left size names i d bytes place next n cx within read size_is =
    ap (λ ns. counters_shown (map (λ name. name.now) ns) (width size) bytes place) (drop_more names i d within)
    ∙ (λ k. numbered (get_or names i d).now (sym read k)
    ∷ counters_shown (map (λ name. name.now) (drop (i + 1) names)) (width size) bytes (place + sym size_is k))

-- counters by their places
pub placed_left : {T : Type 0} (named : T → Bor (List ℕ)) (before since : T → ℕ) (is_since : Bool) (names : List T)
    (i : ℕ) (d : T) (bytes : List ℕ) (n : ℕ) (cx : Around) → i < length names
    → n ≡ number_at w64 bytes (8 * counter_place is_since (before (get_or names i d)) (since (get_or names i d)))
    → placed_shown is_since (map (λ row. ((named row).now, (before row, since row))) (drop i names)) bytes
    ≡ row_shown cx (record { name = named (get_or names i d); value = Values.Unsigned n })
    ∷ placed_shown is_since (map (λ row. ((named row).now, (before row, since row))) (drop (i + 1) names)) bytes
placed_left named before since is_since names i d bytes n cx within read =
    ap (λ ns. placed_shown is_since (map (λ row. ((named row).now, (before row, since row))) ns) bytes)
    (drop_more names i d within)
    ∙ (λ k. numbered (named (get_or names i d)).now (sym read k)
    ∷ placed_shown is_since (map (λ row. ((named row).now, (before row, since row))) (drop (i + 1) names)) bytes)

-- fields, some of which may be passed over
pub some_next : (ms new mine left more all : Members) → new ≡ ms ++ mine → left ≡ mine ++ more → ms ++ left ≡ all
    → new ++ more ≡ all
some_next ms new mine left more all pushed is was =
    ap (λ l. l ++ more) pushed ∙ append_assoc ms mine more ∙ ap (λ l. ms ++ l) (sym is) ∙ was

pub setting_left : (action : Action) (names : List (Bor (List ℕ))) (i : ℕ) (d : Bor (List ℕ)) (bytes : List ℕ)
    (place : ℕ) (z : ℤ) (cx : Around) → i < length names → z ≡ signed_at w32 bytes place
    → fields_left action place (map (λ name. 4) (map (λ name. name.now) (drop i names)))
    (settings_shown (map (λ name. name.now) (drop i names)) bytes place)
    ≡ cond (clears_at action place) []
    (row_shown cx (record { name = get_or names i d; value = Values.Signed z }) ∷ [])
    ++ fields_left action (place + 4) (map (λ name. 4) (map (λ name. name.now) (drop (i + 1) names)))
    (settings_shown (map (λ name. name.now) (drop (i + 1) names)) bytes (place + 4))
setting_left action names i d bytes place z cx within read =
    ap (λ ns. fields_left action place (map (λ name. 4) (map (λ name. name.now) ns))
    (settings_shown (map (λ name. name.now) ns) bytes place)) (drop_more names i d within)
    ∙ (λ k. cond (clears_at action place) [] (((get_or names i d).now, signed_value (sym read k)) ∷ [])
    ++ fields_left action (place + 4) (map (λ name. 4) (map (λ name. name.now) (drop (i + 1) names)))
    (settings_shown (map (λ name. name.now) (drop (i + 1) names)) bytes (place + 4)))
