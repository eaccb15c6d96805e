-- Which keys are written, and which are among others.
use Rattle.std.proofs.Common.{◌≡◌, ℕ, Bool, true, false, not, List, [], ◌∷◌, length, get_or, map, refl, sym, ap}
use Rattle.std.proofs.Common.{◌∙◌, ◌<◌, ◌≤◌, arith}
use Rattle.std.specs.Prelude.{◌==◌, ◌||◌, ◌&&◌, codes, nat_lt, slice_index, Some, None}
use Rattle.std.specs.Bool.{OnFalse}
use Rattle.std.specs.List.{list_any, list_all}
use Rattle.std.specs.Str.{is_utf8, IsUtf8}
use Rattle.std.proofs.lemmas.Str.{IsUtf8-from_is_utf8, is_utf8-from_IsUtf8}
use Rattle.std.specs.Cmp.Lexicographic.{same_text}
use Rattle.std.proofs.lemmas.Bool.{true≢false, or_from, and_parts, and_left, and_right}
use Rattle.std.proofs.lemmas.Bool.Decides.{nat_tests}
use Rattle.std.proofs.lemmas.List.Folds.{list_any-append}
use lib.Pointwise.{pointwise}
use Rattle.message_shown.specs.WordKeys.{own_keys, answer_keys, written_keys, is_among, is_member, name_if}
use Rattle.frame_shown.specs.declared.tables.link.TheConstants.{MESSAGE}
use Rattle.message_shown.specs.declared.word_keys.TheConstants.{OWN_KEYS, FIRSTS}

pub any_mapped : {A : Type 0} (p : List ℕ → Bool) (f : A → List ℕ) (xs : List A)
    → list_any (λ x. p (f x)) xs ≡ list_any p (map f xs)
any_mapped p f [] = refl
any_mapped p f (x ∷ xs) = ap (λ b. p (f x) || b) (any_mapped p f xs)

other_name : (p : List ℕ → Bool) (name key : List ℕ) → p name ≡ true → p key ≡ false → (same : Bool)
    → pointwise ◌==◌ name key ≡ same → same ≡ false
other_name p name key passes fails true is =
    absurd (true≢false (sym passes ∙ ap p (same_text name key (sym is)) ∙ fails))
other_name p name key passes fails false is = refl

-- where all names pass a test, a key that does not is none of them
pub none_passes : (p : List ℕ → Bool) (key : List ℕ) (names : List (List ℕ)) → list_all p names ≡ true
    → p key ≡ false → is_among key names ≡ false
none_passes p key [] all fails = refl
none_passes p key (name ∷ names) all fails =
    let both = and_parts (p name) (list_all p names) all in
    or_from _ _ (other_name p name key both.0 fails _ refl) (none_passes p key names both.1 fails)

-- whether a key may be written, by its length and its first byte
abbrev pub may_be : List ℕ → Bool
may_be key = (length key == 0)
    || (nat_lt (length key) 27
    && list_any (λ y. y == slice_index key 0) (get_or (map (λ f. f.now) FIRSTS) (length key) []))

all_may_be : list_all may_be written_keys ≡ true
unfolding written_keys answer_keys own_keys
all_may_be = refl

pub not_written : (key : List ℕ) → may_be key ≡ false → is_among key written_keys ≡ false
not_written key fails = none_passes may_be key written_keys all_may_be fails

-- the keys that are written, table by table
pub written_by : (key : List ℕ) → is_among key written_keys
    ≡ (list_any (λ name. pointwise ◌==◌ name.now key) OWN_KEYS
    || list_any (λ row. pointwise ◌==◌ row.0.now key) MESSAGE)
unfolding written_keys answer_keys own_keys
written_by key =
    list_any-append (λ name. pointwise ◌==◌ name key) (codes "words" ∷ own_keys) (map (λ row. row.0.now) MESSAGE)
    ∙ ap (λ b. list_any (λ name. pointwise ◌==◌ name key) (codes "words" ∷ own_keys) || b)
    (sym (any_mapped (λ name. pointwise ◌==◌ name key) (λ row. row.0.now) MESSAGE))

-- what the length and the first byte of a key tell
pub too_long : (key : List ℕ) → 27 ≤ length key → is_among key written_keys ≡ false
too_long key long =
    let some : (length key == 0) ≡ false = grind (arith, nat_tests) in
    let over : nat_lt (length key) 27 ≡ false = grind (arith, nat_tests) in
    not_written key (or_from (length key == 0) _ some (and_left (nat_lt (length key) 27) _ over))

pub begins_otherwise : (key : List ℕ) → (length key == 0) ≡ false → (firsts : List ℕ)
    → firsts ≡ get_or (map (λ f. f.now) FIRSTS) (length key) []
    → list_any (λ y. y == slice_index key 0) firsts ≡ false → is_among key written_keys ≡ false
begins_otherwise key some firsts are none =
    not_written key (or_from (length key == 0) _ some (and_right (nat_lt (length key) 27) _
    (ap (λ l. list_any (λ y. y == slice_index key 0) l) (sym are) ∙ none)))

pub on_false : (r : Bool) (P : Type 0) → (r ≡ false → P) → OnFalse r P
on_false true P h = tt
on_false false P h = h refl

pub own_found : (key : List ℕ) (own : Bool) → own ≡ list_any (λ name. pointwise ◌==◌ name.now key) OWN_KEYS
    → own ≡ true → own ≡ is_among key written_keys
own_found key own is found =
    found ∙ sym (written_by key
    ∙ ap (λ b. b || list_any (λ row. pointwise ◌==◌ row.0.now key) MESSAGE) (sym is ∙ found))

pub rows_found : (key : List ℕ) (own rows : Bool)
    → own ≡ list_any (λ name. pointwise ◌==◌ name.now key) OWN_KEYS → own ≡ false
    → rows ≡ list_any (λ row. pointwise ◌==◌ row.0.now key) MESSAGE → rows ≡ is_among key written_keys
rows_found key own rows is none then =
    then ∙ sym (written_by key
    ∙ ap (λ b. b || list_any (λ row. pointwise ◌==◌ row.0.now key) MESSAGE) (sym is ∙ none))

-- ** a name

member_by : (keys : List (List ℕ)) (key : List ℕ) → length keys < 32 → is_among key written_keys ≡ false
    → is_among key keys ≡ false → is_member written_keys keys key ≡ is_utf8 key
member_by keys key few own among =
    let less : nat_lt (length keys) 32 ≡ true = grind (arith, nat_tests) in
    λ k. less k && (not (own k) && (not (among k) && is_utf8 key))

no_text : (key : List ℕ) (b : Bool) → is_utf8 key ≡ b → (IsUtf8 key → ⊥) → b ≡ false
no_text key true is none = absurd (none (IsUtf8-from_is_utf8 key is))
no_text key false is none = refl

pub named : (keys : List (List ℕ)) (key name : List ℕ) → length keys < 32 → is_among key written_keys ≡ false
    → is_among key keys ≡ false → name ≡ key → IsUtf8 key
    → Some name ≡ name_if (is_member written_keys keys key) key
named keys key name few own among is text =
    ap Some is
    ∙ sym (ap (λ b. name_if b key) (member_by keys key few own among ∙ is_utf8-from_IsUtf8 key text))

pub not_named : (keys : List (List ℕ)) (key : List ℕ) → length keys < 32 → is_among key written_keys ≡ false
    → is_among key keys ≡ false → (IsUtf8 key → ⊥) → None ≡ name_if (is_member written_keys keys key) key
not_named keys key few own among none =
    sym (ap (λ b. name_if b key) (member_by keys key few own among ∙ no_text key _ refl none))
