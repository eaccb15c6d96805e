-- Which words in front of a line are members of its answer, so that no object has a key twice.
use Rattle.std.specs.Prelude.{ℕ, ◌==◌, ◌&&◌, ◌++◌, not, nat_lt, Bool, List, [], ◌∷◌, codes, cond, length, map}
use Rattle.std.specs.Prelude.{Option, Some, None}
use Rattle.std.specs.List.{list_any}
use Rattle.std.specs.Str.{is_utf8}
use lib.Pointwise.{pointwise}
use Rattle.frame_shown.specs.declared.tables.link.TheConstants.{MESSAGE}

-- the keys of an answer that are no attribute's name: of the header, of lists, and of faults
unfoldable pub own_keys : List (List ℕ)
own_keys =
    codes "ifi-family"
    ∷ codes "ifi-type"
    ∷ codes "ifi-index"
    ∷ codes "ifi-flags"
    ∷ codes "ifi-change"
    ∷ codes "repeated"
    ∷ codes "other"
    ∷ codes "refused"
    ∷ codes "fault"
    ∷ codes "at"
    ∷ codes "got"
    ∷ codes "need"
    ∷ codes "want"
    ∷ codes "left"
    ∷ codes "length"
    ∷ codes "offset"
    ∷ codes "before"
    ∷ []

-- all keys of an answer beside those of its words
unfoldable pub answer_keys : List (List ℕ)
answer_keys = own_keys ++ map (λ row. row.0.now) MESSAGE

-- the keys that no word has as a member: these, and that of the list of words
unfoldable pub written_keys : List (List ℕ)
written_keys = codes "words" ∷ answer_keys

-- whether a key is one of these
abbrev pub is_among : List ℕ → List (List ℕ) → Bool
is_among key keys = list_any (λ k. pointwise ◌==◌ k key) keys

-- whether a word is a member, by its key, where the program writes these keys, and the members in front of it have
-- those: it is a text and none of them, and there are fewer than 32 members
abbrev pub is_member : List (List ℕ) → List (List ℕ) → List ℕ → Bool
is_member written keys key =
    nat_lt (length keys) 32 && (not (is_among key written) && (not (is_among key keys) && is_utf8 key))

-- the keys of the members so far, and this one where its word is a member
abbrev pub with_key : Bool → List ℕ → List (List ℕ) → List (List ℕ)
with_key is key keys = cond is (keys ++ key ∷ []) keys

abbrev pub name_if : Bool → List ℕ → Option (List ℕ)
name_if is key = cond is (Some key) None
