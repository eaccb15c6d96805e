-- The words KEY=VALUE in front of a line, and the rest of it.
use Rattle.std.specs.Prelude.{◌≡◌, ℕ, zero, suc, ◌+◌, ◌==◌, not, ◌||◌, ◌&&◌, nat_lt, List, [], ◌∷◌, ◌++◌, length}
use Rattle.std.specs.Prelude.{Bool, MatchBool, codes, take, drop, slice_range, Option, None, Some, if◌then◌else◌}
use Rattle.std.specs.List.{prefix_len}
use lib.Pointwise.{pointwise}
use Rattle.line_filter.specs.Lines.{Relation}

-- a space or a tab
abbrev pub is_blank : ℕ → Bool
is_blank byte = byte == 32 || byte == 9

-- how long the first part of a line is, which a blank or the line's end follows
abbrev pub part_len : List ℕ → ℕ
part_len line = prefix_len (λ byte. not (is_blank byte)) line

-- how long the part before the first `=` of a line is
abbrev pub key_len : List ℕ → ℕ
key_len line = prefix_len (λ byte. not (byte == 61)) line

-- whether a word stands in front: a part with an `=` that is not its first byte; a blank or the line's end follows it
abbrev pub has_word : List ℕ → Bool
has_word line = nat_lt 0 (key_len line) && nat_lt (key_len line) (part_len line)

-- how long the first part and the blanks after it are
abbrev pub step_len : List ℕ → ℕ
step_len line = part_len line + prefix_len is_blank (drop (part_len line) line)

-- what stands before the first `=`, and what stands after it up to the first blank
abbrev pub first_key : List ℕ → List ℕ
first_key line = take (key_len line) line

abbrev pub first_value : List ℕ → List ℕ
first_value line = slice_range line (key_len line + 1) (part_len line)

-- how long the first words in front are, each with the blanks after it: as many as n, or all of them
abbrev pub words_len : ℕ → List ℕ → ℕ
words_len zero line = 0
words_len (suc n) line = if has_word line then step_len line + words_len n (drop (step_len line) line) else 0

-- how long all words in front are: a line has fewer of them than bytes
abbrev pub front_len : List ℕ → ℕ
front_len line = words_len (length line) line

-- the words in front of a line, as they stand, with the blanks after each
abbrev pub front_of : List ℕ → List ℕ
front_of line = take (front_len line) line

-- what follows the words in front
abbrev pub rest_of : List ℕ → List ℕ
rest_of line = drop (front_len line) line

-- the first words in front, each as its key and its value: as many as n, or all of them
abbrev pub words_in : ℕ → List ℕ → List (List ℕ × List ℕ)
words_in zero line = []
words_in (suc n) line =
    if has_word line then (first_key line, first_value line) ∷ words_in n (drop (step_len line) line) else []

-- all words in front
abbrev pub words_of : List ℕ → List (List ℕ × List ℕ)
words_of line = words_in (length line) line

-- the value of the first of these words that has this key
abbrev pub value_in : List ℕ → List (List ℕ × List ℕ) → Option (List ℕ)
value_in key [] = None
value_in key (word ∷ words) = if pointwise ◌==◌ word.0 key then Some word.1 else value_in key words

-- whether words stand in a line and nothing follows them
abbrev pub are_alone : List ℕ → List ℕ → Bool
are_alone front rest = nat_lt 0 (length front) && length rest == 0

-- the digits of what follows the words: the word `ok` in front of them is passed over
abbrev pub digits_of : List ℕ → List ℕ
digits_of rest = if pointwise ◌==◌ (take 3 rest) (codes "ok ") then drop 3 rest else rest

-- an answer to what follows the words: to nothing behind some words it is nothing, for such a line is no message
abbrev pub IsOwn : Relation → List ℕ → List ℕ → List ℕ → Type 0
IsOwn is front rest own = MatchBool (are_alone front rest) (own ≡ []) (is (digits_of rest) own)

-- what a line is answered with its words: the words in front as they stand, and then an answer to the rest, if there is
-- one
abbrev pub WithWords : Relation → Relation
WithWords is line answer =
    (own : List ℕ) × IsOwn is (front_of line) (rest_of line) own × (answer ≡ front_of line ++ own)
