-- The values of lists that are their own keys: which of them another list lacks.
use Rattle.std.specs.Prelude.{ℕ, ◌+◌, List, [], ◌∷◌, ◌++◌, cond, nat_lt, unwrap_or}
use Rattle.std.specs.BTreeMap.{BTreeMap, get_by}
use Rattle.std.specs.Cmp.Lexicographic.{slice_cmp}
use Rattle.std.specs.Global.{Vec}
use Rattle.std.specs.Ordering.{nat_cmp}
use Rattle.json.specs.Token.{Token}
use Rattle.frame_diff.specs.Differences.{is_shown_same}

-- how many are shown as this one
abbrev pub times : List Token → List (List Token) → ℕ
times v [] = 0
times v (w ∷ ws) = cond (is_shown_same v w) 1 0 + times v ws

-- of each text those that come more often here than in the other list: the later ones. The ones before are given
abbrev pub over_behind : List (List Token) → List (List Token) → List (List Token) → List (List Token)
over_behind before others [] = []
over_behind before others (v ∷ vs) =
    cond (nat_lt (times v before) (times v others)) [] (v ∷ []) ++ over_behind (v ∷ before) others vs

abbrev pub left_over : List (List Token) → List (List Token) → List (List Token)
left_over others vs = over_behind [] others vs

-- what a map counts of a text
abbrev pub times_in : BTreeMap (Vec ℕ) ℕ → List ℕ → ℕ
times_in counts text = unwrap_or (get_by (λ (k : Vec ℕ). slice_cmp nat_cmp text k.items) counts) 0
