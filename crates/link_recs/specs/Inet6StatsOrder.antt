-- The order of the counters of Inet6Stats in messages of Linux 6.16 and later.
use Rattle.std.specs.Prelude.{◌≡◌, ℕ, ℤ, pos, ◌==◌, List, [], ◌∷◌, length, map, filter, replicate, slice_index_or}
use Rattle.std.specs.List.{range_with_len}

-- for each field in order, which number of such a message it is
abbrev pub order_since_6_16 : List ℕ
order_since_6_16 =
    0 ∷
    1 ∷
    2 ∷
    3 ∷
    11 ∷
    8 ∷
    10 ∷
    12 ∷
    13 ∷
    14 ∷
    15 ∷
    16 ∷
    17 ∷
    18 ∷
    19 ∷
    20 ∷
    21 ∷
    22 ∷
    23 ∷
    24 ∷
    25 ∷
    26 ∷
    27 ∷
    28 ∷
    29 ∷
    30 ∷
    31 ∷
    32 ∷
    33 ∷
    34 ∷
    35 ∷
    36 ∷
    4 ∷
    5 ∷
    6 ∷
    7 ∷
    37 ∷
    9 ∷
    38 ∷
    []

-- the numbers that stand at these places
abbrev pub in_order : List ℕ → List ℤ → List ℤ
in_order places xs = map (λ n. slice_index_or xs n (pos 0)) places

-- how often each place from 0 on stands among these
abbrev pub counted : List ℕ → ℕ → List ℕ
counted places n = map (λ k. length (filter (λ m. m == k) places)) (range_with_len 0 n)

-- each of the first n places is taken once, and no other
abbrev pub IsOrder : List ℕ → ℕ → Type 0
IsOrder places n = (length places ≡ n) × (counted places n ≡ replicate n 1)
