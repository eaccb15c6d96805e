-- The frames of a list of attributes, damaged ones too.
use Rattle.std.specs.Prelude.{ℕ, zero, suc, ◌+◌, ◌*◌, ◌/◌, ◌%◌, ◌^◌, max, min, nat_lt, cond, List, [], ◌∷◌}
use Rattle.std.specs.Prelude.{length, take, drop}
use Rattle.std.specs.Int.{w16}
use Rattle.nla_wire.specs.Fields.{number_at}

-- how many bytes the frame takes up that a list begins with, with its padding: one that is damaged has as many as it
-- says, or as are left
unfoldable pub frame_len : List ℕ → ℕ
frame_len list =
    cond (nat_lt (length list) 4) (length list)
    (min (max ((number_at w16 list 0 + 3) / 4 * 4) 4) (length list))

abbrev pub with_first : (List ℕ → List (List ℕ)) → List ℕ → List (List ℕ)
with_first rest_of [] = []
with_first rest_of (x ∷ list) =
    take (frame_len (x ∷ list)) (x ∷ list) ∷ rest_of (drop (frame_len (x ∷ list)) (x ∷ list))

abbrev pub frames_within : ℕ → List ℕ → List (List ℕ)
frames_within zero list = []
frames_within (suc n) list = with_first (frames_within n) list

-- the frames of a list, each with its padding: together they are the list
unfoldable pub frames_in : List ℕ → List (List ℕ)
frames_in list = frames_within (length list) list

-- those of a message, behind its header
abbrev pub frames_of : List ℕ → List (List ℕ)
frames_of message = frames_in (drop 16 message)

-- the number of a frame, without the two flags in it
abbrev pub frame_number : List ℕ → ℕ
frame_number frame = number_at w16 frame 2 % 2 ^ 14
