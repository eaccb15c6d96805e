-- What an attribute's frame holds.
use Rattle.std.specs.Prelude.{ℕ, List, [], ◌∷◌, ◌++◌, bit_and, codes, decimal, map}
use Rattle.hex.specs.Hex.{encode_lower}
use Rattle.json.specs.Token.{number, string}
use Rattle.frame_shown.specs.declared.kept.TheConstants.{FRAME_FLAGS}
use Rattle.shown.specs.Drafts.{Members}
use Rattle.shown.specs.Values.{BitNames, flags_of}

-- the names of the two flags of an attribute's frame
abbrev pub frame_flags : BitNames
frame_flags = map (λ row. (row.0, row.1.now)) FRAME_FLAGS

-- a text under a name, where it is not empty
abbrev pub text_unless_empty : List ℕ → List ℕ → Members
text_unless_empty name [] = []
text_unless_empty name (x ∷ text) = (name, string (x ∷ text) ∷ []) ∷ []

-- an attribute as it is: its number, the name that the number has, if any, its flags, and its payload in hexadecimal
abbrev pub frame_members : List ℕ → ℕ → List ℕ → Members
frame_members name kind payload =
    (codes "number", number (decimal (bit_and kind 0x3fff)) ∷ [])
    ∷ text_unless_empty (codes "name") name
    ++ (codes "flags", flags_of frame_flags (bit_and kind 0xc000))
    ∷ (codes "payload", string (encode_lower payload) ∷ [])
    ∷ []
