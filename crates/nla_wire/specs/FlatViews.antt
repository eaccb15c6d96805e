-- The encoding of a value that holds no others.
use Rattle.std.specs.Prelude.{ℕ, List, [], ◌∷◌, ◌++◌}
use Rattle.std.specs.Int.{w8, w16, w32, w64, to_le_bytes, cast_unsigned}
use Rattle.nla_wire.specs.declared.flat.FlatView.{FlatView}
use Rattle.nla_wire.specs.declared.flat.FlatView.TheVariants as view

-- a text has one NUL after it, a number its lowest byte first
abbrev pub flat_bytes : FlatView → List ℕ
flat_bytes (view.Bytes bytes) = bytes.now
flat_bytes (view.Text text) = text.now ++ 0 ∷ []
flat_bytes (view.U8 n) = to_le_bytes w8 n
flat_bytes (view.U16 n) = to_le_bytes w16 n
flat_bytes (view.U32 n) = to_le_bytes w32 n
flat_bytes (view.U64 n) = to_le_bytes w64 n
flat_bytes (view.I32 n) = to_le_bytes w32 (cast_unsigned w32 n)
