-- One word that opens the readers of payloads, for `unfolding`.
use Rattle.std.specs.Prelude.{⊤}
use Rattle.nla_wire.specs.Payloads.{read_exactly, read_number, read_sized, read_text}

unfoldable pub readers : ⊤
unfolding read_exactly read_number read_sized read_text
readers = tt
