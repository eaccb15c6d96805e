-- One word that opens the outermost table, for `unfolding`.
use Rattle.std.specs.Prelude.{⊤}
use Rattle.link_msg.specs.Tables.{attribute_entries, attribute_place, attribute_view}

unfoldable pub table : ⊤
unfolding attribute_entries attribute_place attribute_view
table = tt
