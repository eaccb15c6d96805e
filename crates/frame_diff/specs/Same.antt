-- The tables by their numbers.
use Rattle.std.specs.Prelude.{ℕ}
use Rattle.frame_shown.specs.declared.form.Table.{Table}
use Rattle.frame_shown.specs.declared.form.Table.TheVariants as Tables

abbrev pub table_number : Table → ℕ
table_number Tables.Families = 0
table_number Tables.Inet = 1
table_number Tables.Inet6 = 2
table_number Tables.Mctp = 3
table_number Tables.Xdp = 4
table_number Tables.Props = 5
table_number Tables.DevlinkPort = 6
table_number Tables.DpllPin = 7
table_number Tables.DownReason = 8
table_number Tables.Function = 9
table_number Tables.FunctionStats = 10
table_number Tables.FunctionVlans = 11
