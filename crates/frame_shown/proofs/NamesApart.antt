-- The names of each table differ, by computation.
use Rattle.std.proofs.Common.{◌≡◌, refl, true, map}
use Rattle.frame_shown.specs.Names.{NamesAreApart, are_apart}
use Rattle.frame_shown.specs.Tables.{rows_in}
use Rattle.frame_shown.specs.Values.{counter_names, fields_in, setting_names}
use Rattle.frame_shown.specs.declared.form.Record.{Record}
use Rattle.frame_shown.specs.declared.form.Record.TheVariants as Records
use Rattle.frame_shown.specs.declared.form.Settings.{Settings}
use Rattle.frame_shown.specs.declared.form.Settings.TheVariants as Sets
use Rattle.frame_shown.specs.declared.form.Table.{Table}
use Rattle.frame_shown.specs.declared.form.Table.TheVariants as Tables
use Rattle.frame_shown.specs.declared.form.Words.{Words}
use Rattle.frame_shown.specs.declared.form.Words.TheVariants as Counts

tables_apart : (table : Table) → are_apart (map (λ row. row.1.0) (rows_in table)) ≡ true
tables_apart Tables.Families = refl
tables_apart Tables.Inet = refl
tables_apart Tables.Inet6 = refl
tables_apart Tables.Mctp = refl
tables_apart Tables.Xdp = refl
tables_apart Tables.Props = refl
tables_apart Tables.DevlinkPort = refl
tables_apart Tables.DpllPin = refl
tables_apart Tables.DownReason = refl
tables_apart Tables.Function = refl
tables_apart Tables.FunctionStats = refl
tables_apart Tables.FunctionVlans = refl

records_apart : (kind : Record) → are_apart (map (λ field. field.0) (fields_in kind)) ≡ true
records_apart Records.Map = refl
records_apart Records.VfMac = refl
records_apart Records.VfVlan = refl
records_apart Records.VfTxRate = refl
records_apart Records.VfSetting = refl
records_apart Records.VfLinkState = refl
records_apart Records.VfRate = refl
records_apart Records.VfGuid = refl
records_apart Records.VfVlanInfo = refl

counters_apart : (words : Words) → are_apart (counter_names words) ≡ true
counters_apart Counts.Stats = refl
counters_apart Counts.Stats64 = refl
counters_apart Counts.Icmp6 = refl

settings_apart : (set : Settings) → are_apart (setting_names set) ≡ true
settings_apart Sets.Inet = refl
settings_apart Sets.Inet6 = refl
settings_apart Sets.Cache = refl

pub names_apart : NamesAreApart
names_apart = record {
  link = refl;
  tables = tables_apart;
  records = records_apart;
  counters = counters_apart;
  settings = settings_apart;
  ipv6 = refl;
}
