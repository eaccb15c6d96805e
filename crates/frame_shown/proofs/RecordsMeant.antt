-- Records of counters and settings are shown as what payloads mean.
use Rattle.std.proofs.Common.{◌≡◌, ℕ, zero, suc, ◌+◌, ◌≤◌, List, [], ◌∷◌, ◌++◌, length, lit≤, arith}
use Rattle.std.proofs.Common.{refl, sym, ap, ap₂, ◌∙◌}
use Rattle.std.proofs.lemmas.List.{append-nil}
use Rattle.std.specs.Prelude.{codes, map, slice_index}
use Rattle.std.specs.Int.{Width, w16, w32, w64, byte_len}
use Rattle.json.specs.Token.{Token}
use Rattle.link_recs.specs.Icmp6StatsFields.{icmp6_stats_fields, icmp6_stats_table}
use Rattle.link_recs.specs.Inet6CacheInfoFields.{inet6_cache_info_fields, inet6_cache_info_table}
use Rattle.link_recs.specs.Inet6DevConfFields.{inet6_dev_conf_fields, inet6_dev_conf_table}
use Rattle.link_recs.specs.Inet6StatsFields.{inet6_stats_fields, inet6_stats_of, inet6_stats_table}
use Rattle.link_recs.specs.InetDevConfFields.{inet_dev_conf_fields, inet_dev_conf_of, inet_dev_conf_table}
use Rattle.link_recs.specs.Inet6StatsOrder.{order_since_6_16}
use Rattle.link_recs.specs.MapFields.{map_of}
use Rattle.link_recs.specs.Stats64Fields.{stats64_fields, stats64_table}
use Rattle.link_recs.specs.StatsFields.{stats_fields, stats_table}
use Rattle.nla_wire.proofs.FieldLemmas.{number_at_below, signed_number_again}
use Rattle.nla_wire.specs.Fields.{number_at, numbers_from, signed_at, signed_from}
use Rattle.nla_wire.specs.Frames.{IsBytes}
use Rattle.shown.specs.Drafts.{Members, object_of}
use Rattle.shown.specs.Values.{numbered}
use Rattle.frame_shown.specs.Laws.{RecordsAreMeant, counters_by, ipv6_counters_by, ipv6_named_by, map_by, settings_by}
use Rattle.frame_shown.specs.Laws.{unsigned}
use Rattle.frame_shown.specs.Values.{Nesting, bare_shown, behind_settings, counter_names, counters_shown, fields_in}
use Rattle.frame_shown.specs.Values.{fields_shown, ipv6_counters_shown, listed, number_tokens, setting_names}
use Rattle.frame_shown.specs.Values.{settings_shown, signed_unless_zero, signed_value}
use Rattle.frame_shown.specs.declared.form.Around.{Around}
use Rattle.frame_shown.specs.declared.form.Order.{Order}
use Rattle.frame_shown.specs.declared.form.Order.TheVariants as Orders
use Rattle.frame_shown.specs.declared.form.Record.TheVariants as Records
use Rattle.frame_shown.specs.declared.form.Settings.TheVariants as Sets
use Rattle.frame_shown.specs.declared.form.Words.TheVariants as Counts
use Rattle.frame_shown.proofs.Named.{one_byte}

-- ** numbers one after the other

zipped : (names : List (List ℕ)) (w : Width) (p : List ℕ) (place : ℕ)
    → counters_shown names w p place ≡ counters_by names (numbers_from w p place (length names))
zipped [] w p place = refl
zipped (name ∷ names) w p place =
    ap (λ ms. (name, number_tokens (number_at w p place)) ∷ ms) (zipped names w p (place + byte_len w))

settled : (names : List (List ℕ)) (p : List ℕ) (place n : ℕ) → length names ≤ n
    → settings_shown names p place ≡ settings_by names (signed_from w32 p place n)
settled [] p place n few = refl
settled (name ∷ names) p place zero few = absurd (omega (arith, few))
settled (name ∷ names) p place (suc n) few =
    ap (λ ms. (name, signed_value (signed_at w32 p place)) ∷ ms) (settled names p (place + 4) n (omega (arith, few)))

bare_are : (n : ℕ) (p : List ℕ) (place : ℕ)
    → bare_shown n p place ≡ map (λ k. ([], number_tokens k)) (numbers_from w64 p place n)
bare_are zero p place = refl
bare_are (suc n) p place =
    ap (λ (ms : Members). ([], number_tokens (number_at w64 p place)) ∷ ms) (bare_are n p (place + 8))

-- numbers that were kept with a sign
unsigned_again : (p : List ℕ) (place n : ℕ) → IsBytes p → unsigned (signed_from w64 p place n) ≡ numbers_from w64 p
    place n
unsigned_again p place zero small = refl
unsigned_again p place (suc n) small = ap₂ (λ (x : ℕ) (xs : List ℕ). x ∷ xs)
    (signed_number_again w64 (number_at w64 p place) (number_at_below w64 p place small))
    (unsigned_again p (place + 8) n small)

-- ** the counters of IPv6

ipv6_numbers : (p : List ℕ) → IsBytes p → unsigned (inet6_stats_fields (inet6_stats_of p)) ≡ numbers_from w64 p 0 39
ipv6_numbers p small = ap unsigned (inet6_stats_table p) ∙ unsigned_again p 0 39 small

ipv6_same : (order : Order) (p : List ℕ) → IsBytes p
    → ipv6_counters_shown order p ≡ ipv6_counters_by order (inet6_stats_of p)
ipv6_same Orders.Unknown p small =
    ap listed (bare_are 39 p 0)
    ∙ ap (λ ns. listed (map (λ n. ([], number_tokens n)) ns)) (sym (ipv6_numbers p small))
ipv6_same Orders.Before p small = ap (λ ns. object_of (ipv6_named_by ns)) (sym (ipv6_numbers p small))
ipv6_same Orders.Since p small =
    ap (λ ns. object_of (ipv6_named_by (map (λ n. slice_index ns n) order_since_6_16))) (sym (ipv6_numbers p small))

-- ** settings of IPv4, of which the last is not always shown

last_setting : (p : List ℕ) → (inet_dev_conf_of p).reserved_34 ≡ signed_at w32 p 132
unfolding inet_dev_conf_of
last_setting p = refl

inet_same : (p : List ℕ)
    → object_of (settings_shown (setting_names Sets.Inet) p 0 ++ behind_settings Sets.Inet p)
    ≡ object_of (settings_by (setting_names Sets.Inet) (inet_dev_conf_fields (inet_dev_conf_of p))
    ++ signed_unless_zero (codes "reserved-34") (inet_dev_conf_of p).reserved_34)
inet_same p = ap₂ (λ (ms ns : Members). object_of (ms ++ ns))
    (settled (setting_names Sets.Inet) p 0 34 (lit≤ tt)
    ∙ ap (settings_by (setting_names Sets.Inet)) (sym (inet_dev_conf_table p)))
    (ap (signed_unless_zero (codes "reserved-34")) (sym (last_setting p)))

-- ** the addresses of a device

abbrev map_with : List ℕ → ℕ → ℕ → List Token
map_with p dma port = object_of
    (numbered (codes "mem-start") (number_at w64 p 0)
    ∷ numbered (codes "mem-end") (number_at w64 p 8)
    ∷ numbered (codes "base-addr") (number_at w64 p 16)
    ∷ numbered (codes "irq") (number_at w16 p 24)
    ∷ numbered (codes "dma") dma
    ∷ numbered (codes "port") port
    ∷ [])

map_same : (cx : Around) (p : List ℕ) → object_of (fields_shown cx (fields_in Records.Map) p) ≡ object_of (map_by
    (map_of p))
unfolding map_of
map_same cx p = ap₂ (map_with p) (sym (one_byte p 26)) (sym (one_byte p 27))

pub records_meant : (nest : Nesting) (cx : Around) → RecordsAreMeant nest cx
records_meant nest cx = record {
  stats = λ p v small means.
      ap object_of (zipped (counter_names Counts.Stats) w32 p 0
      ∙ ap (counters_by (counter_names Counts.Stats)) (sym (stats_table p)))
      ∙ ap (λ v. object_of (counters_by (counter_names Counts.Stats) (stats_fields v))) (sym means);
  stats64 = λ p v small means.
      ap object_of (zipped (counter_names Counts.Stats64) w64 p 0
      ∙ ap (counters_by (counter_names Counts.Stats64)) (sym (stats64_table p)))
      ∙ ap (λ v. object_of (counters_by (counter_names Counts.Stats64) (stats64_fields v))) (sym means);
  icmp6 = λ p v small means.
      ap object_of (zipped (counter_names Counts.Icmp6) w64 p 0
      ∙ ap (counters_by (counter_names Counts.Icmp6))
      (sym (ap unsigned (icmp6_stats_table p) ∙ unsigned_again p 0 7 small)))
      ∙ ap (λ v. object_of (counters_by (counter_names Counts.Icmp6) (unsigned (icmp6_stats_fields v)))) (sym means);
  ipv6 = λ p v small means. ipv6_same cx.order p small ∙ ap (ipv6_counters_by cx.order) (sym means);
  settings = λ p v small means. inet_same p
      ∙ ap (λ v. object_of (settings_by (setting_names Sets.Inet) (inet_dev_conf_fields v)
      ++ signed_unless_zero (codes "reserved-34") v.reserved_34)) (sym means);
  settings6 = λ p v small means.
      ap object_of (append-nil _ ∙ settled (setting_names Sets.Inet6) p 0 60 (lit≤ tt)
      ∙ ap (settings_by (setting_names Sets.Inet6)) (sym (inet6_dev_conf_table p)))
      ∙ ap (λ v. object_of (settings_by (setting_names Sets.Inet6) (inet6_dev_conf_fields v))) (sym means);
  cache = λ p v small means.
      ap object_of (append-nil _ ∙ settled (setting_names Sets.Cache) p 0 4 (lit≤ tt)
      ∙ ap (settings_by (setting_names Sets.Cache)) (sym (inet6_cache_info_table p)))
      ∙ ap (λ v. object_of (settings_by (setting_names Sets.Cache) (inet6_cache_info_fields v))) (sym means.1);
  maps = λ p v small means. map_same cx p ∙ ap (λ v. object_of (map_by v)) (sym means.1);
}
