-- Records of virtual functions are shown as what payloads mean.
use Rattle.std.proofs.Common.{◌≡◌, ℕ, ◌==◌, ◌&&◌, not, List, [], ◌∷◌, Bool, true, false, cond}
use Rattle.std.proofs.Common.{if◌then◌else◌, refl, arith}
use Rattle.std.proofs.Common.{sym, ap, ◌∙◌}
use Rattle.std.specs.Prelude.{codes, map}
use Rattle.std.specs.Int.{w16, w32}
use Rattle.json.specs.Token.{Token, string}
use Rattle.link_vals.proofs.Numbers.{vf_link_state_again}
use Rattle.link_vals.specs.VlanProtocolTable.{vlan_protocol_number, vlan_protocol_of}
use Rattle.link_vfrec.specs.Records.{vf_info_mac_of, vf_info_broadcast_of, vf_info_vlan_of, vf_info_tx_rate_of}
use Rattle.link_vfrec.specs.Records.{vf_info_rate_of, vf_info_spoof_check_of, vf_info_rss_query_en_of}
use Rattle.link_vfrec.specs.Records.{vf_info_trust_of}
use Rattle.link_vfrec.specs.Records.{vf_info_link_state_of, vf_info_guid_of, vf_vlan_info_of}
use Rattle.link_vfrec.specs.Truth.{is_on}
use Rattle.nla_wire.specs.Fields.{be_number_at, number_at}
use Rattle.shown.specs.Drafts.{object_of}
use Rattle.shown.specs.Values.{name_or_number, numbered}
use Rattle.frame_shown.specs.Laws.{FunctionsAreMeant, function_by, rate_by, setting_by, state_by, vlan_by}
use Rattle.frame_shown.specs.Laws.{vlan_info_by}
use Rattle.frame_shown.specs.Values.{Nesting, address_shown, fields_in, fields_shown, protocol_name}
use Rattle.frame_shown.specs.declared.form.Around.{Around}
use Rattle.frame_shown.specs.declared.form.Record.TheVariants as Records
use Rattle.frame_shown.specs.declared.tables.functions.TheConstants.{VF_LINK_STATES}

abbrev off : ℕ
off = 0

abbrev on : ℕ
on = 1

on_same : (a b : Bool) → cond a off (cond b off on) ≡ (if not a && not b then on else off)
on_same true b = refl
on_same false true = refl
on_same false false = refl

setting_same : (cx : Around) (p : List ℕ) → object_of (fields_shown cx (fields_in Records.VfSetting) p)
    ≡ setting_by (number_at w32 p 0) (is_on (number_at w32 p 4))
setting_same cx p = ap (λ n. function_by (number_at w32 p 0) (numbered (codes "setting") n ∷ []))
    (on_same (number_at w32 p 4 == 0) (number_at w32 p 4 == 4294967295))

protocol_same : (n : ℕ) → protocol_name n ≡ protocol_name (vlan_protocol_number (vlan_protocol_of n))
unfolding vlan_protocol_number vlan_protocol_of
protocol_same n = grind arith

abbrev state_with : ℕ → ℕ → List Token
state_with function n = function_by function ((
  codes "link-state",
  name_or_number (map (λ name. name.now) VF_LINK_STATES) n ∷ [],
) ∷ [])

abbrev protocol_with : List ℕ → List ℕ → List Token
protocol_with p name = function_by (number_at w32 p 0)
    (numbered (codes "vlan") (number_at w32 p 4)
    ∷ numbered (codes "qos") (number_at w32 p 8)
    ∷ (codes "vlan-proto", string name ∷ [])
    ∷ [])

pub functions_meant : (nest : Nesting) (cx : Around) → FunctionsAreMeant nest cx
unfolding vf_info_mac_of vf_info_broadcast_of vf_info_vlan_of vf_info_tx_rate_of vf_info_rate_of
    vf_info_spoof_check_of vf_info_rss_query_en_of vf_info_trust_of vf_info_link_state_of vf_info_guid_of
    vf_vlan_info_of
functions_meant nest cx = record {
  macs = λ p v small means. ap (λ v. function_by v.vf_id ((codes "mac", address_shown cx v.mac) ∷ [])) (sym means.1);
  broadcasts = λ p v small means. ap (λ v. address_shown cx v.addr) (sym means.1);
  vlans = λ p v small means. ap vlan_by (sym means.1);
  tx_rates = λ p v small means. ap (λ v. function_by v.vf_id (numbered (codes "rate") v.rate ∷ [])) (sym means.1);
  rates = λ p v small means. ap rate_by (sym means.1);
  spoof_checks = λ p v small means. setting_same cx p ∙ ap (λ v. setting_by v.vf_id v.enabled) (sym means.1);
  rss_queries = λ p v small means. setting_same cx p ∙ ap (λ v. setting_by v.vf_id v.enabled) (sym means.1);
  trusts = λ p v small means. setting_same cx p ∙ ap (λ v. setting_by v.vf_id v.enabled) (sym means.1);
  link_states = λ p v small means.
      ap (state_with (number_at w32 p 0)) (sym (vf_link_state_again (number_at w32 p 4))) ∙ ap state_by (sym means.1);
  guids = λ p v small means. ap (λ v. function_by v.vf_id (numbered (codes "guid") v.guid ∷ [])) (sym means.1);
  vlan_infos = λ p v small means.
      ap (protocol_with p) (protocol_same (be_number_at w16 p 12)) ∙ ap vlan_info_by (sym means.1);
}
