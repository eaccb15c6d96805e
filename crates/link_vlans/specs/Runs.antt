-- Lists of VLANs as kernels write them: which VLANs they have, and what is said of each.
use Rattle.std.specs.Prelude.{ℕ, ◌+◌, ◌-◌, ◌==◌, ◌&&◌, ◌^◌, min, nat_le, nat_lt, List, [], ◌∷◌, Bool, true, false}
use Rattle.std.specs.Prelude.{Option, None, Some, bit_and, cond, length, option_and_then, option_map}
use Rattle.std.specs.Int.{w16, w32}
use Rattle.std.specs.List.{flat_map}
use Rattle.nla_wire.specs.Fields.{number_at}
use Rattle.nla_wire.specs.Frames.{Frame, number}
use Rattle.nla_wire.specs.Items.{items}
use Rattle.link_info.specs.Styles.{are_frames}
use Rattle.link_info.specs.Tables.{frames_in}
use Rattle.link_vlans.specs.declared.run.Run.{Run}
use Rattle.link_vlans.specs.declared.run.Said.{Said}
use Rattle.link_vlans.specs.declared.vlan.Vlan.{Vlan}

-- ** one attribute

-- a record: flags, and the VLAN
abbrev pub plain_vlan : List ℕ → Option Vlan
plain_vlan p = cond (length p == 4)
    (Some (record { vid = number_at w16 p 2; flags = number_at w16 p 0; id = None })) None

-- attributes, each of which stands once: the tunnel's id, its VLAN, and flags
abbrev pub Parts : Type 0
Parts = Option ℕ × Option ℕ × Option ℕ

abbrev pub take_id : Parts → List ℕ → Option Parts
take_id (Some id, vid, flags) p = None
take_id (None, vid, flags) p = cond (length p == 4) (Some (Some (number_at w32 p 0), vid, flags)) None

abbrev pub take_vid : Parts → List ℕ → Option Parts
take_vid (id, Some vid, flags) p = None
take_vid (id, None, flags) p = cond (length p == 2) (Some (id, Some (number_at w16 p 0), flags)) None

abbrev pub take_flags : Parts → List ℕ → Option Parts
take_flags (id, vid, Some flags) p = None
take_flags (id, vid, None) p = cond (length p == 2) (Some (id, vid, Some (number_at w16 p 0))) None

abbrev pub take_field : Parts → ℕ → List ℕ → Option Parts
take_field parts n p = cond (n == 1) (take_id parts p) (cond (n == 2) (take_vid parts p)
    (cond (n == 3) (take_flags parts p) None))

abbrev pub take_fields : Parts → List Frame → Option Parts
take_fields parts [] = Some parts
take_fields parts (f ∷ fs) = option_and_then (λ next. take_fields next fs) (take_field parts (number f) f.payload)

abbrev pub tunnel_by : Option Parts → Option Vlan
tunnel_by (Some (Some id, Some vid, Some flags)) = Some (record { vid = vid; flags = flags; id = Some id })
tunnel_by _ = None

-- whole frames alone
abbrev pub tunnel : List ℕ → Option Vlan
tunnel p = cond (are_frames (items p)) (tunnel_by (take_fields (None, None, None) (frames_in (items p)))) None

-- the attributes of number 2 are VLANs, those of number 3 tunnels
abbrev pub vlan_by : ℕ → List ℕ → Option Vlan
vlan_by n p = cond (n == 2) (plain_vlan p) (cond (n == 3) (tunnel p) None)

-- the attributes of a number
abbrev pub vlan_with : ℕ → Frame → List (Option Vlan)
vlan_with n f = cond (number f == n) (vlan_by n f.payload ∷ []) []

abbrev pub vlans_with : ℕ → List Frame → List (Option Vlan)
vlans_with n fs = flat_map (vlan_with n) fs

-- ** what is said of a VLAN

-- 8 begins a range, 16 ends one
abbrev pub ends_of : Vlan → ℕ
ends_of v = bit_and v.flags 24

-- how far a tunnel's id is ahead of its VLAN: above 65,536 where it is greater
abbrev pub ahead_by : ℕ → Option ℕ → Option ℕ
ahead_by vid None = None
ahead_by vid (Some id) = Some (id + 65536 - vid)

abbrev pub said : Vlan → Said
said v = record { flags = bit_and v.flags 65511; ahead = ahead_by v.vid v.id }

abbrev pub is_number : Option ℕ → Option ℕ → Bool
is_number None None = true
is_number (Some m) (Some n) = m == n
is_number _ _ = false

abbrev pub is_said : Said → Said → Bool
is_said a b = (a.flags == b.flags) && is_number a.ahead b.ahead

-- the id of a VLAN's tunnel, if it has one
abbrev pub id_at : ℕ → Option ℕ → Option ℕ
id_at vid None = None
id_at vid (Some ahead) = Some (min (ahead + vid) (2 ^ 64 - 1) - 65536)

-- ** a list

-- both ends of a run
abbrev pub run_of : Vlan → Vlan → Run
run_of begin end = record { first = begin.vid; last = end.vid; said = said begin }

-- a VLAN begins a range, and the next one ends it, of which the same is said
abbrev pub is_range : Vlan → Vlan → Bool
is_range begin end = (ends_of end == 16) && (nat_lt begin.vid end.vid && is_said (said begin) (said end))

-- the runs of VLANs, in order: each VLAN is one, or it begins one that the next one ends; behind one that begins a
-- range, if there is such
abbrev pub runs_behind : Option Vlan → List (Option Vlan) → Option (List Run)
runs_behind None [] = Some []
runs_behind (Some begin) [] = None
runs_behind None (None ∷ vs) = None
runs_behind (Some begin) (None ∷ vs) = None
runs_behind None (Some v ∷ vs) =
    cond (ends_of v == 0) (option_map (λ rs. run_of v v ∷ rs) (runs_behind None vs))
    (cond (ends_of v == 8) (runs_behind (Some v) vs) None)
runs_behind (Some begin) (Some v ∷ vs) =
    cond (is_range begin v) (option_map (λ rs. run_of begin v ∷ rs) (runs_behind None vs)) None

-- there is none before, or it is below
abbrev pub is_below : Option ℕ → ℕ → Bool
is_below None n = true
is_below (Some m) n = nat_lt m n

-- each has a VLAN, none above the greatest one that two bytes spell; they ascend, and none has a VLAN of another
abbrev pub is_run : Run → Bool
is_run r = nat_le r.first r.last && nat_lt r.last 65536

abbrev pub are_apart : Option ℕ → List Run → Bool
are_apart last [] = true
are_apart last (r ∷ rs) = is_below last r.first && (is_run r && are_apart (Some r.last) rs)

abbrev pub apart_ones : Option (List Run) → Option (List Run)
apart_ones None = None
apart_ones (Some rs) = cond (are_apart None rs) (Some rs) None

-- of a list that a kernel writes so, or none
abbrev pub runs_in : ℕ → List Frame → Option (List Run)
runs_in n fs = apart_ones (runs_behind None (vlans_with n fs))
