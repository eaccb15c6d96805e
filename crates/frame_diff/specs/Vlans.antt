-- The VLANs of a port, as members of their list: each by its number.
use Rattle.std.specs.Prelude.{ℕ, zero, ◌==◌, List, [], ◌∷◌, ◌++◌, Option, None, Some, codes, cond, decimal, map}
use Rattle.json.specs.Token.{Token}
use Rattle.link_vlans.specs.Pieces.{vlans_of}
use Rattle.link_vlans.specs.Runs.{id_at}
use Rattle.link_vlans.specs.declared.run.Run.{Run}
use Rattle.link_vlans.specs.declared.run.Said.{Said}
use Rattle.shown.specs.Drafts.{Members, object_of}
use Rattle.shown.specs.Values.{BitNames, flags_of, numbered}
use Rattle.frame_diff.specs.Forests.{Forest, Step, field_step, forest}
use Rattle.frame_diff.specs.declared.labels.Label.{Label}

-- ** as they are shown

-- the flags, BRIDGE_VLAN_INFO_* in linux/if_bridge.h, without those of the ends of a range
unfoldable pub vlan_flag_names : BitNames
vlan_flag_names =
    (1, codes "master") ∷
    (2, codes "pvid") ∷
    (4, codes "untagged") ∷
    (32, codes "brentry") ∷
    (64, codes "only-opts") ∷
    []

abbrev pub flags_shown : ℕ → List Token
flags_shown flags = flags_of vlan_flag_names flags

-- the id of a tunnel, if it is one
abbrev pub id_member : List ℕ → Option ℕ → Members
id_member name None = []
id_member name (Some id) = numbered name id ∷ []

-- VLANs as one value: the first one, and the last one, where that is another one
abbrev pub end_members : Run → Members
end_members r = cond (r.first == r.last) []
    (id_member (codes "id-end") (id_at r.last r.said.ahead) ++ numbered (codes "vid-end") r.last ∷ [])

abbrev pub run_shown : Run → List Token
run_shown r = object_of (id_member (codes "id") (id_at r.first r.said.ahead)
    ++ (codes "flags", flags_shown r.said.flags) ∷ numbered (codes "vid") r.first ∷ end_members r)

-- ** paths

-- the numbers of VLANs in brackets: `[vid=n]`, or `[vid=m-n]`
abbrev pub end_text : Run → List ℕ
end_text r = cond (r.first == r.last) [] (45 ∷ decimal r.last)

abbrev pub range_text : Run → List ℕ
range_text r = 91 ∷ codes "vid=" ++ decimal r.first ++ end_text r ++ 93 ∷ []

abbrev pub vlan_label : ℕ → Label
vlan_label vid = record { number = Some vid; again = zero }

abbrev pub vlan_step : ℕ → Step
vlan_step vid = Step.label (codes "vid") (vlan_label vid)

-- ** as members

-- what may turn of one
abbrev pub vlan_fields : ℕ → Said → Members
vlan_fields vid s = id_member (codes "id") (id_at vid s.ahead) ++ (codes "flags", flags_shown s.flags) ∷ []

abbrev pub vlan_inside : ℕ → Said → Forest
vlan_inside vid s = forest (map (λ m. (field_step m.0, (m.1, Forest.none))) (vlan_fields vid s))

abbrev pub vlan_shown : ℕ → Said → List Token
vlan_shown vid s = run_shown (record { first = vid; last = vid; said = s })

-- each of them
abbrev pub vlan_trees : List (ℕ × Said) → Forest
vlan_trees [] = Forest.none
vlan_trees (v ∷ vs) =
    Forest.tree (vlan_step v.0) (vlan_shown v.0 v.1) (vlan_inside v.0 v.1) (vlan_trees vs)

abbrev pub runs_flat : List Run → Forest
runs_flat [] = Forest.passed
runs_flat (r ∷ rs) = vlan_trees (vlans_of (r ∷ rs))

-- all of them as members, in a forest
abbrev pub flat : Forest → Forest
flat Forest.none = Forest.none
flat Forest.passed = Forest.passed
flat (Forest.vlans runs) = runs_flat runs
flat (Forest.texts vs) = Forest.none
flat (Forest.tree s v i rest) = Forest.tree s v (flat i) (flat rest)
