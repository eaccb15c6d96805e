-- How the calls read a list, one VLAN after another.
use Rattle.std.specs.Prelude.{ℕ, ◌<◌, ◌==◌, List, [], ◌∷◌, ◌++◌, Option, None, Some, cond}
use Rattle.std.specs.List.{All}
use Rattle.nla_wire.specs.Frames.{Frame, number}
use Rattle.link_vlans.specs.Runs.{ends_of, is_below, is_range, run_of, vlan_by}
use Rattle.link_vlans.specs.declared.run.Reader.{Reader}
use Rattle.link_vlans.specs.declared.run.Run.{Run}
use Rattle.link_vlans.specs.declared.vlan.Vlan.{Vlan}

-- how far the list is read, and the run that ends
abbrev pub Next : Type 0
Next = Option (Reader × Option Run)

abbrev pub add_run : Option ℕ → Vlan → Vlan → Next
add_run last begin end = cond (is_below last begin.vid)
    (Some ((record { begun = None; last = Some end.vid }), Some (run_of begin end))) None

abbrev pub add_first : Option ℕ → Vlan → Next
add_first last v = cond (ends_of v == 0) (add_run last v v)
    (cond (ends_of v == 8) (Some ((record { begun = Some v; last = last }), None)) None)

abbrev pub add_behind : Option Vlan → Option ℕ → Vlan → Next
add_behind None last v = add_first last v
add_behind (Some begin) last v = cond (is_range begin v) (add_run last begin v) None

abbrev pub add : Reader → Vlan → Next
add reader v = add_behind reader.begun reader.last v

-- what is kept of it
abbrev pub kept_of : List Run → Next → Option Reader × List Run
kept_of runs None = (None, runs)
kept_of runs (Some (next, None)) = (Some next, runs)
kept_of runs (Some (next, Some r)) = (Some next, runs ++ r ∷ [])

abbrev pub read_vlan : List Run → Reader → Option Vlan → Option Reader × List Run
read_vlan runs reader None = (None, runs)
read_vlan runs reader (Some v) = kept_of runs (add reader v)

abbrev pub read_next : List Run → Reader → ℕ → Frame → Option Reader × List Run
read_next runs reader n f = cond (number f == n) (read_vlan runs reader (vlan_by n f.payload)) (Some reader, runs)

-- none ends above the greatest VLAN that two bytes spell
abbrev pub AreSmall : List Run → Type 0
AreSmall runs = All (λ (r : Run). r.last < 65536) runs
