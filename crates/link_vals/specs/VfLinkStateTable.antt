-- The link states of virtual functions: numbers, as in linux/if_link.h.
use Rattle.std.specs.Prelude.{ℕ, List, [], ◌∷◌}
use Rattle.link_vals.specs.Table.{value_of}
use Rattle.link_vals.specs.declared.vf_link_state.VfLinkState.{VfLinkState}
use Rattle.link_vals.specs.declared.vf_link_state.VfLinkState.TheVariants.{Auto, Enable, Disable, Other}

-- the listed values, in the order of their numbers
abbrev pub vf_link_state_listed : List VfLinkState
vf_link_state_listed =
    Auto ∷ Enable ∷ Disable ∷ []

-- the number of a value
unfoldable pub vf_link_state_number : VfLinkState → ℕ
vf_link_state_number Auto = 0
vf_link_state_number Enable = 1
vf_link_state_number Disable = 2
vf_link_state_number (Other n) = n

-- the value of a number: the listed one, else `Other`
unfoldable pub vf_link_state_of : ℕ → VfLinkState
vf_link_state_of n = value_of vf_link_state_number vf_link_state_listed (Other n) n
