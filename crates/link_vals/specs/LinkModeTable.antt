-- The modes of links: numbers, as in linux/if.h, and texts.
use Rattle.std.specs.Prelude.{ℕ, List, [], ◌∷◌, codes, ◌++◌}
use Rattle.std.specs.Fmt.{decimal}
use Rattle.link_vals.specs.Table.{value_of}
use Rattle.link_vals.specs.declared.link_mode.LinkMode.{LinkMode}
use Rattle.link_vals.specs.declared.link_mode.LinkMode.TheVariants.{Default, Dormant, Testing, Other}

-- the listed values, in the order of their numbers
abbrev pub link_mode_listed : List LinkMode
link_mode_listed =
    Default ∷ Dormant ∷ Testing ∷ []

-- the number of a value
unfoldable pub link_mode_number : LinkMode → ℕ
link_mode_number Default = 0
link_mode_number Dormant = 1
link_mode_number Testing = 2
link_mode_number (Other n) = n

-- the value of a number: the listed one, else `Other`
unfoldable pub link_mode_of : ℕ → LinkMode
link_mode_of n = value_of link_mode_number link_mode_listed (Other n) n

-- the text of a value
unfoldable pub link_mode_text : LinkMode → List ℕ
link_mode_text Default = codes "DEFAULT"
link_mode_text Dormant = codes "DORMANT"
link_mode_text Testing = codes "TESTING"
link_mode_text (Other n) = codes "UNKNOWN:" ++ decimal n
