-- The flags of the extent mask: numbers, as in linux/rtnetlink.h, masks as lists, and sums of lists.
use Rattle.std.specs.Prelude.{ℕ, ◌+◌, ◌==◌, if◌then◌else◌, List, [], ◌∷◌, ◌++◌}
use Rattle.std.specs.Int.RustNames.{bit_and}
use Rattle.link_vals.specs.Table.{value_of}
use Rattle.link_vals.specs.declared.ext_mask.LinkExtentMask.{LinkExtentMask}
use Rattle.link_vals.specs.declared.ext_mask.LinkExtentMask.TheVariants.{Vf, Brvlan, BrvlanCompressed, SkipStats, Mrp}
use Rattle.link_vals.specs.declared.ext_mask.LinkExtentMask.TheVariants.{CfmConfig, CfmStatus, Mst, Other}

-- the listed values, in the order of their numbers
abbrev pub link_extent_mask_listed : List LinkExtentMask
link_extent_mask_listed =
    Vf ∷ Brvlan ∷ BrvlanCompressed ∷ SkipStats ∷ Mrp ∷ CfmConfig ∷ CfmStatus ∷ Mst ∷ []

-- the number of a value
unfoldable pub link_extent_mask_number : LinkExtentMask → ℕ
link_extent_mask_number Vf = 1
link_extent_mask_number Brvlan = 2
link_extent_mask_number BrvlanCompressed = 4
link_extent_mask_number SkipStats = 8
link_extent_mask_number Mrp = 16
link_extent_mask_number CfmConfig = 32
link_extent_mask_number CfmStatus = 64
link_extent_mask_number Mst = 128
link_extent_mask_number (Other n) = n

-- the value of a number: the listed one, else `Other`
unfoldable pub link_extent_mask_of : ℕ → LinkExtentMask
link_extent_mask_of n = value_of link_extent_mask_number link_extent_mask_listed (Other n) n

-- those of the flags whose bit is set in n
unfoldable pub flags_set : ℕ → List LinkExtentMask → List LinkExtentMask
flags_set n [] = []
flags_set n (flag ∷ flags) =
    if bit_and n (link_extent_mask_number flag) == link_extent_mask_number flag then flag ∷ flags_set n flags
    else flags_set n flags

-- one `Other` of bits, if there are any
abbrev pub other_of : ℕ → List LinkExtentMask
other_of rest = if rest == 0 then [] else Other rest ∷ []

-- flags of n that have a name, the lowest first; after them all its other bits, if it has any, as one `Other`
unfoldable pub ext_list : ℕ → List LinkExtentMask
ext_list n = flags_set n link_extent_mask_listed ++ other_of (bit_and n 0xffff_ff00)

-- the sum of the numbers of a list
abbrev pub ext_sum : List LinkExtentMask → ℕ
ext_sum [] = 0
ext_sum (flag ∷ flags) = link_extent_mask_number flag + ext_sum flags
