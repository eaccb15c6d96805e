-- The numbers that bound canonical encoding. All but the first two follow from these.
use Rattle.std.specs.Prelude.{ℕ, ◌+◌, ◌*◌, ◌/◌, ◌-◌}

-- the most bytes that the value of an attribute may have: the length field counts four more
abbrev pub most_payload : ℕ
most_payload = 65531

-- the size of the longest record that is filled up with zeros where its payload is short: that of IFLA_INET6_STATS
abbrev pub longest_filled : ℕ
longest_filled = 312

-- the most bytes of canonical encoding for each whole four bytes that were read, where nothing is filled up: one byte
-- of payload takes eight
abbrev pub plain_growth : ℕ
plain_growth = 8

-- the same where records are filled up: the longest record and its header, read from the header alone
abbrev pub growth : ℕ
growth = 4 + longest_filled

-- how many bytes fewer than that each member of a list has, unless it may be such a record itself
abbrev pub slack : ℕ
slack = growth - plain_growth

-- `growth` for each byte
abbrev pub growth_per_byte : ℕ
growth_per_byte = growth / 4

-- a list that was read from at most so many bytes has an encoding that fits into an attribute
abbrev pub inner_small : ℕ
inner_small = 4 * (most_payload / growth) + 3

-- so has a list of such lists, each after a header of four bytes
abbrev pub attribute_small : ℕ
attribute_small = 4 + inner_small

-- a message that was read from at most so many bytes of attributes fits
abbrev pub small_enough : ℕ
small_enough = 4 + attribute_small
