-- What payloads are shown as.
use Rattle.std.specs.Prelude.{ℕ, ℤ, pos, negsuc, zero, suc, ◌+◌, ◌*◌, ◌/◌, ◌++◌, ◌==◌, ◌&&◌, codes, List, [], ◌∷◌}
use Rattle.std.specs.Prelude.{Ok, Err, Bool, true, false, Option, None, Some, cond, decimal, drop, length, map}
use Rattle.std.specs.Prelude.{nat_lt, option_and_then, slice_index, take}
use Rattle.std.specs.Int.{Width, w16, w32, w64, byte_len}
use Rattle.std.specs.List.{flat_map}
use Rattle.std.specs.Borrow.{Bor}
use Rattle.std.specs.Fmt.{signed_decimal}
use Rattle.std.specs.Net.Addr.{ipv4_octets, ipv6_segments}
use Rattle.std.specs.Net.Text.{ipv4_text, ipv6_text}
use Rattle.hex.specs.Hex.{encode_lower}
use Rattle.json.specs.Token.{Token, string, number, boolean}
use Rattle.nla_wire.specs.Fields.{be_number_at, number_at, signed_at, zero_filled}
use Rattle.nla_wire.specs.Frames.{Frame, number as number_of}
use Rattle.nla_wire.specs.Items.{Item as Read, items}
use Rattle.link_info.specs.Places.{place_of_kind, place_of_slave_kind}
use Rattle.link_info.specs.Tables.{frames_in}
use Rattle.link_info.specs.declared.style.Member.{Member}
use Rattle.link_info.specs.declared.style.Plain.{Plain}
use Rattle.link_info.specs.declared.style.Plain.TheVariants as P
use Rattle.link_info.specs.declared.style.Style.{Style}
use Rattle.link_info.specs.declared.style.Style.TheVariants as S
use Rattle.link_info.specs.Meanings.{Meaning, Raw, Present, Number, Signed, Words, Hardware, Four, Six}
use Rattle.link_info.specs.Meanings.{Members as Fields, Elements, Listed, Nested, read_as}
use Rattle.link_info.specs.Styles.{plain_in, plain_size, width}
use Rattle.shown.specs.Drafts.{Members, object_of, list_of}
use Rattle.shown.specs.Values.{BitNames, hardware_address, name_or_number, named_number, flags_of, numbered}
use Rattle.link_nest.specs.declared.numbers.TheConstants.{IWEVASSOCREQIE, IWEVASSOCRESPIE}
use Rattle.frame_shown.specs.declared.form.Around.{Around}
use Rattle.frame_shown.specs.declared.form.Order.{Order}
use Rattle.frame_shown.specs.declared.form.Order.TheVariants as Orders
use Rattle.frame_shown.specs.declared.form.Bits.{Bits as Mask}
use Rattle.frame_shown.specs.declared.form.Bits.TheVariants as Masks
use Rattle.frame_shown.specs.declared.form.Choice.{Choice}
use Rattle.frame_shown.specs.declared.form.Choice.TheVariants as Choices
use Rattle.frame_shown.specs.declared.form.Field.{Field}
use Rattle.frame_shown.specs.declared.form.Field.TheVariants as Kinds
use Rattle.frame_shown.specs.declared.form.Settings.{Settings}
use Rattle.frame_shown.specs.declared.form.Settings.TheVariants as Sets
use Rattle.frame_shown.specs.declared.form.Words.{Words as Numbers}
use Rattle.frame_shown.specs.declared.form.Words.TheVariants as Counts
use Rattle.frame_shown.specs.declared.form.Form.{Form}
use Rattle.frame_shown.specs.declared.form.Form.TheVariants as Forms
use Rattle.frame_shown.specs.declared.form.List.{List as Shape}
use Rattle.frame_shown.specs.declared.form.List.TheVariants as Shapes
use Rattle.frame_shown.specs.declared.form.Record.{Record}
use Rattle.frame_shown.specs.declared.form.Record.TheVariants as Records
use Rattle.frame_shown.specs.declared.tables.family.TheConstants.{ICMP6_STATS, INET_CONF, INET6_CONF, CACHE_INFO}
use Rattle.frame_shown.specs.declared.tables.family.TheConstants.{INET6_FLAGS, ADDR_GEN_MODES, INET6_STATS}
use Rattle.frame_shown.specs.declared.tables.family.TheConstants.{MCTP_BINDINGS}
use Rattle.frame_shown.specs.declared.tables.functions.TheConstants.{VF_LINK_STATES, VF_MAC, VF_VLAN, VF_TX_RATE}
use Rattle.frame_shown.specs.declared.tables.functions.TheConstants.{VF_SETTING, VF_LINK_STATE, VF_RATE, VF_GUID}
use Rattle.frame_shown.specs.declared.tables.functions.TheConstants.{VF_VLAN_INFO}
use Rattle.frame_shown.specs.declared.tables.names.TheConstants.{XDP_ATTACHED, EVENTS, OPERSTATES, LINK_MODES}
use Rattle.frame_shown.specs.declared.tables.names.TheConstants.{EXT_MASK, STATS, MAP}

-- what lists of attributes are shown as
abbrev pub Nesting : Type 0
Nesting = Shape → List ℕ → List Token

-- numbers and their names, as a table passes them
abbrev pub texts_of : List (ℕ × Bor (List ℕ)) → BitNames
texts_of names = map (λ row. (row.0, row.1.now)) names

-- ** values

-- a number, by how it is spelled
abbrev pub number_shown : Plain → ℕ → List Token
number_shown (P.Named size names) n = named_number (texts_of names.now) n ∷ []
number_shown (P.BigEndianNamed size names) n = named_number (texts_of names.now) n ∷ []
number_shown (P.Flags size names) n = flags_of (texts_of names.now) n
number_shown (P.BigEndianFlags size names) n = flags_of (texts_of names.now) n
number_shown (P.Unsigned size) n = number (decimal n) ∷ []
number_shown (P.BigEndian size) n = number (decimal n) ∷ []
number_shown (P.Signed size) n = number (decimal n) ∷ []
number_shown P.Mac n = number (decimal n) ∷ []
number_shown P.Ipv4 n = number (decimal n) ∷ []
number_shown P.Ipv6 n = number (decimal n) ∷ []
number_shown (P.Octets size) n = number (decimal n) ∷ []

abbrev pub hexadecimal : List ℕ → List Token
hexadecimal p = string (encode_lower p) ∷ []

-- a value of a fixed size; what holds others as its bytes
abbrev pub plain_shown : Plain → Meaning → List Token
plain_shown plain (Raw p) = hexadecimal p
plain_shown plain Present = boolean true ∷ []
plain_shown plain (Number n) = number_shown plain n
plain_shown plain (Signed z) = number (signed_decimal z) ∷ []
plain_shown plain (Words s) = string s ∷ []
plain_shown plain (Hardware octets) = string (hardware_address octets) ∷ []
plain_shown plain (Four address) = string (ipv4_text (ipv4_octets address)) ∷ []
plain_shown plain (Six address) = string (ipv6_text (ipv6_segments address)) ∷ []
plain_shown plain (Fields members p) = hexadecimal p
plain_shown plain (Elements elements p) = hexadecimal p
plain_shown plain (Listed elements p) = hexadecimal p
plain_shown plain (Nested place p) = hexadecimal p

-- bytes that spell a value of a fixed size
abbrev pub spelled : Plain → List ℕ → List Token
spelled plain p = plain_shown plain (read_as (S.Plain plain) p)

-- the members of a record, one after the other
abbrev pub record_shown : List Member → List ℕ → Members
record_shown [] p = []
record_shown (m ∷ ms) p =
    (m.0.now, spelled m.1 (take (plain_size m.1) p)) ∷ record_shown ms (drop (plain_size m.1) p)

-- values of one size, one after the other: as many as n
abbrev pub elements_shown : Plain → ℕ → List ℕ → Members
elements_shown plain zero p = []
elements_shown plain (suc n) p =
    ([], spelled plain (take (plain_size plain) p)) ∷ elements_shown plain n (drop (plain_size plain) p)

-- the payloads of frames
abbrev pub payloads_shown : Plain → List Read → Members
payloads_shown plain [] = []
payloads_shown plain (Ok f ∷ xs) = ([], spelled plain f.payload) ∷ payloads_shown plain xs
payloads_shown plain (Err c ∷ xs) = []

-- the values of members, as a list
abbrev pub listed : Members → List Token
listed ms = list_of (flat_map (λ m. m.1) ms)

-- how many values of a size there are; of none where it is 0
abbrev pub count_of : ℕ → ℕ → ℕ
count_of zero n = 0
count_of (suc k) n = n / suc k

-- what a payload means by its style
abbrev pub meaning_shown : Nesting → Style → Meaning → List Token
meaning_shown nest style (Fields members p) = object_of (record_shown members p)
meaning_shown nest style (Elements plain p) = listed (elements_shown plain (count_of (plain_size plain) (length p)) p)
meaning_shown nest style (Listed plain p) = listed (payloads_shown plain (items p))
meaning_shown nest style (Nested place p) = nest (Shapes.Of place) p
meaning_shown nest style (Raw p) = plain_shown (plain_in style) (Raw p)
meaning_shown nest style Present = plain_shown (plain_in style) Present
meaning_shown nest style (Number n) = plain_shown (plain_in style) (Number n)
meaning_shown nest style (Signed z) = plain_shown (plain_in style) (Signed z)
meaning_shown nest style (Words s) = plain_shown (plain_in style) (Words s)
meaning_shown nest style (Hardware octets) = plain_shown (plain_in style) (Hardware octets)
meaning_shown nest style (Four address) = plain_shown (plain_in style) (Four address)
meaning_shown nest style (Six address) = plain_shown (plain_in style) (Six address)

abbrev pub style_shown : Nesting → Style → List ℕ → List Token
style_shown nest style p = meaning_shown nest style (read_as style p)

-- ** by rows of this crate

abbrev pub number_tokens : ℕ → List Token
number_tokens n = number (decimal n) ∷ []

-- a text without the NUL at its end, and bytes that are none as digits
abbrev pub text_shown : Meaning → List Token
text_shown meaning = plain_shown (P.Octets 0) meaning

abbrev pub bits_in : Mask → BitNames
bits_in Masks.ExtMask = map (λ row. (row.0, row.1.now)) EXT_MASK
bits_in Masks.Inet6 = map (λ row. (row.0, row.1.now)) INET6_FLAGS

-- the name, the place and the kind of each field of a record
abbrev pub fields_in : Record → List (List ℕ × (ℕ × Field))
fields_in Records.Map = map (λ part. (part.0.now, (part.1, part.2))) MAP
fields_in Records.VfMac = map (λ part. (part.0.now, (part.1, part.2))) VF_MAC
fields_in Records.VfVlan = map (λ part. (part.0.now, (part.1, part.2))) VF_VLAN
fields_in Records.VfTxRate = map (λ part. (part.0.now, (part.1, part.2))) VF_TX_RATE
fields_in Records.VfSetting = map (λ part. (part.0.now, (part.1, part.2))) VF_SETTING
fields_in Records.VfLinkState = map (λ part. (part.0.now, (part.1, part.2))) VF_LINK_STATE
fields_in Records.VfRate = map (λ part. (part.0.now, (part.1, part.2))) VF_RATE
fields_in Records.VfGuid = map (λ part. (part.0.now, (part.1, part.2))) VF_GUID
fields_in Records.VfVlanInfo = map (λ part. (part.0.now, (part.1, part.2))) VF_VLAN_INFO

-- 0, or 1 for any other number
abbrev pub truth_of : ℕ → ℕ
truth_of n = cond (n == 0) 0 1

-- of a function's setting, where the kernel writes all bits where a driver does not say
abbrev pub setting_of : ℕ → ℕ
setting_of n = cond (n == 0) 0 (cond (n == 4294967295) 0 1)

-- the name of the protocol of a vlan: any other number than that of 802.1ad is 802.1Q
abbrev pub protocol_name : ℕ → List ℕ
protocol_name n = cond (n == 34984) (codes "8021ad") (codes "8021q")

-- an address of a function in 32 bytes: as many of them as the link's own address has, or all
abbrev pub address_shown : Around → List ℕ → List Token
address_shown cx bytes = cond (nat_lt 0 cx.address_len && nat_lt cx.address_len 33)
    (string (hardware_address (take cx.address_len bytes)) ∷ []) (hexadecimal bytes)

-- a field at a place; missing bytes are zeros
abbrev pub field_shown : Around → Field → List ℕ → ℕ → List Token
field_shown cx (Kinds.Number size) p place = number_tokens (number_at (width size) p place)
field_shown cx Kinds.Setting p place = number_tokens (setting_of (number_at w32 p place))
field_shown cx Kinds.LinkState p place =
    name_or_number (map (λ name. name.now) VF_LINK_STATES) (number_at w32 p place) ∷ []
field_shown cx Kinds.Protocol p place = string (protocol_name (be_number_at w16 p place)) ∷ []
field_shown cx Kinds.Address p place = address_shown cx (zero_filled 32 (drop place p))

abbrev pub fields_shown : Around → List (List ℕ × (ℕ × Field)) → List ℕ → Members
fields_shown cx fields p = map (λ f. (f.0, field_shown cx f.1.1 p f.1.0)) fields

-- numbers of one size
abbrev pub counters_shown : List (List ℕ) → Width → List ℕ → ℕ → Members
counters_shown [] w p place = []
counters_shown (name ∷ names) w p place =
    numbered name (number_at w p place) ∷ counters_shown names w p (place + byte_len w)

-- the text that was read
abbrev pub words_in : Meaning → Option (List ℕ)
words_in (Words s) = Some s
words_in _ = None

abbrev pub text_in : List ℕ → Option (List ℕ)
text_in p = words_in (read_as S.Text p)

-- the text of the first attribute of a number
abbrev pub first_text : ℕ → List Frame → Option (List ℕ)
first_text n [] = None
first_text n (f ∷ fs) = cond (number_of f == n) (text_in f.payload) (first_text n fs)

-- how a link's kinds are shown
abbrev pub info_of : List ℕ → Shape
info_of p = Shapes.Info (option_and_then place_of_kind (first_text 1 (frames_in (items p))))
    (option_and_then place_of_slave_kind (first_text 4 (frames_in (items p))))

-- counters with names, of which those of four bytes lack the last one
abbrev pub counter_names : Numbers → List (List ℕ)
counter_names Counts.Stats = take 24 (map (λ name. name.now) STATS)
counter_names Counts.Stats64 = map (λ name. name.now) STATS
counter_names Counts.Icmp6 = map (λ name. name.now) ICMP6_STATS

abbrev pub counter_width : Numbers → Width
counter_width Counts.Stats = w32
counter_width Counts.Stats64 = w64
counter_width Counts.Icmp6 = w64

-- so many counters without names
abbrev pub bare_shown : ℕ → List ℕ → ℕ → Members
bare_shown zero p place = []
bare_shown (suc n) p place = ([], number_tokens (number_at w64 p place)) ∷ bare_shown n p (place + 8)

-- the place of a counter of IPv6
abbrev pub counter_place : Bool → ℕ → ℕ → ℕ
counter_place is_since before since = cond is_since since before

-- a number where it is not zero
abbrev pub unless_zero_named : List ℕ → ℕ → Members
unless_zero_named name n = cond (n == 0) [] (numbered name n ∷ [])

-- counters with names, by the place of each
abbrev pub placed_shown : Bool → List (List ℕ × (ℕ × ℕ)) → List ℕ → Members
placed_shown is_since rows p =
    map (λ row. numbered row.0 (number_at w64 p (8 * counter_place is_since row.1.0 row.1.1))) rows

-- the counters of IPv6 with names, and behind them one that no kernel sends
abbrev pub ipv6_named : Bool → List ℕ → Members
ipv6_named is_since p = placed_shown is_since (map (λ row. (row.0.now, (row.1, row.2))) INET6_STATS) p
    ++ unless_zero_named (codes "reserved-39") (number_at w64 p 304)

-- the counters of IPv6: with names where their order is known
abbrev pub ipv6_counters_shown : Order → List ℕ → List Token
ipv6_counters_shown Orders.Unknown p = listed (bare_shown 39 p 0)
ipv6_counters_shown Orders.Before p = object_of (ipv6_named false p)
ipv6_counters_shown Orders.Since p = object_of (ipv6_named true p)

-- settings
abbrev pub setting_names : Settings → List (List ℕ)
setting_names Sets.Inet = map (λ name. name.now) INET_CONF
setting_names Sets.Inet6 = map (λ name. name.now) INET6_CONF
setting_names Sets.Cache = map (λ name. name.now) CACHE_INFO

abbrev pub signed_value : ℤ → List Token
signed_value z = number (signed_decimal z) ∷ []

abbrev pub settings_shown : List (List ℕ) → List ℕ → ℕ → Members
settings_shown [] p place = []
settings_shown (name ∷ names) p place =
    (name, signed_value (signed_at w32 p place)) ∷ settings_shown names p (place + 4)

abbrev pub signed_unless_zero : List ℕ → ℤ → Members
signed_unless_zero name (pos zero) = []
signed_unless_zero name (pos (suc n)) = (name, signed_value (pos (suc n))) ∷ []
signed_unless_zero name (negsuc n) = (name, signed_value (negsuc n)) ∷ []

-- behind those of IPv4 one that no kernel sends, where it is not zero
abbrev pub behind_settings : Settings → List ℕ → Members
behind_settings Sets.Inet p = signed_unless_zero (codes "reserved-34") (signed_at w32 p 132)
behind_settings _ p = []

abbrev pub choices : Choice → List (List ℕ)
choices Choices.OperState = map (λ name. name.now) OPERSTATES
choices Choices.LinkMode = map (λ name. name.now) LINK_MODES
choices Choices.GenMode = map (λ name. name.now) ADDR_GEN_MODES
choices Choices.Attached = map (λ name. name.now) XDP_ATTACHED
choices Choices.Event = map (λ name. name.now) EVENTS
choices Choices.Binding = map (λ name. name.now) MCTP_BINDINGS

-- a name where there is one, and else the number; one of the physical bindings of MCTP is far from the others
abbrev pub choice_token : Choice → ℕ → Token
choice_token Choices.Binding n =
    cond (n == 255) (string (codes "vendor")) (name_or_number (choices Choices.Binding) n)
choice_token choice n = name_or_number (choices choice) n

abbrev pub choice_number : Choice → List ℕ → ℕ
choice_number Choices.Event p = number_at w32 p 0
choice_number _ p = slice_index p 0

-- the information elements, without the eight bytes in front of them that begin with the length of what follows
abbrev pub elements_in : List ℕ → List ℕ
elements_in bytes = cond (number_at w16 bytes 0 + 8 == length bytes) (drop 8 bytes) bytes

-- the name of what an event of this command holds, and the bytes: elements, or the whole payload
abbrev pub event_part : ℕ → List ℕ → List ℕ → List ℕ × List ℕ
event_part command elements p = cond (command == IWEVASSOCREQIE) (codes "assocreqie", elements)
    (cond (command == IWEVASSOCRESPIE) (codes "assocrespie", elements) (codes "payload", p))

-- of a wireless event: the information elements of an association behind its header, or any other payload
abbrev pub event_in : List ℕ → List ℕ × List ℕ
event_in p = event_part (number_at w16 p 2) (elements_in (drop 8 p)) p

abbrev pub wireless_shown : List ℕ → List Token
wireless_shown p = object_of (((event_in p).0, hexadecimal (event_in p).1) ∷ [])

-- what a payload is shown as by the form of its row
abbrev pub form_shown : Nesting → Around → Form → List ℕ → List Token
form_shown nest cx Forms.Kept p = hexadecimal p
form_shown nest cx Forms.Unflagged p = hexadecimal p
form_shown nest cx (Forms.Number size) p = number_tokens (number_at (width size) p 0)
form_shown nest cx Forms.Signed p = number (signed_decimal (signed_at w32 p 0)) ∷ []
form_shown nest cx Forms.Text p = text_shown (read_as S.Text p)
form_shown nest cx (Forms.Exact size) p = number_tokens (number_at (width size) p 0)
form_shown nest cx Forms.Truth p = number_tokens (truth_of (slice_index p 0))
form_shown nest cx Forms.Id p = hexadecimal (take 32 p)
form_shown nest cx Forms.Address p = string (hardware_address p) ∷ []
form_shown nest cx (Forms.Choice choice) p = choice_token choice (choice_number choice p) ∷ []
form_shown nest cx (Forms.Flags bits) p = flags_of (bits_in bits) (number_at w32 p 0)
form_shown nest cx (Forms.Counters words) p = object_of (counters_shown (counter_names words) (counter_width words)
    p 0)
form_shown nest cx Forms.Ipv6Counters p = ipv6_counters_shown cx.order p
form_shown nest cx (Forms.Settings set) p = object_of (settings_shown (setting_names set) p 0 ++ behind_settings
    set p)
form_shown nest cx Forms.Ipv6 p = spelled P.Ipv6 p
form_shown nest cx (Forms.Record parts) p = object_of (fields_shown cx (fields_in parts) p)
form_shown nest cx (Forms.Field field) p = field_shown cx field p 0
form_shown nest cx Forms.Wireless p = wireless_shown p
form_shown nest cx (Forms.List list) p = nest list p
form_shown nest cx Forms.Info p = nest (info_of p) p
