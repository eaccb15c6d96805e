-- Which values are objects or lists.
use Rattle.std.specs.Prelude.{Bool, true, false}
use Rattle.link_info.specs.Meanings.{Meaning, Raw, Present, Number, Signed, Words, Hardware, Four, Six}
use Rattle.link_info.specs.Meanings.{Members as Fields, Elements, Listed, Nested}
use Rattle.link_info.specs.Styles.{plain_in}
use Rattle.link_info.specs.declared.style.Plain.{Plain}
use Rattle.link_info.specs.declared.style.Plain.TheVariants as P
use Rattle.link_info.specs.declared.style.Style.{Style}
use Rattle.link_info.specs.declared.style.Style.TheVariants as S
use Rattle.frame_shown.specs.declared.form.Form.{Form}
use Rattle.frame_shown.specs.declared.form.Form.TheVariants as Forms
use Rattle.frame_shown.specs.declared.form.Way.{Way}
use Rattle.frame_shown.specs.declared.form.Way.TheVariants as Ways

-- numbers that are flags
abbrev pub are_flags : Plain → Bool
are_flags (P.Flags size names) = true
are_flags (P.BigEndianFlags size names) = true
are_flags (P.Named size names) = false
are_flags (P.BigEndianNamed size names) = false
are_flags (P.Unsigned size) = false
are_flags (P.BigEndian size) = false
are_flags (P.Signed size) = false
are_flags P.Mac = false
are_flags P.Ipv4 = false
are_flags P.Ipv6 = false
are_flags (P.Octets size) = false

abbrev pub are_flags_in : Style → Bool
are_flags_in style = are_flags (plain_in style)

-- a value by its style, where lists of attributes are objects or not
abbrev pub nest_meaning : Bool → Style → Meaning → Bool
nest_meaning deep style (Fields members p) = true
nest_meaning deep style (Elements plain p) = true
nest_meaning deep style (Listed plain p) = true
nest_meaning deep style (Nested place p) = deep
nest_meaning deep style (Number n) = are_flags_in style
nest_meaning deep style (Raw p) = false
nest_meaning deep style Present = false
nest_meaning deep style (Signed z) = false
nest_meaning deep style (Words s) = false
nest_meaning deep style (Hardware octets) = false
nest_meaning deep style (Four address) = false
nest_meaning deep style (Six address) = false

-- a value by the form of its row
abbrev pub nest_form : Bool → Form → Bool
nest_form deep (Forms.Counters words) = true
nest_form deep Forms.Ipv6Counters = true
nest_form deep (Forms.Settings set) = true
nest_form deep (Forms.Record parts) = true
nest_form deep Forms.Wireless = true
nest_form deep (Forms.Flags bits) = true
nest_form deep (Forms.List list) = deep
nest_form deep Forms.Info = deep
nest_form deep Forms.Kept = false
nest_form deep Forms.Unflagged = false
nest_form deep (Forms.Number size) = false
nest_form deep Forms.Signed = false
nest_form deep Forms.Text = false
nest_form deep (Forms.Exact size) = false
nest_form deep Forms.Truth = false
nest_form deep Forms.Id = false
nest_form deep Forms.Address = false
nest_form deep (Forms.Choice choice) = false
nest_form deep Forms.Ipv6 = false
nest_form deep (Forms.Field field) = false

-- ** values that hold others of the same names, or none, whatever their payloads are

abbrev pub is_fixed_form : Form → Bool
is_fixed_form (Forms.Counters words) = true
is_fixed_form Forms.Ipv6Counters = false
is_fixed_form (Forms.Settings set) = false
is_fixed_form (Forms.Record parts) = true
is_fixed_form Forms.Wireless = false
is_fixed_form (Forms.List list) = false
is_fixed_form Forms.Info = false
is_fixed_form Forms.Kept = true
is_fixed_form Forms.Unflagged = true
is_fixed_form (Forms.Number size) = true
is_fixed_form Forms.Signed = true
is_fixed_form Forms.Text = true
is_fixed_form (Forms.Exact size) = true
is_fixed_form Forms.Truth = true
is_fixed_form Forms.Id = true
is_fixed_form Forms.Address = true
is_fixed_form (Forms.Choice choice) = true
is_fixed_form (Forms.Flags bits) = true
is_fixed_form Forms.Ipv6 = true
is_fixed_form (Forms.Field field) = true

abbrev pub is_fixed_style : Style → Bool
is_fixed_style S.Bytes = true
is_fixed_style S.Flag = true
is_fixed_style S.Text = true
is_fixed_style (S.Plain plain) = true
is_fixed_style (S.Array plain) = true
is_fixed_style (S.Record members) = false
is_fixed_style (S.List plain) = false
is_fixed_style (S.Nest place) = false
is_fixed_style (S.Each element) = false

abbrev pub is_fixed_way : Way → Bool
is_fixed_way (Ways.Own form) = is_fixed_form form
is_fixed_way (Ways.By style) = is_fixed_style style
