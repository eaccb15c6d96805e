-- Rows as values, wherever in memory stands what they borrow.
use Rattle.std.specs.Prelude.{ℕ, List, map}
use Rattle.std.specs.Borrow.{Bor}
use Rattle.link_info.specs.declared.style.Element.{Element}
use Rattle.link_info.specs.declared.style.Element.TheVariants as E
use Rattle.link_info.specs.declared.style.Member.{Member}
use Rattle.link_info.specs.declared.style.Plain.{Plain}
use Rattle.link_info.specs.declared.style.Plain.TheVariants as P
use Rattle.link_info.specs.declared.style.Row.{Row}
use Rattle.link_info.specs.declared.style.Style.{Style}
use Rattle.link_info.specs.declared.style.Style.TheVariants as S

-- borrowed, without an address
abbrev pub lent : {X : Type 0} → X → Bor X
lent x = record { ref_ptr = (0, 0); now = x }

-- numbers and their names
abbrev pub Names : Type 0
Names = List (ℕ × Bor (List ℕ))

-- the same without the addresses in it
abbrev pub name_now : ℕ × Bor (List ℕ) → ℕ × Bor (List ℕ)
name_now row = (row.0, lent row.1.now)

abbrev pub names_now : Bor Names → Bor Names
names_now names = lent (map name_now names.now)

abbrev pub plain_now : Plain → Plain
plain_now (P.Unsigned size) = P.Unsigned size
plain_now (P.BigEndian size) = P.BigEndian size
plain_now (P.Signed size) = P.Signed size
plain_now (P.Named size names) = P.Named size (names_now names)
plain_now (P.BigEndianNamed size names) = P.BigEndianNamed size (names_now names)
plain_now (P.Flags size names) = P.Flags size (names_now names)
plain_now (P.BigEndianFlags size names) = P.BigEndianFlags size (names_now names)
plain_now P.Mac = P.Mac
plain_now P.Ipv4 = P.Ipv4
plain_now P.Ipv6 = P.Ipv6
plain_now (P.Octets n) = P.Octets n

abbrev pub member_now : Member → Member
member_now m = record { 0 = lent m.0.now; 1 = plain_now m.1 }

abbrev pub element_now : Element → Element
element_now (E.Plain plain) = E.Plain (plain_now plain)
element_now (E.Record members) = E.Record (lent (map member_now members.now))
element_now (E.Nest place) = E.Nest place

abbrev pub style_now : Style → Style
style_now S.Bytes = S.Bytes
style_now S.Flag = S.Flag
style_now S.Text = S.Text
style_now (S.Plain plain) = S.Plain (plain_now plain)
style_now (S.Record members) = S.Record (lent (map member_now members.now))
style_now (S.Array plain) = S.Array (plain_now plain)
style_now (S.List plain) = S.List (plain_now plain)
style_now (S.Nest place) = S.Nest place
style_now (S.Each element) = S.Each (element_now element)

abbrev pub row_now : Row → Row
row_now row = record { 0 = row.0; 1 = lent row.1.now; 2 = style_now row.2 }
