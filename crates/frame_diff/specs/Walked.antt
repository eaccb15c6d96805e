-- What is told of attributes as they are gone through, one after another.
use Rattle.std.specs.Prelude.{◌≡◌, ℕ, ◌==◌, ◌&&◌, List, [], ◌∷◌, ◌++◌, Bool, true, false, Option, Some, None, cond, map}
use Rattle.std.specs.Prelude.{nat_lt}
use Rattle.std.specs.List.{list_any}
use Rattle.nla_wire.specs.Frames.{Frame, number}
use Rattle.nla_wire.specs.Items.{items}
use Rattle.link_info.specs.Tables.{frames_in}
use Rattle.shown.specs.Drafts.{Members}
use Rattle.frame_shown.specs.Frames.{are_twice, by_number}
use Rattle.frame_shown.specs.Items.{comes_in}
use Rattle.frame_shown.specs.Tables.{row_in}
use Rattle.frame_shown.specs.Values.{Nesting}
use Rattle.frame_shown.specs.declared.form.Around.{Around}
use Rattle.frame_shown.specs.declared.form.List.{List as Shape}
use Rattle.frame_shown.specs.declared.form.Way.{Way}
use Rattle.frame_diff.specs.Beside.{held_of}
use Rattle.frame_diff.specs.Counters.{action_in}
use Rattle.frame_diff.specs.Forests.{AreApart, Forest, Held, Member, Step, comes, find, is_text}
use Rattle.frame_diff.specs.Items.{further, items_told, list_items, member_items, moved_items}
use Rattle.frame_diff.specs.Members.{Inner, Reading, held_by, is_unnamed, named_in}
use Rattle.frame_diff.specs.Nests.{is_fixed_way}
use Rattle.frame_diff.specs.Shown.{HasNamesApart}
use Rattle.frame_diff.specs.Wholes.{cut}
use Rattle.frame_diff.specs.declared.side.Side.{Side}
use Rattle.frame_diff.specs.declared.side.Side.TheVariants.{Moved, New, Old}
use Rattle.frame_diff.specs.declared.walk.Attribute.{Attribute}
use Rattle.frame_diff.specs.declared.walk.Attributes.{Attributes}

-- ** what is read

-- how lists are shown, and which members they hold
abbrev pub Showing : Type 0
Showing = Around → Nesting

abbrev pub Holding : Type 0
Holding = Bool → Around → Inner

abbrev pub reading_at : Showing → Holding → Bool → Around → Reading
reading_at nest inner is_state cx =
    record { is_state = is_state; nest = nest cx; inner = inner is_state cx; around = cx }

-- the attributes of a list that have a name
abbrev pub named_at : Showing → Holding → Bool → Attributes → List Member
named_at nest inner is_state list =
    named_in (reading_at nest inner is_state list.around.now) list.list (frames_in (items list.bytes.now))

-- what an attribute holds
abbrev pub held_at : Showing → Holding → Bool → Attribute → Held
held_at nest inner is_state a =
    held_by (reading_at nest inner is_state a.around.now) (action_in is_state a.list a.number) a.way a.payload.now

-- no two members beside each other have one step
abbrev pub HoldsApart : Holding → Type 0
HoldsApart inner = (is_state : Bool) (cx : Around) (list : Shape) (p : List ℕ) → AreApart (inner is_state cx list p)

-- ** rows that are the same

-- no two numbers of a list are shown under one name
abbrev pub HasNames : Around → Type 0
HasNames cx = (list : Shape) → HasNamesApart cx list

-- of two lists
abbrev pub AreAlike : Attributes → Attributes → Type 0
AreAlike own others =
    (own.around.now ≡ others.around.now) × (own.list ≡ others.list) × HasNames own.around.now

-- another list, if there is one, is shown by the same as this one
abbrev pub AreBeside : Attributes → Option Attributes → Type 0
AreBeside own None = Unit {0}
AreBeside own (Some others) = (own.around.now ≡ others.around.now) × HasNames own.around.now

-- so is another attribute
abbrev pub StandBeside : Attribute → Option Attribute → Type 0
StandBeside own None = Unit {0}
StandBeside own (Some a) = (own.around.now ≡ a.around.now) × HasNames own.around.now

-- and another attribute that holds a list, beside this one
abbrev pub StandsInside : Attributes → Option Attribute → Type 0
StandsInside own None = Unit {0}
StandsInside own (Some a) = (own.around.now ≡ a.around.now) × HasNames own.around.now

-- an attribute has its row of this list
abbrev pub IsOf : Attributes → Attribute → Type 0
IsOf list a = (a.around.now ≡ list.around.now) × (a.list ≡ list.list)
    × (a.way ≡ (row_in list.around.now list.list a.number).1)

-- another one, if there is one, has the row of this one
abbrev pub HasRowOf : Attribute → Option Attribute → Type 0
HasRowOf own None = Unit {0}
HasRowOf own (Some a) =
    (a.around.now ≡ own.around.now) × (a.list ≡ own.list) × (a.number ≡ own.number) × (a.way ≡ own.way)
    × HasNames own.around.now

-- another one of its number has its row
abbrev pub HasRowByNumber : Attribute → Attribute → Type 0
HasRowByNumber own a = a.number ≡ own.number → HasRowOf own (Some a)

-- in lists with the same rows, or where there is no other one, they have one row
abbrev pub is_row_alike : Bool → ℕ → Option Attribute → Bool
is_row_alike alike n None = true
is_row_alike alike n (Some a) = alike && (a.number == n)

abbrev pub has_payload : List ℕ → Option Attribute → Bool
has_payload p None = false
has_payload p (Some a) = is_text p a.payload.now

-- nothing is told of a value that both have, where those in it have the same names: what turned is told of the old one
abbrev pub is_told_of_old : Side → Way → Option Attribute → Bool
is_told_of_old Old way beside = false
is_told_of_old New way None = false
is_told_of_old New way (Some a) = is_fixed_way way
is_told_of_old Moved way None = false
is_told_of_old Moved way (Some a) = is_fixed_way way

-- ** attributes of the same number

-- the bytes end a list
abbrev pub IsTail : List ℕ → List ℕ → Type 0
IsTail all rest = (fs : List Frame) × (frames_in (items all) ≡ fs ++ frames_in (items rest))

-- one of this number, or none has it
abbrev pub IsOfNumber : ℕ → List ℕ → Option Frame → Type 0
IsOfNumber n all None = list_any (λ f. number f == n) (frames_in (items all)) ≡ false
IsOfNumber n all (Some g) =
    (fs : List Frame) × (gs : List Frame) × (frames_in (items all) ≡ fs ++ g ∷ gs) × (number g ≡ n)

-- none of its number comes behind it, if that can have a row
abbrev pub NoneBehind : Frame → Attributes → Type 0
NoneBehind f behind = nat_lt (number f) 256 ≡ true
    → comes_in (number f) (map by_number (frames_in (items behind.bytes.now))) ≡ false

-- no attribute of a name is among them
abbrev pub NoneComes : Attributes → List ℕ → Type 0
NoneComes behind name = (nest : Showing) (inner : Holding) (is_state : Bool)
    → comes (Step.name name) (named_at nest inner is_state behind) ≡ false

-- an attribute has a name, and is told under this one
abbrev pub IsNamedBy : Attributes → Frame → List ℕ → Type 0
IsNamedBy list f name = (is_unnamed (row_in list.around.now list.list (number f)).1 f.payload ≡ false)
    × (name ≡ (row_in list.around.now list.list (number f)).0)

-- no number stands twice in two lists with the same rows, in one of which these are behind this attribute
pub record StandsSingle (is_alike : Bool) (behind others : Attributes) (f : Frame) : Type 0 where
  pub alike : is_alike ≡ true
  pub rows : AreAlike behind others
  pub none : NoneBehind f behind
  pub once : are_twice (items others.bytes.now) ≡ false

abbrev pub is_there : List ℕ → Option Frame → Bool
is_there p None = false
is_there p (Some g) = is_text p g.payload

abbrev pub is_unnamed_there : Option Attribute → Bool
is_unnamed_there None = false
is_unnamed_there (Some a) = is_unnamed a.way a.payload.now

-- an attribute, if there is one, is that of a frame
abbrev pub AreOfFrame : Option Attribute → Option Frame → Type 0
AreOfFrame None None = Unit {0}
AreOfFrame None (Some g) = ⊥
AreOfFrame (Some a) None = ⊥
AreOfFrame (Some a) (Some g) = (a.number ≡ number g) × (a.payload.now ≡ g.payload)

-- ** what is told

-- of a value beside another one, if there is one
abbrev pub held_items : Side → List ℕ → Held → Option Held → List Members
held_items side text held beside = member_items side text held.0 held.1 (items_told side text held.1) beside

-- of a list, which may be in another order
abbrev pub listed_items : Side → List ℕ → Held → Option Held → List Members
listed_items side text held beside =
    moved_items side text held.0 held.1 beside ++ held_items side text held beside

-- of a value one step further: as a whole, where it has a label and stands alone
abbrev pub step_items : Side → List ℕ → Step → Held → Option Held → List Members
step_items side text s held beside =
    list_items side (further text s) s held.0 held.1 beside
    ++ member_items side (further text s) held.0 (cut s beside held.1) (items_told side (further text s) held.1) beside

-- of a member: nothing, where another one of its step comes behind it
abbrev pub last_items : Side → List ℕ → List Member → Member → Option Held → List Members
last_items side text behind m beside = cond (comes m.0 behind) [] (step_items side text m.0 m.1 beside)

-- nothing, where it has no name
abbrev pub row_items : Side → List ℕ → Forest → List Member → List ℕ → Way → List ℕ → Held → List Members
row_items side text others behind name way p held =
    cond (is_unnamed way p) []
    (last_items side text behind (Step.name name, held) (find (Step.name name) others))

-- of an attribute, by its row
abbrev pub frame_items : Side → List ℕ → Reading → Shape → Forest → List Member → Frame → List Members
frame_items side text r list others behind f =
    row_items side text others behind (row_in r.around list (number f)).0 (row_in r.around list (number f)).1
    f.payload (held_of r list f)
