-- What is told of attributes behind which another one of their name stands: each by its place among those.
use Rattle.std.specs.Prelude.{◌≡◌, ℕ, ◌+◌, List, [], ◌∷◌, Bool, Option, None, Some, cond, decimal}
use Rattle.std.specs.Prelude.{option_map}
use Rattle.nla_wire.specs.Frames.{Frame, number}
use Rattle.nla_wire.specs.Items.{items}
use Rattle.link_info.specs.Tables.{frames_in}
use Rattle.shown.specs.Drafts.{Members, object_of}
use Rattle.frame_shown.specs.Tables.{row_in}
use Rattle.frame_shown.specs.declared.form.List.{List as Shape}
use Rattle.frame_diff.specs.Beside.{held_of}
use Rattle.frame_diff.specs.Differences.{inside_in}
use Rattle.frame_diff.specs.Forests.{Forest, Held, Member, Step, comes, find}
use Rattle.frame_diff.specs.Items.{joined}
use Rattle.frame_diff.specs.Members.{Reading, alone, earlier, is_unnamed, members_in, named_in}
use Rattle.frame_diff.specs.Values.{nth}
use Rattle.frame_diff.specs.Walked.{Holding, Showing, held_at, held_items, named_at, reading_at}
use Rattle.frame_diff.specs.declared.again.Named.{Named}
use Rattle.frame_diff.specs.declared.side.Side.{Side}
use Rattle.frame_diff.specs.declared.walk.Attributes.{Attributes}

-- as an object of one member
abbrev pub alone_at : Showing → Holding → Bool → Named → Held
alone_at nest inner is_state own =
    let held = held_at nest inner is_state own.attribute in (
      object_of ((own.name.now, held.0) ∷ []),
      Forest.tree (Step.name own.name.now) held.0 held.1 Forest.none,
    )

abbrev pub again_held : Showing → Holding → Bool → Option Named → List (Option Held)
again_held nest inner is_state None = []
again_held nest inner is_state (Some own) = Some (alone_at nest inner is_state own) ∷ []

-- an attribute, unless it has no name, or none of its name comes behind it
abbrev pub again_in : Reading → Shape → List Member → Frame → List (Option Held)
again_in r list behind f = cond (is_unnamed (row_in r.around list (number f)).1 f.payload) []
    (cond (comes (Step.name (row_in r.around list (number f)).0) behind)
    (alone (Step.name (row_in r.around list (number f)).0, held_of r list f) ∷ []) [])

abbrev pub earlier_at : Showing → Holding → Bool → Attributes → List (Option Held)
earlier_at nest inner is_state list = earlier (named_at nest inner is_state list)

-- what it tells at its place
abbrev pub again_items : Showing → Holding → Bool → Side → List ℕ → ℕ → List (Option Held) → Option Named → List Members
again_items nest inner is_state side text n others None = []
again_items nest inner is_state side text n others (Some own) =
    held_items side (joined (joined text (decimal n)) own.name.now) (held_at nest inner is_state own.attribute)
    (find (Step.name own.name.now) (inside_in (nth n others)))

-- ** for the calls that go over them

-- those of these bytes, by the rows of a list
abbrev pub earlier_in : Showing → Holding → Bool → Attributes → List ℕ → List (Option Held)
earlier_in nest inner is_state list bytes =
    earlier (named_in (reading_at nest inner is_state list.around.now) list.list (frames_in (items bytes)))

-- from this place on they are those of these bytes
abbrev pub GoesOnAt : Showing → Holding → Bool → Attributes → ℕ → List ℕ → Type 0
GoesOnAt nest inner is_state list n bytes = (k : ℕ)
    → nth (n + k) (earlier_at nest inner is_state list) ≡ nth k (earlier_in nest inner is_state list bytes)

-- where there is one, this stands at that place of the other list
abbrev pub IsBeside : Showing → Holding → Bool → Attributes → ℕ → Option Named → Option Named → Type 0
IsBeside nest inner is_state others n None beside = Unit {0}
IsBeside nest inner is_state others n (Some own) beside =
    nth n (earlier_at nest inner is_state others) ≡ option_map (alone_at nest inner is_state) beside

-- beside one stands another one with its name, its number and its payload
abbrev pub IsSameAgain : Named → Option Named → Type 0
IsSameAgain own None = ⊥
IsSameAgain own (Some a) = (a.attribute.number ≡ own.attribute.number) × (own.name.now ≡ a.name.now)
    × (own.attribute.payload.now ≡ a.attribute.payload.now)

abbrev pub place_by : Option Named → ℕ → ℕ
place_by None n = n
place_by (Some own) n = n + 1

-- ** all members of a list that is shown as an object

abbrev pub members_at : Showing → Holding → Bool → Attributes → List Member
members_at nest inner is_state list =
    members_in (reading_at nest inner is_state list.around.now) list.list (frames_in (items list.bytes.now))
