-- What stands inside values and lists beside each other.
use Rattle.std.specs.Prelude.{◌≡◌, ℕ, zero, suc, List, [], Bool, true, false, Option, Some, None}
use Rattle.frame_shown.specs.declared.form.Around.{Around}
use Rattle.frame_shown.specs.declared.form.List.{List as Shape}
use Rattle.frame_diff.specs.Forests.{Forest, Step, field_step, find, runs_inside}
use Rattle.frame_diff.specs.Members.{inner_by}
use Rattle.frame_diff.specs.Walked.{Holding, Showing, reading_at}
use Rattle.frame_diff.specs.declared.walk.Attributes.{Attributes}

-- no member at all
abbrev pub has_none : Forest → Bool
has_none Forest.none = true
has_none Forest.passed = false
has_none (Forest.vlans runs) = false
has_none (Forest.texts vs) = true
has_none (Forest.tree s v i rest) = false

-- values that are their own keys
abbrev pub is_texts : Forest → Bool
is_texts Forest.none = false
is_texts Forest.passed = false
is_texts (Forest.vlans runs) = false
is_texts (Forest.texts vs) = true
is_texts (Forest.tree s v i rest) = false

-- the step to a field
abbrev pub is_field : Step → Bool
is_field (Step.part zero text) = true
is_field (Step.part (suc n) text) = false
is_field (Step.name text) = false
is_field (Step.array text) = false
is_field (Step.place n) = false
is_field (Step.label name label) = false
is_field Step.repeated = false
is_field Step.other = false

-- a step that members of an object by names are at
abbrev pub is_of_object : Step → Bool
is_of_object (Step.part n text) = false
is_of_object (Step.name text) = true
is_of_object (Step.array text) = true
is_of_object (Step.place n) = true
is_of_object (Step.label name label) = false
is_of_object Step.repeated = true
is_of_object Step.other = true

-- no list of attributes holds a field
abbrev pub HoldsNoField : Holding → Type 0
HoldsNoField inner = (is_state : Bool) (cx : Around) (list : Shape) (p : List ℕ) (name : List ℕ)
    → find (field_step name) (inner is_state cx list p) ≡ None

-- and none is of VLANs, or of values that are their own keys
abbrev pub HoldsNoRuns : Holding → Type 0
HoldsNoRuns inner = (is_state : Bool) (cx : Around) (list : Shape) (p : List ℕ)
    → (runs_inside (inner is_state cx list p) ≡ []) × (is_texts (inner is_state cx list p) ≡ false)

-- the members of a list, where there is one
abbrev pub inside_list : Holding → Bool → Option Attributes → Forest
inside_list inner is_state None = Forest.none
inside_list inner is_state (Some a) = inner is_state a.around.now a.list a.bytes.now

-- those of lists one level up
abbrev pub above : Showing → Holding → Holding
above nest inner is_state cx list p = inner_by (reading_at nest inner is_state cx) list p
