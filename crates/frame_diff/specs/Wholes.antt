-- Values that are told as a whole: those with a label that no value of the other list has.
use Rattle.std.specs.Prelude.{List, [], ◌∷◌, ◌++◌, ◌&&◌, Bool, true, false, Option, Some, None, cond, map}
use Rattle.json.specs.Token.{Token}
use Rattle.frame_diff.specs.Differences.{Change, both_told, inside_in}
use Rattle.frame_diff.specs.Forests.{Forest, Held, Path, Step, find, is_label, leaves}

-- ** members as they are told beside others

abbrev pub is_alone : Option Held → Bool
is_alone None = true
is_alone (Some held) = false

-- a value with a label that stands alone is a leaf, whatever stands inside it
abbrev pub cut : Step → Option Held → Forest → Forest
cut s beside i = cond (is_label s && is_alone beside) Forest.none i

-- with each such value as a leaf
abbrev pub wholes : Forest → Forest → Forest
wholes Forest.none others = Forest.none
wholes Forest.passed others = Forest.passed
wholes (Forest.vlans runs) others = Forest.vlans runs
wholes (Forest.texts vs) others = Forest.texts vs
wholes (Forest.tree s v i rest) others =
    Forest.tree s v (cut s (find s others) (wholes i (inside_in (find s others)))) (wholes rest others)

-- what is told of an old object and a new one
abbrev pub between : Forest → Forest → List Change
between old new = both_told (wholes old new) (wholes new old)

-- ** what it says of the leaves inside

-- the members inside what stands at a path
abbrev pub inside_at : Path → Forest → Forest
inside_at [] f = f
inside_at (s ∷ path) f = inside_at path (inside_in (find s f))

-- a value that came or went, leaf by leaf
abbrev pub opened_by : (Path → List Token → Change) → Path → List Token → Forest → List Change
opened_by change path v Forest.none = change path v ∷ []
opened_by change path v Forest.passed = []
opened_by change path v (Forest.vlans runs) = []
opened_by change path v (Forest.texts vs) = change path v ∷ []
opened_by change path v (Forest.tree a b c d) = map (λ l. change (path ++ l.0) l.1) (leaves (Forest.tree a b c d))

-- a change of two objects, leaf by leaf
abbrev pub opened : Forest → Forest → Change → List Change
opened old new (Change.came path v) = opened_by Change.came path v (inside_at path new)
opened old new (Change.went path v) = opened_by Change.went path v (inside_at path old)
opened old new (Change.turned path was is) = Change.turned path was is ∷ []
