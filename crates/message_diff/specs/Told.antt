-- What a line tells of the interfaces of its host, by what is known before it.
use Rattle.std.specs.Prelude.{◌≡◌, ◌==◌, ◌&&◌, ◌||◌, ℕ, Bool, true, false, MatchBool, List, [], ◌∷◌, ◌++◌}
use Rattle.std.specs.Prelude.{Option, None, Some, is_some, cond, codes}
use Rattle.std.specs.List.Sorted.{IsStrictlySortedBy}
use Rattle.message_diff.specs.declared.key.Key.{Key}
use Rattle.message_diff.specs.declared.telling.Told.{Told}
use Rattle.message_diff.specs.declared.telling.Telling.{Telling}
use Rattle.message_diff.specs.declared.snapshot.Compared.{Compared}
use Rattle.message_diff.specs.declared.telling.Told.TheVariants as Tellings
use Rattle.message_diff.specs.Alone.{IsAlone}
use Rattle.message_diff.specs.Announced.{is_another}
use Rattle.message_diff.specs.Changed.{IsChanged}
use Rattle.message_diff.specs.Shots.{Shot}
use Rattle.message_diff.specs.Known.{Item, Seen, Picture, key_cmp, is_key, is_among, is_text, ends, kind_of, shot_of}

-- whether anything but faults is told
abbrev pub says : Told → Bool
says Tellings.Faults = false
says _ = true

-- ** what went

-- one that a line says went, and what it was, is told where a line of it is known, also if all were refused, and one
-- alone where nothing was known of it
abbrev pub is_told_gone : Key → Option Seen → Bool
is_told_gone key None = key.family == 0
is_told_gone key (Some seen) = true

abbrev pub own_shot : Key → Option Shot → Option Seen → Option Shot
own_shot key None seen = shot_of seen
own_shot key (Some shot) seen = cond (is_told_gone key seen) (Some shot) None

-- the message that has a line where a line ends an interface, if one has: its last one, or what the line itself says
-- that it was
abbrev pub gone_shot : Picture → Item → Key → Option Shot
gone_shot p (Item.went key shot) q = cond (is_key key q) (own_shot key shot (p.of key)) (shot_of (p.of q))
gone_shot p x q = shot_of (p.of q)

abbrev pub told_shot : Telling → Picture → Item → Key → Option Shot
told_shot told p x q = cond (says told.told) (gone_shot p x q) None

abbrev pub is_told : Picture → Item → Key → Bool
is_told p x q = is_some (gone_shot p x q)

-- the interfaces that a line ends, each once, in order: exactly the told ones count
pub record AreEnded (p : Picture) (x : Item) (keys : List Key) : Type 0 where
  pub sorted : IsStrictlySortedBy key_cmp keys
  pub each : (q : Key) → (is_told p x q && is_among keys q) ≡ (is_told p x q && ends p x q)

abbrev pub IsGone : List ℕ → Option Shot → List ℕ → Type 0
IsGone front None line = line ≡ []
IsGone front (Some shot) line = IsAlone front (codes "gone") shot.text line

-- the lines of these interfaces, one after another
abbrev pub AreGone : List ℕ → (Key → Option Shot) → List Key → List ℕ → Type 0
AreGone front shot [] lines = lines ≡ []
AreGone front shot (key ∷ keys) lines =
    (line : List ℕ) × (rest : List ℕ) × IsGone front (shot key) line × AreGone front shot keys rest
    × (lines ≡ line ++ rest)

-- ** what came or changed

-- whether an interface that came has a line: also one that has the place of another one, which went
abbrev pub is_new_told : Told → (ℕ → Bool) → (is_other : Bool) → Key → Bool
is_new_told Tellings.All whole is_other key = true
is_new_told Tellings.Changes whole is_other key = is_other || whole key.family
is_new_told Tellings.Faults whole is_other key = false

-- what was this is that: its line says what changed, where anything did
abbrev pub IsTurned : Compared → List ℕ → Shot → Shot → List ℕ → Type 0
IsTurned by front last shot line =
    MatchBool (is_text last.text shot.text) (line ≡ []) (IsChanged by front last shot line)

-- an interface that is this came, or this was its last message
abbrev pub IsNew : Compared → List ℕ → Bool → Option Shot → Shot → List ℕ → Type 0
IsNew by front is_told None shot line = MatchBool is_told (IsAlone front (codes "new") shot.text line) (line ≡ [])
IsNew by front is_told (Some last) shot line = IsTurned by front last shot line

abbrev pub NewsOf : List ℕ → Telling → Bool → Option Shot → Shot → List ℕ → Type 0
NewsOf front told is_told last shot line =
    MatchBool (says told.told) (IsNew told.by front is_told last shot line) (line ≡ [])

-- the last message of an interface, unless the new one is of another one
abbrev pub kept_of : Bool → Option Shot → Option Shot
kept_of is_other last = cond is_other None last

abbrev pub IsNews : List ℕ → Telling → Picture → Item → List ℕ → Type 0
IsNews front told p (Item.is key shot words) line =
    NewsOf front told (is_new_told told.told p.whole (is_another (kind_of (p.of key)) shot.text) key)
    (kept_of (is_another (kind_of (p.of key)) shot.text) (shot_of (p.of key))) shot line
IsNews front told p x line = line ≡ []

-- ** both: first what went

-- what a line with these words adds beside its fault
pub record Tells (front : List ℕ) (told : Telling) (p : Picture) (x : Item) (added : List ℕ) : Type 0 where
  pub keys : List Key
  pub gone : List ℕ
  pub news : List ℕ
  pub ended : AreEnded p x keys
  pub lines : AreGone front (told_shot told p x) keys gone
  pub new : IsNews front told p x news
  pub all : added ≡ gone ++ news

-- ** what is added to what waits

abbrev pub AddsGone : List ℕ → Option Shot → List ℕ → List ℕ → Type 0
AddsGone front shot old new = (line : List ℕ) × IsGone front shot line × (new ≡ old ++ line)

abbrev pub AddsAllGone : List ℕ → (Key → Option Shot) → List Key → List ℕ → List ℕ → Type 0
AddsAllGone front shot keys old new = (lines : List ℕ) × AreGone front shot keys lines × (new ≡ old ++ lines)

abbrev pub AddsTurned : Compared → List ℕ → Shot → Shot → List ℕ → List ℕ → Type 0
AddsTurned by front last shot old new =
    (line : List ℕ) × IsTurned by front last shot line × (new ≡ old ++ line)

abbrev pub AddsNews : List ℕ → Telling → Bool → Option Shot → Shot → List ℕ → List ℕ → Type 0
AddsNews front told is_told last shot old new =
    (line : List ℕ) × NewsOf front told is_told last shot line × (new ≡ old ++ line)

abbrev pub AddsTold : List ℕ → Telling → Picture → Item → List ℕ → List ℕ → Type 0
AddsTold front told p x old new = (added : List ℕ) × Tells front told p x added × (new ≡ old ++ added)
