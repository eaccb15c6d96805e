-- Several attributes of a list, found at once.
use Rattle.std.specs.Prelude.{◌≡◌, ℕ, ◌==◌, if◌then◌else◌, List, [], ◌∷◌, bit_and, map, Result, Ok, Err}
use Rattle.std.specs.List.{fold}
use Rattle.nla_wire.specs.Frames.{Frames, Fault}
use Rattle.link_c.specs.Lists.{IsStep, told}
use Rattle.link_c.specs.declared.list.Attribute.{Attribute}
use Rattle.link_c.specs.declared.refusal.Refusal.{Refusal}
use Rattle.link_c.specs.declared.refusal.Refusal.TheVariants as Refusals

-- attributes of b that stand one after the other, from a place up to another one
abbrev pub Stand : List ℕ → ℕ → ℕ → List Attribute → Type 0
Stand b at end [] = at ≡ end
Stand b at end (a ∷ all) = (next : ℕ) × IsStep b at next a × Stand b next end all

-- the number of an attribute, without its two flags
abbrev pub number : Attribute → ℕ
number a = bit_and a.kind 0x3fff

-- an attribute in the place of one with its number
abbrev pub kept : Attribute → Attribute → Attribute
kept a place = if number place == number a then a else place

-- nothing was found
abbrev pub cleared : Attribute → Attribute
cleared place = record { kind = place.kind; payload = 0; payload_len = 0 }

-- in each place the last of these attributes that has its number
abbrev pub picked : List Attribute → List Attribute → List Attribute
picked all places = map (λ place. fold (λ found a. kept a found) (cleared place) all) places

-- what was picked of all attributes of b, or of those in front of its fault
abbrev pub IsPicked : List ℕ → List Attribute → List Attribute → Result (Unit {0}) Refusal → Type 0
IsPicked b old new (Ok done) =
    (all : List Attribute) × (end : ℕ) × Stand b 0 end all × Frames b (map (told b) all) × (new ≡ picked all old)
IsPicked b old new (Err (Refusals.Fault c)) =
    (all : List Attribute) × (end : ℕ) × Stand b 0 end all × Fault b (map (told b) all) c × (new ≡ picked all old)
IsPicked b old new (Err e) = ⊥
