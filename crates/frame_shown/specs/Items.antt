-- The attributes of a place, as the members of an object.
use Rattle.std.specs.Prelude.{ℕ, ◌+◌, ◌==◌, List, [], ◌∷◌, ◌++◌, Bool, true, false, Option, None, Some}
use Rattle.std.specs.Prelude.{map, cond, codes}
use Rattle.std.specs.List.{flat_map, list_any}
use Rattle.json.specs.Token.{Token}
use Rattle.shown.specs.Drafts.{Members, object_of, list_of}
use Rattle.frame_shown.specs.Kept.{frame_members}

-- an attribute: its number, and what it is under its name; one that is kept as it is: the name that its number has all
-- the same, if any, its kind and its payload; or a value of a list: its number, and what the value is
pub data Item : Type 0 where
  named : ℕ → Members → Item
  as_is : List ℕ → ℕ → List ℕ → Item
  each : ℕ → List Token → Item

-- what an attribute is under its name
abbrev pub shown_as : Item → Members
shown_as (Item.named n ms) = ms
shown_as (Item.as_is name kind payload) = []
shown_as (Item.each n value) = []

-- name, kind and payload of one that is kept
abbrev pub Kept : Type 0
Kept = List ℕ × (ℕ × List ℕ)

abbrev pub kept_in : Item → Option Kept
kept_in (Item.named n ms) = None
kept_in (Item.as_is name kind payload) = Some (name, (kind, payload))
kept_in (Item.each n value) = None

-- the number of one that has a name
abbrev pub number_in : Item → Option ℕ
number_in (Item.named n ms) = Some n
number_in (Item.as_is name kind payload) = None
number_in (Item.each n value) = None

-- whether it is a value of a list
abbrev pub is_value : Item → Bool
is_value (Item.named n ms) = false
is_value (Item.as_is name kind payload) = false
is_value (Item.each n value) = true

-- whether it has a name, and this number
abbrev pub has_number : ℕ → Item → Bool
has_number n (Item.named m ms) = m == n
has_number n (Item.as_is name kind payload) = false
has_number n (Item.each m value) = false

-- whether one of them has a name, and this number
abbrev pub comes_in : ℕ → List Item → Bool
comes_in n items = list_any (has_number n) items

-- of the attributes of each name the last one
abbrev pub last_ones : List Item → Members
last_ones [] = []
last_ones (Item.named n ms ∷ items) = cond (comes_in n items) [] ms ++ last_ones items
last_ones (Item.as_is name kind payload ∷ items) = last_ones items
last_ones (Item.each n value ∷ items) = last_ones items

-- those after which another of their name stands
abbrev pub earlier_ones : List Item → List Members
earlier_ones [] = []
earlier_ones (Item.named n ms ∷ items) = cond (comes_in n items) (ms ∷ []) [] ++ earlier_ones items
earlier_ones (Item.as_is name kind payload ∷ items) = earlier_ones items
earlier_ones (Item.each n value ∷ items) = earlier_ones items

-- those that have a name
abbrev pub named_ones : List Item → List Members
named_ones [] = []
named_ones (Item.named n ms ∷ items) = ms ∷ named_ones items
named_ones (Item.as_is name kind payload ∷ items) = named_ones items
named_ones (Item.each n value ∷ items) = named_ones items

-- those that are kept
abbrev pub kept_ones : List Item → List Members
kept_ones [] = []
kept_ones (Item.named n ms ∷ items) = kept_ones items
kept_ones (Item.as_is name kind payload ∷ items) = frame_members name kind payload ∷ kept_ones items
kept_ones (Item.each n value ∷ items) = kept_ones items

-- the values of the list of a number
abbrev pub values_with : ℕ → List Item → List (List Token)
values_with n [] = []
values_with n (Item.named m ms ∷ items) = values_with n items
values_with n (Item.as_is name kind payload ∷ items) = values_with n items
values_with n (Item.each m value ∷ items) = cond (m == n) (value ∷ []) [] ++ values_with n items

-- whether there are any
abbrev pub are_any : {A : Type 0} → List A → Bool
are_any [] = false
are_any (x ∷ xs) = true

-- a list of the values, under a name, where there are any
abbrev pub list_under : List ℕ → List (List Token) → Members
list_under name [] = []
list_under name (v ∷ vs) = (name, list_of (flat_map (λ tokens. tokens) (v ∷ vs))) ∷ []

-- the number and the name of each list of a place
abbrev pub Lists : Type 0
Lists = List (ℕ × List ℕ)

-- the lists that have a value, each under its name
abbrev pub arrays : Lists → List Item → Members
arrays [] items = []
arrays (l ∷ lists) items = list_under l.1 (values_with l.0 items) ++ arrays lists items

-- all attributes of a place that has these lists
abbrev pub members_of : Lists → List Item → Members
members_of lists items = last_ones items ++ arrays lists items
    ++ list_under (codes "repeated") (map object_of (earlier_ones items))
    ++ list_under (codes "other") (map object_of (kept_ones items))

-- the values of members, without their names
abbrev pub values_of : Members → List Token
values_of members = flat_map (λ m. m.1) members

-- all attributes of a place in which those that have a name stand in one list
abbrev pub listed_under : List ℕ → List Item → Members
listed_under name items = (name, list_of (flat_map values_of (named_ones items)))
    ∷ list_under (codes "other") (map object_of (kept_ones items))

-- ** for the calls that go over a place's attributes

-- objects, as members of a list
abbrev pub objects : List Members → Members
objects os = map (λ o. ([], object_of o)) os

-- values, as members of a list
abbrev pub elements : List (List Token) → Members
elements vs = map (λ v. ([], v)) vs

-- how many have a name and this number
abbrev pub count_of : ℕ → List Item → ℕ
count_of n [] = 0
count_of n (x ∷ items) = cond (has_number n x) 1 0 + count_of n items

-- a list of objects, under a name
abbrev pub objects_under : List ℕ → List Members → Members
objects_under name os = (name, list_of (flat_map object_of os)) ∷ []
