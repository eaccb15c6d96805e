-- A line that tells what changed of an interface.
use Rattle.std.specs.Prelude.{◌≡◌, ℕ, List, [], ◌∷◌, ◌++◌, codes}
use Rattle.std.specs.List.{flat_map}
use Rattle.hex.specs.Hex.{encode_lower}
use Rattle.json.specs.Token.{Token, string}
use Rattle.shown.specs.Print.{print}
use Rattle.line_filter.specs.Lines.{with_lf}
use Rattle.shown.specs.Drafts.{Members, list_of, object_of}
use Rattle.frame_shown.specs.Plain.{plain}
use Rattle.frame_shown.specs.declared.form.Order.{Order}
use Rattle.frame_diff.specs.Differences.{Change}
use Rattle.frame_diff.specs.Forests.{Forest, Step}
use Rattle.frame_diff.specs.Items.{change_item}
use Rattle.frame_diff.specs.Laws.{messages_asked, messages_by, messages_moved}
use Rattle.frame_diff.specs.Members.{message_forest}
use Rattle.frame_diff.specs.Ranges.{Told, told_items}
use Rattle.frame_diff.specs.Wholes.{between}
use Rattle.frame_diff.specs.declared.message.Asked.{Asked}
use Rattle.message_diff.specs.declared.snapshot.Compared.{Compared}
use Rattle.message_diff.specs.Alone.{change_member, told_words}
use Rattle.message_diff.specs.Compared.{HasTextBy, is_state, parts_by}
use Rattle.message_diff.specs.Named.{head_of}
use Rattle.message_diff.specs.Shots.{Shot}

-- ** what changed

-- the members of a message as it is compared, each at its step
abbrev pub forest_by : Compared → Shot → Forest
forest_by by shot = message_forest (is_state by) (plain shot.order) (parts_by by shot.text)

-- what differs between those of two
abbrev pub changes_between : Compared → Shot → Shot → List Change
changes_between by old new = between (forest_by by old) (forest_by by new)

-- where nothing does, both encodings in hexadecimal
abbrev pub state_change : List ℕ → List ℕ → Change
state_change old new = Change.turned (Step.name (codes "state") ∷ []) (string (encode_lower old) ∷ [])
    (string (encode_lower new) ∷ [])

abbrev pub changes_or : Change → List Change → List Change
changes_or other [] = other ∷ []
changes_or other (c ∷ cs) = c ∷ cs

-- what is told of two whose encodings differ
unfoldable pub told_changes : Compared → Shot → Shot → List Change
told_changes by old new = changes_or (state_change old.text new.text) (changes_between by old new)

-- ** as it is written

-- what differs between two, where VLANs beside each other that changed alike are told as one
abbrev pub ranges_between : Compared → Shot → Shot → List Told
ranges_between by old new = messages_by (is_state by) (plain old.order) (plain new.order) (parts_by by old.text)
    (parts_by by new.text)

-- the objects of these
abbrev pub items_between : Compared → Shot → Shot → List Members
items_between by old new = flat_map told_items (ranges_between by old new)

-- lists of which both say the same in another order, or which one of both writes otherwise, each as a whole
abbrev pub lists_between : Compared → Shot → Shot → List Told
lists_between by old new = messages_moved (is_state by) (plain old.order) (plain new.order) (parts_by by old.text)
    (parts_by by new.text)

abbrev pub items_moved : Compared → Shot → Shot → List Members
items_moved by old new = flat_map told_items (lists_between by old new)

-- what is asked of two
abbrev pub items_asked : Asked → Compared → Shot → Shot → List Members
items_asked asked by old new = flat_map told_items (messages_asked asked (is_state by) (plain old.order)
    (plain new.order) (parts_by by old.text) (parts_by by new.text))

abbrev pub items_or : List Members → List Members → List Members
items_or others [] = others
items_or others (o ∷ os) = o ∷ os

-- what is written of two whose encodings differ: lists in another order where nothing else is, or both encodings
unfoldable pub written_items : Compared → Shot → Shot → List Members
written_items by old new = items_or (items_or (change_item (state_change old.text new.text) ∷ [])
    (items_moved by old new)) (items_between by old new)

-- ** the line

-- the list of these objects
abbrev pub change_tokens : List Members → List Token
change_tokens os = list_of (flat_map object_of os)

-- behind words, what became of the interface, which it is, and what changed of it
unfoldable pub changed_members : Compared → List ℕ → Shot → Shot → Members
changed_members by front old new =
    told_words front
    ++ change_member (codes "changed")
    ∷ (head_of new.text ++ (codes "changes", change_tokens (written_items by old new)) ∷ [])

abbrev pub changed_line : Compared → List ℕ → Shot → Shot → List ℕ
changed_line by front old new = with_lf (print (object_of (changed_members by front old new)))

-- the line that tells it, of the interface that the new message says
abbrev pub IsChanged : Compared → List ℕ → Shot → Shot → List ℕ → Type 0
IsChanged by front old new line = line ≡ changed_line by front old new

abbrev pub AddsChanged : Compared → List ℕ → Shot → Shot → List ℕ → List ℕ → Type 0
AddsChanged by front old new before now = now ≡ before ++ changed_line by front old new

-- what is compared of two byte strings, in this order
pub record AreBothOf (by : Compared) (order : Order) (old new : List ℕ) (was is : Shot) : Type 0 where
  pub old_order : was.order ≡ order
  pub new_order : is.order ≡ order
  pub old_text : HasTextBy by old was.text
  pub new_text : HasTextBy by new is.text

-- ** the list alone

-- it has no line's end
abbrev pub list_text : Compared → Shot → Shot → List ℕ
list_text by old new = print (change_tokens (written_items by old new))

abbrev pub AddsList : Compared → Shot → Shot → List ℕ → List ℕ → Type 0
AddsList by old new before now = now ≡ before ++ list_text by old new

abbrev pub AddsListBy : Compared → Order → List ℕ → List ℕ → List ℕ → List ℕ → Type 0
AddsListBy by order old new before now =
    (was : Shot) × (is : Shot) × AreBothOf by order old new was is × AddsList by was is before now
