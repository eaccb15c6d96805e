-- What is written is an object for each change.
use Rattle.std.proofs.Common.{◌≡◌, ℕ, Bool, true, false, List, [], ◌∷◌, ◌++◌, map, refl, sym, ap, ◌∙◌}
use Rattle.std.specs.Prelude.{Option, Some, None, cond, ◌&&◌}
use Rattle.json.specs.Token.{Token}
use Rattle.frame_diff.specs.Differences.{Change, inside_in, is_shown_same, leaf_change, leaf_in}
use Rattle.frame_diff.specs.Forests.{Forest, Held, Path, Step, find, is_label}
use Rattle.frame_diff.specs.Items.{alone_item, change_item, further, is_leaf_untold, is_list, is_loose, items_told}
use Rattle.frame_diff.specs.Items.{leaf_item, leaf_items, list_items, texts_items, whole_items}
use Rattle.frame_diff.specs.Items.{member_items, path_text, text_behind, turned_item}
use Rattle.frame_diff.specs.Laws.{ItemsAreChanges}
use Rattle.frame_diff.specs.Wholes.{cut, is_alone}
use Rattle.frame_diff.specs.declared.side.Side.{Side}
use Rattle.frame_diff.specs.declared.side.Side.TheVariants.{Old, New, Moved}
use Rattle.std.proofs.Common.{append_assoc, append-nil}
use Rattle.std.specs.List.{flat_map}
use Rattle.link_vlans.specs.Pieces.{pieces_of}
use Rattle.link_vlans.specs.declared.pieces.Piece.{Piece}
use Rattle.frame_diff.specs.Forests.{runs_inside}
use Rattle.frame_diff.specs.Items.{piece_items}
use Rattle.frame_diff.specs.Ranges.{Told, both_by, list_told, member_by, told_by, told_items, whole_told}
use Rattle.frame_diff.specs.Sides.{is_moved}

map_joined : {A B : Type 0} (f : A → B) (xs ys : List A) → map f (xs ++ ys) ≡ map f xs ++ map f ys
map_joined f [] ys = refl
map_joined f (x ∷ xs) ys = ap (λ l. f x ∷ l) (map_joined f xs ys)

text_further : (text : List ℕ) (path : Path) (s : Step)
    → text_behind text (path ++ s ∷ []) ≡ further (text_behind text path) s
text_further text [] s = refl
text_further text (t ∷ path) s = text_further (further text t) path s

leaf_is : (side : Side) (path : Path) (v : List Token) (beside : Option (List Token))
    → leaf_items side (path_text path) v beside ≡ map change_item (leaf_change side path v beside)
leaf_is Old path v None = refl
leaf_is New path v None = refl
leaf_is Old path v (Some w) = by (is_shown_same v w)
  where
    by : (b : Bool) → cond b [] (turned_item (path_text path) v w ∷ [])
        ≡ map change_item (cond b [] (Change.turned path v w ∷ []))
    by true = refl
    by false = refl
leaf_is New path v (Some w) = refl
leaf_is Moved path v None = refl
leaf_is Moved path v (Some w) = refl

-- of a leaf

pub leaf_untold : (side : Side) (text : List ℕ) (v : List Token) (beside : Option (List Token))
    → is_leaf_untold side v beside ≡ true → leaf_items side text v beside ≡ []
leaf_untold side text v None h = ap (λ b. cond b [] (alone_item text side v ∷ [])) h
leaf_untold Old text v (Some w) h = ap (λ b. cond b [] (turned_item text v w ∷ [])) h
leaf_untold New text v (Some w) h = refl
leaf_untold Moved text v (Some w) h = refl

pub leaf_told : (side : Side) (text : List ℕ) (v : List Token) (beside : Option (List Token))
    → is_leaf_untold side v beside ≡ false → leaf_items side text v beside ≡ leaf_item side text v beside ∷ []
leaf_told side text v None h = ap (λ b. cond b [] (alone_item text side v ∷ [])) h
leaf_told Old text v (Some w) h = ap (λ b. cond b [] (turned_item text v w ∷ [])) h
leaf_told New text v (Some w) h = absurd cc
leaf_told Moved text v (Some w) h = absurd cc

ones_are : (cs : List Change) → flat_map told_items (map Told.one cs) ≡ map change_item cs
ones_are [] = refl
ones_are (c ∷ cs) = ap (λ os. change_item c ∷ os) (ones_are cs)

pieces_are : (side : Side) (path : Path) (ps : List Piece)
    → flat_map (piece_items side (path_text path)) ps ≡ flat_map told_items (map (Told.vlans side path) ps)
pieces_are side path [] = refl
pieces_are side path (p ∷ ps) = ap (λ os. piece_items side (path_text path) p ++ os) (pieces_are side path ps)

items_joined : (xs ys : List Told) → flat_map told_items (xs ++ ys) ≡ flat_map told_items xs ++ flat_map told_items ys
items_joined [] ys = refl
items_joined (x ∷ xs) ys =
    ap (λ os. told_items x ++ os) (items_joined xs ys)
    ∙ sym (append_assoc (told_items x) (flat_map told_items xs) (flat_map told_items ys))

-- of a member, if it is told as a whole or not
member_is : (side : Side) (path : Path) (v : List Token) (i : Forest) (beside : Option Held)
    → items_told side (path_text path) i (inside_in beside)
    ≡ flat_map told_items (told_by side path i (inside_in beside)) → (b : Bool)
    → member_items side (path_text path) v (cond b Forest.none i) (items_told side (path_text path) i) beside
    ≡ flat_map told_items (member_by side path v (cond b Forest.none i) (told_by side path i) beside)
member_is side path v i beside inner true =
    leaf_is side path v (leaf_in beside) ∙ sym (ones_are (leaf_change side path v (leaf_in beside)))
member_is side path v Forest.none beside inner false =
    leaf_is side path v (leaf_in beside) ∙ sym (ones_are (leaf_change side path v (leaf_in beside)))
member_is side path v Forest.passed beside inner false = refl
member_is side path v (Forest.vlans runs) beside inner false = inner
member_is side path v (Forest.texts vs) beside inner false =
    sym (append-nil (texts_items side (path_text path) v vs beside))
member_is side path v (Forest.tree a b c d) beside inner false = inner

-- of a list that both write otherwise
whole_is : (loose : Bool) (path : Path) (v : List Token) (beside : Option Held)
    → whole_items loose (path_text path) v beside ≡ flat_map told_items (whole_told loose path v beside)
whole_is loose path v None = refl
whole_is false path v (Some held) = refl
whole_is true path v (Some held) =
    leaf_is Old path v (Some held.0) ∙ sym (ones_are (leaf_change Old path v (Some held.0)))

list_is : (side : Side) (path : Path) (s : Step) (v : List Token) (i : Forest) (beside : Option Held)
    → list_items side (path_text path) s v i beside ≡ flat_map told_items (list_told side path s v i beside)
list_is side path s v i beside = by (is_list s) (is_moved side)
  where
    by : (l m : Bool) → cond l (cond m (whole_items (is_loose i) (path_text path) v beside) []) []
        ≡ flat_map told_items (cond l (cond m (whole_told (is_loose i) path v beside) []) [])
    by true true = whole_is (is_loose i) path v beside
    by true false = refl
    by false m = refl

runs_are : (side : Side) (path : Path) (ps : List Piece)
    → cond (is_moved side) [] (flat_map (piece_items side (path_text path)) ps)
    ≡ flat_map told_items (cond (is_moved side) [] (map (Told.vlans side path) ps))
runs_are side path ps = by (is_moved side)
  where
    by : (m : Bool) → cond m [] (flat_map (piece_items side (path_text path)) ps)
        ≡ flat_map told_items (cond m [] (map (Told.vlans side path) ps))
    by true = refl
    by false = pieces_are side path ps

pub items_are : ItemsAreChanges
items_are side path Forest.none g = refl
items_are side path Forest.passed g = refl
items_are side path (Forest.vlans runs) g = runs_are side path (pieces_of runs (runs_inside g))
items_are side path (Forest.texts vs) g = refl
items_are side path (Forest.tree s v i rest) g =
    let beside = find s g in
    let at = path ++ s ∷ [] in
    let list = list_told side at s v i beside in
    let one = member_by side at v (cut s beside i) (told_by side at i) beside in
    ap (λ text. (list_items side text s v i beside
    ++ member_items side text v (cut s beside i) (items_told side text i) beside)
    ++ items_told side (path_text path) rest g) (sym (text_further [] path s))
    ∙ (λ k. (list_is side at s v i beside k
    ++ member_is side at v i beside (items_are side at i (inside_in beside)) (is_label s && is_alone beside) k)
    ++ items_are side path rest g k)
    ∙ append_assoc (flat_map told_items list) (flat_map told_items one) (flat_map told_items (told_by side path rest g))
    ∙ ap (λ os. flat_map told_items list ++ os) (sym (items_joined one (told_by side path rest g)))
    ∙ sym (items_joined list (one ++ told_by side path rest g))

-- of an old object and a new one
pub both_are : (f g : Forest)
    → items_told Old [] f g ++ items_told New [] g f ≡ flat_map told_items (both_by f g)
both_are f g =
    (λ k. items_are Old [] f g k ++ items_are New [] g f k)
    ∙ sym (items_joined (told_by Old [] f g) (told_by New [] g f))
