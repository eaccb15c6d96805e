-- Nothing is written of two messages exactly where nothing is told of them.
use Rattle.std.proofs.Common.{◌≡◌, ℕ, zero, suc, ◌+◌, ◌-◌, ◌^◌, ◌<◌, ◌≤◌, min, Bool, true, false, List, [], ◌∷◌}
use Rattle.std.proofs.Common.{◌++◌, map, refl, sym, ap, ◌∙◌, arith, append-nil}
use Rattle.std.proofs.lemmas.Bool.{and_from, and_parts}
use Rattle.std.proofs.lemmas.Fmt.{decimal_injective}
use Rattle.std.proofs.lemmas.List.{append_cancel_right}
use Rattle.std.specs.Prelude.{Option, Some, None, codes, cond, decimal, option_map, ◌&&◌}
use Rattle.std.specs.List.{flat_map, range_with_len}
use Rattle.json.specs.Token.{Token}
use Rattle.shown.specs.Drafts.{Members}
use Rattle.shown.specs.Print.{escape_from, print_from}
use Rattle.frame_shown.specs.Values.{number_tokens}
use Rattle.link_vlans.specs.Pieces.{pieces_of, vids_of}
use Rattle.link_vlans.specs.Runs.{id_at}
use Rattle.link_vlans.specs.declared.pieces.Piece.{Piece}
use Rattle.link_vlans.specs.declared.run.Said.{Said}
use Rattle.link_vlans.proofs.Bounds.{AreAbove, AreHigh, IsAbove, IsHigh, IsSaidAbove, pieces_high}
use Rattle.frame_diff.specs.Differences.{Change, inside_in, is_shown_same, leaf_change, leaf_in, text_of, told}
use Rattle.frame_diff.specs.Forests.{Forest, Held, Path, find, is_label, runs_inside}
use Rattle.frame_diff.specs.Items.{id_items, is_leaf_untold, joined, leaf_items, path_text, piece_items_by, vlan_items}
use Rattle.frame_diff.specs.Laws.{WrittenIsTold, is_empty}
use Rattle.frame_diff.specs.Members.{fields, message_made}
use Rattle.frame_diff.specs.Ranges.{Told, apart, member_by, told_by, told_items, vlan_told}
use Rattle.frame_diff.specs.Vlans.{flags_shown, id_member, range_text, vlan_step}
use Rattle.frame_diff.specs.Wholes.{cut, is_alone}
use Rattle.frame_diff.specs.declared.side.Side.{Side}
use Rattle.frame_diff.specs.declared.side.Side.TheVariants.{Old, New}
use Rattle.frame_diff.proofs.Flat.{AreMade, found_made, made}
use Rattle.frame_diff.proofs.RangesTold.{ranges_are}
use Rattle.frame_diff.proofs.Steps.{text_is, text_same}
use Rattle.frame_diff.specs.Sides.{is_moved}
use Rattle.frame_diff.specs.Items.{alone_item, alone_texts, each_items, texts_by, texts_items, turned_item}
use Rattle.frame_diff.specs.Ranges.{list_told, runs_told}
use Rattle.frame_diff.specs.Forests.{AreApart, Step, is_step, is_text}
use Rattle.frame_diff.specs.declared.side.Side.TheVariants.{Moved}
use Rattle.frame_diff.proofs.RangesTold.{unmoved}
use Rattle.frame_diff.proofs.Apart.{made_apart}
use Rattle.frame_diff.proofs.Silent.{Has, found_first, rest_has}
use Rattle.frame_diff.proofs.Steps.{step_same}
use Rattle.std.proofs.lemmas.List.Concat.{flat_map-append}
use Rattle.std.proofs.Common.{subst}

-- ** empty lists

empty_append : {X : Type 0} (xs ys : List X) → is_empty (xs ++ ys) ≡ (is_empty xs && is_empty ys)
empty_append [] ys = refl
empty_append (x ∷ xs) ys = refl

module _ {X : Type 0} (F : ℕ → List X) where
  none_in : (a k : ℕ) → ((n : ℕ) → a ≤ n → is_empty (F n) ≡ true) → is_empty (flat_map F (range_with_len a k)) ≡ true
  none_in a zero none = refl
  none_in a (suc k) none =
      empty_append (F a) (flat_map F (range_with_len (a + 1) k))
      ∙ (λ i. none a (omega arith) i && none_in (a + 1) k (λ n low. none n (omega arith)) i)

  -- of numbers from this one on: nothing where nothing is of the first one, if then nothing is of those behind it
  as_first : (a k : ℕ) (b : Bool) → is_empty (F a) ≡ b → (b ≡ true → (n : ℕ) → a ≤ n → is_empty (F n) ≡ true)
      → is_empty (flat_map F (range_with_len a (suc k))) ≡ b
  as_first a k true first on = none_in a (suc k) (on refl)
  as_first a k false first on =
      empty_append (F a) (flat_map F (range_with_len (a + 1) k))
      ∙ ap (λ b. b && is_empty (flat_map F (range_with_len (a + 1) k))) first

-- ** leaves

change_empty : (side : Side) (path : Path) (v : List Token) (w : Option (List Token))
    → is_empty (leaf_change side path v w) ≡ is_leaf_untold side v w
change_empty Old path v None = refl
change_empty New path v None = refl
change_empty New path v (Some w) = refl
change_empty Moved path v None = refl
change_empty Moved path v (Some w) = refl
change_empty Old path v (Some w) = by (is_shown_same v w)
  where
    by : (b : Bool) → is_empty (cond b [] (Change.turned path v w ∷ [])) ≡ b
    by true = refl
    by false = refl

items_empty : (side : Side) (text : List ℕ) (v : List Token) (w : Option (List Token))
    → is_empty (leaf_items side text v w) ≡ is_leaf_untold side v w
items_empty Old text v None = refl
items_empty New text v None = refl
items_empty New text v (Some w) = refl
items_empty Moved text v None = refl
items_empty Moved text v (Some w) = refl
items_empty Old text v (Some w) = by (is_shown_same v w) _
  where
    by : (b : Bool) (m : Members) → is_empty (cond b [] (m ∷ [])) ≡ b
    by true m = refl
    by false m = refl

-- ** ids

number_text : (n : ℕ) → text_of (number_tokens n) ≡ 123 ∷ 34 ∷ 34 ∷ 58 ∷ decimal n ++ 125 ∷ []
unfolding text_of print_from escape_from
number_text n = refl

numbers_same : (m n : ℕ) → m < 2 ^ 64 → n < 2 ^ 64 → is_shown_same (number_tokens m) (number_tokens n) ≡ true
    → m ≡ n
numbers_same m n small small_too is =
    let texts : 123 ∷ 34 ∷ 34 ∷ 58 ∷ decimal m ++ 125 ∷ [] ≡ 123 ∷ 34 ∷ 34 ∷ 58 ∷ decimal n ++ 125 ∷ [] =
    sym (number_text m) ∙ text_same (text_of (number_tokens m)) (text_of (number_tokens n)) is ∙ number_text n in
    let tails : decimal m ++ 125 ∷ [] ≡ decimal n ++ 125 ∷ [] = cc in
    decimal_injective m n small small_too (append_cancel_right (decimal m) (decimal n) (125 ∷ []) tails)

abbrev id_by : ℕ → ℕ → ℕ
id_by n ahead = min (ahead + n) (2 ^ 64 - 1) - 65536

id_small : (n ahead : ℕ) → id_by n ahead < 2 ^ 64
id_small n ahead = omega arith

-- ids that are not cut off below go along with their VLANs
ids_on : (m n j k : ℕ) → m ≤ n → 65536 ≤ j + m → 65536 ≤ k + m → id_by m j ≡ id_by m k → id_by n j ≡ id_by n k
ids_on m n j k up low low_too is = omega arith

-- what is said of an id beside another one is told on neither way
abbrev is_id_untold : Side → Option ℕ → Option ℕ → Bool
is_id_untold side None other = true
is_id_untold side (Some id) other = is_leaf_untold side (number_tokens id) (option_map number_tokens other)

id_on : (side : Side) (m n : ℕ) (a b : Option ℕ) → m ≤ n → IsAbove m a → IsAbove m b
    → is_id_untold side (id_at m a) (id_at m b) ≡ true → is_id_untold side (id_at n a) (id_at n b) ≡ true
id_on side m n None b up low low_too is = refl
id_on side m n (Some j) None up low low_too is = is
id_on New m n (Some j) (Some k) up low low_too is = refl
id_on Moved m n (Some j) (Some k) up low low_too is = refl
id_on Old m n (Some j) (Some k) up low low_too is =
    let first : id_by m j ≡ id_by m k =
    numbers_same (id_by m j) (id_by m k) (id_small m j) (id_small m k) is in
    ap (λ id. is_shown_same (number_tokens (id_by n j)) (number_tokens id)) (sym (ids_on m n j k up low low_too first))
    ∙ text_is (text_of (number_tokens (id_by n j)))

-- ** one VLAN

abbrev is_untold : Side → ℕ → Said → Said → Bool
is_untold side n s b = is_id_untold side (id_at n s.ahead) (id_at n b.ahead)
    && is_leaf_untold side (flags_shown s.flags) (Some (flags_shown b.flags))

untold_on : (side : Side) (m n : ℕ) (s b : Said) → m ≤ n → IsAbove m s.ahead → IsAbove m b.ahead
    → is_untold side m s b ≡ true → is_untold side n s b ≡ true
untold_on side m n s b up low low_too is =
    let flags = is_leaf_untold side (flags_shown s.flags) (Some (flags_shown b.flags)) in
    let both = and_parts (is_id_untold side (id_at m s.ahead) (id_at m b.ahead)) flags is in
    and_from (is_id_untold side (id_at n s.ahead) (id_at n b.ahead)) flags
    (id_on side m n s.ahead b.ahead up low low_too both.0) both.1

id_written : (side : Side) (text : List ℕ) (a b : Option ℕ) → is_empty (id_items side text a b) ≡ is_id_untold side a b
id_written side text None b = refl
id_written side text (Some id) b = items_empty side _ (number_tokens id) (option_map number_tokens b)

-- as it is written
written_one : (side : Side) (text : List ℕ) (n : ℕ) (s b : Said)
    → is_empty (vlan_items side text n s b) ≡ is_untold side n s b
written_one side text n s b =
    let flags = flags_shown s.flags in
    let flags_too = Some (flags_shown b.flags) in
    empty_append (id_items side text (id_at n s.ahead) (id_at n b.ahead))
    (leaf_items side (joined text (codes "flags")) flags flags_too)
    ∙ (λ i. id_written side text (id_at n s.ahead) (id_at n b.ahead) i
    && items_empty side (joined text (codes "flags")) flags flags_too i)

-- what stands inside a VLAN, with an id or without
abbrev inside_by : Option ℕ → List Token → Forest
inside_by id flags = fields (id_member (codes "id") id ++ (codes "flags", flags) ∷ [])

alone_empty : (side : Side) (path : Path) (v : List Token) (w : Option (List Token))
    → is_empty (leaf_change side path v w ++ []) ≡ is_leaf_untold side v w
alone_empty side path v w = ap is_empty (append-nil (leaf_change side path v w)) ∙ change_empty side path v w

both_empty : (side : Side) (p q : Path) (v f : List Token) (w g : Option (List Token))
    → is_empty (leaf_change side p v w ++ (leaf_change side q f g ++ []))
    ≡ (is_leaf_untold side v w && is_leaf_untold side f g)
both_empty side p q v f w g =
    empty_append (leaf_change side p v w) (leaf_change side q f g ++ [])
    ∙ (λ i. change_empty side p v w i && alone_empty side q f g i)

inside_told : (side : Side) (path : Path) (a b : Option ℕ) (f g : List Token)
    → is_empty (told side path (inside_by a f) (inside_by b g))
    ≡ (is_id_untold side a b && is_leaf_untold side f (Some g))
inside_told side path None None f g = alone_empty side _ f (Some g)
inside_told side path None (Some b) f g = alone_empty side _ f (Some g)
inside_told side path (Some a) None f g = both_empty side _ _ (number_tokens a) f None (Some g)
inside_told side path (Some a) (Some b) f g =
    both_empty side _ _ (number_tokens a) f (Some (number_tokens b)) (Some g)

-- as it is told
told_one : (side : Side) (path : Path) (n : ℕ) (s b : Said)
    → is_empty (vlan_told side path n s (Some b)) ≡ is_untold side n s b
told_one side path n s b = inside_told side (path ++ vlan_step n ∷ []) (id_at n s.ahead) (id_at n b.ahead)
    (flags_shown s.flags) (flags_shown b.flags)

-- ** what is told

-- something is written of it exactly where something is told
abbrev IsAlike : Told → Type 0
IsAlike t = is_empty (told_items t) ≡ is_empty (apart t)

abbrev AllAlike : List Told → Type 0
AllAlike [] = Unit {0}
AllAlike (t ∷ ts) = IsAlike t × AllAlike ts

all_alike : (ts : List Told) → AllAlike ts → is_empty (flat_map told_items ts) ≡ is_empty (flat_map apart ts)
all_alike [] h = refl
all_alike (t ∷ ts) h =
    empty_append (told_items t) (flat_map told_items ts)
    ∙ (λ i. h.0 i && all_alike ts h.1 i)
    ∙ sym (empty_append (apart t) (flat_map apart ts))

append_alike : (ts us : List Told) → AllAlike ts → AllAlike us → AllAlike (ts ++ us)
append_alike [] us h h_too = h_too
append_alike (t ∷ ts) us h h_too = (h.0, append_alike ts us h.1 h_too)

ones_alike : (cs : List Change) → AllAlike (map Told.one cs)
ones_alike [] = tt
ones_alike (c ∷ cs) = (refl, ones_alike cs)

alone_told : (side : Side) (path : Path) (n : ℕ) (s : Said) → is_moved side ≡ false
    → is_empty (vlan_told side path n s None) ≡ false
alone_told Old path n s telling = refl
alone_told New path n s telling = refl
alone_told Moved path n s telling = absurd cc

piece_alike : (side : Side) (path : Path) (p : Piece) → is_moved side ≡ false → IsHigh p
    → IsAlike (Told.vlans side path p)
piece_alike side path p telling h = by p.beside h.beside
  where
    some : suc p.own.last - p.own.first ≡ suc (p.own.last - p.own.first)
    some = let up : p.own.first ≤ p.own.last = h.up in omega arith

    by : (beside : Option Said) → IsSaidAbove p.own.first beside
        → is_empty (piece_items_by side (path_text path ++ range_text p.own) p.own beside)
        ≡ is_empty (flat_map (λ n. vlan_told side path n p.own.said beside) (vids_of p.own))
    by None high =
        sym ((λ i. is_empty (flat_map (λ n. vlan_told side path n p.own.said None)
        (range_with_len p.own.first (some i))))
        ∙ as_first (λ n. vlan_told side path n p.own.said None) p.own.first (p.own.last - p.own.first) false
        (alone_told side path p.own.first p.own.said telling) (λ is. absurd cc))
    by (Some b) high =
        written_one side (path_text path ++ range_text p.own) p.own.first p.own.said b
        ∙ sym ((λ i. is_empty (flat_map (λ n. vlan_told side path n p.own.said (Some b))
        (range_with_len p.own.first (some i))))
        ∙ as_first (λ n. vlan_told side path n p.own.said (Some b)) p.own.first (p.own.last - p.own.first)
        (is_untold side p.own.first p.own.said b) (told_one side path p.own.first p.own.said b)
        (λ is n low. told_one side path n p.own.said b
        ∙ untold_on side p.own.first n p.own.said b low h.own high is))

pieces_alike : (side : Side) (path : Path) (ps : List Piece) → is_moved side ≡ false → AreHigh ps
    → AllAlike (map (Told.vlans side path) ps)
pieces_alike side path [] telling h = tt
pieces_alike side path (p ∷ ps) telling h = (piece_alike side path p telling h.0, pieces_alike side path ps telling h.1)

-- ** members

runs_made : (f : Forest) → AreMade f → AreAbove (runs_inside f)
runs_made Forest.none h = tt
runs_made Forest.passed h = tt
runs_made (Forest.vlans runs) h = h
runs_made (Forest.texts vs) h = tt
runs_made (Forest.tree s v i rest) h = tt

-- where nothing is written, nothing is told
abbrev IsHeard : List Told → Type 0
IsHeard ts = is_empty (flat_map told_items ts) ≡ true → is_empty (flat_map apart ts) ≡ true

-- where nothing is told, nothing is written
abbrev IsQuiet : List Told → Type 0
IsQuiet ts = is_empty (flat_map apart ts) ≡ true → is_empty (flat_map told_items ts) ≡ true

joined_empty : {X : Type 0} (h : Told → List X) (ts us : List Told)
    → is_empty (flat_map h (ts ++ us)) ≡ (is_empty (flat_map h ts) && is_empty (flat_map h us))
joined_empty h ts us = ap is_empty (flat_map-append h ts us) ∙ empty_append (flat_map h ts) (flat_map h us)

parts_empty : {X : Type 0} (h : Told → List X) (ts us : List Told) → is_empty (flat_map h (ts ++ us)) ≡ true
    → (is_empty (flat_map h ts) ≡ true) × (is_empty (flat_map h us) ≡ true)
parts_empty h ts us is =
    and_parts (is_empty (flat_map h ts)) (is_empty (flat_map h us)) (sym (joined_empty h ts us) ∙ is)

both_are_empty : {X : Type 0} (h : Told → List X) (ts us : List Told) → is_empty (flat_map h ts) ≡ true
    → is_empty (flat_map h us) ≡ true → is_empty (flat_map h (ts ++ us)) ≡ true
both_are_empty h ts us one two =
    joined_empty h ts us ∙ and_from (is_empty (flat_map h ts)) (is_empty (flat_map h us)) one two

heard_append : (ts us : List Told) → IsHeard ts → IsHeard us → IsHeard (ts ++ us)
heard_append ts us one two h =
    let parts = parts_empty told_items ts us h in both_are_empty apart ts us (one parts.0) (two parts.1)

quiet_append : (ts us : List Told) → IsQuiet ts → IsQuiet us → IsQuiet (ts ++ us)
quiet_append ts us one two h =
    let parts = parts_empty apart ts us h in both_are_empty told_items ts us (one parts.0) (two parts.1)

alike_heard : (ts : List Told) → AllAlike ts → IsHeard ts
alike_heard ts alike h = sym (all_alike ts alike) ∙ h

alike_quiet : (ts : List Told) → AllAlike ts → IsQuiet ts
alike_quiet ts alike h = all_alike ts alike ∙ h

abbrev ones : Side → Path → List Token → Option (List Token) → List Told
ones side path v w = map Told.one (leaf_change side path v w)

-- ** lists of texts

-- one that stands alone is written, and told
module _ (side : Side) (telling : is_moved side ≡ false) where
  alone_written : (text : List ℕ) (v : List Token) (vs : List (List Token))
      → is_empty (alone_texts side text v vs None) ≡ false
  alone_written text v [] = ap (λ m. is_empty (cond m [] (alone_item text side v ∷ []))) telling
  alone_written text v (x ∷ xs) =
      ap (λ m. is_empty (cond m [] (alone_item (text ++ codes "[]") side x ∷ []) ++ each_items side text xs)) telling

  alone_is_told : (path : Path) (v : List Token) → is_empty (leaf_change side path v None) ≡ false
  alone_is_told path v = change_empty side path v None ∙ telling

same_back : (v w : List Token) → is_shown_same v w ≡ true → is_shown_same w v ≡ true
same_back v w is =
    ap (λ t. is_text t (text_of v)) (sym (text_same (text_of v) (text_of w) is)) ∙ text_is (text_of v)

same_empty : (b : Bool) (o : Members) → is_empty (cond b [] (o ∷ [])) ≡ true → b ≡ true
same_empty true o is = refl
same_empty false o is = absurd cc

old_texts_heard : (path : Path) (text : List ℕ) (v : List Token) (vs : List (List Token)) (beside : Option Held)
    → is_empty (texts_items Moved text v vs beside) ≡ true → is_empty (texts_items Old text v vs beside) ≡ true
    → is_empty (leaf_change Old path v (leaf_in beside)) ≡ true
old_texts_heard path text v vs None moved is = absurd (cc (alone_written Old refl text v vs, is))
old_texts_heard path text v vs (Some (w, Forest.none)) moved is =
    change_empty Old path v (Some w) ∙ sym (items_empty Old text v (Some w)) ∙ is
old_texts_heard path text v vs (Some (w, Forest.passed)) moved is = absurd (cc (alone_written Old refl text v vs, is))
old_texts_heard path text v vs (Some (w, Forest.vlans runs)) moved is =
    absurd (cc (alone_written Old refl text v vs, is))
old_texts_heard path text v vs (Some (w, Forest.texts ws)) moved is =
    change_empty Old path v (Some w) ∙ same_empty (is_shown_same v w) (turned_item text v w) moved
old_texts_heard path text v vs (Some (w, Forest.tree a b c d)) moved is =
    absurd (cc (alone_written Old refl text v vs, is))

new_texts_heard : (path : Path) (text : List ℕ) (v : List Token) (vs : List (List Token)) (beside : Option Held)
    → is_empty (texts_items New text v vs beside) ≡ true → is_empty (leaf_change New path v (leaf_in beside)) ≡ true
new_texts_heard path text v vs None is = absurd (cc (alone_written New refl text v vs, is))
new_texts_heard path text v vs (Some (w, Forest.none)) is = refl
new_texts_heard path text v vs (Some (w, Forest.passed)) is = absurd (cc (alone_written New refl text v vs, is))
new_texts_heard path text v vs (Some (w, Forest.vlans runs)) is = absurd (cc (alone_written New refl text v vs, is))
new_texts_heard path text v vs (Some (w, Forest.texts ws)) is = refl
new_texts_heard path text v vs (Some (w, Forest.tree a b c d)) is =
    absurd (cc (alone_written New refl text v vs, is))

-- beside another such list both are shown as the same
abbrev AreSame : List Token → Option Held → Type 0
AreSame v None = Unit {0}
AreSame v (Some (w, Forest.none)) = Unit {0}
AreSame v (Some (w, Forest.passed)) = Unit {0}
AreSame v (Some (w, Forest.vlans runs)) = Unit {0}
AreSame v (Some (w, Forest.texts ws)) = is_shown_same v w ≡ true
AreSame v (Some (w, Forest.tree a b c d)) = Unit {0}

texts_quiet : (side : Side) → is_moved side ≡ false → (path : Path) (text : List ℕ) (v : List Token)
    (vs : List (List Token)) (beside : Option Held) → AreSame v beside
    → is_empty (leaf_change side path v (leaf_in beside)) ≡ true → is_empty (texts_items side text v vs beside) ≡ true
texts_quiet side telling path text v vs None same is = absurd (cc (alone_is_told side telling path v, is))
texts_quiet side telling path text v vs (Some (w, Forest.none)) same is =
    items_empty side text v (Some w) ∙ sym (change_empty side path v (Some w)) ∙ is
texts_quiet side telling path text v vs (Some (w, Forest.passed)) same is =
    absurd (cc (alone_is_told side telling path v, is))
texts_quiet side telling path text v vs (Some (w, Forest.vlans runs)) same is =
    absurd (cc (alone_is_told side telling path v, is))
texts_quiet side telling path text v vs (Some (w, Forest.texts ws)) same is =
    ap (λ b. is_empty (cond b [] (texts_by side text v vs w ws))) same
texts_quiet side telling path text v vs (Some (w, Forest.tree a b c d)) same is =
    absurd (cc (alone_is_told side telling path v, is))

-- what is told of the old one says so
old_same : (path : Path) (v : List Token) (beside : Option Held)
    → is_empty (leaf_change Old path v (leaf_in beside)) ≡ true → AreSame v beside
old_same path v None is = tt
old_same path v (Some (w, Forest.none)) is = tt
old_same path v (Some (w, Forest.passed)) is = tt
old_same path v (Some (w, Forest.vlans runs)) is = tt
old_same path v (Some (w, Forest.texts ws)) is = sym (change_empty Old path v (Some w)) ∙ is
old_same path v (Some (w, Forest.tree a b c d)) is = tt

one_empty : {X : Type 0} (xs : List X) → is_empty (xs ++ []) ≡ is_empty xs
one_empty xs = ap is_empty (append-nil xs)

-- ** where nothing is written

runs_alike : (side : Side) → is_moved side ≡ false → (path : Path) (f g : Forest) → AreMade f → AreMade g
    → AllAlike (runs_told side path (runs_inside f) (runs_inside g))
runs_alike side telling path f g h h_too = by (is_moved side)
  where
    by : (m : Bool) → AllAlike (cond m [] (map (Told.vlans side path) (pieces_of (runs_inside f) (runs_inside g))))
    by true = tt
    by false = pieces_alike side path (pieces_of (runs_inside f) (runs_inside g)) telling
        (pieces_high (runs_inside f) (runs_inside g) (runs_made f h) (runs_made g h_too))

list_empty : {X : Type 0} (h : Told → List X) (side : Side) → is_moved side ≡ false → (path : Path) (s : Step)
    (v : List Token) (i : Forest) (beside : Option Held)
    → is_empty (flat_map h (list_told side path s v i beside)) ≡ true
list_empty h side telling path s v i beside =
    ap (λ ts. is_empty (flat_map h ts)) (unmoved side telling path s v i beside)

old_member : (path : Path) (v : List Token) (i : Forest) (beside : Option Held)
    → (is_empty (flat_map told_items (told_by Moved path i (inside_in beside))) ≡ true
    → IsHeard (told_by Old path i (inside_in beside))) → (b : Bool)
    → is_empty (flat_map told_items (member_by Moved path v (cond b Forest.none i) (told_by Moved path i) beside))
    ≡ true → IsHeard (member_by Old path v (cond b Forest.none i) (told_by Old path i) beside)
old_member path v i beside inner true moved =
    alike_heard (ones Old path v (leaf_in beside)) (ones_alike (leaf_change Old path v (leaf_in beside)))
old_member path v Forest.none beside inner false moved =
    alike_heard (ones Old path v (leaf_in beside)) (ones_alike (leaf_change Old path v (leaf_in beside)))
old_member path v Forest.passed beside inner false moved = λ h. refl
old_member path v (Forest.vlans runs) beside inner false moved = inner moved
old_member path v (Forest.texts vs) beside inner false moved = λ h.
    one_empty (leaf_change Old path v (leaf_in beside))
    ∙ old_texts_heard path (path_text path) v vs beside
    (sym (one_empty (texts_items Moved (path_text path) v vs beside)) ∙ moved)
    (sym (one_empty (texts_items Old (path_text path) v vs beside)) ∙ h)
old_member path v (Forest.tree a b c d) beside inner false moved = inner moved

old_heard : (path : Path) (f g : Forest) → AreMade f → AreMade g
    → is_empty (flat_map told_items (told_by Moved path f g)) ≡ true → IsHeard (told_by Old path f g)
old_heard path Forest.none g h h_too moved = λ is. refl
old_heard path Forest.passed g h h_too moved = λ is. refl
old_heard path (Forest.vlans runs) g h h_too moved =
    alike_heard (told_by Old path (Forest.vlans runs) g) (runs_alike Old refl path (Forest.vlans runs) g h h_too)
old_heard path (Forest.texts vs) g h h_too moved = λ is. refl
old_heard path (Forest.tree s v i rest) g h h_too moved =
    let beside = find s g in
    let at = path ++ s ∷ [] in
    let one = member_by Old at v (cut s beside i) (told_by Old at i) beside in
    let one_moved = member_by Moved at v (cut s beside i) (told_by Moved at i) beside in
    let rest_moved = told_by Moved path rest g in
    let parts = parts_empty told_items (list_told Moved at s v i beside) (one_moved ++ rest_moved) moved in
    let both = parts_empty told_items one_moved (told_by Moved path rest g) parts.1 in
    heard_append (list_told Old at s v i beside) (one ++ told_by Old path rest g)
    (λ is. list_empty apart Old refl at s v i beside)
    (heard_append one (told_by Old path rest g)
    (old_member at v i beside (old_heard at i (inside_in beside) h.1 (found_made s g h_too))
    (is_label s && is_alone beside) both.0)
    (old_heard path rest g h.2 h_too both.1))

new_member : (path : Path) (v : List Token) (i : Forest) (beside : Option Held)
    → IsHeard (told_by New path i (inside_in beside)) → (b : Bool)
    → IsHeard (member_by New path v (cond b Forest.none i) (told_by New path i) beside)
new_member path v i beside inner true =
    alike_heard (ones New path v (leaf_in beside)) (ones_alike (leaf_change New path v (leaf_in beside)))
new_member path v Forest.none beside inner false =
    alike_heard (ones New path v (leaf_in beside)) (ones_alike (leaf_change New path v (leaf_in beside)))
new_member path v Forest.passed beside inner false = λ h. refl
new_member path v (Forest.vlans runs) beside inner false = inner
new_member path v (Forest.texts vs) beside inner false = λ h.
    one_empty (leaf_change New path v (leaf_in beside))
    ∙ new_texts_heard path (path_text path) v vs beside
    (sym (one_empty (texts_items New (path_text path) v vs beside)) ∙ h)
new_member path v (Forest.tree a b c d) beside inner false = inner

new_heard : (path : Path) (f g : Forest) → AreMade f → AreMade g → IsHeard (told_by New path f g)
new_heard path Forest.none g h h_too = λ is. refl
new_heard path Forest.passed g h h_too = λ is. refl
new_heard path (Forest.vlans runs) g h h_too =
    alike_heard (told_by New path (Forest.vlans runs) g) (runs_alike New refl path (Forest.vlans runs) g h h_too)
new_heard path (Forest.texts vs) g h h_too = λ is. refl
new_heard path (Forest.tree s v i rest) g h h_too =
    let beside = find s g in
    let at = path ++ s ∷ [] in
    let one = member_by New at v (cut s beside i) (told_by New at i) beside in
    heard_append (list_told New at s v i beside) (one ++ told_by New path rest g)
    (λ is. list_empty apart New refl at s v i beside)
    (heard_append one (told_by New path rest g)
    (new_member at v i beside (new_heard at i (inside_in beside) h.1 (found_made s g h_too))
    (is_label s && is_alone beside))
    (new_heard path rest g h.2 h_too))

-- ** where nothing is told

-- each member, by what is known of texts beside texts
module _ (side : Side) (telling : is_moved side ≡ false) where
  member_quiet : (path : Path) (v : List Token) (i : Forest) (beside : Option Held)
      → IsQuiet (told_by side path i (inside_in beside))
      → ((vs : List (List Token)) → i ≡ Forest.texts vs
      → is_empty (leaf_change side path v (leaf_in beside)) ≡ true → AreSame v beside) → (b : Bool)
      → IsQuiet (member_by side path v (cond b Forest.none i) (told_by side path i) beside)
  member_quiet path v i beside inner same true =
      alike_quiet (ones side path v (leaf_in beside)) (ones_alike (leaf_change side path v (leaf_in beside)))
  member_quiet path v Forest.none beside inner same false =
      alike_quiet (ones side path v (leaf_in beside)) (ones_alike (leaf_change side path v (leaf_in beside)))
  member_quiet path v Forest.passed beside inner same false = λ h. refl
  member_quiet path v (Forest.vlans runs) beside inner same false = inner
  member_quiet path v (Forest.texts vs) beside inner same false = λ h.
      let is = sym (one_empty (leaf_change side path v (leaf_in beside))) ∙ h in
      one_empty (texts_items side (path_text path) v vs beside)
      ∙ texts_quiet side telling path (path_text path) v vs beside (same vs refl is) is
  member_quiet path v (Forest.tree a b c d) beside inner same false = inner

old_quiet : (path : Path) (f g : Forest) → AreMade f → AreMade g → IsQuiet (told_by Old path f g)
old_quiet path Forest.none g h h_too = λ is. refl
old_quiet path Forest.passed g h h_too = λ is. refl
old_quiet path (Forest.vlans runs) g h h_too =
    alike_quiet (told_by Old path (Forest.vlans runs) g) (runs_alike Old refl path (Forest.vlans runs) g h h_too)
old_quiet path (Forest.texts vs) g h h_too = λ is. refl
old_quiet path (Forest.tree s v i rest) g h h_too =
    let beside = find s g in
    let at = path ++ s ∷ [] in
    let one = member_by Old at v (cut s beside i) (told_by Old at i) beside in
    quiet_append (list_told Old at s v i beside) (one ++ told_by Old path rest g)
    (λ is. list_empty told_items Old refl at s v i beside)
    (quiet_append one (told_by Old path rest g)
    (member_quiet Old refl at v i beside (old_quiet at i (inside_in beside) h.1 (found_made s g h_too))
    (λ vs is. old_same at v beside) (is_label s && is_alone beside))
    (old_quiet path rest g h.2 h_too))

-- what is told of an old member beside a new one, where nothing is told of all
abbrev OldIsSilent : Path → Forest → Forest → Type 0
OldIsSilent path f g = is_empty (flat_map apart (told_by Old path f g)) ≡ true

abbrev MemberIsSilent : Path → Step → Held → Held → Type 0
MemberIsSilent at s own held =
    is_empty (flat_map apart (member_by Old at own.0 own.1 (told_by Old at own.1) (Some held))) ≡ true

cut_both : (b : Bool) (i : Forest) → cond (b && false) Forest.none i ≡ i
cut_both true i = refl
cut_both false i = refl

-- of the first one, or of one behind it
found_silent : (path : Path) (t : Step) (v : List Token) (i rest g : Forest) (s : Step) (own held : Held)
    → is_empty (flat_map apart (member_by Old (path ++ t ∷ []) v (cut t (find t g) i)
    (told_by Old (path ++ t ∷ []) i) (find t g))) ≡ true
    → (find s rest ≡ Some own → MemberIsSilent (path ++ s ∷ []) s own held)
    → find s g ≡ Some held → (b : Bool) → is_step t s ≡ b → cond b (Some (v, i)) (find s rest) ≡ Some own
    → MemberIsSilent (path ++ s ∷ []) s own held
found_silent path t v i rest g s own held told later found true here is =
    let at = path ++ t ∷ [] in
    let step : t ≡ s = step_same t s here in
    let owned : (v, i) ≡ own = cc in
    let beside : find t g ≡ Some held = ap (λ u. find u g) step ∙ found in
    let told_here : is_empty (flat_map apart (member_by Old at v (cut t (Some held) i) (told_by Old at i)
    (Some held))) ≡ true =
    ap (λ o. is_empty (flat_map apart (member_by Old at v (cut t o i) (told_by Old at i) o))) (sym beside) ∙ told in
    subst (λ u. MemberIsSilent (path ++ u ∷ []) u own held) step
    (subst (λ (o : Held). MemberIsSilent at t o held) owned
    (ap (λ j. is_empty (flat_map apart (member_by Old at v j (told_by Old at i) (Some held))))
    (sym (cut_both (is_label t) i)) ∙ told_here))
found_silent path t v i rest g s own held told later found false here is = later is

silent_at : (path : Path) (f g : Forest) → OldIsSilent path f g → (s : Step) (own held : Held)
    → find s f ≡ Some own → find s g ≡ Some held → MemberIsSilent (path ++ s ∷ []) s own held
silent_at path Forest.none g silent s own held found found_too = absurd cc
silent_at path Forest.passed g silent s own held found found_too = absurd cc
silent_at path (Forest.vlans runs) g silent s own held found found_too = absurd cc
silent_at path (Forest.texts vs) g silent s own held found found_too = absurd cc
silent_at path (Forest.tree t v i rest) g silent s own held found found_too =
    let at = path ++ t ∷ [] in
    let one = member_by Old at v (cut t (find t g) i) (told_by Old at i) (find t g) in
    let both = parts_empty apart one (told_by Old path rest g)
    (parts_empty apart (list_told Old at t v i (find t g)) (one ++ told_by Old path rest g) silent).1 in
    found_silent path t v i rest g s own held both.0
    (λ is. silent_at path rest g both.1 s own held is found_too) found_too (is_step t s) refl found

-- and of those inside
silent_inside : (at : Path) (s : Step) (v : List Token) (i : Forest) (held : Held) → MemberIsSilent at s (v, i) held
    → OldIsSilent at i held.1
silent_inside at s v Forest.none held silent = refl
silent_inside at s v Forest.passed held silent = refl
silent_inside at s v (Forest.vlans runs) held silent = silent
silent_inside at s v (Forest.texts vs) held silent = refl
silent_inside at s v (Forest.tree a b c d) held silent = silent

-- texts of the new one, beside those of the old one
new_same : (at : Path) (s : Step) (v w : List Token) (i : Forest) (ws : List (List Token))
    → MemberIsSilent at s (v, i) (w, Forest.texts ws) → AreSame w (Some (v, i))
new_same at s v w Forest.none ws silent = tt
new_same at s v w Forest.passed ws silent = tt
new_same at s v w (Forest.vlans runs) ws silent = tt
new_same at s v w (Forest.texts vs) ws silent =
    same_back v w (sym (change_empty Old at v (Some w)) ∙ sym (one_empty (leaf_change Old at v (Some w))) ∙ silent)
new_same at s v w (Forest.tree a b c d) ws silent = tt

-- what is known of a new member beside an old one, if there is one
at_beside : (path : Path) (s : Step) (w : List Token) (j f all : Forest) → OldIsSilent path f all
    → find s all ≡ Some (w, j) → (beside : Option Held) → find s f ≡ beside
    → OldIsSilent (path ++ s ∷ []) (inside_in beside) j
    × ((ws : List (List Token)) → j ≡ Forest.texts ws → AreSame w beside)
at_beside path s w j f all silent here None found = (refl, λ ws is. tt)
at_beside path s w j f all silent here (Some own) found =
    let at = path ++ s ∷ [] in
    let one : MemberIsSilent at s own (w, j) = silent_at path f all silent s own (w, j) found here in (
      silent_inside at s own.0 own.1 (w, j) one,
      λ ws is. new_same at s own.0 w own.1 ws (subst (λ k. MemberIsSilent at s own (w, k)) is one),
    )

new_quiet : (path : Path) (g f all : Forest) → AreApart g → AreMade g → AreMade f → Has g all
    → OldIsSilent path f all → IsQuiet (told_by New path g f)
new_quiet path Forest.none f all apart made_is made_too has silent = λ is. refl
new_quiet path Forest.passed f all apart made_is made_too has silent = λ is. refl
new_quiet path (Forest.vlans runs) f all apart made_is made_too has silent =
    alike_quiet (told_by New path (Forest.vlans runs) f)
    (runs_alike New refl path (Forest.vlans runs) f made_is made_too)
new_quiet path (Forest.texts vs) f all apart made_is made_too has silent = λ is. refl
new_quiet path (Forest.tree s w j rest) f all apart made_is made_too has silent =
    let at = path ++ s ∷ [] in
    let beside = find s f in
    let one = member_by New at w (cut s beside j) (told_by New at j) beside in
    let inside : OldIsSilent at (inside_in beside) j
    × ((ws : List (List Token)) → j ≡ Forest.texts ws → AreSame w beside) =
    at_beside path s w j f all silent (has s (w, j) (found_first s w j rest)) beside refl in
    quiet_append (list_told New at s w j beside) (one ++ told_by New path rest f)
    (λ is. list_empty told_items New refl at s w j beside)
    (quiet_append one (told_by New path rest f)
    (member_quiet New refl at w j beside
    (new_quiet at j (inside_in beside) j apart.1 made_is.1 (found_made s f made_too) (λ t held h. h) inside.0)
    (λ ws is told. inside.1 ws is) (is_label s && is_alone beside))
    (new_quiet path rest f all apart.2 made_is.2 made_too (rest_has s w j rest all apart.0 has) silent))

-- ** of two messages

empty_is : {X : Type 0} (xs : List X) → is_empty xs ≡ true → xs ≡ []
empty_is [] is = refl
empty_is (x ∷ xs) is = absurd cc

pub written_is : WrittenIsTold
written_is = record {
  silent = λ is_state cx other old new none.
      let f = message_made is_state cx old in
      let g = message_made is_state other new in
      let told = parts_empty apart (told_by Old [] f g) (told_by New [] g f)
      (ap is_empty (ranges_are is_state cx other old new ∙ none)) in
      empty_is (flat_map told_items (told_by Old [] f g ++ told_by New [] g f))
      (both_are_empty told_items (told_by Old [] f g) (told_by New [] g f)
      (old_quiet [] f g (made is_state cx old) (made is_state other new) told.0)
      (new_quiet [] g f g (made_apart is_state other new) (made is_state other new) (made is_state cx old)
      (λ t held h. h) told.0 told.1));
  moved = λ is_state cx other old new none none_moved.
      let f = message_made is_state cx old in
      let g = message_made is_state other new in
      let written = parts_empty told_items (told_by Old [] f g) (told_by New [] g f) (ap is_empty none) in
      sym (ranges_are is_state cx other old new)
      ∙ empty_is (flat_map apart (told_by Old [] f g ++ told_by New [] g f))
      (both_are_empty apart (told_by Old [] f g) (told_by New [] g f)
      (old_heard [] f g (made is_state cx old) (made is_state other new) (ap is_empty none_moved) written.0)
      (new_heard [] g f (made is_state other new) (made is_state cx old) written.1));
}
