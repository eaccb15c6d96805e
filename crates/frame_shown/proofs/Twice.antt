-- Where no number stands twice, no attribute comes again.
use Rattle.std.proofs.Common.{◌≡◌, ℕ, ◌||◌, ◌<◌, List, [], ◌∷◌, refl, sym, ap, ◌∙◌, length, set, arith}
use Rattle.std.specs.Prelude.{Bool, true, false, Ok, Some, cond, map, nat_lt, not, replicate, slice_index, ◌==◌}
use Rattle.std.proofs.lemmas.Bool.{or_from, or_parts}
use Rattle.std.proofs.Math.Bool.{or-false}
use Rattle.json.specs.Token.{Token}
use Rattle.nla_wire.specs.Frames.{Frame, number}
use Rattle.nla_wire.specs.Items.{Item as Read}
use Rattle.link_info.specs.Tables.{frames_in}
use Rattle.shown.specs.Drafts.{Members}
use Rattle.frame_shown.specs.Items.{Item, are_any, comes_in, earlier_ones, has_number, number_in}
use Rattle.frame_shown.specs.Frames.{are_twice, by_number, frame_item, items_in, way_shown}
use Rattle.frame_shown.specs.Tables.{Known, is_each, is_kept, kind_shown, listed_row, no_row, row_in}
use Rattle.frame_shown.specs.Values.{Nesting}
use Rattle.frame_shown.specs.declared.form.Around.{Around}
use Rattle.frame_shown.specs.declared.form.List.{List as Shape}
use Rattle.frame_shown.proofs.Items.{any_earlier, named_repeats, none_repeats, repeats}

-- only a number below 256 has a name
small_by : (b : Bool) (row : Known) (p : List ℕ) → is_kept (cond b row no_row).1 p ≡ false → b ≡ true
small_by true row p named = refl
small_by false row p named = absurd cc

-- one that has a name has it under its number
has_by : (kept each small : Bool) (n m : ℕ) (ms : Members) (tokens : List Token) (name : List ℕ) (kind : ℕ)
    (p : List ℕ)
    → (kept ≡ false → small ≡ true)
    → has_number n (cond small (Item.named m []) (Item.as_is [] 0 [])) ≡ false
    → has_number n (cond kept (Item.as_is name kind p) (cond each (Item.each m tokens) (Item.named m ms))) ≡ false
has_by true each small n m ms tokens name kind p fits none = refl
has_by false true small n m ms tokens name kind p fits none = refl
has_by false false true n m ms tokens name kind p fits none = none
has_by false false false n m ms tokens name kind p fits none =
    let no : false ≡ true = fits refl in
    absurd cc

once_by : (kept each small : Bool) (m : ℕ) (ms : Members) (tokens : List Token) (name : List ℕ) (kind : ℕ)
    (p : List ℕ) (rest its : List Item)
    → (kept ≡ false → small ≡ true)
    → (comes_in m rest ≡ false → comes_in m its ≡ false)
    → (are_any (earlier_ones rest) ≡ false → are_any (earlier_ones its) ≡ false)
    → are_any (earlier_ones (cond small (Item.named m []) (Item.as_is [] 0 []) ∷ rest)) ≡ false
    → are_any (earlier_ones (cond kept (Item.as_is name kind p)
    (cond each (Item.each m tokens) (Item.named m ms)) ∷ its)) ≡ false
once_by true each true m ms tokens name kind p rest its fits comes more none =
    more (or_parts (comes_in m rest) (are_any (earlier_ones rest)) (sym (any_earlier m [] rest) ∙ none)).1
once_by true each false m ms tokens name kind p rest its fits comes more none = more none
once_by false true true m ms tokens name kind p rest its fits comes more none =
    more (or_parts (comes_in m rest) (are_any (earlier_ones rest)) (sym (any_earlier m [] rest) ∙ none)).1
once_by false true false m ms tokens name kind p rest its fits comes more none = more none
once_by false false true m ms tokens name kind p rest its fits comes more none =
    let parts = or_parts (comes_in m rest) (are_any (earlier_ones rest)) (sym (any_earlier m [] rest) ∙ none) in
    any_earlier m ms its ∙ or_from _ _ (comes parts.0) (more parts.1)
once_by false false false m ms tokens name kind p rest its fits comes more none =
    let no : false ≡ true = fits refl in
    absurd cc

module _ (nest : Nesting) (cx : Around) (list : Shape) where
  fits : (f : Frame) → is_kept (row_in cx list (number f)).1 f.payload ≡ false → nat_lt (number f) 256 ≡ true
  fits f named = small_by (nat_lt (number f) 256) (listed_row cx list (number f)) f.payload named

  none_comes : (n : ℕ) (fs : List Frame) → comes_in n (map by_number fs) ≡ false
      → comes_in n (map (frame_item nest cx list) fs) ≡ false
  none_comes n [] none = refl
  none_comes n (f ∷ fs) none =
      let parts = or_parts (has_number n (by_number f)) (comes_in n (map by_number fs)) none in
      let row = row_in cx list (number f) in
      or_from _ _ (has_by (is_kept row.1 f.payload) (is_each row.1) (nat_lt (number f) 256) n (number f)
      ((row.0, way_shown nest cx row.1 f.payload) ∷ []) (way_shown nest cx row.1 f.payload) row.0
      (kind_shown row.1 f.kind) f.payload (fits f) parts.0)
      (none_comes n fs parts.1)

  none_again : (fs : List Frame) → are_any (earlier_ones (map by_number fs)) ≡ false
      → are_any (earlier_ones (map (frame_item nest cx list) fs)) ≡ false
  none_again [] none = refl
  none_again (f ∷ fs) none =
      let row = row_in cx list (number f) in
      once_by (is_kept row.1 f.payload) (is_each row.1) (nat_lt (number f) 256) (number f)
      ((row.0, way_shown nest cx row.1 f.payload) ∷ []) (way_shown nest cx row.1 f.payload) row.0
      (kind_shown row.1 f.kind) f.payload
      (map by_number fs) (map (frame_item nest cx list) fs) (fits f) (none_comes (number f) fs) (none_again fs)
      none

  pub none_twice : (xs : List Read) → are_twice xs ≡ false → are_any (earlier_ones (items_in nest cx list xs)) ≡ false
  none_twice xs none = none_again (frames_in xs) none

-- ** one frame further

none_first : (items : List Item) → repeats (replicate 256 0) items ≡ are_any (earlier_ones items)
none_first items = sym (or-false (repeats (replicate 256 0) items)) ∙ none_repeats items

pub first_looked : (xs : List Read) → repeats (replicate 256 0) (map by_number (frames_in xs)) ≡ are_twice xs
first_looked xs = none_first (map by_number (frames_in xs))

module _ (f : Frame) (it next : List Read) (here : it ≡ Ok f ∷ next) (seen : List ℕ) where
  abbrev pub numbered : List Read → List Item
  numbered xs = map by_number (frames_in xs)

  -- one that comes first
  pub first_of_its : (all : Bool) (m : ℕ) → length seen ≡ 256 → m < 256 → number_in (by_number f) ≡ Some m
      → (slice_index seen m == 0) ≡ true → repeats seen (numbered it) ≡ all
      → repeats (set seen m 1) (numbered next) ≡ all
  first_of_its all m size small is new was =
      let within : m < length seen = omega (arith, size, small) in
      sym (or-false (repeats (set seen m 1) (numbered next)))
      ∙ ap (λ b. repeats (set seen m 1) (numbered next) || (false || not b)) (sym new)
      ∙ named_repeats (by_number f) m seen (numbered next) false within is
      ∙ or-false (repeats seen (by_number f ∷ numbered next))
      ∙ sym (ap (λ xs. repeats seen (numbered xs)) here) ∙ was
