-- One frame further.
use Rattle.std.proofs.Common.{◌≡◌, ℕ, ◌≤◌, ◌||◌, set, ◌+◌, ◌-◌, ◌*◌, ◌<◌, List, [], ◌∷◌, length}
use Rattle.std.proofs.Common.{sym, ap, ◌∙◌, arith}
use Rattle.std.specs.Prelude.{Bool, Some, None, Ok, slice_index, not, ◌==◌}
use Rattle.std.specs.List.{flat_map, list_any}
use Rattle.nla_wire.specs.Frames.{Frame}
use Rattle.nla_wire.specs.Items.{Item as Read, frame_count}
use Rattle.shown.specs.Drafts.{Draft, with_members, object_of}
use Rattle.frame_shown.specs.Items.{number_in, count_of, last_ones, earlier_ones, kept_ones, objects, shown_as}
use Rattle.frame_shown.specs.Items.{are_any, is_value}
use Rattle.frame_shown.specs.Frames.{frame_item, items_in}
use Rattle.frame_shown.specs.Values.{Nesting}
use Rattle.frame_shown.specs.declared.form.Around.{Around}
use Rattle.frame_shown.specs.declared.form.List.{List as Shape}
use Rattle.frame_shown.proofs.Items.{one_more, one_less, count_first, few_of, none_comes, some_comes, last_shown}
use Rattle.frame_shown.proofs.Items.{last_passed}
use Rattle.frame_shown.proofs.Items.{earlier_shown, earlier_passed, on_next, repeats, kept_repeats}
use Rattle.frame_shown.proofs.Items.{any_kept_then, any_value_then, named_any, named_value}
use Rattle.frame_shown.proofs.Items.{count_passed, earlier_kept, last_kept, named_repeats}

module _ (nest : Nesting) (cx : Around) (list : Shape) (f : Frame) (it next : List Read) (here : it ≡ Ok f ∷ next)
  where
    pub counted : (all : List Read) (come : List ℕ) (m : ℕ) → length come ≡ 256 → m < 256
        → number_in (frame_item nest cx list f) ≡ Some m
        → ((n : ℕ) → n < 256
        → slice_index come n + count_of n (items_in nest cx list it) ≡ count_of n (items_in nest cx list all))
        → (n : ℕ) → n < 256
        → slice_index (set come m (slice_index come m + 1)) n + count_of n (items_in nest cx list next)
        ≡ count_of n (items_in nest cx list all)
    counted all come m size small is told =
        one_more (frame_item nest cx list f) m come (items_in nest cx list next) (items_in nest cx list all) size
        small is
        (λ n l. sym (ap (λ xs. slice_index come n + count_of n (items_in nest cx list xs)) here) ∙ told n l)

    -- there is room for one more
    pub countable : (all : List Read) (k m len : ℕ) → number_in (frame_item nest cx list f) ≡ Some m
        → k + count_of m (items_in nest cx list it) ≡ count_of m (items_in nest cx list all)
        → 4 * frame_count all ≤ len → k + 1 ≤ len
    countable all k m len is told few =
        let first : count_of m (items_in nest cx list it) ≡ 1 + count_of m (items_in nest cx list next) =
        ap (λ xs. count_of m (items_in nest cx list xs)) here
        ∙ count_first (frame_item nest cx list f) m (items_in nest cx list next) is in
        let most : count_of m (items_in nest cx list all) ≤ frame_count all = few_of nest cx list m all in
        omega (arith, first, most, told, few)

    pub one_left : (left : List ℕ) (m : ℕ) → m < 256 → number_in (frame_item nest cx list f) ≡ Some m
        → ((n : ℕ) → n < 256 → slice_index left n ≡ count_of n (items_in nest cx list it)) → 1 ≤ slice_index left m
    one_left left m small is told =
        let first : slice_index left m ≡ 1 + count_of m (items_in nest cx list next) =
        told m small ∙ ap (λ xs. count_of m (items_in nest cx list xs)) here
        ∙ count_first (frame_item nest cx list f) m (items_in nest cx list next) is in
        omega (arith, first)

    pub lessened : (left : List ℕ) (m : ℕ) → length left ≡ 256 → m < 256
        → number_in (frame_item nest cx list f) ≡ Some m
        → ((n : ℕ) → n < 256 → slice_index left n ≡ count_of n (items_in nest cx list it))
        → (n : ℕ) → n < 256
        → slice_index (set left m (slice_index left m - 1)) n ≡ count_of n (items_in nest cx list next)
    lessened left m size small is told =
        one_less (frame_item nest cx list f) m left (items_in nest cx list next) size small is
        (λ n l. told n l ∙ ap (λ xs. count_of n (items_in nest cx list xs)) here)

    -- the last of its number
    pub last_next : (m : ℕ) (page new all : Draft) → number_in (frame_item nest cx list f) ≡ Some m
        → count_of m (items_in nest cx list next) ≡ 0 → with_members (last_ones (items_in nest cx list it)) page ≡ all
        → new ≡ with_members (shown_as (frame_item nest cx list f)) page
        → with_members (last_ones (items_in nest cx list next)) new ≡ all
    last_next m page new all is none was then =
        on_next (last_ones (items_in nest cx list it)) (shown_as (frame_item nest cx list f))
        (last_ones (items_in nest cx list next)) page new all
        (ap (λ xs. last_ones (items_in nest cx list xs)) here
        ∙ last_shown (frame_item nest cx list f) m (items_in nest cx list next) is (none_comes m _ none)) was then

    pub last_not_yet : (m : ℕ) (page all : Draft) → number_in (frame_item nest cx list f) ≡ Some m
        → (count_of m (items_in nest cx list next) ≡ 0 → ⊥)
        → with_members (last_ones (items_in nest cx list it)) page ≡ all
        → with_members (last_ones (items_in nest cx list next)) page ≡ all
    last_not_yet m page all is some was =
        sym (ap (λ ms. with_members ms page) (ap (λ xs. last_ones (items_in nest cx list xs)) here
        ∙ last_passed (frame_item nest cx list f) m (items_in nest cx list next) is (some_comes m _ some))) ∙ was

    -- one after which another of its number stands
    pub earlier_next : (m : ℕ) (page new all : Draft) → number_in (frame_item nest cx list f) ≡ Some m
        → (count_of m (items_in nest cx list next) ≡ 0 → ⊥)
        → with_members (objects (earlier_ones (items_in nest cx list it))) page ≡ all
        → new ≡ with_members (([], object_of (shown_as (frame_item nest cx list f))) ∷ []) page
        → with_members (objects (earlier_ones (items_in nest cx list next))) new ≡ all
    earlier_next m page new all is some was then =
        on_next (objects (earlier_ones (items_in nest cx list it)))
        (([], object_of (shown_as (frame_item nest cx list f))) ∷ [])
        (objects (earlier_ones (items_in nest cx list next))) page new all
        (ap (λ xs. objects (earlier_ones (items_in nest cx list xs))) here
        ∙ ap objects (earlier_shown (frame_item nest cx list f) m (items_in nest cx list next) is (some_comes m _
        some)))
        was then

    pub not_earlier : (m : ℕ) (page all : Draft) → number_in (frame_item nest cx list f) ≡ Some m
        → count_of m (items_in nest cx list next) ≡ 0
        → with_members (objects (earlier_ones (items_in nest cx list it))) page ≡ all
        → with_members (objects (earlier_ones (items_in nest cx list next))) page ≡ all
    not_earlier m page all is none was =
        sym (ap (λ ms. with_members ms page) (ap (λ xs. objects (earlier_ones (items_in nest cx list xs))) here
        ∙ ap objects (earlier_passed (frame_item nest cx list f) m (items_in nest cx list next) is (none_comes m _
        none))))
        ∙ was

    -- what is known of all of them
    pub named_looked : (seen : List ℕ) (m : ℕ) (before all : Bool) → length seen ≡ 256 → m < 256
        → number_in (frame_item nest cx list f) ≡ Some m
        → (repeats seen (items_in nest cx list it) || before) ≡ all
        → (repeats (set seen m 1) (items_in nest cx list next) || (before || not (slice_index seen m == 0))) ≡ all
    named_looked seen m before all size small is was =
        let within : m < length seen = omega (arith, size, small) in
        named_repeats (frame_item nest cx list f) m seen (items_in nest cx list next) before within is
        ∙ sym (ap (λ xs. repeats seen (items_in nest cx list xs) || before) here) ∙ was

    pub named_kept : (m : ℕ) (before all : Bool) → number_in (frame_item nest cx list f) ≡ Some m
        → (are_any (kept_ones (items_in nest cx list it)) || before) ≡ all
        → (are_any (kept_ones (items_in nest cx list next)) || before) ≡ all
    named_kept m before all is was =
        ap (λ b. b || before) (sym (named_any (frame_item nest cx list f) m (items_in nest cx list next) is))
        ∙ sym (ap (λ xs. are_any (kept_ones (items_in nest cx list xs)) || before) here) ∙ was

    pub kept_looked : (seen : List ℕ) (before all : Bool) → number_in (frame_item nest cx list f) ≡ None
        → (repeats seen (items_in nest cx list it) || before) ≡ all
        → (repeats seen (items_in nest cx list next) || before) ≡ all
    kept_looked seen before all is was =
        ap (λ b. b || before) (kept_repeats (frame_item nest cx list f) seen (items_in nest cx list next) is)
        ∙ sym (ap (λ xs. repeats seen (items_in nest cx list xs) || before) here) ∙ was

    pub named_valued : (m : ℕ) (before all : Bool) → number_in (frame_item nest cx list f) ≡ Some m
        → (list_any is_value (items_in nest cx list it) || before) ≡ all
        → (list_any is_value (items_in nest cx list next) || before) ≡ all
    named_valued m before all is was =
        ap (λ b. b || before) (sym (named_value (frame_item nest cx list f) m (items_in nest cx list next) is))
        ∙ sym (ap (λ xs. list_any is_value (items_in nest cx list xs) || before) here) ∙ was

    -- whether one of them is kept
    pub any_kept_next : (before kept all : Bool) → kept ≡ are_any (kept_ones (frame_item nest cx list f ∷ []))
        → (are_any (kept_ones (items_in nest cx list it)) || before) ≡ all
        → (are_any (kept_ones (items_in nest cx list next)) || (before || kept)) ≡ all
    any_kept_next before kept all is was =
        ap (λ b. are_any (kept_ones (items_in nest cx list next)) || (before || b)) is
        ∙ any_kept_then (frame_item nest cx list f) (items_in nest cx list next) before
        ∙ sym (ap (λ xs. are_any (kept_ones (items_in nest cx list xs)) || before) here) ∙ was

    -- whether one of them is a value of a list
    pub any_value_next : (before value all : Bool) → value ≡ is_value (frame_item nest cx list f)
        → (list_any is_value (items_in nest cx list it) || before) ≡ all
        → (list_any is_value (items_in nest cx list next) || (before || value)) ≡ all
    any_value_next before value all is was =
        ap (λ b. list_any is_value (items_in nest cx list next) || (before || b)) is
        ∙ any_value_then (frame_item nest cx list f) (items_in nest cx list next) before
        ∙ sym (ap (λ xs. list_any is_value (items_in nest cx list xs) || before) here) ∙ was

    -- one that is shown
    pub shown_next : (page new all : Draft)
        → with_members (flat_map shown_as (items_in nest cx list it)) page ≡ all
        → new ≡ with_members (shown_as (frame_item nest cx list f)) page
        → with_members (flat_map shown_as (items_in nest cx list next)) new ≡ all
    shown_next page new all was then =
        on_next (flat_map shown_as (items_in nest cx list it)) (shown_as (frame_item nest cx list f))
        (flat_map shown_as (items_in nest cx list next)) page new all
        (ap (λ xs. flat_map shown_as (items_in nest cx list xs)) here) was then

    -- one that is kept
    pub left_over : (left : List ℕ) → number_in (frame_item nest cx list f) ≡ None
        → ((n : ℕ) → n < 256 → slice_index left n ≡ count_of n (items_in nest cx list it))
        → (n : ℕ) → n < 256 → slice_index left n ≡ count_of n (items_in nest cx list next)
    left_over left is told n l =
        told n l ∙ ap (λ xs. count_of n (items_in nest cx list xs)) here
        ∙ count_passed (frame_item nest cx list f) n (items_in nest cx list next) is

    pub last_over : (page all : Draft) → number_in (frame_item nest cx list f) ≡ None
        → with_members (last_ones (items_in nest cx list it)) page ≡ all
        → with_members (last_ones (items_in nest cx list next)) page ≡ all
    last_over page all is was =
        sym (ap (λ ms. with_members ms page) (ap (λ xs. last_ones (items_in nest cx list xs)) here
        ∙ last_kept (frame_item nest cx list f) (items_in nest cx list next) is)) ∙ was

    pub earlier_over : (page all : Draft) → number_in (frame_item nest cx list f) ≡ None
        → with_members (objects (earlier_ones (items_in nest cx list it))) page ≡ all
        → with_members (objects (earlier_ones (items_in nest cx list next))) page ≡ all
    earlier_over page all is was =
        sym (ap (λ ms. with_members ms page) (ap (λ xs. objects (earlier_ones (items_in nest cx list xs))) here
        ∙ ap objects (earlier_kept (frame_item nest cx list f) (items_in nest cx list next) is))) ∙ was
