-- What two messages tell.
use Rattle.std.proofs.Common.{◌≡◌, ℕ, Bool, true, false, List, [], ◌++◌, refl, sym, ap, ◌∙◌, subst}
use Rattle.std.specs.Prelude.{◌&&◌, ◌==◌, codes, slice_index}
use Rattle.std.proofs.Common.{eqb-true}
use Rattle.nla_wire.specs.Frames.{Frame}
use Rattle.nla_wire.specs.Items.{items}
use Rattle.nla_wire.proofs.Items.{items_nil}
use Rattle.link_info.specs.Rows.{AreAllRows}
use Rattle.link_info.specs.Tables.{frames_in}
use Rattle.shown.specs.Drafts.{Draft, Members, with_members}
use Rattle.frame_shown.specs.Frames.{levels}
use Rattle.frame_shown.specs.Items.{objects}
use Rattle.frame_shown.specs.Messages.{address_len, header_members, with_address_len}
use Rattle.frame_shown.specs.declared.form.Around.{Around}
use Rattle.frame_shown.specs.declared.form.List.TheVariants as Shapes
use Rattle.frame_diff.specs.Forests.{Member, forest, left_of}
use Rattle.frame_diff.specs.Items.{items_told}
use Rattle.frame_diff.specs.Members.{Parts, Reading, attributes_in, fields, members_in, message_made}
use Rattle.frame_diff.specs.Members.{is_some, list_members, message_members, named, reading, refused_in}
use Rattle.frame_diff.specs.Members.{refused_step, unless_none}
use Rattle.frame_diff.specs.Walked.{HasNames}
use Rattle.frame_diff.specs.declared.side.Side.{Side}
use Rattle.frame_diff.specs.declared.side.Side.TheVariants.{Old, New, Moved}
use Rattle.frame_diff.proofs.Entries.{both_told}
use Rattle.frame_diff.proofs.Inside.{same_written}
use Rattle.frame_diff.proofs.Items.{both_are, items_are}
use Rattle.frame_diff.proofs.Names.{names_apart}
use Rattle.frame_diff.proofs.Parts.{NoneComes, both_lack, both_parts, lacks_both, unless_told}
use Rattle.frame_diff.proofs.Sorts.{AreOf, members_sort, named_sort, refused_sort, sorts_apart}
use Rattle.std.specs.List.{flat_map}
use Rattle.frame_diff.specs.Laws.{messages_by, messages_moved}
use Rattle.frame_diff.specs.Members.{message_made}
use Rattle.frame_diff.specs.Ranges.{told_items}
use Rattle.frame_diff.proofs.Classes.{above_runs}

-- ** one beside the other

module _ (is_state : Bool) (cx theirs : Around) (side : Side) (own others : Parts) where
  abbrev frames_of : Parts → List Frame
  frames_of m = frames_in (items m.attributes)

  abbrev reading_of : Around → Parts → Reading
  reading_of around m = reading 5 is_state (with_address_len around (address_len (frames_of m)))

  abbrev attributes_of : Around → Parts → List Member
  attributes_of around m = attributes_in is_state around (slice_index m.header 0) m.attributes

  attributes_sort : (around : Around) (m : Parts) → AreOf 0 (attributes_of around m)
  attributes_sort around m = members_sort (reading_of around m) (Shapes.Message (slice_index m.header 0)) (frames_of m)

  lists_told : items_told side [] (forest (attributes_of cx own ++ refused_in is_state cx own.refused))
      (forest (attributes_of theirs others ++ refused_in is_state theirs others.refused))
      ≡ items_told side [] (forest (attributes_of cx own)) (forest (attributes_of theirs others))
      ++ items_told side [] (forest (refused_in is_state cx own.refused))
      (forest (refused_in is_state theirs others.refused))
  lists_told =
      let a = attributes_of cx own in
      let b = attributes_of theirs others in
      let r = refused_in is_state cx own.refused in
      let s = refused_in is_state theirs others.refused in
      both_parts side [] a r b s
      (sorts_apart 0 5 refl a r (attributes_sort cx own) (refused_sort is_state cx own.refused))
      (sorts_apart 0 5 refl a s (attributes_sort cx own) (refused_sort is_state theirs others.refused))
      (sorts_apart 5 0 refl r b (refused_sort is_state cx own.refused) (attributes_sort theirs others))

  lists_lack : (around : Around) (m : Parts) (ms : Members)
      → NoneComes (named ms) (attributes_of around m ++ refused_in is_state around m.refused)
  lists_lack around m ms =
      lacks_both (named ms) (attributes_of around m) (refused_in is_state around m.refused)
      (sorts_apart 1 0 refl (named ms) (attributes_of around m) (named_sort ms) (attributes_sort around m))
      (sorts_apart 1 5 refl (named ms) (refused_in is_state around m.refused) (named_sort ms)
      (refused_sort is_state around m.refused))

  fields_lack : (ms : Members)
      → NoneComes (attributes_of cx own ++ refused_in is_state cx own.refused) (named ms)
  fields_lack ms =
      both_lack (attributes_of cx own) (refused_in is_state cx own.refused) (named ms)
      (sorts_apart 0 1 refl (attributes_of cx own) (named ms) (attributes_sort cx own) (named_sort ms))
      (sorts_apart 5 1 refl (refused_in is_state cx own.refused) (named ms) (refused_sort is_state cx own.refused)
      (named_sort ms))

  parts_told : items_told side [] (message_made is_state cx own) (message_made is_state theirs others)
      ≡ items_told side [] (fields (header_members own.header)) (fields (header_members others.header))
      ++ (items_told side [] (forest (attributes_of cx own)) (forest (attributes_of theirs others))
      ++ items_told side [] (forest (refused_in is_state cx own.refused))
      (forest (refused_in is_state theirs others.refused)))
  unfolding message_members
  parts_told =
      both_parts side [] (named (header_members own.header))
      (attributes_of cx own ++ refused_in is_state cx own.refused)
      (named (header_members others.header))
      (attributes_of theirs others ++ refused_in is_state theirs others.refused)
      (lists_lack cx own (header_members own.header)) (lists_lack theirs others (header_members own.header))
      (fields_lack (header_members others.header))
      ∙ ap (λ l. items_told side [] (fields (header_members own.header)) (fields (header_members others.header)) ++ l)
      lists_told

  pub side_told : (page middle further new : Draft)
      → middle ≡ with_members (objects (items_told side [] (fields (header_members own.header))
      (fields (header_members others.header)))) page
      → further ≡ with_members (objects (items_told side [] (forest (attributes_of cx own))
      (forest (attributes_of theirs others)))) middle
      → new ≡ with_members (objects (items_told side [] (forest (refused_in is_state cx own.refused))
      (forest (refused_in is_state theirs others.refused)))) further
      → new ≡ with_members (objects (items_told side [] (message_made is_state cx own)
      (message_made is_state theirs others))) page
  side_told page middle further new first then last =
      let header = items_told side [] (fields (header_members own.header)) (fields (header_members others.header)) in
      let accepted = items_told side [] (forest (attributes_of cx own)) (forest (attributes_of theirs others)) in
      let refused = items_told side [] (forest (refused_in is_state cx own.refused))
      (forest (refused_in is_state theirs others.refused)) in
      both_told header (accepted ++ refused) page middle new first
      (both_told accepted refused middle further new then last)
      ∙ ap (λ os. with_members (objects os) page) (sym parts_told)

-- ** those that are refused

pub refused_none : (is_state : Bool) (cx : Around) (bytes : List ℕ) → bytes ≡ []
    → refused_in is_state cx bytes ≡ []
refused_none is_state cx bytes none =
    ap (refused_in is_state cx) none
    ∙ ap (λ xs. unless_none refused_step (levels 1 cx Shapes.Refused []) (left_of (is_some (frames_in xs))
    (list_members (reading 0 is_state cx) Shapes.Refused (frames_in xs)))) items_nil

pub refused_silent : (side : Side) (is_state : Bool) (cx theirs : Around) (own others : List ℕ) (page : Draft)
    → own ≡ []
    → page ≡ with_members (objects (items_told side [] (forest (refused_in is_state cx own))
    (forest (refused_in is_state theirs others)))) page
refused_silent side is_state cx theirs own others page none =
    sym (ap (λ ms. with_members (objects (items_told side [] (forest ms)
    (forest (refused_in is_state theirs others)))) page) (refused_none is_state cx own none))

pub refused_told : (side : Side) (is_state : Bool) (cx theirs : Around) (own others : List ℕ) (page new : Draft)
    → new ≡ with_members (objects (items_told side (codes "refused")
    ((reading 1 is_state cx).inner Shapes.Refused own) ((reading 1 is_state theirs).inner Shapes.Refused others))) page
    → new ≡ with_members (objects (items_told side [] (forest (refused_in is_state cx own))
    (forest (refused_in is_state theirs others)))) page
refused_told side is_state cx theirs own others page new =
    same_written _ _ page new
    (sym (unless_told side [] refused_step (levels 1 cx Shapes.Refused own) (levels 1 theirs Shapes.Refused others)
    ((reading 1 is_state cx).inner Shapes.Refused own) ((reading 1 is_state theirs).inner Shapes.Refused others)
    refl (above_runs (is_some (frames_in (items own)))
    (list_members (reading 0 is_state cx) Shapes.Refused (frames_in (items own))))
    (above_runs (is_some (frames_in (items others)))
    (list_members (reading 0 is_state theirs) Shapes.Refused (frames_in (items others))))))

-- ** both

pub messages_written : (is_state : Bool) (cx other : Around) (old new : Parts) (page middle last : Draft)
    → middle ≡ with_members (objects (items_told Old [] (message_made is_state cx old)
    (message_made is_state other new))) page
    → last ≡ with_members (objects (items_told New [] (message_made is_state other new)
    (message_made is_state cx old))) middle
    → last ≡ with_members (objects (flat_map told_items (messages_by is_state cx other old new))) page
messages_written is_state cx other old new page middle last first second =
    let f = message_made is_state cx old in
    let g = message_made is_state other new in
    both_told (items_told Old [] f g) (items_told New [] g f) page middle last first second
    ∙ ap (λ os. with_members (objects os) page)
    (both_are f g)

-- lists in another order
pub moved_written : (is_state : Bool) (cx other : Around) (old new : Parts) (page last : Draft)
    → last ≡ with_members (objects (items_told Moved [] (message_made is_state cx old)
    (message_made is_state other new))) page
    → last ≡ with_members (objects (flat_map told_items (messages_moved is_state cx other old new))) page
moved_written is_state cx other old new page last is =
    is ∙ ap (λ os. with_members (objects os) page)
    (items_are Moved [] (message_made is_state cx old) (message_made is_state other new))

-- ** the header

-- both messages have all its fields, so none comes
none_comes : (a b : List ℕ) → items_told New [] (fields (header_members a)) (fields (header_members b)) ≡ []
none_comes a b = refl

pub header_silent : (a b : List ℕ) (page : Draft)
    → page ≡ with_members (objects (items_told New [] (fields (header_members a)) (fields (header_members b)))) page
header_silent a b page = sym (ap (λ os. with_members (objects os) page) (none_comes a b))

none_moves : (a b : List ℕ) → items_told Moved [] (fields (header_members a)) (fields (header_members b)) ≡ []
none_moves a b = refl

pub header_still : (a b : List ℕ) (page : Draft)
    → page ≡ with_members (objects (items_told Moved [] (fields (header_members a)) (fields (header_members b)))) page
header_still a b page = sym (ap (λ os. with_members (objects os) page) (none_moves a b))

-- ** rows that are the same

and_all : (a b c : Bool) → (a && b && c) ≡ true → (a ≡ true) × (b ≡ true) × (c ≡ true)
and_all true true c h = (refl, refl, h)
and_all true false c h = absurd cc
and_all false b c h = absurd cc

pub all_names : (cx here : Around) (n : ℕ) → here ≡ with_address_len cx n → AreAllRows cx.tables.now → HasNames here
all_names cx here n is rows list =
    names_apart.apart here list (subst (λ (x : Around). AreAllRows x.tables.now) (sym is) rows)

pub alike_lists : (cx theirs here there : Around) (m n : ℕ) → here ≡ with_address_len cx m
    → there ≡ with_address_len theirs n → (a b : ℕ) (alike all : Bool) → AreAllRows cx.tables.now
    → (alike ≡ true → cx ≡ theirs)
    → all ≡ (alike && (here.address_len == there.address_len) && (a == b)) → all ≡ true
    → (here ≡ there) × (Shapes.Message a ≡ Shapes.Message b) × HasNames here
alike_lists cx theirs here there m n is also a b alike all rows same both h =
    let parts = and_all alike (here.address_len == there.address_len) (a == b) (sym both ∙ h) in
    let len : m ≡ n =
    sym (ap (λ (x : Around). x.address_len) is) ∙ eqb-true here.address_len there.address_len parts.1
    ∙ ap (λ (x : Around). x.address_len) also in (
      is ∙ (λ k. with_address_len (same parts.0 k) (len k)) ∙ sym also,
      ap Shapes.Message (eqb-true a b parts.2),
      all_names cx here m is rows,
    )

pub attributes_are : (is_state : Bool) (cx here : Around) (family n : ℕ) (p bytes : List ℕ)
    → here ≡ with_address_len cx (address_len (frames_in (items p))) → family ≡ n → p ≡ bytes
    → members_in (reading 5 is_state here) (Shapes.Message family) (frames_in (items p))
    ≡ attributes_in is_state cx n bytes
attributes_are is_state cx here family n p bytes is same rest =
    (λ k. members_in (reading 5 is_state (is k)) (Shapes.Message (same k)) (frames_in (items p)))
    ∙ ap (λ q. attributes_in is_state cx n q) rest
