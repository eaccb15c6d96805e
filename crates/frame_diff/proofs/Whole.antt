-- What is compared of a whole message is what is shown of it.
use Rattle.std.proofs.Common.{◌≡◌, ℕ, false, List, [], ◌∷◌, ◌++◌, append-nil, refl, ap, ◌∙◌}
use Rattle.std.specs.Prelude.{drop, slice_index}
use Rattle.nla_wire.specs.Items.{items}
use Rattle.link_info.specs.Rows.{AreAllRows}
use Rattle.link_info.specs.Tables.{frames_in}
use Rattle.frame_shown.specs.Messages.{address_len, frames_shown, header_members, message_members as shown_of}
use Rattle.frame_shown.specs.Messages.{with_address_len}
use Rattle.frame_shown.specs.declared.form.Around.{Around}
use Rattle.frame_shown.specs.declared.form.List.TheVariants as Shapes
use Rattle.frame_diff.specs.Forests.{AreApart, Forest, Member, forest, runs_inside}
use Rattle.frame_diff.specs.Items.{step_text}
use Rattle.frame_diff.specs.Members.{attributes_in, message_forest, message_made, message_members, named, reading}
use Rattle.frame_diff.specs.Members.{whole}
use Rattle.frame_diff.specs.Shown.{AreNamedApart, WholeIsShown, shown_in}
use Rattle.frame_diff.specs.Vlans.{flat}
use Rattle.frame_diff.proofs.Apart.{made_apart, no_runs}
use Rattle.frame_diff.proofs.Names.{names_apart}
use Rattle.frame_diff.proofs.Shown.{members_are, parts_shown}
use Rattle.frame_diff.proofs.Sorts.{members_sort, named_sort, sorts_apart}
use Rattle.frame_diff.proofs.Told.{refused_none}

header_apart : (bytes : List ℕ) → AreNamedApart (header_members bytes)
header_apart bytes =
    ((refl, (refl, (refl, (refl, tt)))), ((refl, (refl, (refl, tt))), ((refl, (refl, tt)), ((refl, tt), (tt, tt)))))

-- members are shown as they are, whatever VLANs stand inside them
shown_flat : (f : Forest) → AreApart f → runs_inside f ≡ [] → shown_in (flat f) ≡ shown_in f
shown_flat Forest.none apart none = refl
shown_flat Forest.passed apart none = refl
shown_flat (Forest.vlans []) apart none = refl
shown_flat (Forest.texts vs) apart none = refl
shown_flat (Forest.vlans (r ∷ rs)) apart none = absurd cc
shown_flat (Forest.tree s v i rest) apart none =
    ap (λ ms. (step_text s, v) ∷ ms) (shown_flat rest apart.2 apart.3)

module _ (cx : Around) (bytes : List ℕ) where
  abbrev around : Around
  around = with_address_len cx (address_len (frames_in (items (drop 16 bytes))))

  abbrev header : List Member
  header = named (header_members bytes)

  abbrev attributes : List Member
  attributes = attributes_in false cx (slice_index bytes 0) (drop 16 bytes)

  members_are_these : message_members false cx (whole bytes) ≡ header ++ attributes
  unfolding message_members
  members_are_these =
      ap (λ ms. header ++ attributes ++ ms) (refused_none false cx [] refl)
      ∙ ap (λ ms. header ++ ms) (append-nil attributes)

  attributes_shown : AreAllRows cx.tables.now
      → shown_in (forest attributes) ≡ frames_shown around (slice_index bytes 0) (drop 16 bytes)
  unfolding frames_shown
  attributes_shown all = names_apart.shown 5 around (Shapes.Message (slice_index bytes 0)) (drop 16 bytes) all

  all_shown : AreAllRows cx.tables.now → shown_in (message_forest false cx (whole bytes)) ≡ shown_of cx bytes
  all_shown all =
      shown_flat (message_made false cx (whole bytes)) (made_apart false cx (whole bytes))
      (no_runs (message_members false cx (whole bytes)))
      ∙ ap (λ ms. shown_in (forest ms)) members_are_these
      ∙ parts_shown header attributes (sorts_apart 1 0 refl header attributes (named_sort (header_members bytes))
      (members_sort (reading 5 false around) (Shapes.Message (slice_index bytes 0))
      (frames_in (items (drop 16 bytes)))))
      ∙ (λ k. members_are.fields_of (header_members bytes) (header_apart bytes) k ++ attributes_shown all k)

pub whole_shown : WholeIsShown
whole_shown cx bytes all = all_shown cx bytes all
