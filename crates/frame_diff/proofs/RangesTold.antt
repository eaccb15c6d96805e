-- VLAN by VLAN, what is told of forests as they are made is what is told of them where each VLAN is a member.
use Rattle.std.proofs.Common.{◌≡◌, ℕ, Bool, true, false, List, [], ◌∷◌, ◌++◌, map, refl, sym, ap, ◌∙◌}
use Rattle.std.proofs.lemmas.List.Concat.{flat_map-append}
use Rattle.std.specs.Prelude.{Option, Some, None, codes, cond, option_map, ◌&&◌}
use Rattle.std.specs.List.{flat_map}
use Rattle.json.specs.Token.{Token}
use Rattle.link_vlans.specs.Pieces.{pieces_of, said_of, vids_of, vlans_of}
use Rattle.link_vlans.specs.Runs.{id_at, is_said}
use Rattle.link_vlans.specs.declared.pieces.Piece.{Piece}
use Rattle.link_vlans.specs.declared.run.Run.{Run}
use Rattle.link_vlans.specs.declared.run.Said.{Said}
use Rattle.link_vlans.proofs.Cuts.{pieces_say}
use Rattle.link_vlans.proofs.Say.{said_same}
use Rattle.shown.specs.Drafts.{Members}
use Rattle.frame_diff.specs.Differences.{Change, inside_in, leaf_change, leaf_in, member_told, told}
use Rattle.frame_diff.specs.Forests.{AreApart, Forest, Held, Path, comes, field_step, find, is_label}
use Rattle.frame_diff.specs.Forests.{runs_inside}
use Rattle.frame_diff.specs.Laws.{RangesAreChanges}
use Rattle.frame_diff.specs.Members.{fields, message_made, named}
use Rattle.frame_diff.specs.Ranges.{Told, apart, member_by, told_by, vlan_told}
use Rattle.frame_diff.specs.Vlans.{flags_shown, flat, id_member, vlan_fields, vlan_inside, vlan_shown, vlan_step}
use Rattle.frame_diff.specs.Vlans.{vlan_trees}
use Rattle.frame_diff.specs.Wholes.{cut, is_alone, wholes}
use Rattle.frame_diff.specs.declared.side.Side.{Side}
use Rattle.frame_diff.specs.declared.side.Side.TheVariants.{Old, New}
use Rattle.frame_diff.proofs.Apart.{made_apart}
use Rattle.frame_diff.proofs.Flat.{AreMade, HasMembers, find_flat, find_vlan, flat_apart, found_made, held_flat}
use Rattle.frame_diff.proofs.Flat.{inside_vlan_apart, leaf_flat, made, runs_have, vlan_held}
use Rattle.frame_diff.proofs.Leaves.{inside_apart}
use Rattle.frame_diff.proofs.Silent.{same_silent}
use Rattle.frame_diff.proofs.WholesTold.{told_same}
use Rattle.frame_diff.specs.Sides.{is_moved}
use Rattle.frame_diff.specs.Ranges.{list_told, whole_told}
use Rattle.frame_diff.specs.Items.{is_list, is_loose}
use Rattle.frame_diff.specs.Forests.{Step}
use Rattle.std.proofs.Common.{append-nil}

-- ** what is told apart

ones_apart : (cs : List Change) → flat_map apart (map Told.one cs) ≡ cs
ones_apart [] = refl
ones_apart (c ∷ cs) = ap (λ ds. c ∷ ds) (ones_apart cs)

pieces_apart : (side : Side) (path : Path) (ps : List Piece) → flat_map apart (map (Told.vlans side path) ps)
    ≡ flat_map (λ (p : Piece). flat_map (λ n. vlan_told side path n p.own.said p.beside) (vids_of p.own)) ps
pieces_apart side path [] = refl
pieces_apart side path (p ∷ ps) = ap (λ cs. apart (Told.vlans side path p) ++ cs) (pieces_apart side path ps)

-- of which both sides say the same
same_vlan : (side : Side) (path : Path) (n : ℕ) (s b : Said) → is_said s b ≡ true
    → vlan_told side path n s (Some b) ≡ []
same_vlan side path n s b is =
    ap (λ t. vlan_told side path n s (Some t)) (sym (said_same s b is))
    ∙ same_silent side (path ++ vlan_step n ∷ []) (vlan_inside n s) (inside_vlan_apart n s)

-- ** what stands inside a VLAN

-- fields have no labels
fields_whole : (ms : Members) (g : Forest) → wholes (fields ms) g ≡ fields ms
fields_whole [] g = refl
fields_whole (m ∷ ms) g = by (comes (field_step m.0) (named ms)) (fields_whole ms g)
  where
    by : (c : Bool) → wholes (fields ms) g ≡ fields ms
        → wholes (cond c (fields ms) (Forest.tree (field_step m.0) m.1 Forest.none (fields ms))) g
        ≡ cond c (fields ms) (Forest.tree (field_step m.0) m.1 Forest.none (fields ms))
    by true later = later
    by false later = ap (Forest.tree (field_step m.0) m.1 Forest.none) later

member_rest : (side : Side) (path : Path) (v : List Token) (f : Forest) (inner : Forest → List Change)
    (beside : Option Held) → HasMembers f → member_told side path v f inner beside ≡ inner (inside_in beside)
member_rest side path v Forest.none inner beside h = absurd h
member_rest side path v Forest.passed inner beside h = absurd h
member_rest side path v (Forest.vlans runs) inner beside h = absurd h
member_rest side path v (Forest.texts vs) inner beside h = absurd h
member_rest side path v (Forest.tree a b c d) inner beside h = refl

vlan_has : (n : ℕ) (s : Said) → HasMembers (vlan_inside n s)
vlan_has n s = by (id_at n s.ahead)
  where
    by : (id : Option ℕ)
        → HasMembers (fields (id_member (codes "id") id ++ (codes "flags", flags_shown s.flags) ∷ []))
    by None = tt
    by (Some id) = tt

-- ** VLANs

module _ (side : Side) (path : Path) where
  -- one, as a member beside another one
  abbrev one_told : ℕ → Said → Option Held → List Change
  one_told n s beside =
      let inside = cut (vlan_step n) beside (wholes (vlan_inside n s) (inside_in beside)) in
      member_told side (path ++ vlan_step n ∷ []) (vlan_shown n s) inside
      (told side (path ++ vlan_step n ∷ []) inside) beside

  one_is : (n : ℕ) (s : Said) (b : Option Said)
      → one_told n s (option_map (vlan_held n) b) ≡ vlan_told side path n s b
  one_is n s None = refl
  one_is n s (Some b) =
      let at = path ++ vlan_step n ∷ [] in
      ap (λ i. member_told side at (vlan_shown n s) i (told side at i) (Some (vlan_held n b)))
      (fields_whole (vlan_fields n s) (vlan_inside n b))
      ∙ member_rest side at (vlan_shown n s) (vlan_inside n s) (told side at (vlan_inside n s))
      (Some (vlan_held n b)) (vlan_has n s)

  vlans_told : (g : Forest) (runs : List Run)
      → ((n : ℕ) → find (vlan_step n) g ≡ option_map (vlan_held n) (said_of runs n)) → (vs : List (ℕ × Said))
      → told side path (wholes (vlan_trees vs) g) g
      ≡ flat_map (λ (v : ℕ × Said). vlan_told side path v.0 v.1 (said_of runs v.0)) vs
  vlans_told g runs has [] = refl
  vlans_told g runs has (v ∷ vs) =
      (λ k. one_told v.0 v.1 (has v.0 k) ++ vlans_told g runs has vs k)
      ∙ ap (λ cs. cs ++ flat_map (λ (w : ℕ × Said). vlan_told side path w.0 w.1 (said_of runs w.0)) vs)
      (one_is v.0 v.1 (said_of runs v.0))

-- ** members

inside_flat : (beside : Option Held) → inside_in (option_map held_flat beside) ≡ flat (inside_in beside)
inside_flat None = refl
inside_flat (Some held) = refl

alone_flat : (beside : Option Held) → is_alone beside ≡ is_alone (option_map held_flat beside)
alone_flat None = refl
alone_flat (Some held) = refl

module _ (side : Side) (telling : is_moved side ≡ false) where
  pub unmoved : (path : Path) (s : Step) (v : List Token) (i : Forest) (beside : Option Held)
      → list_told side path s v i beside ≡ []
  unmoved path s v i beside =
      ap (λ m. cond (is_list s) (cond m (whole_told (is_loose i) path v beside) []) []) telling ∙ by (is_list s)
    where
      by : (l : Bool) → cond {A = List Told} l [] [] ≡ []
      by true = refl
      by false = refl

  -- with the steps inside, as a leaf or not
  abbrev member_flat : Bool → Path → List Token → Forest → Option Held → List Change
  member_flat b path v i beside =
      let inside = cond b Forest.none (wholes (flat i) (inside_in beside)) in
      member_told side path v inside (told side path inside) beside

  leaf_is : (path : Path) (v : List Token) (beside : Option Held) → AreApart (inside_in beside)
      → flat_map apart (map Told.one (leaf_change side path v (leaf_in beside)))
      ≡ leaf_change side path v (leaf_in (option_map held_flat beside))
  leaf_is path v beside h =
      ones_apart (leaf_change side path v (leaf_in beside)) ∙ ap (leaf_change side path v) (leaf_flat beside h)

  member_is : (path : Path) (v : List Token) (i : Forest) (beside : Option Held) → AreApart i
      → AreApart (inside_in beside)
      → flat_map apart (told_by side path i (inside_in beside))
      ≡ told side path (wholes (flat i) (flat (inside_in beside))) (flat (inside_in beside)) → (b : Bool)
      → flat_map apart (member_by side path v (cond b Forest.none i) (told_by side path i) beside)
      ≡ member_flat b path v i (option_map held_flat beside)
  member_is path v i beside h h_too inner true = leaf_is path v beside h_too
  member_is path v Forest.none beside h h_too inner false = leaf_is path v beside h_too
  member_is path v Forest.passed beside h h_too inner false = refl
  member_is path v (Forest.vlans []) beside h h_too inner false =
      ap (λ m. flat_map apart (cond m [] (map (Told.vlans side path) (pieces_of [] (runs_inside (inside_in beside))))))
      telling
  member_is path v (Forest.texts vs) beside h h_too inner false =
      append-nil (leaf_change side path v (leaf_in beside)) ∙ ap (leaf_change side path v) (leaf_flat beside h_too)
  member_is path v (Forest.vlans (r ∷ rs)) beside h h_too inner false =
      inner ∙ (λ k. told side path (wholes (vlan_trees (vlans_of (r ∷ rs))) (back k)) (back k))
      ∙ sym (by (vlan_trees (vlans_of (r ∷ rs))) (runs_have r rs h))
    where
      back : flat (inside_in beside) ≡ inside_in (option_map held_flat beside)
      back = sym (inside_flat beside)

      by : (f : Forest) → HasMembers f
          → member_told side path v (wholes f (inside_in (option_map held_flat beside)))
          (told side path (wholes f (inside_in (option_map held_flat beside)))) (option_map held_flat beside)
          ≡ told side path (wholes f (inside_in (option_map held_flat beside)))
          (inside_in (option_map held_flat beside))
      by Forest.none h = absurd h
      by Forest.passed h = absurd h
      by (Forest.vlans runs) h = absurd h
      by (Forest.texts vs) h = absurd h
      by (Forest.tree s w j rest) h = refl
  member_is path v (Forest.tree s w j rest) beside h h_too inner false =
      inner ∙ (λ k. told side path (wholes (flat (Forest.tree s w j rest)) (sym (inside_flat beside) k))
      (sym (inside_flat beside) k))

  told_flat : (path : Path) (f g : Forest) → AreApart f → AreMade f → AreApart g → AreMade g
      → flat_map apart (told_by side path f g) ≡ told side path (wholes (flat f) (flat g)) (flat g)
  told_flat path Forest.none g h m h_too m_too = refl
  told_flat path Forest.passed g h m h_too m_too = refl
  told_flat path (Forest.vlans []) g h m h_too m_too =
      ap (λ b. flat_map apart (cond b [] (map (Told.vlans side path) (pieces_of [] (runs_inside g))))) telling
  told_flat path (Forest.texts vs) g h m h_too m_too = refl
  told_flat path (Forest.vlans (r ∷ rs)) g h m h_too m_too =
      ap (λ b. flat_map apart (cond b [] (map (Told.vlans side path) (pieces_of (r ∷ rs) (runs_inside g))))) telling
      ∙ pieces_apart side path (pieces_of (r ∷ rs) (runs_inside g))
      ∙ pieces_say (vlan_told side path) (same_vlan side path) (r ∷ rs) (runs_inside g)
      ∙ sym (vlans_told side path (flat g) (runs_inside g) (λ n. find_vlan n g h_too m_too) (vlans_of (r ∷ rs)))
  told_flat path (Forest.tree s v i rest) g h m h_too m_too =
      let beside = find s g in
      let at = path ++ s ∷ [] in
      let apart_too = inside_apart s g h_too in
      ap (λ ts. flat_map apart (ts ++ (member_by side at v (cut s beside i) (told_by side at i) beside
      ++ told_by side path rest g))) (unmoved at s v i beside)
      ∙ flat_map-append apart (member_by side at v (cut s beside i) (told_by side at i) beside)
      (told_by side path rest g)
      ∙ (λ k. member_is at v i beside h.1 apart_too
      (told_flat at i (inside_in beside) h.1 m.1 apart_too (found_made s g m_too)) (is_label s && is_alone beside) k
      ++ told_flat path rest g h.2 m.2 h_too m_too k)
      ∙ (λ k. member_flat (is_label s && alone_flat beside k) at v i (option_map held_flat beside)
      ++ told side path (wholes (flat rest) (flat g)) (flat g))
      ∙ (λ k. member_flat (is_label s && is_alone (sym (find_flat s g m.0) k)) at v i (sym (find_flat s g m.0) k)
      ++ told side path (wholes (flat rest) (flat g)) (flat g))

pub ranges_are : RangesAreChanges
ranges_are is_state cx other old new =
    let f = message_made is_state cx old in
    let g = message_made is_state other new in
    let f_apart = made_apart is_state cx old in
    let g_apart = made_apart is_state other new in
    let f_made = made is_state cx old in
    let g_made = made is_state other new in
    flat_map-append apart (told_by Old [] f g) (told_by New [] g f)
    ∙ (λ k. (told_flat Old refl [] f g f_apart f_made g_apart g_made
    ∙ sym (told_same Old [] (flat f) (flat g) (flat f) (flat_apart f f_apart f_made) (λ t held h. h))) k
    ++ (told_flat New refl [] g f g_apart g_made f_apart f_made
    ∙ sym (told_same New [] (flat g) (flat f) (flat g) (flat_apart g g_apart g_made) (λ t held h. h))) k)
