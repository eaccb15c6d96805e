-- What is left of settings by family, as values.
use Rattle.std.proofs.Common.{◌≡◌, ℕ, ◌+◌, ◌<◌, ◌≤◌, ◌==◌, List, [], ◌∷◌, ◌++◌, length, map, filter}
use Rattle.std.proofs.Common.{refl, sym, ap, subst, ◌∙◌, arith, take_at, Bool, true, false, replicate, cond, append-nil}
use Rattle.std.proofs.Common.{append_assoc, eqb-true}
use Rattle.std.proofs.lemmas.List.{length-append, length-replicate}
use Rattle.std.specs.Prelude.{if◌then◌else◌}
use Rattle.std.specs.Int.{w16, to_le_bytes}
use Rattle.std.specs.List.{AllByRecursion}
use Rattle.nla_wire.specs.Frames.{Frame, Frames, number, missing, IsFrame}
use Rattle.nla_wire.specs.Sizes.{most_payload}
use Rattle.nla_wire.specs.Grammar.{Grammar, Every, list, undecoded}
use Rattle.nla_wire.specs.Canon.{canon, canons, IsWritable, AllFit}
use Rattle.nla_wire.proofs.Steps.{step_whole}
use Rattle.nla_wire.proofs.Cuts.{frames_once}
use Rattle.nla_wire.proofs.Back.{canon_begins, canons_frames, every_writable, frames_framed, all_filtered, canons_some}
use Rattle.nla_wire.proofs.Bounds.{canons_whole}
use Rattle.nla_wire.proofs.Lawful.{always}
use Rattle.nla_wire.proofs.Tables.{line_in}
use Rattle.nla_wire.proofs.Variants.{no_shapes, view_of, entries_of}
use Rattle.link_afspec.specs.Tables.{af_spec_inet6_place, af_spec_unspec_place, af_spec_unspec_table}
use Rattle.link_afspec.specs.declared.inet6.AfSpecInet6.{AfSpecInet6}
use Rattle.link_afspec.specs.declared.unspec.AfSpecUnspec.{AfSpecUnspec}
use Rattle.link_afspec.specs.declared.unspec.AfSpecUnspec.TheVariants as unspec
use Rattle.link_afspec.specs.contracts.unspec.AfSpecUnspec.{enum as unspecs}
use Rattle.link_state.specs.Table.{Action, action_of, rows, find}
use Rattle.link_state.specs.Table.Action.{Keep, Clear, ClearPart, Enter, EnterInfo}
use Rattle.link_state.specs.Thinned.{wrapped, left_of, thinned, is_moving, inet6_left, as_family, family_left}
use Rattle.link_state.specs.Thinned.{families_left}
use Rattle.link_state.specs.Laws.{AreInet6, Inet6Thinned, FamiliesThinned}
use Rattle.link_state.specs.declared.level.Level.{Level}
use Rattle.link_state.specs.declared.level.Level.TheVariants.{Families, Inet6}
use Rattle.link_state.proofs.Thinning.{thinned_next, thinned_nil, some_wrapped}

canon_length : (f : Frame) → length (canon f) ≡ 4 + length f.payload + missing (length f.payload)
canon_length f = omega (
  arith,
  length-append (to_le_bytes w16 (4 + length f.payload) ++ to_le_bytes w16 f.kind ++ f.payload)
      (replicate (missing (length f.payload)) 0),
  length-append (to_le_bytes w16 (4 + length f.payload) ++ to_le_bytes w16 f.kind) f.payload,
  length-replicate {A = ℕ} (missing (length f.payload)) 0,
)

-- the first frame of canonical encoding
pub thinned_canon : (level : Level) (f : Frame) (rest : List ℕ) → IsWritable f
    → thinned level (canon f ++ rest)
    ≡ left_of thinned (action_of level (number f)) f.payload (canon f) ++ thinned level rest
thinned_canon level f rest writable =
    let n = length f.payload in
    thinned_next level (canon f ++ rest) f rest (step_whole (canon f ++ rest) f rest (canon_begins f rest writable))
    ∙ ap (λ b. left_of thinned (action_of level (number f)) f.payload b ++ thinned level rest)
    (take_at (canon f) rest (4 + n + missing n) (canon_length f))

-- ** a level in which no list is entered

abbrev pub IsPlain : Action → Type 0
IsPlain (Enter level) = ⊥
IsPlain _ = Unit {0}

abbrev pub ArePlain : List (ℕ × Action) → Type 0
ArePlain [] = Unit {0}
ArePlain (row ∷ rs) = IsPlain row.1 × ArePlain rs

either_plain : (t : Bool) (a b : Action) → IsPlain a → IsPlain b → IsPlain (if t then a else b)
either_plain true a b h k = h
either_plain false a b h k = k

pub plain_at : (rs : List (ℕ × Action)) → ArePlain rs → (n : ℕ) → IsPlain (find rs n)
plain_at [] h n = tt
plain_at (row ∷ rs) h n = either_plain (n == row.0) row.1 (find rs n) h.0 (plain_at rs h.1 n)

pub plain_left : (action : Action) (p b : List ℕ) → IsPlain action
    → left_of thinned action p b ≡ cond (is_moving action) b []
plain_left Keep p b h = refl
plain_left Clear p b h = refl
plain_left (ClearPart from to) p b h = refl
plain_left (Enter level) p b h = absurd h
plain_left EnterInfo p b h = refl

module _ {V : Type 0} (g : Grammar Frame V) (frame : V → Frame) (Fits : V → Type 0) where
  pub own_means : (vs : List V) → Every g.means (map frame vs) vs → AllByRecursion (λ v. g.means (frame v) v) vs
  own_means [] h = tt
  own_means (v ∷ vs) h = (h.0, own_means vs h.1)

  pub every_means : (vs : List V) → AllByRecursion (λ v. g.means (frame v) v) vs → Every g.means (map frame vs) vs
  every_means [] h = tt
  every_means (v ∷ vs) h = (h.0, every_means vs h.1)

  joined : (test : V → Bool) (v : V) (vs : List V) (t : Bool)
      → cond t (canon (frame v)) [] ++ canons frame (filter test vs)
      ≡ canons frame (cond t (v ∷ filter test vs) (filter test vs))
  joined test v vs true = refl
  joined test v vs false = refl

  shorter : (test : V → Bool) (v : V) (vs : List V) (t : Bool)
      → length (canons frame (filter test vs)) ≤ length (canons frame vs)
      → length (canons frame (cond t (v ∷ filter test vs) (filter test vs))) ≤ length (canons frame (v ∷ vs))
  shorter test v vs true h = omega (
    arith,
    h,
    length-append (canon (frame v)) (canons frame (filter test vs)),
    length-append (canon (frame v)) (canons frame vs),
  )
  shorter test v vs false h = omega (arith, h, length-append (canon (frame v)) (canons frame vs))

  filtered_length : (test : V → Bool) (vs : List V)
      → length (canons frame (filter test vs)) ≤ length (canons frame vs)
  filtered_length test [] = omega arith
  filtered_length test (v ∷ vs) = shorter test v vs (test v) (filtered_length test vs)

  filtered_text : (level : Level) → ((n : ℕ) → IsPlain (action_of level n)) → (vs : List V)
      → AllByRecursion (λ v. IsWritable (frame v)) vs
      → thinned level (canons frame vs)
      ≡ canons frame (filter (λ v. is_moving (action_of level (number (frame v)))) vs)
  filtered_text level plain [] h = thinned_nil level [] refl
  filtered_text level plain (v ∷ vs) h =
      let test : V → Bool = λ v. is_moving (action_of level (number (frame v))) in
      thinned_canon level (frame v) (canons frame vs) h.0
      ∙ ap (λ xs. left_of thinned (action_of level (number (frame v))) (frame v).payload (canon (frame v)) ++ xs)
      (filtered_text level plain vs h.1)
      ∙ ap (λ xs. xs ++ canons frame (filter test vs))
      (plain_left (action_of level (number (frame v))) (frame v).payload (canon (frame v)) (plain (number (frame v))))
      ∙ joined test v vs (test v)

pub inet6_thinned : Inet6Thinned
inet6_thinned b vs small own =
    let p = af_spec_inet6_place in
    let test : AfSpecInet6 → Bool = λ v. is_moving (action_of Inet6 (number (p.frame v))) in
    let fs = own.means.0 in
    let writable = every_writable p.grammar p.frame p.Fits p.lawful.writable fs vs
    (frames_framed b fs small own.means.1) own.means.2 own.fits.0 in
    let one : fs ≡ map p.frame vs = frames_once b fs (map p.frame vs) own.means.1
    (subst (λ x. Frames x (map p.frame vs)) (sym own.text)
    (canons_frames p.frame vs writable)) in
    let means = own_means p.grammar p.frame p.Fits vs (subst (λ gs. Every p.grammar.means gs vs) one own.means.2) in
    let text : thinned Inet6 b ≡ canons p.frame (inet6_left vs) =
    ap (thinned Inet6) own.text
    ∙ filtered_text p.grammar p.frame p.Fits Inet6 (plain_at (rows Inet6) (tt, (tt, (tt, tt)))) vs writable in
    let left = all_filtered (λ v. IsWritable (p.frame v)) test vs writable in
    record {
      means = subst (λ x. (list p.grammar).means x (inet6_left vs)) (sym text) (
        map p.frame (inet6_left vs),
        canons_frames p.frame (inet6_left vs) left,
        every_means p.grammar p.frame p.Fits (inet6_left vs)
            (all_filtered (λ v. p.grammar.means (p.frame v) v) test vs means),
      );
      fits = (
        all_filtered p.Fits test vs own.fits.0,
        omega (arith, own.fits.1, filtered_length p.grammar p.frame p.Fits test vs),
      );
      text = text;
    }

pub inet6_shorter : (vs : List AfSpecInet6)
    → length (canons af_spec_inet6_place.frame (inet6_left vs)) ≤ length (canons af_spec_inet6_place.frame vs)
inet6_shorter vs =
    filtered_length af_spec_inet6_place.grammar af_spec_inet6_place.frame af_spec_inet6_place.Fits
    (λ v. is_moving (action_of Inet6 (number (af_spec_inet6_place.frame v)))) vs

-- ** settings by family

pub family_frame : (ws : List AfSpecInet6) → af_spec_unspec_place.frame (unspec.Inet6 ws)
    ≡ record { kind = 10; payload = canons af_spec_inet6_place.frame ws }
unfolding af_spec_unspec_place
family_frame ws = refl

-- what an attribute of AF_INET6 means
pub record IsFamily (ws : List AfSpecInet6) : Type 0 where
  pub some : 0 < length (canons af_spec_inet6_place.frame ws)
  pub means : (list af_spec_inet6_place.grammar).means (canons af_spec_inet6_place.frame ws) ws

pub family_means : (ws : List AfSpecInet6)
    → af_spec_unspec_place.grammar.means (af_spec_unspec_place.frame (unspec.Inet6 ws)) (unspec.Inet6 ws)
    → IsFamily ws
unfolding af_spec_unspec_place
family_means ws (a, means, same) =
    let is : a ≡ ws = cc in
    record {
      some = means.0;
      means =
          subst (λ vs. (list af_spec_inet6_place.grammar).means (canons af_spec_inet6_place.frame ws) vs) is means.1;
    }

means_family : (ws : List AfSpecInet6) → IsFamily ws
    → af_spec_unspec_place.grammar.means (af_spec_unspec_place.frame (unspec.Inet6 ws)) (unspec.Inet6 ws)
unfolding af_spec_unspec_place
means_family ws is = (ws, (is.some, is.means), refl)

pub family_fits : (ws : List AfSpecInet6) → af_spec_unspec_place.Fits (unspec.Inet6 ws)
    → (length (canons af_spec_inet6_place.frame ws) ≤ most_payload)
    × AllFit af_spec_inet6_place.Fits af_spec_inet6_place.frame ws
unfolding af_spec_unspec_place
family_fits ws fits = fits

fits_family : (ws : List AfSpecInet6) → length (canons af_spec_inet6_place.frame ws) ≤ most_payload
    → AllFit af_spec_inet6_place.Fits af_spec_inet6_place.frame ws
    → af_spec_unspec_place.Fits (unspec.Inet6 ws)
unfolding af_spec_unspec_place
fits_family ws small fits = (small, fits)

-- nothing else has this number
not_other : (f : Frame) (k : ℕ) → k ≡ 10
    → (line_in no_shapes (view_of no_shapes unspecs always af_spec_unspec_table) always k (length f.payload)
    (entries_of no_shapes unspecs always af_spec_unspec_table) (undecoded unspec.Other)).means f (unspec.Other f) → ⊥
not_other f k ten means =
    let there = subst (λ n. (line_in no_shapes (view_of no_shapes unspecs always af_spec_unspec_table) always n
    (length f.payload) (entries_of no_shapes unspecs always af_spec_unspec_table) (undecoded unspec.Other)).means f
    (unspec.Other f)) ten means in
    absurd cc

pub other_number : (f : Frame) → af_spec_unspec_place.grammar.means f (unspec.Other f) → (t : Bool)
    → (number f == 10) ≡ t → t ≡ false
unfolding af_spec_unspec_place
other_number f means true e = absurd (not_other f (number f) (eqb-true (number f) 10 e) means)
other_number f means false e = refl

pub other_action : (f : Frame) → (number f == 10) ≡ false → action_of Families (number f) ≡ Keep
other_action f e = ap (λ t. if t then Enter Inet6 else Keep) e

-- as one attribute, if any are left
wrapped_family : (ws : List AfSpecInet6)
    → wrapped (to_le_bytes w16 10) (canons af_spec_inet6_place.frame ws)
    ≡ canons af_spec_unspec_place.frame (as_family ws)
wrapped_family [] = refl
wrapped_family (w ∷ ws) =
    let p = canons af_spec_inet6_place.frame (w ∷ ws) in
    let none : missing (length p) ≡ 0 = omega (arith, canons_whole af_spec_inet6_place.frame (w ∷ ws)) in
    some_wrapped (to_le_bytes w16 10) p (canons_some af_spec_inet6_place.frame (w ∷ ws) (omega arith))
    ∙ sym (append_assoc (to_le_bytes w16 (4 + length p)) (to_le_bytes w16 10) p)
    ∙ sym (append-nil (to_le_bytes w16 (4 + length p) ++ to_le_bytes w16 10 ++ p))
    ∙ ap (λ n. to_le_bytes w16 (4 + length p) ++ to_le_bytes w16 10 ++ p ++ replicate n 0) (sym none)
    ∙ sym (append-nil (canon (record { kind = 10; payload = p })))
    ∙ ap (λ f. canon f ++ []) (sym (family_frame (w ∷ ws)))

record FamilyLeft (v : AfSpecUnspec) : Type 0 where
  pub text : left_of thinned (action_of Families (number (af_spec_unspec_place.frame v)))
      (af_spec_unspec_place.frame v).payload (canon (af_spec_unspec_place.frame v))
      ≡ canons af_spec_unspec_place.frame (family_left v)
  pub means : AllByRecursion (λ w. af_spec_unspec_place.grammar.means (af_spec_unspec_place.frame w) w) (family_left v)
  pub fits : AllByRecursion af_spec_unspec_place.Fits (family_left v)
  pub shorter : length (canons af_spec_unspec_place.frame (family_left v))
      ≤ length (canon (af_spec_unspec_place.frame v))
  pub writable : AllByRecursion (λ w. IsWritable (af_spec_unspec_place.frame w)) (family_left v)

as_family_means : (ws : List AfSpecInet6)
    → (list af_spec_inet6_place.grammar).means (canons af_spec_inet6_place.frame ws) ws
    → AllByRecursion (λ w. af_spec_unspec_place.grammar.means (af_spec_unspec_place.frame w) w) (as_family ws)
as_family_means [] h = tt
as_family_means (w ∷ ws) h = (
  means_family (w ∷ ws)
      (record { some = canons_some af_spec_inet6_place.frame (w ∷ ws) (omega arith); means = h }),
  tt,
)

as_family_fits : (ws : List AfSpecInet6) → length (canons af_spec_inet6_place.frame ws) ≤ most_payload
    → AllFit af_spec_inet6_place.Fits af_spec_inet6_place.frame ws
    → AllByRecursion af_spec_unspec_place.Fits (as_family ws)
as_family_fits [] small h = tt
as_family_fits (w ∷ ws) small h = (fits_family (w ∷ ws) small h, tt)

as_family_writable : (ws : List AfSpecInet6) → length (canons af_spec_inet6_place.frame ws) ≤ most_payload
    → AllByRecursion (λ w. IsWritable (af_spec_unspec_place.frame w)) (as_family ws)
as_family_writable [] small = tt
as_family_writable (w ∷ ws) small =
    (subst IsWritable (sym (family_frame (w ∷ ws))) (record { kind = omega arith; size = omega (arith, small) }), tt)

as_family_length : (ws vs : List AfSpecInet6)
    → length (canons af_spec_inet6_place.frame ws) ≤ length (canons af_spec_inet6_place.frame vs)
    → length (canons af_spec_unspec_place.frame (as_family ws))
    ≤ length (canon (record { kind = 10; payload = canons af_spec_inet6_place.frame vs }))
as_family_length [] vs h = omega arith
as_family_length (w ∷ ws) vs h =
    let f : Frame = record { kind = 10; payload = canons af_spec_inet6_place.frame (w ∷ ws) } in
    let g : Frame = record { kind = 10; payload = canons af_spec_inet6_place.frame vs } in
    let same : length (canons af_spec_unspec_place.frame (as_family (w ∷ ws))) ≡ length (canon f) =
    ap (λ x. length (canon x ++ [])) (family_frame (w ∷ ws)) ∙ ap (λ (xs : List ℕ). length xs) (append-nil (canon f)) in
    omega (
      arith,
      h,
      same,
      canon_length f,
      canon_length g,
      canons_whole af_spec_inet6_place.frame (w ∷ ws),
      canons_whole af_spec_inet6_place.frame vs,
    )

family_is_left : (v : AfSpecUnspec) → IsFrame (af_spec_unspec_place.frame v)
    → af_spec_unspec_place.grammar.means (af_spec_unspec_place.frame v) v → af_spec_unspec_place.Fits v → FamilyLeft v
unfolding af_spec_unspec_place
family_is_left (unspec.Inet6 ws) framed means fits =
    let p = canons af_spec_inet6_place.frame ws in
    let inside = family_fits ws fits in
    let own : AreInet6 p ws = record { means = (family_means ws means).means; fits = inside.1; text = refl } in
    let left = inet6_thinned p ws framed.bytes own in
    let fewer = inet6_shorter ws in
    record {
      text = ap (wrapped (to_le_bytes w16 10)) left.text ∙ wrapped_family (inet6_left ws);
      means = as_family_means (inet6_left ws)
          (subst (λ x. (list af_spec_inet6_place.grammar).means x (inet6_left ws)) left.text left.means);
      fits = as_family_fits (inet6_left ws) (omega (arith, inside.0, fewer)) left.fits;
      shorter = as_family_length (inet6_left ws) ws fewer;
      writable = as_family_writable (inet6_left ws) (omega (arith, inside.0, fewer));
    }
family_is_left (unspec.Inet xs) framed means fits =
    record { text = refl; means = tt; fits = tt; shorter = omega arith; writable = tt }
family_is_left (unspec.Mctp xs) framed means fits =
    record { text = refl; means = tt; fits = tt; shorter = omega arith; writable = tt }
family_is_left (unspec.Other f) framed means fits = record {
  text = ap (λ action. left_of thinned action f.payload (canon f))
      (other_action f (other_number f means (number f == 10) refl));
  means = tt;
  fits = tt;
  shorter = omega arith;
  writable = tt;
}

canons_joined : (vs ws : List AfSpecUnspec)
    → canons af_spec_unspec_place.frame (vs ++ ws)
    ≡ canons af_spec_unspec_place.frame vs ++ canons af_spec_unspec_place.frame ws
canons_joined [] ws = refl
canons_joined (v ∷ vs) ws =
    ap (λ xs. canon (af_spec_unspec_place.frame v) ++ xs) (canons_joined vs ws)
    ∙ sym (append_assoc (canon (af_spec_unspec_place.frame v)) (canons af_spec_unspec_place.frame vs)
    (canons af_spec_unspec_place.frame ws))

all_joined : (P : AfSpecUnspec → Type 0) (vs ws : List AfSpecUnspec) → AllByRecursion P vs → AllByRecursion P ws
    → AllByRecursion P (vs ++ ws)
all_joined P [] ws h k = k
all_joined P (v ∷ vs) ws h k = (h.0, all_joined P vs ws h.1 k)

record FamiliesLeft (vs : List AfSpecUnspec) : Type 0 where
  pub text : thinned Families (canons af_spec_unspec_place.frame vs)
      ≡ canons af_spec_unspec_place.frame (families_left vs)
  pub means : AllByRecursion (λ w. af_spec_unspec_place.grammar.means (af_spec_unspec_place.frame w) w)
      (families_left vs)
  pub fits : AllByRecursion af_spec_unspec_place.Fits (families_left vs)
  pub shorter : length (canons af_spec_unspec_place.frame (families_left vs))
      ≤ length (canons af_spec_unspec_place.frame vs)
  pub writable : AllByRecursion (λ v. IsWritable (af_spec_unspec_place.frame v)) (families_left vs)

families_are_left : (vs : List AfSpecUnspec) → AllByRecursion IsFrame (map af_spec_unspec_place.frame vs)
    → AllByRecursion (λ v. af_spec_unspec_place.grammar.means (af_spec_unspec_place.frame v) v) vs
    → AllByRecursion af_spec_unspec_place.Fits vs → FamiliesLeft vs
families_are_left [] framed means fits =
    record { text = thinned_nil Families [] refl; means = tt; fits = tt; shorter = omega arith; writable = tt }
families_are_left (v ∷ vs) framed means fits =
    let p = af_spec_unspec_place in
    let here = family_is_left v framed.0 means.0 fits.0 in
    let later = families_are_left vs framed.1 means.1 fits.1 in
    let writable = p.lawful.writable (p.frame v) v framed.0 means.0 fits.0 in
    record {
      text = thinned_canon Families (p.frame v) (canons p.frame vs) writable
          ∙ ap (λ xs. xs ++ thinned Families (canons p.frame vs)) here.text
          ∙ ap (λ xs. canons p.frame (family_left v) ++ xs) later.text
          ∙ sym (canons_joined (family_left v) (families_left vs));
      means = all_joined _ (family_left v) (families_left vs) here.means later.means;
      fits = all_joined _ (family_left v) (families_left vs) here.fits later.fits;
      shorter = omega (
        arith,
        here.shorter,
        later.shorter,
        ap (λ (xs : List ℕ). length xs) (canons_joined (family_left v) (families_left vs)),
        length-append (canons p.frame (family_left v)) (canons p.frame (families_left vs)),
        length-append (canon (p.frame v)) (canons p.frame vs),
      );
      writable = all_joined _ (family_left v) (families_left vs) here.writable later.writable;
    }

pub families_thinned : FamiliesThinned
families_thinned b vs small own =
    let p = af_spec_unspec_place in
    let fs = own.means.0 in
    let framed = frames_framed b fs small own.means.1 in
    let writable = every_writable p.grammar p.frame p.Fits p.lawful.writable fs vs framed own.means.2 own.fits.0 in
    let one : fs ≡ map p.frame vs = frames_once b fs (map p.frame vs) own.means.1
    (subst (λ x. Frames x (map p.frame vs)) (sym own.text) (canons_frames p.frame vs writable)) in
    let means = own_means p.grammar p.frame p.Fits vs (subst (λ gs. Every p.grammar.means gs vs) one own.means.2) in
    let left = families_are_left vs (subst (λ gs. AllByRecursion IsFrame gs) one framed) means own.fits.0 in
    let text : thinned Families b ≡ canons p.frame (families_left vs) = ap (thinned Families) own.text ∙ left.text in
    record {
      means = subst (λ x. (list p.grammar).means x (families_left vs)) (sym text) (
        map p.frame (families_left vs),
        canons_frames p.frame (families_left vs) left.writable,
        every_means p.grammar p.frame p.Fits (families_left vs) left.means,
      );
      fits = (left.fits, omega (arith, own.fits.1, left.shorter));
      text = text;
    }
