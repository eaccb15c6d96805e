-- What is left out of a list, and what is filled of it.
use Rattle.std.proofs.Common.{◌≡◌, ℕ, ◌+◌, ◌<◌, ◌≤◌, ◌%◌, ◌==◌, List, [], ◌∷◌, ◌++◌, length, map, replicate}
use Rattle.std.proofs.Common.{refl, sym, ap, subst, ◌∙◌, arith, Bool, true, false, cond, append-nil, append_assoc}
use Rattle.std.specs.Int.{w16, to_le_bytes}
use Rattle.std.specs.List.{AllByRecursion}
use Rattle.nla_wire.specs.Frames.{Frame, Frames, number, missing, IsBytes, IsFrame}
use Rattle.nla_wire.specs.Sizes.{most_payload}
use Rattle.nla_wire.specs.Grammar.{Every}
use Rattle.nla_wire.specs.Canon.{canon, canons, IsWritable}
use Rattle.nla_wire.proofs.Cuts.{frames_once}
use Rattle.nla_wire.proofs.Back.{canons_frames, every_writable, frames_framed, canons_some}
use Rattle.nla_wire.proofs.Bounds.{canons_whole}
use Rattle.link_afspec.specs.Tables.{af_spec_inet6_place, af_spec_unspec_place}
use Rattle.link_afspec.specs.declared.inet6.AfSpecInet6.{AfSpecInet6}
use Rattle.link_afspec.specs.declared.unspec.AfSpecUnspec.{AfSpecUnspec}
use Rattle.link_afspec.specs.declared.unspec.AfSpecUnspec.TheVariants as unspec
use Rattle.link_state.specs.Table.{Action, action_of, rows}
use Rattle.link_state.specs.Table.Action.{Keep}
use Rattle.link_state.specs.Cleared.{filled}
use Rattle.link_state.specs.Thinned.{wrapped, left_of, thinned, is_moving, inet6_left}
use Rattle.link_state.specs.Laws.{AreInet6, Inet6Apart, FamiliesApart}
use Rattle.link_state.specs.declared.level.Level.{Level}
use Rattle.link_state.specs.declared.level.Level.TheVariants.{Families, Inet6}
use Rattle.link_state.proofs.Walking.{filled_nil, length-payload_by, length-filled}
use Rattle.link_state.proofs.Closing.{filled_frame, filled_canon}
use Rattle.link_state.proofs.Thinning.{thinned_nil, some_wrapped}
use Rattle.link_state.proofs.Left.{thinned_canon, IsPlain, plain_at, plain_left, own_means, inet6_thinned}
use Rattle.link_state.proofs.Left.{inet6_shorter, family_means, family_fits, other_number, other_action}

filled_writable : (by : ℕ) (level : Level) (f : Frame) → IsWritable f → IsWritable (filled_frame by level f)
filled_writable by level f h = record {
  kind = h.kind;
  size = omega (arith, h.size, length-payload_by by (action_of level (number f)) f.payload);
}

-- the first frame, filled and thinned
first_thinned : (by : ℕ) (level : Level) (f : Frame) (rest : List ℕ) → IsWritable f
    → thinned level (filled by level (canon f ++ rest))
    ≡ left_of thinned (action_of level (number f)) (filled_frame by level f).payload (canon (filled_frame by level f))
    ++ thinned level (filled by level rest)
first_thinned by level f rest h =
    ap (thinned level) (filled_canon by level f rest h)
    ∙ thinned_canon level (filled_frame by level f) (filled by level rest) (filled_writable by level f h)

nothing_apart : (by : ℕ) (level : Level) → thinned level (filled by level []) ≡ filled by level (thinned level [])
nothing_apart by level =
    ap (thinned level) (filled_nil by level [] refl)
    ∙ thinned_nil level [] refl
    ∙ sym (filled_nil by level [] refl)
    ∙ ap (filled by level) (sym (thinned_nil level [] refl))

moving_apart : (by : ℕ) (level : Level) (f : Frame) (later : List ℕ) (t : Bool) → IsWritable f
    → cond t (canon (filled_frame by level f)) [] ++ filled by level later
    ≡ filled by level (cond t (canon f) [] ++ later)
moving_apart by level f later true h = sym (filled_canon by level f later h)
moving_apart by level f later false h = refl

plain_apart : {V : Type 0} (frame : V → Frame) (by : ℕ) (level : Level) → ((n : ℕ) → IsPlain (action_of level n))
    → (vs : List V) → AllByRecursion (λ v. IsWritable (frame v)) vs
    → thinned level (filled by level (canons frame vs)) ≡ filled by level (thinned level (canons frame vs))
plain_apart frame by level plain [] h = nothing_apart by level
plain_apart frame by level plain (v ∷ vs) h =
    let f = frame v in
    let action = action_of level (number f) in
    let later = thinned level (canons frame vs) in
    first_thinned by level f (canons frame vs) h.0
    ∙ ap (λ xs. xs ++ thinned level (filled by level (canons frame vs)))
    (plain_left action (filled_frame by level f).payload (canon (filled_frame by level f)) (plain (number f)))
    ∙ ap (λ xs. cond (is_moving action) (canon (filled_frame by level f)) [] ++ xs)
    (plain_apart frame by level plain vs h.1)
    ∙ moving_apart by level f later (is_moving action) h.0
    ∙ ap (λ xs. filled by level (xs ++ later)) (sym (plain_left action f.payload (canon f) (plain (number f))))
    ∙ ap (filled by level) (sym (thinned_canon level f (canons frame vs) h.0))

inet6_plain : (n : ℕ) → IsPlain (action_of Inet6 n)
inet6_plain = plain_at (rows Inet6) (tt, (tt, (tt, tt)))

inet6_writable : (b : List ℕ) (vs : List AfSpecInet6) → IsBytes b → AreInet6 b vs
    → AllByRecursion (λ v. IsWritable (af_spec_inet6_place.frame v)) vs
inet6_writable b vs small own =
    let p = af_spec_inet6_place in
    every_writable p.grammar p.frame p.Fits p.lawful.writable own.means.0 vs
    (frames_framed b own.means.0 small own.means.1) own.means.2 own.fits.0

pub inet6_apart : Inet6Apart
inet6_apart by b vs small own =
    ap (λ x. thinned Inet6 (filled by Inet6 x)) own.text
    ∙ plain_apart af_spec_inet6_place.frame by Inet6 inet6_plain vs (inet6_writable b vs small own)
    ∙ ap (λ x. filled by Inet6 (thinned Inet6 x)) (sym own.text)

-- ** settings by family

wrapped_canon : (p : List ℕ) → 0 < length p → length p % 4 ≡ 0
    → wrapped (to_le_bytes w16 10) p ≡ canon (record { kind = 10; payload = p })
wrapped_canon p some whole =
    let none : missing (length p) ≡ 0 = omega (arith, whole) in
    some_wrapped (to_le_bytes w16 10) p some
    ∙ sym (append_assoc (to_le_bytes w16 (4 + length p)) (to_le_bytes w16 10) p)
    ∙ sym (append-nil (to_le_bytes w16 (4 + length p) ++ to_le_bytes w16 10 ++ p))
    ∙ ap (λ n. to_le_bytes w16 (4 + length p) ++ to_le_bytes w16 10 ++ p ++ replicate n 0) (sym none)

-- a list of settings of IPv6 in its frame
wrapped_apart : (by : ℕ) (ws : List AfSpecInet6) (later : List ℕ)
    → length (canons af_spec_inet6_place.frame ws) ≤ most_payload
    → wrapped (to_le_bytes w16 10) (filled by Inet6 (canons af_spec_inet6_place.frame ws)) ++ filled by Families later
    ≡ filled by Families (wrapped (to_le_bytes w16 10) (canons af_spec_inet6_place.frame ws) ++ later)
wrapped_apart by [] later small =
    ap (λ p. wrapped (to_le_bytes w16 10) p ++ filled by Families later) (filled_nil by Inet6 [] refl)
wrapped_apart by (w ∷ ws) later small =
    let q = canons af_spec_inet6_place.frame (w ∷ ws) in
    let some = canons_some af_spec_inet6_place.frame (w ∷ ws) (omega arith) in
    let whole = canons_whole af_spec_inet6_place.frame (w ∷ ws) in
    let size = length-filled by Inet6 q in
    let f : Frame = record { kind = 10; payload = q } in
    ap (λ xs. xs ++ filled by Families later)
    (wrapped_canon (filled by Inet6 q) (omega (arith, some, size)) (ap (λ n. n % 4) size ∙ whole))
    ∙ sym (filled_canon by Families f later (record { kind = omega arith; size = omega (arith, small) }))
    ∙ ap (λ xs. filled by Families (xs ++ later)) (sym (wrapped_canon q some whole))

kept_apart : (by : ℕ) (action : Action) (p q b c later : List ℕ) → action ≡ Keep
    → left_of thinned action p b ++ filled by Families later
    ≡ filled by Families (left_of thinned action q c ++ later)
kept_apart by action p q b c later keep =
    ap (λ a. left_of thinned a p b ++ filled by Families later) keep
    ∙ sym (ap (λ a. filled by Families (left_of thinned a q c ++ later)) keep)

family_apart : (by : ℕ) (v : AfSpecUnspec) (later : List ℕ) → IsFrame (af_spec_unspec_place.frame v)
    → af_spec_unspec_place.grammar.means (af_spec_unspec_place.frame v) v → af_spec_unspec_place.Fits v
    → left_of thinned (action_of Families (number (af_spec_unspec_place.frame v)))
    (filled_frame by Families (af_spec_unspec_place.frame v)).payload
    (canon (filled_frame by Families (af_spec_unspec_place.frame v))) ++ filled by Families later
    ≡ filled by Families (left_of thinned (action_of Families (number (af_spec_unspec_place.frame v)))
    (af_spec_unspec_place.frame v).payload (canon (af_spec_unspec_place.frame v)) ++ later)
unfolding af_spec_unspec_place
family_apart by (unspec.Inet6 ws) later framed means fits =
    let p = canons af_spec_inet6_place.frame ws in
    let inside = family_fits ws fits in
    let own : AreInet6 p ws = record { means = (family_means ws means).means; fits = inside.1; text = refl } in
    let left = inet6_thinned p ws framed.bytes own in
    let fewer : length (canons af_spec_inet6_place.frame (inet6_left ws)) ≤ most_payload =
    omega (arith, inside.0, inet6_shorter ws) in
    ap (λ x. wrapped (to_le_bytes w16 10) x ++ filled by Families later)
    (inet6_apart by p ws framed.bytes own ∙ ap (filled by Inet6) left.text)
    ∙ wrapped_apart by (inet6_left ws) later fewer
    ∙ ap (λ x. filled by Families (wrapped (to_le_bytes w16 10) x ++ later)) (sym left.text)
family_apart by (unspec.Inet xs) later framed means fits = refl
family_apart by (unspec.Mctp xs) later framed means fits = refl
family_apart by (unspec.Other f) later framed means fits =
    kept_apart by (action_of Families (number f)) (filled_frame by Families f).payload f.payload
    (canon (filled_frame by Families f)) (canon f) later
    (other_action f (other_number f means (number f == 10) refl))

each_apart : (by : ℕ) (vs : List AfSpecUnspec) → AllByRecursion IsFrame (map af_spec_unspec_place.frame vs)
    → AllByRecursion (λ v. af_spec_unspec_place.grammar.means (af_spec_unspec_place.frame v) v) vs
    → AllByRecursion af_spec_unspec_place.Fits vs
    → thinned Families (filled by Families (canons af_spec_unspec_place.frame vs))
    ≡ filled by Families (thinned Families (canons af_spec_unspec_place.frame vs))
each_apart by [] framed means fits = nothing_apart by Families
each_apart by (v ∷ vs) framed means fits =
    let p = af_spec_unspec_place in
    let f = p.frame v in
    let later = thinned Families (canons p.frame vs) in
    let writable = p.lawful.writable f v framed.0 means.0 fits.0 in
    first_thinned by Families f (canons p.frame vs) writable
    ∙ ap (λ xs. left_of thinned (action_of Families (number f)) (filled_frame by Families f).payload
    (canon (filled_frame by Families f)) ++ xs) (each_apart by vs framed.1 means.1 fits.1)
    ∙ family_apart by v later framed.0 means.0 fits.0
    ∙ ap (filled by Families) (sym (thinned_canon Families f (canons p.frame vs) writable))

pub families_apart : FamiliesApart
families_apart by b vs small own =
    let p = af_spec_unspec_place in
    let fs = own.means.0 in
    let framed = frames_framed b fs small own.means.1 in
    let writable = every_writable p.grammar p.frame p.Fits p.lawful.writable fs vs framed own.means.2 own.fits.0 in
    let one : fs ≡ map p.frame vs = frames_once b fs (map p.frame vs) own.means.1
    (subst (λ x. Frames x (map p.frame vs)) (sym own.text) (canons_frames p.frame vs writable)) in
    let means = own_means p.grammar p.frame p.Fits vs (subst (λ gs. Every p.grammar.means gs vs) one own.means.2) in
    ap (λ x. thinned Families (filled by Families x)) own.text
    ∙ each_apart by vs (subst (λ gs. AllByRecursion IsFrame gs) one framed) means own.fits.0
    ∙ ap (λ x. filled by Families (thinned Families x)) (sym own.text)
