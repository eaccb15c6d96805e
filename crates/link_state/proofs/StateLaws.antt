-- Laws of whole texts: their header, and the list after it.
use Rattle.std.proofs.Common.{◌≡◌, ℕ, ◌≤◌, List, [], ◌∷◌, ◌++◌, length, take, drop, replicate, true, false, Bool}
use Rattle.std.proofs.Common.{refl, sym, ap, ap₂, subst, ◌∙◌, arith, append_assoc, take_at, drop_at}
use Rattle.std.proofs.lemmas.List.{length-append, length-take, length-drop, length-replicate, take-append-drop}
use Rattle.std.proofs.Math.Seq.{take-add}
use Rattle.nla_wire.specs.Frames.{IsBytes}
use Rattle.nla_wire.proofs.Steps.{bytes_right}
use Rattle.link_msg.specs.Header.{header_size}
use Rattle.link_state.specs.Cleared.{cleared}
use Rattle.link_state.specs.Masks.{mask, blank}
use Rattle.link_state.specs.State.{change_mask_at, level_of, state, state_mask}
use Rattle.link_state.specs.Laws.{StateTwice, ZeroAtItsMask, MaskStays, OneState}
use Rattle.link_state.specs.declared.level.Level.{Level}
use Rattle.link_state.proofs.Masks.{cleared_twice, masked, mask_kept, one_mask, stamp_append, stamp_kept, stamp_whole}

abbrev rest_of : List ℕ → List ℕ
rest_of t = drop header_size t

bytes_after : (t : List ℕ) → IsBytes t → IsBytes (rest_of t)
bytes_after t small =
    bytes_right (take header_size t) (rest_of t) (subst IsBytes (sym (take-append-drop header_size t)) small)

front_size : (t : List ℕ) → header_size ≤ length t → length (take change_mask_at t) ≡ change_mask_at
front_size t long = omega (arith, long, length-take change_mask_at t)

-- what the state encoding has in front, and after its header
state_front : (t : List ℕ) → header_size ≤ length t → take change_mask_at (state t) ≡ take change_mask_at t
state_front t long =
    ap (take change_mask_at) (append_assoc (take change_mask_at t) (replicate 4 0) (cleared (level_of t) (rest_of t)))
    ∙ take_at (take change_mask_at t) (replicate 4 0 ++ cleared (level_of t) (rest_of t)) change_mask_at
    (front_size t long)

state_rest : (t : List ℕ) → header_size ≤ length t → rest_of (state t) ≡ cleared (level_of t) (rest_of t)
state_rest t long =
    drop_at (take change_mask_at t ++ replicate 4 0) (cleared (level_of t) (rest_of t)) header_size
    (omega (
      arith,
      length-append (take change_mask_at t) (replicate 4 0),
      length-replicate {A = ℕ} 4 0,
      front_size t long,
    ))

state_level : (t : List ℕ) → header_size ≤ length t → level_of (state t) ≡ level_of t
state_level [] long = absurd (omega (arith, long))
state_level (x ∷ t) long = refl

pub state_twice : StateTwice
state_twice t (small, long) =
    ap (λ a. a ++ replicate 4 0 ++ cleared (level_of (state t)) (rest_of (state t))) (state_front t long)
    ∙ ap₂ (λ (l : Level) (b : List ℕ). take change_mask_at t ++ replicate 4 0 ++ cleared l b) (state_level t long)
    (state_rest t long)
    ∙ ap (λ b. take change_mask_at t ++ replicate 4 0 ++ b)
    (cleared_twice (level_of t) (rest_of t) (bytes_after t small))

pub mask_stays : MaskStays
mask_stays t (small, long) =
    ap₂ (λ (l : Level) (b : List ℕ). replicate change_mask_at false ++ replicate 4 true ++ mask l b)
    (state_level t long) (state_rest t long)
    ∙ ap (λ (ms : List Bool). replicate change_mask_at false ++ replicate 4 true ++ ms)
    (mask_kept 0 (level_of t) (rest_of t) (bytes_after t small))

header_parts : (t : List ℕ) → header_size ≤ length t
    → t ≡ take change_mask_at t ++ take 4 (drop change_mask_at t) ++ rest_of t
header_parts t long =
    sym (take-append-drop header_size t) ∙ ap (λ a. a ++ rest_of t) (take-add change_mask_at 4 t)

pub zero_at_its_mask : ZeroAtItsMask
zero_at_its_mask t (small, long) =
    let inner = masked 0 (level_of t) (rest_of t) (bytes_after t small) in
    let a : List ℕ = take change_mask_at t in
    let b : List ℕ = take 4 (drop change_mask_at t) in
    let kept : List Bool = replicate change_mask_at false in
    let gone : List Bool = replicate 4 true in
    let marks : List Bool = mask (level_of t) (rest_of t) in
    let a_size : length a ≡ change_mask_at = front_size t long in
    let b_size : length b ≡ 4 =
    omega (arith, long, length-take 4 (drop change_mask_at t), length-drop change_mask_at t) in
    let kept_size = length-replicate change_mask_at false in
    let gone_size = length-replicate 4 true in
    let two : length (kept ++ gone) ≡ length (a ++ b) =
    omega (arith, length-append kept gone, length-append a b, a_size, b_size, kept_size, gone_size) in (
      omega (
        arith,
        length-append (kept ++ gone) marks,
        length-append kept gone,
        kept_size,
        gone_size,
        inner.0,
        length-drop header_size t,
        long,
      ),
      ap (blank (kept ++ gone ++ marks)) (header_parts t long)
          ∙ stamp_append 0 (kept ++ gone) marks (a ++ b) (rest_of t) two
          ∙ ap (λ xs. xs ++ blank marks (rest_of t)) (stamp_append 0 kept gone a b (omega (arith, kept_size, a_size)))
          ∙ ap₂ (λ (xs ys : List ℕ). xs ++ ys ++ blank marks (rest_of t)) (stamp_kept 0 change_mask_at a a_size)
          (stamp_whole 0 4 b b_size ∙ ap (λ n. replicate n 0) b_size)
          ∙ ap (λ ys. a ++ replicate 4 0 ++ ys) inner.1,
    )

pub one_state : OneState
one_state s t (small_s, long_s) (small_t, long_t) =
    one_mask 0 state state_mask s t (zero_at_its_mask s (small_s, long_s)).1 (zero_at_its_mask t (small_t, long_t)).1
    (mask_stays s (small_s, long_s)) (mask_stays t (small_t, long_t))
