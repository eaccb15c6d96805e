-- Parts of a buffer written one after the other.
use Rattle.std.proofs.Common.{◌≡◌, ℕ, ◌+◌, ◌-◌, ◌≤◌, List, ◌++◌, length, take, drop, replicate, refl, sym, ap, ◌∙◌}
use Rattle.std.proofs.Common.{arith, append_assoc, length-append, length-drop, take-take}
use Rattle.std.proofs.Math.Seq.{drop-drop, drop-append_seam}
use lib.Seq.{paste}
use Rattle.std.proofs.lemmas.List.Edits.{take-paste}
use Rattle.std.proofs.lemmas.List.{append-nil, take-append-le, length-take-le, take_all, drop_all, length-replicate}
use borrow.Rule.Slice.PartMut.{put_mid}
use Rattle.std.specs.Int.{w16, to_le_bytes}
use Rattle.nla_wire.specs.Frames.{missing}
use Rattle.nla_wire.specs.Canon.{canon, Filled}

-- a part up to the end of the buffer
pub put_end : (at k : ℕ) (old part : List ℕ) → k ≡ length old - at → put_mid at k old part ≡ take at old ++ part
put_end at k old part k_is =
    ap (λ (t : List ℕ). take at old ++ (part ++ t)) (drop_all k (drop at old) (omega (arith, k_is, length-drop at old)))
    ∙ ap (λ (t : List ℕ). take at old ++ t) (append-nil part)

-- what is lent of a buffer from a place on
pub lent_end : (at k : ℕ) (old : List ℕ) → k ≡ length old - at → take k (drop at old) ≡ drop at old
lent_end at k old k_is = take_all k (drop at old) (omega (arith, k_is, length-drop at old))

-- what stands after a place, moved to the front
pub moved_front : (n : ℕ) (s : List ℕ) → n ≤ length s
    → take (length s - n) (paste s 0 (drop n s) (length s - n)) ≡ drop n s
moved_front n s fits =
    let k = length s - n in
    let same : k ≡ 0 + k = omega arith in
    let rest : length (drop n s) ≡ k = omega (arith, length-drop n s) in
    ap (λ i. take i (paste s 0 (drop n s) k)) same ∙ take-paste s 0 (drop n s) k (omega arith) (omega (arith, rest))
    ∙ take_all k (drop n s) (omega (arith, rest))

pub take_twice : (n m : ℕ) (xs tail : List ℕ) → n ≤ m → m ≤ length xs → take n (take m xs ++ tail) ≡ take n xs
take_twice n m xs tail le fits =
    take-append-le n (take m xs) tail (omega (arith, le, length-take-le m xs fits)) ∙ take-take n m xs le

-- two bytes put in front of the part after `n + 2`
pub put_two : (n m : ℕ) (old tail two before after : List ℕ)
    → m ≡ n + 2 → m ≤ length old → before ≡ take m old ++ tail → after ≡ take n before ++ two ++ drop m before
    → after ≡ take n old ++ (two ++ tail)
put_two n m old tail two before after m_is fits b_is a_is =
    let front : take n before ≡ take n old = ap (take n) b_is ∙ take_twice n m old tail (omega (arith, m_is)) fits in
    let later : drop m before ≡ tail =
    ap (drop m) b_is ∙ ap (λ k. drop k (take m old ++ tail)) (sym (length-take-le m old fits))
    ∙ drop-append_seam (take m old) tail in
    a_is ∙ ap (λ (t : List ℕ). t ++ two ++ drop m before) front ∙ ap (λ (t : List ℕ). take n old ++ two ++ t) later
    ∙ append_assoc (take n old) two tail

-- the header put in front of a value that was moved to the front by its padding
pub frame_closed : (old part one two after : List ℕ) (start at len padding kind : ℕ)
    → start ≤ length old
    → len ≡ length old - start
    → at ≡ start - padding
    → padding ≡ missing len
    → 4 + missing len ≤ start
    → part ≡ drop padding (take (length old - at) (drop at old)) ++ replicate padding 0
    → one ≡ put_mid at (length old - at) old part
    → two ≡ take (at - 2) one ++ to_le_bytes w16 kind ++ drop (at - 2 + 2) one
    → after ≡ take (at - 4) two ++ to_le_bytes w16 (4 + len) ++ drop (at - 4 + 2) two
    → Filled old after (canon (record { kind = kind; payload = drop start old })) (at - 4)
frame_closed old part one two after start at len padding kind within len_is at_is padding_is room part_is one_is
    two_is after_is =
    let value : List ℕ = drop start old in
    let size : length value ≡ len = omega (arith, len_is, length-drop start old) in
    let moved : part ≡ value ++ replicate padding 0 =
    part_is ∙ ap (λ (t : List ℕ). drop padding t ++ replicate padding 0) (lent_end at (length old - at) old refl)
    ∙ ap (λ (t : List ℕ). t ++ replicate padding 0)
    (drop-drop padding at old ∙ ap (λ n. drop n old) (omega (arith, at_is, padding_is, room))) in
    let first : one ≡ take at old ++ (value ++ replicate padding 0) =
    one_is ∙ put_end at (length old - at) old part refl ∙ ap (λ (t : List ℕ). take at old ++ t) moved in
    let second : two ≡ take (at - 2) old ++ (to_le_bytes w16 kind ++ (value ++ replicate padding 0)) =
    put_two (at - 2) at old (value ++ replicate padding 0)
    (to_le_bytes w16 kind) one two (omega (arith, at_is, padding_is, room)) (omega (arith, at_is, within)) first (two_is
    ∙ ap (λ n. take (at - 2) one ++ to_le_bytes w16 kind ++ drop n one) (omega (arith, at_is, padding_is, room))) in
    let third : after
    ≡ take (at - 4) old ++ (to_le_bytes w16 (4 + len) ++ (to_le_bytes w16 kind ++ (value ++ replicate padding 0))) =
    put_two (at - 4) (at - 2) old (to_le_bytes w16 kind ++ (value ++ replicate padding 0))
    (to_le_bytes w16 (4 + len)) two after (omega (arith, at_is, padding_is, room)) (omega (arith, at_is, within)) second
    (after_is ∙ ap (λ n. take (at - 4) two ++ to_le_bytes w16 (4 + len) ++ drop n two)
    (omega (arith, at_is, padding_is, room))) in
    let zeros : padding ≡ missing (length value) = omega (arith, padding_is, size) in
    let written : to_le_bytes w16 (4 + len) ++ (to_le_bytes w16 kind ++ (value ++ replicate padding 0))
    ≡ canon (record { kind = kind; payload = value }) =
    ap (λ n. to_le_bytes w16 (4 + n) ++ (to_le_bytes w16 kind ++ (value ++ replicate padding 0))) (sym size)
    ∙ ap (λ n. to_le_bytes w16 (4 + length value) ++ (to_le_bytes w16 kind ++ (value ++ replicate n 0))) zeros in
    let body : length (value ++ replicate (missing (length value)) 0) ≡ length value + missing (length value) =
    length-append value (replicate (missing (length value)) 0)
    ∙ ap (λ n. length value + n) (length-replicate (missing (length value)) 0) in (
      omega (arith, body, size, at_is, padding_is, room, len_is, within),
      third ∙ ap (λ (t : List ℕ). take (at - 4) old ++ t) written,
    )

pub take_front : (n : ℕ) (xs tail : List ℕ) → n ≤ length xs → take n (take n xs ++ tail) ≡ take n xs
take_front n xs tail fits = take_twice n n xs tail (omega arith) fits

pub drop_front : (n : ℕ) (xs tail : List ℕ) → n ≤ length xs → drop n (take n xs ++ tail) ≡ tail
drop_front n xs tail fits = ap (λ k. drop k (take n xs ++ tail)) (sym (length-take-le n xs fits))
    ∙ drop-append_seam (take n xs) tail
