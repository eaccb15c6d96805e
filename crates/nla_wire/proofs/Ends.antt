-- Bytes that are written as their first and their last bytes, which meet or overlap.
use Rattle.std.proofs.Common.{◌≡◌, ℕ, ◌+◌, ◌-◌, ◌≤◌, List, ◌++◌, length, take, drop, ap, sym, ◌∙◌, subst, arith}
use Rattle.std.proofs.lemmas.List.{take-append-drop, take-append-le, take-take, length-take-le}
use Rattle.std.proofs.lemmas.Slice.{take-put_mid, drop-put_mid, drop-append-drop}
use Rattle.std.proofs.Common.{length-append, length-drop}
use borrow.Rule.Slice.PartMut.{put_mid}

pub ends_meet : (half : ℕ) (bytes out lent : List ℕ) → half ≤ length bytes → length bytes ≤ half + half
    → length bytes ≤ length out → lent ≡ drop (length bytes - half) bytes
    → put_mid (length bytes - half) (length bytes - (length bytes - half)) (take half bytes ++ drop half out) lent
    ≡ bytes ++ drop (length bytes) out
ends_meet half bytes out lent some all room is =
    let len = length bytes in
    let at = len - half in
    let first = take half bytes ++ drop half out in
    let whole = put_mid at (len - at) first lent in
    let size : length (take half bytes) ≡ half = length-take-le half bytes some in
    let lent_size : length lent ≡ len - at = ap length is ∙ simp length-drop (omega arith) in
    let long : at ≤ length first = simp (length-append, size) (omega (arith, some, all)) in
    let early : take at first ≡ take at bytes =
    take-append-le at (take half bytes) (drop half out) (subst (λ n. at ≤ n) (sym size) (omega (arith, some, all)))
    ∙ take-take at half bytes (omega (arith, some, all)) in
    let front : take len whole ≡ bytes =
    take-put_mid at (len - at) first lent len (omega (arith, some, lent_size)) long
    ∙ ap (λ xs. xs ++ lent) early ∙ ap (λ xs. take at bytes ++ xs) is ∙ take-append-drop at bytes in
    let rest : drop len whole ≡ drop len out =
    drop-put_mid at (len - at) first lent len (omega (arith, some)) long lent_size
    ∙ drop-append-drop half out (take half bytes) len some size in
    sym (take-append-drop len whole) ∙ ap (λ xs. xs ++ drop len whole) front ∙ ap (λ xs. bytes ++ xs) rest
