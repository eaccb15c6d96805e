-- Each value of a list has a number, and a label.
use Rattle.std.proofs.Common.{◌≡◌, ℕ, suc, List, [], ◌∷◌, ◌++◌, length, map, refl, ap}
use Rattle.std.specs.Prelude.{Option}
use Rattle.std.specs.List.{flat_map}
use Rattle.nla_wire.specs.Frames.{Frame}
use Rattle.frame_diff.specs.Forests.{Held}
use Rattle.frame_diff.specs.Labels.{labels_behind}
use Rattle.frame_diff.specs.Members.{numbers_by}

pub labels_long : (before ns : List (Option ℕ)) → length (labels_behind before ns) ≡ length ns
labels_long before [] = refl
labels_long before (n ∷ ns) = ap (λ k. suc k) (labels_long (n ∷ before) ns)

both_long : (n : Option ℕ) (hs gs : List (Option Held)) (ns : List (Option ℕ)) → length ns ≡ length gs
    → length (map (λ (h : Option Held). n) hs ++ ns) ≡ length (hs ++ gs)
both_long n [] gs ns long = long
both_long n (h ∷ hs) gs ns long = ap (λ k. suc k) (both_long n hs gs ns long)

pub numbers_long : (number_of : Frame → Option ℕ) (values : Frame → List (Option Held)) (fs : List Frame)
    → length (numbers_by number_of values fs) ≡ length (flat_map values fs)
numbers_long number_of values [] = refl
numbers_long number_of values (f ∷ fs) =
    both_long (number_of f) (values f) (flat_map values fs) (numbers_by number_of values fs)
    (numbers_long number_of values fs)
