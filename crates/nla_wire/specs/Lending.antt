-- What a list ends as, where its values are lent to be changed in place.
use Rattle.std.specs.Prelude.{List, ◌++◌, length, take, drop}

-- a list with these values at its front: where they are as many as the list has, these values
abbrev pub overwritten : {A : Type 0} → List A → List A → List A
overwritten list values = take (length list) (values ++ drop (length values) list)
