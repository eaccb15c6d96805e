-- How reads and writes join.
use Rattle.std.proofs.Common.{ℕ, List, [], ◌++◌, refl, sym, ap, ◌∙◌, subst, append_assoc, take}
use Rattle.std.proofs.Common.{drop}
use Rattle.std.specs.Prelude.{Option, None, Some}
use Rattle.std.specs.Io.KnownBytes.{Consumes, Appends, Keeps}
use Rattle.std.proofs.lemmas.List.{append-nil, take-append-drop}
use Rattle.line_filter.specs.Steps.{Sends, AppendsShort}

pub Consumes-none : (a : Option (List ℕ)) → Consumes a a []
Consumes-none None = tt
Consumes-none (Some xs) = refl

pub Consumes-join : (a b c : Option (List ℕ)) (xs ys : List ℕ) → Consumes a b xs → Consumes b c ys
    → Consumes a c (xs ++ ys)
Consumes-join None b c xs ys h k = tt
Consumes-join (Some a) None c xs ys h k = absurd h
Consumes-join (Some a) (Some b) None xs ys h k = absurd k
Consumes-join (Some a) (Some b) (Some c) xs ys h k = h ∙ ap (λ t. xs ++ t) k ∙ sym (append_assoc xs ys c)

pub Consumes-keeps : (a b c : Option (List ℕ)) (xs : List ℕ) → Consumes a b xs → Keeps b c → Consumes a c xs
Consumes-keeps None b c xs h k = tt
Consumes-keeps (Some a) None c xs h k = absurd h
Consumes-keeps (Some a) (Some b) None xs h k = absurd k
Consumes-keeps (Some a) (Some b) (Some c) xs h k = h ∙ ap (λ t. xs ++ t) (sym k)

-- a last read that gives nothing
pub Consumes-all : (a b c : Option (List ℕ)) (xs : List ℕ) → Consumes a b xs → Consumes b c [] → Consumes a c xs
Consumes-all a b c xs h k = subst (λ (t : List ℕ). Consumes a c t) (append-nil xs) (Consumes-join a b c xs [] h k)

pub Appends-none : (a : Option (List ℕ)) → Appends a a []
Appends-none None = tt
Appends-none (Some xs) = sym (append-nil xs)

pub Appends-join : (a b c : Option (List ℕ)) (xs ys : List ℕ) → Appends a b xs → Appends b c ys → Appends a c (xs ++ ys)
Appends-join None b c xs ys h k = tt
Appends-join (Some a) None c xs ys h k = absurd h
Appends-join (Some a) (Some b) None xs ys h k = absurd k
Appends-join (Some a) (Some b) (Some c) xs ys h k = k ∙ ap (λ t. t ++ ys) h ∙ append_assoc a xs ys

-- ** bytes of which a part is written, and the others wait
pub Sends-none : (a : Option (List ℕ)) (bytes : List ℕ) → Sends a a bytes bytes
Sends-none a bytes = ([], Appends-none a, refl)

pub Sends-join : (a b c : Option (List ℕ)) (bytes waiting later : List ℕ) → Sends a b bytes waiting
    → Sends b c waiting later → Sends a c bytes later
Sends-join a b c bytes waiting later h k =
    (h.0 ++ k.0, Appends-join a b c h.0 k.0 h.1 k.1, h.2 ∙ ap (λ t. h.0 ++ t) k.2 ∙ sym (append_assoc h.0 k.0 later))

-- more bytes wait
pub Sends-add : (a b : Option (List ℕ)) (bytes waiting more : List ℕ) → Sends a b bytes waiting
    → Sends a b (bytes ++ more) (waiting ++ more)
Sends-add a b bytes waiting more h = (h.0, h.1, ap (λ t. t ++ more) h.2 ∙ append_assoc h.0 waiting more)

-- one write
pub Sends-write : (a b c : Option (List ℕ)) (bytes rest : List ℕ) (n : ℕ) → Sends a b bytes rest
    → Appends b c (take n rest) → Sends a c bytes (drop n rest)
Sends-write a b c bytes rest n h k =
    Sends-join a b c bytes rest (drop n rest) h (take n rest, k, sym (take-append-drop n rest))

-- the others are written too
pub Sends-all : (a b c : Option (List ℕ)) (bytes waiting : List ℕ) → Sends a b bytes waiting → Appends b c waiting
    → Appends a c bytes
Sends-all a b c bytes waiting h k =
    subst (λ (t : List ℕ). Appends a c t) (sym h.2) (Appends-join a b c h.0 waiting h.1 k)

-- some of the others are written too, and not all of them
pub Sends-short : (a b c : Option (List ℕ)) (bytes waiting : List ℕ) → Sends a b bytes waiting
    → AppendsShort b c waiting → AppendsShort a c bytes
Sends-short a b c bytes waiting h k = (
  h.0 ++ k.0,
  Appends-join a b c h.0 k.0 h.1 k.1,
  (k.2.0, k.2.1, h.2 ∙ ap (λ t. h.0 ++ t) k.2.2 ∙ sym (append_assoc h.0 k.0 k.2.0)),
)
