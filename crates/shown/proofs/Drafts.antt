-- What was begun and ended is one value.
use Rattle.std.proofs.Common.{◌≡◌, ℕ, List, [], ◌∷◌, ◌++◌, refl, sym, ap, subst, ◌∙◌, inl, inr}
use Rattle.std.proofs.Common.{append_assoc, append-nil}
use Rattle.std.specs.List.{flat_map}
use Rattle.json.specs.Token.{Token, key}
use Rattle.shown.specs.Nesting.{opening, closing}
use Rattle.shown.specs.declared.page.Nest.{Nest}
use Rattle.shown.specs.declared.page.Nest.TheVariants.{Object, List as Items}
use Rattle.shown.specs.Drafts.{Draft, Members, Ends, named, with_value, with_begun, with_members, object_of, list_of}

no_push : {A : Type 0} (xs : List A) (x : A) → xs ++ x ∷ [] ≡ [] → ⊥
no_push [] x h = absurd cc
no_push (y ∷ xs) x h = absurd cc

push_same : {A : Type 0} (xs ys : List A) (x y : A) → xs ++ x ∷ [] ≡ ys ++ y ∷ [] → (xs ≡ ys) × (x ≡ y)
push_same [] [] x y h = (refl, cc)
push_same [] (b ∷ ys) x y h = let tail : ys ++ y ∷ [] ≡ [] = cc in absurd (no_push ys y tail)
push_same (a ∷ xs) [] x y h = let tail : xs ++ x ∷ [] ≡ [] = cc in absurd (no_push xs x tail)
push_same (a ∷ xs) (b ∷ ys) x y h =
    let tail : xs ++ x ∷ [] ≡ ys ++ y ∷ [] = cc in
    let head : a ≡ b = cc in
    let same = push_same xs ys x y tail in
    ((λ k. head k ∷ same.0 k), same.1)

-- a page in which an object or a list was begun and tokens were added to it
abbrev pub begun_with : List ℕ → Nest → List Token → Draft → Draft
begun_with name nest items page = record {
  tokens = (with_begun name nest page).tokens ++ items;
  inside = nest;
  outer = (with_begun name nest page).outer;
}

value_ended : (name : List ℕ) (nest : Nest) (items : List Token) (old new : Draft)
    → Ends (begun_with name nest items old) new
    → new ≡ with_value name (opening nest ∷ items ++ closing nest ∷ []) old
value_ended name nest items old new (inl e) = absurd (no_push old.outer old.inside e.0)
value_ended name nest items old new (inr e) =
    let same = push_same old.outer new.outer old.inside new.inside e.0 in
    let tokens : new.tokens ≡ named old.inside name old.tokens ++ (opening nest ∷ items ++ closing nest ∷ []) =
    e.1 ∙ ap (λ l. l ++ closing nest ∷ []) (append_assoc (named old.inside name old.tokens) (opening nest ∷ []) items)
    ∙ append_assoc (named old.inside name old.tokens) (opening nest ∷ items) (closing nest ∷ []) in
    λ k. record { tokens = tokens k; inside = sym same.1 k; outer = sym same.0 k }

-- what was begun, filled and ended is one value
pub nested : (name : List ℕ) (nest : Nest) (items : List Token) (old last new : Draft)
    → last ≡ begun_with name nest items old → Ends last new
    → new ≡ with_value name (opening nest ∷ items ++ closing nest ∷ []) old
nested name nest items old last new is ends =
    value_ended name nest items old new (subst (λ (d : Draft). Ends d new) is ends)

pub members_added : (ms : Members) (ts : List Token) (outer : List Nest)
    → with_members ms (record { tokens = ts; inside = Object; outer = outer })
    ≡ record { tokens = ts ++ flat_map (λ m. key m.0 ∷ m.1) ms; inside = Object; outer = outer }
members_added [] ts outer = λ k. record { tokens = sym (append-nil ts) k; inside = Object; outer = outer }
members_added (m ∷ ms) ts outer =
    members_added ms ((ts ++ key m.0 ∷ []) ++ m.1) outer
    ∙ (λ k. record {
      tokens = (append_assoc (ts ++ key m.0 ∷ []) m.1 (flat_map (λ n. key n.0 ∷ n.1) ms)
          ∙ append_assoc ts (key m.0 ∷ []) (m.1 ++ flat_map (λ n. key n.0 ∷ n.1) ms)) k;
      inside = Object;
      outer = outer;
    })

-- an object that was begun, filled with members and ended
pub object_ended : (name : List ℕ) (ms : Members) (old last new : Draft)
    → last ≡ with_members ms (with_begun name Object old) → Ends last new
    → new ≡ with_value name (object_of ms) old
object_ended name ms old last new is ends =
    nested name Object (flat_map (λ m. key m.0 ∷ m.1) ms) old last new
    (is ∙ members_added ms (with_begun name Object old).tokens (with_begun name Object old).outer) ends

members_listed : (ms : Members) (ts : List Token) (outer : List Nest)
    → with_members ms (record { tokens = ts; inside = Items; outer = outer })
    ≡ record { tokens = ts ++ flat_map (λ m. m.1) ms; inside = Items; outer = outer }
members_listed [] ts outer = λ k. record { tokens = sym (append-nil ts) k; inside = Items; outer = outer }
members_listed (m ∷ ms) ts outer =
    members_listed ms (ts ++ m.1) outer
    ∙ (λ k. record { tokens = append_assoc ts m.1 (flat_map (λ n. n.1) ms) k; inside = Items; outer = outer })

-- a list that was begun, filled with the values of members and ended
pub list_ended : (name : List ℕ) (ms : Members) (old last new : Draft)
    → last ≡ with_members ms (with_begun name Items old) → Ends last new
    → new ≡ with_value name (list_of (flat_map (λ m. m.1) ms)) old
list_ended name ms old last new is ends =
    nested name Items (flat_map (λ m. m.1) ms) old last new
    (is ∙ members_listed ms (with_begun name Items old).tokens (with_begun name Items old).outer) ends
