-- A host of which nothing is known.
use Rattle.std.proofs.Common.{◌≡◌, ℕ, Bool, true, false, not, List, [], ◌∷◌, length, refl, sym, ap, ◌∙◌, arith}
use Rattle.std.specs.Prelude.{Option, None, Some, is_some, ◌==◌, ◌||◌}
use Rattle.std.specs.List.{list_any}
use Rattle.std.proofs.lemmas.Bool.Decides.{nat_tests}
use Rattle.message_diff.specs.declared.key.Key.{Key}
use Rattle.message_diff.specs.declared.store.Known.{Known}
use Rattle.message_diff.specs.declared.store.Dump.{Dump}
use Rattle.message_diff.specs.declared.store.Host.{Host}
use Rattle.message_diff.specs.Known.{Picture, nothing_known}
use Rattle.message_diff.specs.Held.{held_in, knows_any, picture, run_in, seen_in}

neither : (a b : Bool) → (a || b) ≡ false → (a ≡ false) × (b ≡ false)
neither true b h = absurd cc
neither false b h = (refl, h)

empty : {A : Type 0} (xs : List A) → not (length xs == 0) ≡ false → xs ≡ []
empty [] h = refl
empty (x ∷ xs) h =
    let some : (length (x ∷ xs) == 0) ≡ false = grind (arith, nat_tests) in
    let clash : true ≡ false = (λ i. not (sym some i)) ∙ h in absurd cc

none_of : {A : Type 0} (o : Option A) → is_some o ≡ false → o ≡ None
none_of None h = refl
none_of (Some x) h = absurd cc

abbrev pictured : List (Key × Known) → Option Dump → List ℕ → Picture
pictured entries dump whole = record {
  of = λ q. seen_in (held_in entries q);
  run = run_in dump;
  whole = λ family. list_any (λ f. f == family) whole;
}

pub unknown_is : (host : Host) → knows_any host ≡ false → picture host ≡ nothing_known
unknown_is host h =
    let a = neither _ _ h in
    let b = neither _ _ a.1 in
    ap (λ es. pictured es host.dump host.whole.items) (empty host.known.entries a.0)
    ∙ ap (λ d. pictured [] d host.whole.items) (none_of host.dump b.0)
    ∙ ap (λ w. pictured [] None w) (empty host.whole.items b.1)
