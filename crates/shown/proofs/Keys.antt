-- A key is its own escape.
use Rattle.std.proofs.Common.{◌≡◌, ℕ, zero, suc, Bool, true, false, not, ◌&&◌, List, [], ◌∷◌, length, refl, arith}
use Rattle.std.proofs.Common.{get_or, Bor, map}
use Rattle.shown.specs.Print.{escape}
use Rattle.shown.specs.Escapes.{PlainBetween, may_escape}
use Rattle.shown.specs.Keys.{IsKey, is_key, AreKeys, are_keys}
use Rattle.shown.proofs.Escapes.{plain_text}

both : (a b : Bool) → a && b ≡ true → (a ≡ true) × (b ≡ true)
both true true h = (refl, refl)
both true false h = absurd cc
both false b h = absurd cc

key_plain : (xs : List ℕ) → IsKey xs → PlainBetween xs 0 (length xs)
key_plain [] e k p q = absurd (omega arith)
key_plain (x ∷ xs) e zero p q = (both (not (may_escape x)) (is_key xs) e).0
key_plain (x ∷ xs) e (suc k) p q =
    key_plain xs (both (not (may_escape x)) (is_key xs) e).1 k (omega arith) (omega arith)

pub key_escape : (name : List ℕ) → IsKey name → escape name ≡ name
key_escape name is = plain_text name (key_plain name is)

-- what stands in no place of a table is no name, and so a key
pub key_at : (names : List (Bor (List ℕ))) (i : ℕ) (d : Bor (List ℕ)) → IsKey d.now
    → AreKeys (map (λ name. name.now) names) → IsKey (get_or names i d).now
key_at [] i d none h = none
key_at (x ∷ xs) zero d none h = (both (is_key x.now) (are_keys (map (λ name. name.now) xs)) h).0
key_at (x ∷ xs) (suc i) d none h =
    key_at xs i d none (both (is_key x.now) (are_keys (map (λ name. name.now) xs)) h).1
