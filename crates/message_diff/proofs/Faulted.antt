-- How a line that tells why bytes are refused is added.
use Rattle.std.proofs.Common.{◌≡◌, ◌≢◌, ◌<◌, ◌≤◌, ◌-◌, ◌⊎◌, inl, inr, ℕ, Bool, true, false, List, [], ◌∷◌, ◌++◌, Bor}
use Rattle.std.proofs.Common.{length, take, drop, refl, sym, ap, ◌∙◌, append_assoc, append-nil, length-append, arith}
use Rattle.std.specs.Prelude.{Option, None, Some, IsSome, MatchOption, option_to_list, ◌↔◌, ◌==◌, cond, nat_lt}
use Rattle.std.specs.Option.{unwrap_or}
use Rattle.std.proofs.Math.Seq.{take-append_seam}
use Rattle.std.proofs.lemmas.Bool.{eqb-true, lt-ltb, ltb-true}
use Rattle.std.proofs.lemmas.List.{nil_from_length, drop_all, take_all, length-drop}
use Rattle.std.specs.Slice.{IsGetRangeResult}
use Rattle.message_diff.specs.Faults.{behind_brace, without_last, with_comma}

no_test : (b : Bool) → (b ≡ true → ⊥) → b ≡ false
no_test true h = absurd (h refl)
no_test false h = refl

-- ** behind the brace
behind_none : (text : List ℕ) → ((rest : List ℕ) → text ≢ 123 ∷ rest) → behind_brace text ≡ []
behind_none [] h = refl
behind_none (x ∷ text) h =
    ap (λ b. cond b text []) (no_test (x == 123) (λ is. h text (ap (λ y. y ∷ text) (eqb-true x 123 is))))

behind_some : (text rest : List ℕ) → text ≡ 123 ∷ rest → rest ≡ behind_brace text
behind_some text rest h = sym (ap behind_brace h)

pub behind : (text : List ℕ) (r : Option (Bor (List ℕ))) (other : Bor (List ℕ)) → other.now ≡ []
    → MatchOption r ((rest : List ℕ) → text ≢ 123 ∷ rest) (λ x. text ≡ 123 ∷ x.now)
    → (unwrap_or r other).now ≡ behind_brace text
behind text None other none h = none ∙ sym (behind_none text h)
behind text (Some x) other none h = behind_some text x.now h

-- ** behind the first byte
at_most_one : (n : ℕ) → (n < 1) ⊎ (n < n) → n ≤ 1
at_most_one n (inl short) = omega (arith, short)
at_most_one n (inr less) = absurd (omega (arith, less))

pub behind_first : (text : List ℕ) (r : Option (Bor (List ℕ))) (other : Bor (List ℕ)) → other.now ≡ []
    → IsGetRangeResult text 1 (length text) r → (unwrap_or r other).now ≡ drop 1 text
behind_first text None other none (cases, some) = none ∙ sym (drop_all 1 text (at_most_one (length text) cases))
behind_first text (Some x) other none ((low, high, is, len), some) =
    is ∙ take_all (length text - 1) (drop 1 text) (omega (arith, length-drop 1 text))

-- ** the words
pub popped : (text new : List ℕ) (last : Option ℕ) → text ≡ new ++ option_to_list last
    → IsSome last ↔ (0 < length text) → new ≡ without_last text
popped text new None is some =
    let long : 0 < length text → ⊥ = λ l. (let bad : false ≡ true = some.1 l in absurd cc) in
    let none : length text ≡ 0 = omega (arith, long) in
    let empty : length new ≡ 0 = omega (arith, ap length is, length-append new [], none) in
    nil_from_length new empty ∙ ap (λ n. take (n - 1) text) (sym none)
popped text new (Some x) is some =
    let len : length text - 1 ≡ length new = omega (arith, ap length is, length-append new (x ∷ [])) in
    sym (ap (λ n. take n text) len ∙ ap (take (length new)) is ∙ take-append_seam new (x ∷ []))

pub comma_some : (text : List ℕ) → 1 < length text → with_comma text ≡ text ++ 44 ∷ []
comma_some text h = ap (λ b. cond b (text ++ 44 ∷ []) text) (lt-ltb 1 (length text) h)

pub comma_none : (text : List ℕ) → (1 < length text → ⊥) → with_comma text ≡ text
comma_none text h =
    ap (λ b. cond b (text ++ 44 ∷ []) text) (no_test (nat_lt 1 (length text)) (λ is. h (ltb-true 1 (length text) is)))

pub front_added : (out opened new rest ended cut text whole : List ℕ) → opened ≡ out ++ 123 ∷ []
    → new ≡ opened ++ rest → rest ≡ drop 1 ended → ended ≡ with_comma cut → cut ≡ without_last text → text ≡ whole
    → new ≡ out ++ (123 ∷ drop 1 (with_comma (without_last whole)))
front_added out opened new rest ended cut text whole ho hn hr he hc ht =
    hn ∙ ap (λ t. t ++ rest) ho ∙ append_assoc out (123 ∷ []) rest
    ∙ ap (λ t. out ++ (123 ∷ t)) (hr ∙ ap (drop 1) (he ∙ ap with_comma (hc ∙ ap without_last ht)))

-- ** the line
pub fault_added : (out words new rest front text answer : List ℕ) → words ≡ out ++ front → new ≡ words ++ rest
    → rest ≡ behind_brace text → text ≡ answer → new ≡ out ++ (front ++ behind_brace answer)
fault_added out words new rest front text answer hw hn hr ht =
    hn ∙ ap (λ t. t ++ rest) hw ∙ append_assoc out front rest
    ∙ ap (λ t. out ++ (front ++ t)) (hr ∙ ap behind_brace ht)

-- ** bytes over others, as many as these
pub written_over : (bytes items : List ℕ) (n : ℕ) → length bytes ≡ n → length items ≡ n
    → take n (bytes ++ drop (length bytes) items) ≡ bytes
written_over bytes items n hb hi =
    ap (λ t. take n (bytes ++ t)) (drop_all (length bytes) items (omega (arith, hb, hi)))
    ∙ ap (take n) (append-nil bytes) ∙ take_all n bytes (omega (arith, hb))
