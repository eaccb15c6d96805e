-- The texts of operational states, read again.
use Rattle.std.proofs.Common.{◌≡◌, ℕ, ◌<◌, nat_lt, ◌+◌, ◌≤◌, ◌&&◌, Bool, false, if◌then◌else◌, List, [], ◌∷◌, refl}
use Rattle.std.proofs.Common.{ap, ◌∙◌, Some, None, arith}
use Rattle.std.proofs.lemmas.Bool.{ne_eqb, lt-ltb}
use Rattle.std.proofs.lemmas.Fmt.{decimal_is_IsNumeral}
use Rattle.std.proofs.lemmas.Str.Parse.{digit_from_value}
use Rattle.std.specs.Char.{to_ascii_lowercase}
use Rattle.std.specs.Fmt.{decimal}
use Rattle.std.specs.List.{find, AllByRecursion}
use Rattle.std.specs.Str.{str_eq_ignore_ascii_case}
use Rattle.std.specs.Str.Parse.{IsNumeral}
use Rattle.link_vals.specs.declared.link_state.State.{State}
use Rattle.link_vals.specs.declared.link_state.State.TheVariants.{Unknown, NotPresent, Down, LowerLayerDown, Testing}
use Rattle.link_vals.specs.declared.link_state.State.TheVariants.{Dormant, Up}
use Rattle.link_vals.specs.StateTable.{state_listed, state_text, state_read}
use Rattle.link_vals.specs.Laws.{NamedStatesRead, OtherStatesRefused}

pub named_states_read : NamedStatesRead
unfolding state_read state_text
named_states_read = (refl, (refl, (refl, (refl, (refl, (refl, (refl, tt)))))))

-- the change of case keeps a digit
lower_digit : (c : ℕ) → c < 65 → to_ascii_lowercase c ≡ c
lower_digit c small = ap (λ b. if b then c else (if nat_lt c 91 then c + 32 else c)) (lt-ltb c 65 small)

abbrev BeginsWithLetter : List ℕ → Type 0
BeginsWithLetter [] = ⊥
BeginsWithLetter (x ∷ xs) = 65 ≤ to_ascii_lowercase x

-- a text that begins with a digit is not one that begins with a letter
digit_differs : (c : ℕ) (cs name : List ℕ) → c < 65 → BeginsWithLetter name
    → str_eq_ignore_ascii_case (c ∷ cs) name ≡ false
digit_differs c cs [] small none = absurd none
digit_differs c cs (x ∷ xs) small large =
    ap (λ b. b && str_eq_ignore_ascii_case cs xs)
    (ne_eqb (to_ascii_lowercase c) (to_ascii_lowercase x) (λ e. omega (arith, lower_digit c small)))

-- a test that no element passes finds none
find_none : {X : Type 0} (test : X → Bool) (xs : List X) → AllByRecursion (λ x. test x ≡ false) xs → find test xs ≡ None
find_none test [] h = refl
find_none test (x ∷ xs) h = ap (λ b. if b then Some x else find test xs) h.0 ∙ find_none test xs h.1

-- no state is named by a text that begins with a digit
digits_refused : (text : List ℕ) → IsNumeral 10 text → state_read text ≡ None
unfolding state_read state_text
digits_refused [] h = absurd (omega (arith, h.0))
digits_refused (c ∷ cs) h =
    let small : c < 65 = let r = digit_from_value c h.1.0 in omega (arith, r) in
    let no : (s : State) → BeginsWithLetter (state_text s)
    → str_eq_ignore_ascii_case (c ∷ cs) (state_text s) ≡ false = λ s l. digit_differs c cs (state_text s) small l in
    find_none (λ s. str_eq_ignore_ascii_case (c ∷ cs) (state_text s)) state_listed (
      no Unknown (omega arith),
      (
        no NotPresent (omega arith),
        (
          no Down (omega arith),
          (
            no LowerLayerDown (omega arith),
            (no Testing (omega arith), (no Dormant (omega arith), (no Up (omega arith), tt))),
          ),
        ),
      ),
    )

pub other_states_refused : OtherStatesRefused
unfolding state_text
other_states_refused n small = digits_refused (decimal n) (decimal_is_IsNumeral n (omega arith)).0
