-- A page as far as it is written, and what is added to it.
use Rattle.std.specs.Prelude.{◌≡◌, ◌⊎◌, ℕ, Bool, true, false, List, [], ◌∷◌, ◌++◌, refl}
use Rattle.std.specs.List.{fold, flat_map}
use Rattle.std.specs.Coded.{Coded, code_by, coded×, coded_bool, coded_list}
use Rattle.json.specs.Token.{Token, begin_object, end_object, begin_array, end_array, key, tokens_code}
use Rattle.shown.specs.Nesting.{opening, closing}
use Rattle.shown.specs.declared.page.Nest.{Nest}
use Rattle.shown.specs.declared.page.Nest.TheVariants.{Object, List as Items}

-- what is written, what is open, and what is open around that, the innermost last
pub record Draft : Type 0 where
  pub tokens : List Token
  pub inside : Nest
  pub outer : List Nest

-- how the logic stores a draft
abbrev nest_to_bool : Nest → Bool
nest_to_bool Object = true
nest_to_bool Items = false

abbrev nest_from_bool : Bool → Nest
nest_from_bool true = Object
nest_from_bool false = Items

pub nest_from_bool-nest_to_bool : (nest : Nest) → nest_from_bool (nest_to_bool nest) ≡ nest
nest_from_bool-nest_to_bool Object = refl
nest_from_bool-nest_to_bool Items = refl

abbrev pub nest_code : Coded Nest
nest_code = code_by Bool coded_bool nest_to_bool nest_from_bool nest_from_bool-nest_to_bool

abbrev pub draft_code : Coded Draft
draft_code =
    code_by (List Token × (Nest × List Nest)) (coded× tokens_code (coded× nest_code (coded_list nest_code)))
    (λ d. (d.tokens, (d.inside, d.outer))) (λ p. record { tokens = p.0; inside = p.1.0; outer = p.1.1 }) (λ _. refl)

-- ** what is added

-- the tokens with a name after them, where one is due
abbrev pub named : Nest → List ℕ → List Token → List Token
named Object name ts = ts ++ key name ∷ []
named Items name ts = ts

-- an object with no member
abbrev pub empty_object : Draft
empty_object = record { tokens = begin_object ∷ []; inside = Object; outer = [] }

-- a value of these tokens was added, after its name where one is due
abbrev pub with_value : List ℕ → List Token → Draft → Draft
with_value name value page =
    record { tokens = named page.inside name page.tokens ++ value; inside = page.inside; outer = page.outer }

-- an object or a list was begun, after its name where one is due
abbrev pub with_begun : List ℕ → Nest → Draft → Draft
with_begun name nest page = record {
  tokens = named page.inside name page.tokens ++ opening nest ∷ [];
  inside = nest;
  outer = page.outer ++ page.inside ∷ [];
}

-- what is open was ended; where nothing is open around it, nothing changed
abbrev pub Ends : Draft → Draft → Type 0
Ends old new = ((old.outer ≡ []) × (new ≡ old))
    ⊎ ((old.outer ≡ new.outer ++ new.inside ∷ []) × (new.tokens ≡ old.tokens ++ closing old.inside ∷ []))

-- names, each with the tokens of its value
abbrev pub Members : Type 0
Members = List (List ℕ × List Token)

-- the values were added, one after another
abbrev pub with_members : Members → Draft → Draft
with_members members page = fold (λ d m. with_value m.0 m.1 d) page members

-- ** values of more than one token

abbrev pub object_of : Members → List Token
object_of members = begin_object ∷ flat_map (λ m. key m.0 ∷ m.1) members ++ end_object ∷ []

abbrev pub list_of : List Token → List Token
list_of items = begin_array ∷ items ++ end_array ∷ []
