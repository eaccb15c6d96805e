-- What a page is, and what it becomes.
use Rattle.std.specs.Prelude.{◌≡◌, ℕ, ◌≤◌, List, [], ◌∷◌, ◌++◌, Some}
use Rattle.std.specs.List.{fold, All}
use Rattle.json.specs.Token.{Token, begin_object, number}
use Rattle.shown.specs.Print.{print}
use Rattle.shown.specs.Drafts.{Draft}
use Rattle.shown.specs.Nesting.{Spot, closing, due, after_value, after_token, after_tokens, IsValue, spot_of}
use Rattle.shown.specs.declared.page.Nest.{Nest}

-- each byte is printed on the line
abbrev pub IsOneLine : List ℕ → Type 0
IsOneLine text = All (λ x. 32 ≤ x) text

-- a number's text stays on the line; texts and names do by their escapes
abbrev pub IsPlain : Token → Type 0
IsPlain (number s) = IsOneLine s
IsPlain _ = Unit {0}

-- what is open around, the innermost last
abbrev pub spots_of : List Nest → List Spot
spots_of outer = fold (λ spots nest. spot_of nest ∷ spots) [] outer

-- the tokens of a page: an object, some of whose members are written
pub record IsPage (ts : List Token) (inside : Nest) (outer : List Nest) : Type 0 where
  pub first : (members : List Token) × (ts ≡ begin_object ∷ members)
  pub nested : after_tokens (due ∷ []) ts ≡ Some (spot_of inside ∷ spots_of outer)
  pub plain : All IsPlain ts

-- the tokens of a page that is ended
abbrev pub ended : Draft → List Token
ended page = page.tokens ++ closing page.inside ∷ []

-- the text of an object: the page's tokens, and the last bracket
pub record IsWholeText (page : Draft) (text : List ℕ) : Type 0 where
  pub first : (members : List Token) × (ended page ≡ begin_object ∷ members)
  pub printed : text ≡ print (ended page)
  pub value : IsValue (ended page)
  pub plain : All IsPlain (ended page)

-- the text of the object was added
abbrev pub AddsText : Draft → List ℕ → List ℕ → Type 0
AddsText page old new = (text : List ℕ) × IsWholeText page text × (new ≡ old ++ text)

-- a token that is a value alone
abbrev pub IsScalar : Token → Type 0
IsScalar t = (spots : List Spot) → after_token spots t ≡ after_value spots

-- the text is an object that begins so, on one line
pub record IsObject (head : List Token) (text : List ℕ) : Type 0 where
  pub rest : List Token
  pub printed : text ≡ print (head ++ rest)
  pub value : IsValue (head ++ rest)
  pub line : IsOneLine text
