-- Which tokens are one JSON value: the objects and lists that are open, innermost first.
use Rattle.std.specs.Prelude.{◌≡◌, List, [], ◌∷◌, Option, Some, None, option_and_then}
use Rattle.json.specs.Token.{Token, begin_object, end_object, begin_array, end_array, key, string, number, boolean}
use Rattle.json.specs.Token.{null, bad}
use Rattle.shown.specs.declared.page.Nest.{Nest}
use Rattle.shown.specs.declared.page.Nest.TheVariants.{Object, List as Items}

-- what a token stands in; `due` is where one value stands, at the beginning or after a name
pub data Spot : Type 0 where
  due : Spot
  object : Spot
  list : Spot

-- where the next token stands after a value
abbrev pub after_value : List Spot → Option (List Spot)
after_value [] = None
after_value (due ∷ spots) = Some spots
after_value (object ∷ spots) = None
after_value (list ∷ spots) = Some (list ∷ spots)

abbrev pub after_begin : Spot → Option (List Spot) → Option (List Spot)
after_begin spot None = None
after_begin spot (Some spots) = Some (spot ∷ spots)

abbrev pub after_key : List Spot → Option (List Spot)
after_key [] = None
after_key (due ∷ spots) = None
after_key (object ∷ spots) = Some (due ∷ object ∷ spots)
after_key (list ∷ spots) = None

abbrev pub after_end_object : List Spot → Option (List Spot)
after_end_object [] = None
after_end_object (due ∷ spots) = None
after_end_object (object ∷ spots) = Some spots
after_end_object (list ∷ spots) = None

abbrev pub after_end_array : List Spot → Option (List Spot)
after_end_array [] = None
after_end_array (due ∷ spots) = None
after_end_array (object ∷ spots) = None
after_end_array (list ∷ spots) = Some spots

-- where the next token stands, and None where this one may not stand
abbrev pub after_token : List Spot → Token → Option (List Spot)
after_token spots begin_object = after_begin object (after_value spots)
after_token spots end_object = after_end_object spots
after_token spots begin_array = after_begin list (after_value spots)
after_token spots end_array = after_end_array spots
after_token spots (key s) = after_key spots
after_token spots (string s) = after_value spots
after_token spots (number s) = after_value spots
after_token spots (boolean b) = after_value spots
after_token spots null = after_value spots
after_token spots bad = None

unfoldable pub after_tokens : List Spot → List Token → Option (List Spot)
after_tokens spots [] = Some spots
after_tokens spots (t ∷ ts) = option_and_then (λ next. after_tokens next ts) (after_token spots t)

-- the tokens are one value, and no token is left over
abbrev pub IsValue : List Token → Type 0
IsValue ts = after_tokens (due ∷ []) ts ≡ Some []

-- ** what is open in a page

abbrev pub spot_of : Nest → Spot
spot_of Object = object
spot_of Items = list

abbrev pub opening : Nest → Token
opening Object = begin_object
opening Items = begin_array

abbrev pub closing : Nest → Token
closing Object = end_object
closing Items = end_array
