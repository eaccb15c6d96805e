-- The operational states of links: numbers, as in linux/if.h, texts, and the texts that are read.
use Rattle.std.specs.Prelude.{◌≡◌, ℕ, List, [], ◌∷◌, codes, Option, MatchOption, Result, Ok, IsErrAnd}
use Rattle.std.specs.Fmt.{decimal}
use Rattle.std.specs.List.{find}
use Rattle.std.specs.Str.{str_eq_ignore_ascii_case}
use Rattle.nla_wire.specs.declared.error.Cause.TheVariants.{InvalidState}
use Rattle.nla_wire.specs.declared.error.DecodeError.{DecodeError}
use Rattle.link_vals.specs.Table.{value_of}
use Rattle.link_vals.specs.declared.link_state.State.{State}
use Rattle.link_vals.specs.declared.link_state.State.TheVariants.{Unknown, NotPresent, Down, LowerLayerDown, Testing}
use Rattle.link_vals.specs.declared.link_state.State.TheVariants.{Dormant, Up, Other}

-- the listed values, in the order of their numbers
abbrev pub state_listed : List State
state_listed =
    Unknown ∷ NotPresent ∷ Down ∷ LowerLayerDown ∷ Testing ∷ Dormant ∷ Up ∷ []

-- the number of a value
unfoldable pub state_number : State → ℕ
state_number Unknown = 0
state_number NotPresent = 1
state_number Down = 2
state_number LowerLayerDown = 3
state_number Testing = 4
state_number Dormant = 5
state_number Up = 6
state_number (Other n) = n

-- the value of a number: the listed one, else `Other`
unfoldable pub state_of : ℕ → State
state_of n = value_of state_number state_listed (Other n) n

-- the text of a value
unfoldable pub state_text : State → List ℕ
state_text Unknown = codes "UNKNOWN"
state_text NotPresent = codes "NOTPRESENT"
state_text Down = codes "DOWN"
state_text LowerLayerDown = codes "LOWERLAYERDOWN"
state_text Testing = codes "TESTING"
state_text Dormant = codes "DORMANT"
state_text Up = codes "UP"
state_text (Other n) = decimal n

-- the state with a name whose text this is, ASCII case ignored
unfoldable pub state_read : List ℕ → Option State
state_read text = find (λ s. str_eq_ignore_ascii_case text (state_text s)) state_listed

-- the result is the state that was named, else the text is refused
abbrev pub IsRead : Option State → Result State DecodeError → Type 0
IsRead named result = MatchOption named (IsErrAnd result (λ e. e.cause ≡ InvalidState)) (λ s. result ≡ Ok s)
