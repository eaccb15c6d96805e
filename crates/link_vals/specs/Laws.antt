-- Laws of the values.
use Rattle.std.specs.Prelude.{◌≡◌, ◌≢◌, ℕ, ◌<◌, ◌^◌, List, Some, None}
use Rattle.std.specs.List.{AllByRecursion}
use Rattle.link_vals.specs.LinkExtentMaskTable.{ext_list, ext_sum}
use Rattle.link_vals.specs.StateTable.{state_text, state_read, state_listed}
use Rattle.link_vals.specs.declared.link_state.State.TheVariants.{Other}

-- number to value to number is the identity
abbrev pub ReadsBack : {A : Type 0} → (ℕ → A) → (A → ℕ) → Type 0
ReadsBack of number = (n : ℕ) → number (of n) ≡ n

-- value to number to value is the identity
abbrev pub IsNamedBack : {A : Type 0} → (ℕ → A) → (A → ℕ) → Type 0
IsNamedBack {A} of number = (v : A) → of (number v) ≡ v

-- a number that no listed value has gives this one
abbrev pub GivesUnlisted : {A : Type 0} → (ℕ → A) → (A → ℕ) → List A → A → Type 0
GivesUnlisted of number listed other = (n : ℕ) → AllByRecursion (λ v. number v ≢ n) listed → of n ≡ other

-- the sum of the list of a mask of four bytes is the mask
abbrev pub SumsBack : Type 0
SumsBack = (n : ℕ) → n < 2 ^ 32 → ext_sum (ext_list n) ≡ n

-- the text of each state with a name is read as that state
abbrev pub NamedStatesRead : Type 0
NamedStatesRead = AllByRecursion (λ s. state_read (state_text s) ≡ Some s) state_listed

-- the text of each other state is not read
abbrev pub OtherStatesRefused : Type 0
OtherStatesRefused = (n : ℕ) → n < 2 ^ 8 → state_read (state_text (Other n)) ≡ None
