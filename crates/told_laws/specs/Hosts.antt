-- What the lines of one host tell, by what is known of that host alone.
use Rattle.std.specs.Prelude.{◌≡◌, ◌<◌, ◌^◌, ◌++◌, ℕ, suc, Bool, List, [], ◌∷◌, length, map, cond}
use Rattle.std.specs.List.{filter, flat_map}
use Rattle.line_filter.specs.Runs.{Runs}
use Rattle.line_filter.specs.Words.{front_of, rest_of}
use Rattle.message_diff.specs.declared.reading.Said.{Said}
use Rattle.message_diff.specs.declared.reading.Said.TheVariants as Saids
use Rattle.message_diff.specs.declared.snapshot.Compared.{Compared}
use Rattle.message_diff.specs.declared.telling.Told.{Told}
use Rattle.message_diff.specs.declared.telling.Telling.{Telling}
use Rattle.message_diff.specs.declared.watch.Watch.{Watch}
use Rattle.message_diff.specs.Held.{item_of}
use Rattle.message_diff.specs.Known.{Picture, after, is_text, nothing_known}
use Rattle.message_diff.specs.Said.{Says}
use Rattle.message_diff.specs.Told.{Tells, says}
use Rattle.message_diff.specs.Watched.{IsFresh, host_of, lost_line, takes_line}

-- a line, and what it adds
abbrev pub Piece : Type 0
Piece = List ℕ × List ℕ

-- ** one host

-- what a line with these words that says this tells, by what is known of its host
abbrev pub TellsSaid : List ℕ → Telling → Picture → Said → List ℕ → Type 0
TellsSaid front told p Saids.Lost more = more ≡ cond (says told.told) (lost_line front) []
TellsSaid front told p Saids.Nothing more = more ≡ []
TellsSaid front told p said more = Tells front told p (item_of front told said) more

-- what a line adds: its fault, if it has one, and what it tells
pub record IsPiece (told : Telling) (p : Picture) (piece : Piece) (said : Said) : Type 0 where
  pub fault : List ℕ
  pub more : List ℕ
  pub says : Says told.by (front_of piece.0) (rest_of piece.0) said fault
  pub tells : TellsSaid (front_of piece.0) told p said more
  pub all : piece.1 ≡ fault ++ more

-- lines of one host add this one after another, each at the place after that of the one before it: nothing but what
-- they say is known
abbrev pub HostTells : Telling → ℕ → Picture → List Piece → Type 0
HostTells told at p [] = Unit {0}
HostTells told at p (piece ∷ pieces) =
    (said : Said) × IsPiece told p piece said
    × HostTells told (suc at) (after p (suc at, item_of (front_of piece.0) told said)) pieces

-- ** a run over lines of all hosts

abbrev pub is_of : List ℕ → Piece → Bool
is_of name piece = is_text (host_of (front_of piece.0)) name

-- the lines of one host, without those of the others
abbrev pub of_host : List ℕ → List Piece → List Piece
of_host name pieces = filter (is_of name) pieces

-- what a run adds is what each line adds, one after another; and what the lines of a host add is what they tell alone,
-- where nothing was known before the first of them
pub record TellsApart (told : Telling) (lines : List (List ℕ)) (added : List ℕ) : Type 0 where
  pub pieces : List Piece
  pub lines_are : map (λ p. p.0) pieces ≡ lines
  pub added_are : added ≡ flat_map (λ p. p.1) pieces
  pub apart : (name : List ℕ) → HostTells told 0 nothing_known (of_host name pieces)

-- so does each run that begins with nothing known, of fewer lines than 64 bits count
abbrev pub Apart : Type 0
Apart =
    (by : Compared) (told : Told) (first last : Watch) (lines : List (List ℕ)) (added : List ℕ)
    → IsFresh by told first → length lines < 2 ^ 64 → Runs takes_line first lines last added
    → TellsApart (record { told = told; by = by }) lines added
