-- Where only changes are told, the same lines are told in the same order, without some lines `new`.
use Rattle.std.specs.Prelude.{◌≡◌, ◌⊎◌, ◌++◌, ℕ, suc, false, List, [], ◌∷◌, Option, codes}
use Rattle.line_filter.specs.Words.{front_of}
use Rattle.message_diff.specs.declared.key.Key.{Key}
use Rattle.message_diff.specs.declared.reading.Said.{Said}
use Rattle.message_diff.specs.declared.snapshot.Compared.{Compared}
use Rattle.message_diff.specs.declared.telling.Telling.{Telling}
use Rattle.message_diff.specs.declared.telling.Told.TheVariants as Tellings
use Rattle.message_diff.specs.Alone.{IsAlone}
use Rattle.message_diff.specs.Announced.{is_another}
use Rattle.message_diff.specs.Held.{item_of}
use Rattle.message_diff.specs.Known.{Item, Picture, after, kind_of, nothing_known}
use Rattle.message_diff.specs.Shots.{Shot}
use Rattle.told_laws.specs.Hosts.{HostTells, IsPiece, Piece}
use Rattle.told_laws.specs.Turns.{all_by}

-- with `--changes-only`
abbrev pub changes_by : Compared → Telling
changes_by by = record { told = Tellings.Changes; by = by }

-- the last line that is added is a line `new`, which is left out: no dump of the family was whole, and the interface
-- has not the place of another kind
pub record LeavesOut (p : Picture) (front : List ℕ) (x : Item) (added less : List ℕ) : Type 0 where
  pub key : Key
  pub shot : Shot
  pub words : Option (List ℕ)
  pub says : x ≡ Item.is key shot words
  pub before : p.whole key.family ≡ false
  pub same_kind : is_another (kind_of (p.of key)) shot.text ≡ false
  pub line : List ℕ
  pub new : IsAlone front (codes "new") shot.text line
  pub left_out : added ≡ less ++ line

-- a line adds the same, or all but its line `new`
pub record IsLess (by : Compared) (p : Picture) (said : Said) (piece less : Piece) : Type 0 where
  pub line : less.0 ≡ piece.0
  pub all : IsPiece (all_by by) p piece said
  pub changes : IsPiece (changes_by by) p less said
  pub adds : (less.1 ≡ piece.1)
      ⊎ LeavesOut p (front_of piece.0) (item_of (front_of piece.0) (all_by by) said) piece.1 less.1

-- so do lines of a host, one after another
abbrev pub AreLess : Compared → ℕ → Picture → List Piece → List Piece → Type 0
AreLess by at p [] fewer = fewer ≡ []
AreLess by at p (piece ∷ pieces) [] = ⊥
AreLess by at p (piece ∷ pieces) (less ∷ fewer) =
    (said : Said) × IsLess by p said piece less
    × AreLess by (suc at) (after p (suc at, item_of (front_of piece.0) (all_by by) said)) pieces fewer

-- what lines of a host add, and what they add where only changes are told
abbrev pub FewerLines : Type 0
FewerLines =
    (by : Compared) (pieces : List Piece) → HostTells (all_by by) 0 nothing_known pieces
    → (fewer : List Piece) × HostTells (changes_by by) 0 nothing_known fewer × AreLess by 0 nothing_known pieces fewer
