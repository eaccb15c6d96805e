-- What two lists of VLANs say otherwise: VLANs beside each other that are alike in both are one piece.
use Rattle.std.specs.Prelude.{◌≡◌, ℕ, suc, ◌-◌, ◌==◌, ◌&&◌, nat_le, nat_lt, List, [], ◌∷◌, Bool, true, false, not}
use Rattle.std.specs.Prelude.{Option, None, Some, cond, map}
use Rattle.std.specs.List.{flat_map, range_with_len}
use Rattle.link_vlans.specs.Runs.{is_said}
use Rattle.link_vlans.specs.declared.pieces.Piece.{Piece}
use Rattle.link_vlans.specs.declared.run.Run.{Run}
use Rattle.link_vlans.specs.declared.run.Said.{Said}

-- ** of a VLAN

abbrev pub is_in : ℕ → Run → Bool
is_in vid r = not (nat_lt vid r.first) && not (nat_lt r.last vid)

-- what a list says of it, if it has it
abbrev pub said_of : List Run → ℕ → Option Said
said_of [] vid = None
said_of (r ∷ rs) vid = cond (is_in vid r) (Some r.said) (said_of rs vid)

abbrev pub is_beside : Option Said → Option Said → Bool
is_beside None None = true
is_beside (Some a) (Some b) = is_said a b
is_beside _ _ = false

abbrev pub is_said_too : Said → Option Said → Bool
is_said_too a None = false
is_said_too a (Some b) = is_said a b

-- ** VLAN by VLAN

-- the VLANs of a run
abbrev pub vids_of : Run → List ℕ
vids_of r = range_with_len r.first (suc r.last - r.first)

-- those of a list, each with what is said of it
abbrev pub vlans_of : List Run → List (ℕ × Said)
vlans_of rs = flat_map (λ (r : Run). map (λ vid. (vid, r.said)) (vids_of r)) rs

-- what is said of one, the first time that it stands there
abbrev pub said_at : List (ℕ × Said) → ℕ → Option Said
said_at [] vid = None
said_at (v ∷ vs) vid = cond (v.0 == vid) (Some v.1) (said_at vs vid)

-- none stands there twice
abbrev pub AreOnce : List (ℕ × Said) → Type 0
AreOnce [] = Unit {0}
AreOnce (v ∷ vs) = (said_at vs v.0 ≡ None) × AreOnce vs

-- the next VLANs go on with a piece: the same is said of them on both sides
abbrev pub goes_on : Piece → Run → Option Said → Bool
goes_on p r b = (suc p.own.last == r.first) && (is_said p.own.said r.said && is_beside p.beside b)

-- behind pieces, in order: the last one goes on, or another one begins; none, where the other list says the same
abbrev pub with_piece : List Piece → Run → Option Said → List Piece
with_piece [] r b = cond (is_said_too r.said b) [] (record { own = r; beside = b } ∷ [])
with_piece (p ∷ []) r b = cond (is_said_too r.said b) (p ∷ []) (cond (goes_on p r b)
    (record { own = record { first = p.own.first; last = r.last; said = p.own.said }; beside = p.beside } ∷ [])
    (p ∷ record { own = r; beside = b } ∷ []))
with_piece (p ∷ q ∷ ps) r b = p ∷ with_piece (q ∷ ps) r b

abbrev pub with_vlans : List Piece → List (ℕ × Said) → List Run → List Piece
with_vlans ps [] others = ps
with_vlans ps (v ∷ vs) others = with_vlans
    (with_piece ps (record { first = v.0; last = v.0; said = v.1 }) (said_of others v.0)) vs others

-- of all VLANs of a list, beside another one
abbrev pub pieces_of : List Run → List Run → List Piece
pieces_of own others = with_vlans [] (vlans_of own) others

-- ** for the calls that go over runs

-- of the VLANs of a run
abbrev pub with_run : List Piece → Run → List Run → List Piece
with_run ps r others = with_vlans ps (vlans_of (r ∷ [])) others

-- the first run does not end below a VLAN
abbrev pub is_clear_below : ℕ → List Run → Bool
is_clear_below vid [] = true
is_clear_below vid (r ∷ rs) = nat_le vid r.last
