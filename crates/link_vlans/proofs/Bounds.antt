-- The ids of tunnels are not cut off: each run of a list that is read is ahead by enough, and so are its pieces.
use Rattle.std.proofs.Common.{◌≡◌, ℕ, zero, suc, ◌+◌, ◌-◌, ◌≤◌, Bool, true, false, not, List, [], ◌∷◌, ◌++◌, refl}
use Rattle.std.proofs.Common.{arith, cond, subst}
use Rattle.std.proofs.lemmas.Bool.{and_parts, eqb-true, ltb-false, not-true}
use Rattle.std.specs.Prelude.{Option, None, Some, ◌==◌, ◌&&◌, nat_lt, option_map}
use Rattle.nla_wire.specs.Frames.{Frame}
use Rattle.link_vlans.specs.Pieces.{goes_on, is_beside, is_in, is_said_too, pieces_of, said_of, vlans_of, with_piece}
use Rattle.link_vlans.specs.Pieces.{with_vlans}
use Rattle.link_vlans.specs.Runs.{ahead_by, apart_ones, are_apart, ends_of, is_range, is_said, run_of, runs_behind}
use Rattle.link_vlans.specs.Runs.{runs_in, said, vlans_with}
use Rattle.link_vlans.specs.declared.pieces.Piece.{Piece}
use Rattle.link_vlans.specs.declared.run.Run.{Run}
use Rattle.link_vlans.specs.declared.run.Said.{Said}
use Rattle.link_vlans.specs.declared.vlan.Vlan.{Vlan}
use Rattle.link_vlans.proofs.Cuts.{grown, piece_at, run_at}
use Rattle.link_vlans.proofs.Say.{vlans_from}

-- at this VLAN the id of a tunnel is not cut off below
abbrev pub IsAbove : ℕ → Option ℕ → Type 0
IsAbove n None = Unit {0}
IsAbove n (Some ahead) = 65536 ≤ ahead + n

abbrev pub IsSaidAbove : ℕ → Option Said → Type 0
IsSaidAbove n None = Unit {0}
IsSaidAbove n (Some s) = IsAbove n s.ahead

abbrev pub AreAbove : List Run → Type 0
AreAbove [] = Unit {0}
AreAbove (r ∷ rs) = IsAbove r.first r.said.ahead × AreAbove rs

pub above_more : (m n : ℕ) (ahead : Option ℕ) → m ≤ n → IsAbove m ahead → IsAbove n ahead
above_more m n None up h = tt
above_more m n (Some ahead) up h = let low : 65536 ≤ ahead + m = h in omega arith

-- ** as they are read

abbrev IfAbove : Option (List Run) → Type 0
IfAbove None = Unit {0}
IfAbove (Some rs) = AreAbove rs

run_above : (vid : ℕ) (id : Option ℕ) → IsAbove vid (ahead_by vid id)
run_above vid None = tt
run_above vid (Some id) = omega arith

joined_above : (begin end : Vlan) (found : Option (List Run)) → IfAbove found
    → IfAbove (option_map (λ rs. run_of begin end ∷ rs) found)
joined_above begin end None h = tt
joined_above begin end (Some rs) h = (run_above begin.vid begin.id, h)

behind_above : (begun : Option Vlan) (vs : List (Option Vlan)) → IfAbove (runs_behind begun vs)
behind_above None [] = tt
behind_above (Some begin) [] = tt
behind_above None (None ∷ vs) = tt
behind_above (Some begin) (None ∷ vs) = tt
behind_above None (Some v ∷ vs) =
    by (ends_of v == 0) (ends_of v == 8) (behind_above None vs) (behind_above (Some v) vs)
  where
    by : (alone begins : Bool) → IfAbove (runs_behind None vs) → IfAbove (runs_behind (Some v) vs)
        → IfAbove (cond alone (option_map (λ rs. run_of v v ∷ rs) (runs_behind None vs))
        (cond begins (runs_behind (Some v) vs) None))
    by true begins h later = joined_above v v (runs_behind None vs) h
    by false true h later = later
    by false false h later = tt
behind_above (Some begin) (Some v ∷ vs) = by (is_range begin v) (behind_above None vs)
  where
    by : (range : Bool) → IfAbove (runs_behind None vs)
        → IfAbove (cond range (option_map (λ rs. run_of begin v ∷ rs) (runs_behind None vs)) None)
    by true h = joined_above begin v (runs_behind None vs) h
    by false h = tt

apart_above : (found : Option (List Run)) → IfAbove found → IfAbove (apart_ones found)
apart_above None h = tt
apart_above (Some rs) h = by (are_apart None rs)
  where
    by : (b : Bool) → IfAbove (cond b (Some rs) None)
    by true = h
    by false = tt

pub runs_above : (n : ℕ) (fs : List Frame) (rs : List Run) → runs_in n fs ≡ Some rs → AreAbove rs
runs_above n fs rs is =
    let found = runs_behind None (vlans_with n fs) in
    subst IfAbove is (apart_above found (behind_above None (vlans_with n fs)))

-- ** VLAN by VLAN

said_above : (rs : List Run) (n : ℕ) → AreAbove rs → IsSaidAbove n (said_of rs n)
said_above [] n h = tt
said_above (r ∷ rs) n h = by (is_in n r) refl (said_above rs n h.1)
  where
    by : (b : Bool) → is_in n r ≡ b → IsSaidAbove n (said_of rs n)
        → IsSaidAbove n (cond b (Some r.said) (said_of rs n))
    by true is later =
        let low = (and_parts (not (nat_lt n r.first)) (not (nat_lt r.last n)) is).0 in
        above_more r.first n r.said.ahead (ltb-false n r.first (not-true (nat_lt n r.first) low)) h.0
    by false is later = later

abbrev VlansAbove : List (ℕ × Said) → Type 0
VlansAbove [] = Unit {0}
VlansAbove (v ∷ vs) = IsAbove v.0 v.1.ahead × VlansAbove vs

from_above : (s : Said) (a k : ℕ) (vs : List (ℕ × Said)) → IsAbove a s.ahead → VlansAbove vs
    → VlansAbove (vlans_from s a k ++ vs)
from_above s a zero vs h later = later
from_above s a (suc k) vs h later = (
  h,
  from_above s (a + 1) k vs (above_more a (a + 1) s.ahead (omega arith) h) later,
)

vlans_above : (rs : List Run) → AreAbove rs → VlansAbove (vlans_of rs)
vlans_above [] h = tt
vlans_above (r ∷ rs) h =
    from_above r.said r.first (suc r.last - r.first) (vlans_of rs) h.0 (vlans_above rs h.1)

-- ** pieces

-- a piece has VLANs, and on neither side is an id cut off below
pub record IsHigh (p : Piece) : Type 0 where
  pub up : p.own.first ≤ p.own.last
  pub own : IsAbove p.own.first p.own.said.ahead
  pub beside : IsSaidAbove p.own.first p.beside

abbrev pub AreHigh : List Piece → Type 0
AreHigh [] = Unit {0}
AreHigh (p ∷ ps) = IsHigh p × AreHigh ps

one_high : (n : ℕ) (s : Said) (b : Option Said) → IsAbove n s.ahead → IsSaidAbove n b
    → IsHigh (piece_at (run_at n n s) b)
one_high n s b own beside = record { up = omega arith; own = own; beside = beside }

grown_high : (p : Piece) (n : ℕ) (s : Said) (b : Option Said) → goes_on p (run_at n n s) b ≡ true → IsHigh p
    → IsHigh (grown p (run_at n n s))
grown_high p n s b on h =
    let next : suc p.own.last ≡ n = eqb-true (suc p.own.last) n
    (and_parts (suc p.own.last == n) (is_said p.own.said s && is_beside p.beside b) on).0 in
    let up : p.own.first ≤ p.own.last = h.up in
    record { up = omega arith; own = h.own; beside = h.beside }

high_more : (ps : List Piece) (n : ℕ) (s : Said) (b : Option Said) → IsAbove n s.ahead → IsSaidAbove n b
    → AreHigh ps → AreHigh (with_piece ps (run_at n n s) b)
high_more [] n s b own beside h = by (is_said_too s b)
  where
    by : (too : Bool) → AreHigh (cond too [] (piece_at (run_at n n s) b ∷ []))
    by true = tt
    by false = (one_high n s b own beside, tt)
high_more (p ∷ []) n s b own beside h = by (is_said_too s b) (goes_on p (run_at n n s) b) refl
  where
    by : (too on : Bool) → goes_on p (run_at n n s) b ≡ on → AreHigh (cond too (p ∷ [])
        (cond on (grown p (run_at n n s) ∷ []) (p ∷ piece_at (run_at n n s) b ∷ [])))
    by true on is = h
    by false true is = (grown_high p n s b is h.0, tt)
    by false false is = (h.0, (one_high n s b own beside, tt))
high_more (p ∷ q ∷ ps) n s b own beside h = (h.0, high_more (q ∷ ps) n s b own beside h.1)

all_high : (others : List Run) (vs : List (ℕ × Said)) (ps : List Piece) → AreAbove others → VlansAbove vs
    → AreHigh ps → AreHigh (with_vlans ps vs others)
all_high others [] ps above own h = h
all_high others (v ∷ vs) ps above own h =
    all_high others vs (with_piece ps (run_at v.0 v.0 v.1) (said_of others v.0)) above own.1
    (high_more ps v.0 v.1 (said_of others v.0) own.0 (said_above others v.0 above) h)

pub pieces_high : (rs ss : List Run) → AreAbove rs → AreAbove ss → AreHigh (pieces_of rs ss)
pieces_high rs ss own others = all_high ss (vlans_of rs) [] others (vlans_above rs own) tt
