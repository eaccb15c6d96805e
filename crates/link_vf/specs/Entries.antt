-- Entries of the lists of functions and of ports: a list of members that is not empty, as one value.
use Rattle.std.specs.Prelude.{◌≡◌, ℕ, ◌+◌, ◌-◌, ◌*◌, ◌/◌, ◌^◌, ◌<◌, ◌≤◌, List, length, nat_le, refl}
use lib.Dec.{T}
use Rattle.nla_wire.specs.Sizes.{most_payload, plain_growth, growth}
use Rattle.nla_wire.specs.Frames.{Frame}
use Rattle.nla_wire.specs.Grammar.{Grammar, as_a, list, not_empty}
use Rattle.nla_wire.specs.Canon.{canon, canons, AllFit}
use Rattle.nla_wire.proofs.Lawful.{LawfulPlace, always}
use Rattle.nla_wire.proofs.Codec.{Place, some_of, place_of, place_bounded}

-- a payload that is an entry: members of the place, at least four bytes of them
abbrev pub entry : {V A : Type 0} → (List V → A) → Grammar Frame V → Grammar (List ℕ) A
entry wrap place = as_a wrap (not_empty (list place))

-- the members fit, and their encoding is one that the value of an attribute may have
abbrev pub MembersFit : {V A : Type 0} → (V → Type 0) → (V → Frame) → (A → List V) → A → Type 0
MembersFit fits frame members a =
    (length (canons frame (members a)) ≤ most_payload) × AllFit fits frame (members a)

-- entries of the number 1, by their members' place, and by their own
pub record EntryLaws {V A : Type 0} (wrap : List V → A) (members : A → List V) (member : Grammar Frame V)
    (frame : V → Frame) (fits : V → Type 0) (number : ℕ) (place : Grammar Frame A) (entry_frame : A → Frame)
    (entry_fits : A → Type 0) (count : A → ℕ) (factor fewer : ℕ) : Type 0 where
  pub one : number ≡ 1
  pub same : (vs : List V) → members (wrap vs) ≡ vs
  pub read : (f : Frame) → place.reads f ≡ (entry wrap member).reads f.payload
  pub written : entry_frame ≡ (λ a. record { kind = number; payload = canons frame (members a) })
  pub inside : (a : A) → entry_fits a → MembersFit fits frame members a
  pub outside : (a : A) → MembersFit fits frame members a → entry_fits a
  pub bounded : (f : Frame) (a : A) → place.means f a
      → length (canon (entry_frame a)) ≤ growth * (1 + length f.payload / 4)
  pub enough : ℕ
  pub lawful : LawfulPlace place entry_frame entry_fits always count factor fewer enough

-- the same of two places
abbrev pub IsEntry : {V A : Type 0} → (List V → A) → (A → List V) → ℕ → Place V → Place A → ℕ → ℕ → Type 0
IsEntry wrap members number p e factor fewer =
    EntryLaws wrap members p.grammar p.frame p.Fits number e.grammar e.frame e.Fits e.count factor fewer

module _ {V A : Type 0} (wrap : List V → A) (members : A → List V) (p : Place V)
    (same : (vs : List V) → members (wrap vs) ≡ vs) (number : ℕ) (small : number < 2 ^ 16) (one : number ≡ 1)
    (spare : T (nat_le (plain_growth + (p.factor - plain_growth)) p.factor)) (within : T (nat_le p.factor growth)) where
  -- the place of entries, each written with this number
  abbrev pub entry_place : Place A
  entry_place = place_of wrap members (some_of p) same number small spare within

  pub is_entry : IsEntry wrap members number p entry_place p.factor (p.factor - plain_growth)
  is_entry = record {
    one = one;
    same = same;
    read = λ f. refl;
    written = refl;
    inside = λ a fits. fits;
    outside = λ a fits. fits;
    bounded = place_bounded entry_place;
    enough = entry_place.enough;
    lawful = entry_place.lawful;
  }
