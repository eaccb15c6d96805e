-- Entries of the lists of functions and of ports: a list that is not empty, as one value.
use Rattle.std.proofs.Common.{◌≡◌, ℕ, ◌<◌, ◌==◌, true, false, eqb-true, arith, List, [], ◌∷◌, length, refl, ap, sym}
use Rattle.std.proofs.Common.{subst, ◌∙◌, inl, inr, ◌≤◌, Option, None, Some, Result, Ok, Err}
use Rattle.nla_wire.specs.Reading.{list_of, ◌>>=◌}
use Rattle.nla_wire.specs.Frames.{Frame, IsFrame, IsBytes}
use Rattle.nla_wire.specs.Grammar.{Grammar, Agrees, list, not_empty, unless_empty}
use Rattle.nla_wire.specs.Canon.{canons, AllFit, Writes, RoomWhereFit, Canonical, MeansLength}
use Rattle.nla_wire.proofs.Agreement.{as_agrees, not_empty_agrees}
use Rattle.nla_wire.proofs.Lists.{list_agrees}
use Rattle.nla_wire.proofs.Written.{room_where_as, canonical_as, some_room_where, some_canonical, empty_canonical}
use Rattle.nla_wire.proofs.Written.{NestFits}
use Rattle.nla_wire.specs.Gives.{Fails, Checks}
use Rattle.nla_wire.specs.declared.error.Cause.{Cause}
use Rattle.nla_wire.specs.declared.error.Cause.TheVariants.{EmptyList}
use Rattle.nla_wire.specs.declared.error.DecodeError.{DecodeError}
use Rattle.link_vf.specs.Entries.{entry, EntryLaws}

module _ {V T : Type 0} (wrap : List V → T) (place : Grammar Frame V) where
  -- the empty payload is refused
  pub entry_empty : (p : List ℕ) → (length p == 0) ≡ true → (entry wrap place).reads p ≡ Err EmptyList
  unfolding unless_empty
  entry_empty [] empty = refl
  entry_empty (x ∷ p) empty =
      let none : length (x ∷ p) ≡ 0 = eqb-true (length (x ∷ p)) 0 empty in
      absurd (omega (arith, none))

  -- any other is read as a list
  pub entry_reads : (p : List ℕ) → (length p == 0) ≡ false
      → (entry wrap place).reads p ≡ (list_of place.reads p >>= λ vs. Ok (wrap vs))
  unfolding unless_empty
  entry_reads [] full = absurd cc
  entry_reads (x ∷ p) full = refl

  wrapped : (r : Result (List V) Cause) (vs : List V) → r ≡ Ok vs → (r >>= λ vs. Ok (wrap vs)) ≡ Ok (wrap vs)
  wrapped r vs is = ap (λ (s : Result (List V) Cause). s >>= λ vs. Ok (wrap vs)) is

  failed : (r : Result (List V) Cause) (c : Cause) → r ≡ Err c → (r >>= λ vs. Ok (wrap vs)) ≡ Err c
  failed r c is = ap (λ (s : Result (List V) Cause). s >>= λ vs. Ok (wrap vs)) is

  pub entry_given : (p : List ℕ) → (length p == 0) ≡ false → (vs : List V) → list_of place.reads p ≡ Ok vs
      → (entry wrap place).reads p ≡ Ok (wrap vs)
  entry_given p full vs is = entry_reads p full ∙ wrapped (list_of place.reads p) vs is

  pub entry_fails : (p : List ℕ) → (length p == 0) ≡ false → (c : Cause) → Fails c (list_of place.reads p)
      → Fails c ((entry wrap place).reads p)
  entry_fails p full c (inl memory) = inl memory
  entry_fails p full c (inr is) = inr (entry_reads p full ∙ failed (list_of place.reads p) c is)

  entry_checks : (r : Result (List V) Cause) (answer : Result Unit DecodeError) → Checks answer r
      → Checks answer (r >>= λ vs. Ok (wrap vs))
  entry_checks (Ok vs) (Ok x) checks = refl
  entry_checks (Ok vs) (Err e) checks = absurd cc
  entry_checks (Err c) (Ok x) checks = absurd cc
  entry_checks (Err c) (Err e) checks = failed (Err c) e.cause checks

  pub entry_checked : (p : List ℕ) → (length p == 0) ≡ false → (answer : Result Unit DecodeError)
      → Checks answer (list_of place.reads p) → Checks answer ((entry wrap place).reads p)
  entry_checked p full answer checks =
      subst (λ r. Checks answer r) (sym (entry_reads p full)) (entry_checks (list_of place.reads p) answer checks)

  pub entry_agrees : Agrees IsFrame place → Agrees IsBytes (entry wrap place)
  entry_agrees agrees =
      as_agrees IsBytes wrap (not_empty (list place)) (not_empty_agrees (list place) (list_agrees place agrees))

-- the encoding of an entry is that of the list of its members
module _ {V A : Type 0} (wrap : List V → A) (members : A → List V) (same : (vs : List V) → members (wrap vs) ≡ vs)
    (place : Grammar Frame V) (frame : V → Frame) (fits : V → Type 0) (p : List ℕ) where
  abbrev encoding : A → List ℕ
  encoding a = canons frame (members a)

  abbrev Fit : A → Type 0
  Fit a = AllFit fits frame (members a)

  listed_room : (r : Result (List V) Cause) (room : ℕ)
      → RoomWhereFit (λ vs. encoding (wrap vs)) (λ vs. Fit (wrap vs)) r room
      → RoomWhereFit (canons frame) (AllFit fits frame) r room
  listed_room (Ok vs) room h = subst (λ ws. AllFit fits frame ws → length (canons frame ws) ≤ room) (same vs) h
  listed_room (Err c) room h = tt

  listed_canonical : (r : Result (List V) Cause) (old new : List ℕ) (a : Option ℕ)
      → Canonical (canons frame) (AllFit fits frame) r old new a
      → Canonical (λ vs. encoding (wrap vs)) (λ vs. Fit (wrap vs)) r old new a
  listed_canonical (Ok vs) old new (Some n) w =
      subst (λ ws. AllFit fits frame ws × Writes (canons frame ws) old new n) (sym (same vs)) w
  listed_canonical (Ok vs) old new None w =
      subst (λ ws. (AllFit fits frame ws → ⊥) × (new ≡ old)) (sym (same vs)) w
  listed_canonical (Err c) old new (Some n) w = w
  listed_canonical (Err c) old new None w = w

  pub entry_room : (room : ℕ) → 0 < length p
      → RoomWhereFit encoding Fit ((entry wrap place).reads p) room
      → RoomWhereFit (canons frame) (AllFit fits frame) (list_of place.reads p) room
  entry_room room some h =
      some_room_where (canons frame) (AllFit fits frame) p (list_of place.reads p) room some
      (listed_room (unless_empty p (list_of place.reads p)) room
      (room_where_as wrap encoding Fit
      (unless_empty p (list_of place.reads p)) room h))

  pub entry_canonical : (old new : List ℕ) (a : Option ℕ) → 0 < length p
      → Canonical (canons frame) (AllFit fits frame) (list_of place.reads p) old new a
      → Canonical encoding Fit ((entry wrap place).reads p) old new a
  entry_canonical old new a some w =
      canonical_as wrap encoding Fit
      (unless_empty p (list_of place.reads p)) old new a
      (listed_canonical (unless_empty p (list_of place.reads p)) old new a
      (some_canonical (canons frame) (AllFit fits frame) p (list_of place.reads p) old new a some w))

  pub entry_none : (old : List ℕ) → length p ≡ 0
      → Canonical encoding Fit ((entry wrap place).reads p) old old None
  entry_none old none =
      canonical_as wrap encoding Fit
      (unless_empty p (list_of place.reads p)) old old None
      (listed_canonical (unless_empty p (list_of place.reads p)) old old None
      (empty_canonical (canons frame) (AllFit fits frame) p (list_of place.reads p) old none))

-- the same as the value of an attribute
module _ {V A : Type 0} {wrap : List V → A} {members : A → List V} {member : Grammar Frame V} {frame : V → Frame}
    {fits : V → Type 0} {number : ℕ} {place : Grammar Frame A} {entry_frame : A → Frame} {entry_fits : A → Type 0}
    {count : A → ℕ} {factor fewer : ℕ}
    (h : EntryLaws wrap members member frame fits number place entry_frame entry_fits count factor fewer) where
  pub entry_length : (p : List ℕ) (r : Option ℕ)
      → MeansLength ((not_empty (list member)).means p) (canons frame) (NestFits (canons frame) (AllFit fits frame)) r
      → MeansLength ((entry wrap member).means p) (λ a. canons frame (members a)) entry_fits r
  entry_length p (Some n) (vs, means, fit, is) = (
    wrap vs,
    (vs, means, refl),
    h.outside (wrap vs) (subst (λ ws. NestFits (canons frame) (AllFit fits frame) ws) (sym (h.same vs)) fit),
    is ∙ ap (λ ws. length (canons frame ws)) (sym (h.same vs)),
  )
  entry_length p None not = λ a means fit.
      not means.0 means.1
      (subst (λ ws. NestFits (canons frame) (AllFit fits frame) ws) (ap members means.2 ∙ h.same means.0)
      (h.inside a fit))
