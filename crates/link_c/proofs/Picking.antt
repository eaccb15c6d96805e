-- Attributes of a list, picked one after the other.
use Rattle.std.specs.Prelude.{◌≡◌, ℕ, ◌<◌, ◌≤◌, List, [], ◌∷◌, ◌++◌, length, map, drop, Bool, true, false}
use Rattle.std.specs.Prelude.{Result, Ok, Err}
use Rattle.std.proofs.Common.{refl, ap, sym, subst, ◌∙◌}
use Rattle.std.specs.List.{fold}
use Rattle.nla_wire.specs.Frames.{Frame, Frames, Fault}
use Rattle.nla_wire.specs.declared.error.Cause.{Cause}
use Rattle.link_c.specs.Lists.{IsNext, IsStep, told}
use Rattle.link_c.specs.Picks.{IsPicked, Stand, cleared, kept, picked}
use Rattle.link_c.specs.declared.list.Attribute.{Attribute}
use Rattle.link_c.specs.declared.refusal.Refusal.{Refusal}
use Rattle.link_c.specs.declared.refusal.Refusal.TheVariants as Refusals
use Rattle.std.proofs.Common.{arith, append-nil}
use Rattle.std.proofs.lemmas.List.{drop_all}

-- one more stands at the end
pub one_more : (b : List ℕ) (at end next : ℕ) (a : Attribute) (all : List Attribute) → Stand b at end all
    → IsStep b end next a → Stand b at next (all ++ a ∷ [])
one_more b at end next a [] is step = (next, subst (λ n. IsStep b n next a) (sym is) step, refl)
one_more b at end next a (x ∷ all) (mid, first, rest) step = (mid, first, one_more b mid end next a all rest step)

pub kept_last : (a place : Attribute) (all : List Attribute)
    → fold (λ found x. kept x found) place (all ++ a ∷ []) ≡ kept a (fold (λ found x. kept x found) place all)
kept_last a place [] = refl
kept_last a place (x ∷ all) = kept_last a (kept x place) all

pub picked_more : (a : Attribute) (all places : List Attribute)
    → picked (all ++ a ∷ []) places ≡ map (kept a) (picked all places)
picked_more a all [] = refl
picked_more a all (p ∷ places) = λ i. kept_last a (cleared p) all i ∷ picked_more a all places i

-- the frames of attributes that stand one after the other, and of what is behind them
pub frames_stand : (b : List ℕ) (at end : ℕ) (all : List Attribute) (fs : List Frame) → Stand b at end all
    → Frames (drop end b) fs → Frames (drop at b) (map (told b) all ++ fs)
frames_stand b at end [] fs is rest = subst (λ n. Frames (drop n b) fs) (sym is) rest
frames_stand b at end (a ∷ all) fs (next, step, stand) rest =
    (step.frames (map (told b) all ++ fs)).1 (frames_stand b next end all fs stand rest)

pub fault_stands : (b : List ℕ) (at end : ℕ) (all : List Attribute) (c : Cause) → Stand b at end all
    → Fault (drop end b) [] c → Fault (drop at b) (map (told b) all) c
fault_stands b at end [] c is rest = subst (λ n. Fault (drop n b) [] c) (sym is) rest
fault_stands b at end (a ∷ all) c (next, step, stand) rest =
    (step.fault (map (told b) all) c).1 (fault_stands b next end all c stand rest)

-- the state of a walk
abbrev pub IsSoFar : List ℕ → ℕ → List Attribute → List Attribute → Type 0
IsSoFar b at old new = (all : List Attribute) × Stand b 0 at all × (new ≡ picked all old)

pub goes_on : (b : List ℕ) (at next : ℕ) (a was : Attribute) (r : Result Bool Refusal) (v : Bool)
    (old new later : List Attribute) → at < length b → r ≡ Ok v → IsNext b at next was a r → IsSoFar b at old new
    → later ≡ map (kept a) new → IsSoFar b next old later
goes_on b at next a was (Ok true) v old new later some is (_, step) (all, stand, new_is) later_is = (
  all ++ a ∷ [],
  one_more b 0 at next a all stand step,
  later_is ∙ ap (map (kept a)) new_is ∙ sym (picked_more a all old),
)
goes_on b at next a was (Ok false) v old new later some is (over, _, _, _) so_far later_is =
    absurd (omega (arith, some, over))
goes_on b at next a was (Err e) v old new later some is n so_far later_is = cc

pub ends : (b : List ℕ) (at : ℕ) (old new : List Attribute) → length b ≤ at → IsSoFar b at old new
    → IsPicked b old new (Ok tt)
ends b at old new over (all, stand, new_is) = (
  all,
  at,
  stand,
  subst (λ fs. Frames b fs) (append-nil (map (told b) all))
      (frames_stand b 0 at all [] stand (subst (λ r. Frames r []) (sym (drop_all at b over)) refl)),
  new_is,
)

pub stops : (b : List ℕ) (at next : ℕ) (a was : Attribute) (r : Result Bool Refusal) (e : Refusal)
    (old new : List Attribute) → r ≡ Err e → IsNext b at next was a r → IsSoFar b at old new
    → IsPicked b old new (Err e)
stops b at next a was (Ok v) e old new is n so_far = cc
stops b at next a was (Err (Refusals.Fault c)) e old new is (_, fault, _, _) (all, stand, new_is) =
    let is_fault : Refusals.Fault c ≡ e = cc in
    subst (λ x. IsPicked b old new (Err x)) is_fault (all, at, stand, fault_stands b 0 at all c stand fault, new_is)
stops b at next a was (Err Refusals.Unfit) e old new is n so_far = absurd n
stops b at next a was (Err Refusals.EmptyPorts) e old new is n so_far = absurd n
stops b at next a was (Err Refusals.OutOfMemory) e old new is n so_far = absurd n
stops b at next a was (Err Refusals.NoRoom) e old new is n so_far = absurd n
stops b at next a was (Err Refusals.UnknownFlag) e old new is n so_far = absurd n
