-- A list beside itself has no pieces.
use Rattle.std.proofs.Common.{◌≡◌, ℕ, Bool, true, false, List, [], ◌∷◌, refl, sym, ap, ◌∙◌, eq-eqb, eqb-true}
use Rattle.std.specs.Prelude.{◌==◌, Option, Some, None, cond}
use Rattle.std.specs.List.{AllByRecursion}
use Rattle.link_vlans.specs.Pieces.{AreOnce, is_said_too, pieces_of, said_at, said_of, vlans_of, with_piece}
use Rattle.link_vlans.specs.Pieces.{with_vlans}
use Rattle.link_vlans.specs.Runs.{are_apart}
use Rattle.link_vlans.specs.declared.pieces.Piece.{Piece}
use Rattle.link_vlans.specs.declared.run.Run.{Run}
use Rattle.link_vlans.specs.declared.run.Said.{Said}
use Rattle.link_vlans.proofs.Say.{found, once, said_is}

with_same : (ps : List Piece) (r : Run) (b : Option Said) → is_said_too r.said b ≡ true → with_piece ps r b ≡ ps
with_same [] r b is = rw is refl
with_same (p ∷ []) r b is = rw is refl
with_same (p ∷ q ∷ ps) r b is = ap (λ l. p ∷ l) (with_same (q ∷ ps) r b is)

-- the other list says the same of each
abbrev AreSaid : List Run → List (ℕ × Said) → Type 0
AreSaid others vs = AllByRecursion (λ (v : ℕ × Said). said_of others v.0 ≡ Some v.1) vs

vlans_same : (ps : List Piece) (vs : List (ℕ × Said)) (others : List Run) → AreSaid others vs
    → with_vlans ps vs others ≡ ps
vlans_same ps [] others all = refl
vlans_same ps (v ∷ vs) others all =
    ap (λ qs. with_vlans qs vs others)
    (with_same ps (record { first = v.0; last = v.0; said = v.1 }) (said_of others v.0)
    (ap (is_said_too v.1) all.0 ∙ said_is v.1))
    ∙ vlans_same ps vs others all.1

later : (v : ℕ × Said) (vs ws : List (ℕ × Said)) → said_at vs v.0 ≡ None
    → AllByRecursion (λ (w : ℕ × Said). said_at vs w.0 ≡ Some w.1) ws
    → AllByRecursion (λ (w : ℕ × Said). said_at (v ∷ vs) w.0 ≡ Some w.1) ws
later v vs [] none all = tt
later v vs (w ∷ ws) none all = (by (v.0 == w.0) refl, later v vs ws none all.1)
  where
    by : (b : Bool) → (v.0 == w.0) ≡ b → cond b (Some v.1) (said_at vs w.0) ≡ Some w.1
    by true is =
        let no : None ≡ Some w.1 = sym none ∙ ap (said_at vs) (eqb-true v.0 w.0 is) ∙ all.0 in absurd cc
    by false is = all.0

said_all : (vs : List (ℕ × Said)) → AreOnce vs
    → AllByRecursion (λ (v : ℕ × Said). said_at vs v.0 ≡ Some v.1) vs
said_all [] apart = tt
said_all (v ∷ vs) apart = (
  ap (λ b. cond b (Some v.1) (said_at vs v.0)) (eq-eqb v.0 v.0 refl),
  later v vs vs apart.0 (said_all vs apart.1),
)

own_said : (rs : List Run) (vs : List (ℕ × Said))
    → AllByRecursion (λ (v : ℕ × Said). said_at (vlans_of rs) v.0 ≡ Some v.1) vs → AreSaid rs vs
own_said rs [] all = tt
own_said rs (v ∷ vs) all = (sym (found rs v.0) ∙ all.0, own_said rs vs all.1)

pub silent : (rs : List Run) → are_apart None rs ≡ true → pieces_of rs rs ≡ []
silent rs apart =
    vlans_same [] (vlans_of rs) rs (own_said rs (vlans_of rs) (said_all (vlans_of rs) (once rs apart)))
