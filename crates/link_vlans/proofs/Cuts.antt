-- How pieces grow VLAN by VLAN.
use Rattle.std.proofs.Common.{◌≡◌, ℕ, zero, suc, ◌+◌, ◌-◌, ◌<◌, ◌≤◌, Bool, true, false, List, [], ◌∷◌, ◌++◌, refl}
use Rattle.std.proofs.Common.{sym, ap, ◌∙◌, arith, cond, subst, append-nil, append_assoc}
use Rattle.std.proofs.Common.{get_or, length, set}
use Rattle.std.specs.Prelude.{Option, None, Some, ◌==◌, ◌&&◌}
use Rattle.std.specs.List.{AllByRecursion, flat_map, range_with_len}
use Rattle.std.proofs.lemmas.Bool.{and_from, and_parts, cond-false, cond-true, eq-eqb, eqb-true, lt-ltb, ltb-true}
use Rattle.std.proofs.lemmas.List.Concat.{flat_map-append}
use Rattle.link_vlans.specs.Pieces.{goes_on, is_beside, is_said_too, pieces_of, said_of, vids_of, vlans_of}
use Rattle.link_vlans.specs.Pieces.{with_piece, with_run, with_vlans}
use Rattle.link_vlans.specs.Runs.{are_apart, is_below, is_said}
use Rattle.link_vlans.specs.declared.pieces.Piece.{Piece}
use Rattle.link_vlans.specs.declared.run.Run.{Run}
use Rattle.link_vlans.specs.declared.run.Said.{Said}
use Rattle.link_vlans.proofs.Say.{IsApart, apart_parts, beside_is, beside_same, said_is, said_same, vlans_from}

abbrev pub run_at : ℕ → ℕ → Said → Run
run_at a b s = record { first = a; last = b; said = s }

abbrev pub piece_at : Run → Option Said → Piece
piece_at r b = record { own = r; beside = b }

-- a piece that goes on up to the end of a run
abbrev pub grown : Piece → Run → Piece
grown p r = record { own = record { first = p.own.first; last = r.last; said = p.own.said }; beside = p.beside }

-- ** one piece

pub said_already : (ps : List Piece) (r : Run) (b : Option Said) → is_said_too r.said b ≡ true
    → ps ≡ with_piece ps r b
said_already [] r b is = sym (cond-true (is_said_too r.said b) [] (piece_at r b ∷ []) is)
said_already (p ∷ []) r b is =
    sym (cond-true (is_said_too r.said b) (p ∷ [])
    (cond (goes_on p r b) (grown p r ∷ []) (p ∷ piece_at r b ∷ [])) is)
said_already (p ∷ q ∷ ps) r b is = ap (λ qs. p ∷ qs) (said_already (q ∷ ps) r b is)

-- the last piece goes on
pub goes_further : (ps : List Piece) (i : ℕ) (d p : Piece) (r : Run) (b : Option Said) → i + 1 ≡ length ps
    → get_or ps i d ≡ p → is_said_too r.said b ≡ false → goes_on p r b ≡ true
    → set ps i (grown p r) ≡ with_piece ps r b
goes_further [] i d p r b all at is on = absurd (omega arith)
goes_further (q ∷ []) zero d p r b all at is on =
    sym (cond-false (is_said_too r.said b) (q ∷ []) (cond (goes_on q r b) (grown q r ∷ []) (q ∷ piece_at r b ∷ [])) is
    ∙ cond-true (goes_on q r b) (grown q r ∷ []) (q ∷ piece_at r b ∷ []) (ap (λ x. goes_on x r b) at ∙ on)
    ∙ ap (λ x. grown x r ∷ []) at)
goes_further (q ∷ []) (suc i) d p r b all at is on = absurd (omega arith)
goes_further (q ∷ w ∷ ps) zero d p r b all at is on = absurd (omega arith)
goes_further (q ∷ w ∷ ps) (suc i) d p r b all at is on =
    ap (λ qs. q ∷ qs) (goes_further (w ∷ ps) i d p r b (omega arith) at is on)

-- another piece begins
pub begins : (ps : List Piece) (i : ℕ) (d p : Piece) (r : Run) (b : Option Said) → i + 1 ≡ length ps
    → get_or ps i d ≡ p → is_said_too r.said b ≡ false → goes_on p r b ≡ false
    → ps ++ piece_at r b ∷ [] ≡ with_piece ps r b
begins [] i d p r b all at is on = absurd (omega arith)
begins (q ∷ []) zero d p r b all at is on =
    sym (cond-false (is_said_too r.said b) (q ∷ []) (cond (goes_on q r b) (grown q r ∷ []) (q ∷ piece_at r b ∷ [])) is
    ∙ cond-false (goes_on q r b) (grown q r ∷ []) (q ∷ piece_at r b ∷ []) (ap (λ x. goes_on x r b) at ∙ on))
begins (q ∷ []) (suc i) d p r b all at is on = absurd (omega arith)
begins (q ∷ w ∷ ps) zero d p r b all at is on = absurd (omega arith)
begins (q ∷ w ∷ ps) (suc i) d p r b all at is on =
    ap (λ qs. q ∷ qs) (begins (w ∷ ps) i d p r b (omega arith) at is on)

pub begins_first : (ps : List Piece) (r : Run) (b : Option Said) → length ps ≡ 0 → is_said_too r.said b ≡ false
    → ps ++ piece_at r b ∷ [] ≡ with_piece ps r b
begins_first [] r b none is = sym (cond-false (is_said_too r.said b) [] (piece_at r b ∷ []) is)
begins_first (p ∷ ps) r b none is = absurd (omega arith)

-- ** a run that goes on by one VLAN

-- behind a piece that is not the last one
behind : (p q : Piece) (ps : List Piece) (r : Run) (b : Option Said) (found : List Piece)
    → with_piece (q ∷ ps) r b ≡ found → with_piece (p ∷ q ∷ ps) r b ≡ p ∷ found
behind p q ps r b found is = ap (λ qs. p ∷ qs) is

some_behind : (q : Piece) (ps : List Piece) (r : Run) (b : Option Said)
    → (w : Piece) × (ws : List Piece) × (with_piece (q ∷ ps) r b ≡ w ∷ ws)
some_behind q [] r b = by (is_said_too r.said b) (goes_on q r b)
  where
    by : (too on : Bool) → (w : Piece) × (ws : List Piece)
        × (cond too (q ∷ []) (cond on (grown q r ∷ []) (q ∷ piece_at r b ∷ [])) ≡ w ∷ ws)
    by true on = (q, [], refl)
    by false true = (grown q r, [], refl)
    by false false = (q, piece_at r b ∷ [], refl)
some_behind q (p ∷ ps) r b = (q, with_piece (p ∷ ps) r b, refl)

one_on : (a b c : ℕ) (s : Said) (o : Option Said) (ps : List Piece) → c ≡ suc b
    → with_piece (with_piece ps (run_at a b s) o) (run_at c c s) o ≡ with_piece ps (run_at a c s) o
one_on a b c s o [] next = by (is_said_too s o) refl
  where
    on : goes_on (piece_at (run_at a b s) o) (run_at c c s) o ≡ true
    on = and_from (suc b == c) (is_said s s && is_beside o o) (eq-eqb (suc b) c (sym next))
        (and_from (is_said s s) (is_beside o o) (said_is s) (beside_is o))

    by : (too : Bool) → is_said_too s o ≡ too
        → with_piece (cond too [] (piece_at (run_at a b s) o ∷ [])) (run_at c c s) o
        ≡ cond too [] (piece_at (run_at a c s) o ∷ [])
    by true is = λ k. cond (is k) [] (piece_at (run_at c c s) o ∷ [])
    by false is = (λ k. cond (is k) (piece_at (run_at a b s) o ∷ []) (cond (on k) (piece_at (run_at a c s) o ∷ [])
        (piece_at (run_at a b s) o ∷ piece_at (run_at c c s) o ∷ [])))
one_on a b c s o (p ∷ []) next = by (is_said_too s o) (goes_on p (run_at a b s) o) refl refl
  where
    on : (q : Piece) → is_said q.own.said s ≡ true → is_beside q.beside o ≡ true → q.own.last ≡ b
        → goes_on q (run_at c c s) o ≡ true
    on q said beside last = and_from (suc q.own.last == c) (is_said q.own.said s && is_beside q.beside o)
        (eq-eqb (suc q.own.last) c (ap suc last ∙ sym next))
        (and_from (is_said q.own.said s) (is_beside q.beside o) said beside)

    grows : (q : Piece) → goes_on q (run_at c c s) o ≡ true → is_said_too s o ≡ false
        → with_piece (q ∷ []) (run_at c c s) o ≡ grown q (run_at c c s) ∷ []
    grows q goes is = λ k. cond (is k) (q ∷ []) (cond (goes k) (grown q (run_at c c s) ∷ [])
        (q ∷ piece_at (run_at c c s) o ∷ []))

    by : (too goes : Bool) → is_said_too s o ≡ too → goes_on p (run_at a b s) o ≡ goes
        → with_piece (cond too (p ∷ []) (cond goes (grown p (run_at a b s) ∷ []) (p ∷ piece_at (run_at a b s) o ∷ [])))
        (run_at c c s) o
        ≡ cond too (p ∷ []) (cond goes (grown p (run_at a c s) ∷ []) (p ∷ piece_at (run_at a c s) o ∷ []))
    by true goes is same = λ k. cond (is k) (p ∷ []) (cond (goes_on p (run_at c c s) o) (grown p (run_at c c s) ∷ [])
        (p ∷ piece_at (run_at c c s) o ∷ []))
    by false true is same =
        let parts = and_parts (suc p.own.last == a) (is_said p.own.said s && is_beside p.beside o) same in
        let both = and_parts (is_said p.own.said s) (is_beside p.beside o) parts.1 in
        grows (grown p (run_at a b s)) (on (grown p (run_at a b s)) both.0 both.1 refl) is
    by false false is same = ap (λ qs. p ∷ qs) (grows (piece_at (run_at a b s) o)
        (on (piece_at (run_at a b s) o) (said_is s) (beside_is o) refl) is)
one_on a b c s o (p ∷ q ∷ ps) next =
    let some = some_behind q ps (run_at a b s) o in
    (λ k. with_piece (p ∷ some.2 k) (run_at c c s) o)
    ∙ (λ k. p ∷ with_piece (sym some.2 k) (run_at c c s) o)
    ∙ ap (λ qs. p ∷ qs) (one_on a b c s o (q ∷ ps) next)

-- VLANs of which the other list says one thing
pub all_on : (s : Said) (o : Option Said) (others : List Run) (vs : List (ℕ × Said)) (a b k : ℕ) (ps : List Piece)
    → ((n : ℕ) → b < n → n ≤ b + k → said_of others n ≡ o)
    → with_vlans (with_piece ps (run_at a b s) o) (vlans_from s (b + 1) k ++ vs) others
    ≡ with_vlans (with_piece ps (run_at a (b + k) s) o) vs others
all_on s o others vs a b zero ps same =
    let e : b ≡ b + 0 = omega arith in λ k. with_vlans (with_piece ps (run_at a (e k) s) o) vs others
all_on s o others vs a b (suc k) ps same =
    let e : b + 1 + k ≡ b + suc k = omega arith in
    (λ i. with_vlans (with_piece (with_piece ps (run_at a b s) o) (run_at (b + 1) (b + 1) s)
    (same (b + 1) (omega arith) (omega arith) i)) (vlans_from s (b + 1 + 1) k ++ vs) others)
    ∙ (λ i. with_vlans (one_on a b (b + 1) s o ps (omega arith) i) (vlans_from s (b + 1 + 1) k ++ vs) others)
    ∙ all_on s o others vs a (b + 1) k ps (λ n low high. same n (omega arith) (omega arith))
    ∙ (λ i. with_vlans (with_piece ps (run_at a (e i) s) o) vs others)

from_apart : (s : Said) (a j k : ℕ) → vlans_from s a (j + k) ≡ vlans_from s a j ++ vlans_from s (a + j) k
from_apart s a zero k = let e : a ≡ a + 0 = omega arith in let z : 0 + k ≡ k = omega arith in
    (λ i. vlans_from s a (z i)) ∙ (λ i. vlans_from s (e i) k)
from_apart s a (suc j) k =
    let e : suc j + k ≡ suc (j + k) = omega arith in let f : a + 1 + j ≡ a + suc j = omega arith in
    (λ i. vlans_from s a (e i))
    ∙ ap (λ vs. (a, s) ∷ vs) (from_apart s (a + 1) j k)
    ∙ (λ i. (a, s) ∷ (vlans_from s (a + 1) j ++ vlans_from s (f i) k))

-- the VLANs from `first` to `end` in one step, and those behind up to `last`
pub part_on : (s : Said) (o : Option Said) (others : List Run) (first end last : ℕ) (ps : List Piece) → first ≤ end
    → end ≤ last → ((n : ℕ) → first ≤ n → n ≤ end → said_of others n ≡ o)
    → with_vlans (with_piece ps (run_at first end s) o) (vlans_from s (end + 1) (suc last - (end + 1))) others
    ≡ with_vlans ps (vlans_from s first (suc last - first)) others
part_on s o others first end last ps low high same =
    let e : suc last - first ≡ suc ((end - first) + (last - end)) = omega arith in
    let f : first + 1 + (end - first) ≡ end + 1 = omega arith in
    let g : first + (end - first) ≡ end = omega arith in
    let m : last - end ≡ suc last - (end + 1) = omega arith in
    sym ((λ i. with_vlans ps (vlans_from s first (e i)) others)
    ∙ (λ i. with_vlans (with_piece ps (run_at first first s) (same first (omega arith) low i))
    (from_apart s (first + 1) (end - first) (last - end) i) others)
    ∙ all_on s o others (vlans_from s (first + 1 + (end - first)) (last - end)) first first (end - first) ps
    (λ n above below. same n (omega arith) (omega arith))
    ∙ (λ i. with_vlans (with_piece ps (run_at first (g i) s) o) (vlans_from s (f i) (m i)) others))

-- ** run by run

-- the runs that are left of another list say the same as all of it behind those that are cut
abbrev pub Beside : List Run → List Run → List Run → Type 0
Beside rest left others = (last : Option ℕ) × (are_apart last rest ≡ true)
    × ((n : ℕ) → is_below last n ≡ true → said_of left n ≡ said_of others n)

below_more : (last : Option ℕ) (m n : ℕ) → is_below last m ≡ true → m ≤ n → is_below last n ≡ true
below_more None m n below up = refl
below_more (Some l) m n below up = let lt : l < m = ltb-true l m below in lt-ltb l n (omega arith)

vlans_joined : (vs ws : List (ℕ × Said)) (ps : List Piece) (others : List Run)
    → with_vlans ps (vs ++ ws) others ≡ with_vlans (with_vlans ps vs others) ws others
vlans_joined [] ws ps others = refl
vlans_joined (v ∷ vs) ws ps others =
    vlans_joined vs ws (with_piece ps (run_at v.0 v.0 v.1) (said_of others v.0)) others

vlans_beside : (s : Said) (a k : ℕ) (ps : List Piece) (left others : List Run)
    → ((n : ℕ) → a ≤ n → said_of left n ≡ said_of others n)
    → with_vlans ps (vlans_from s a k ++ []) left ≡ with_vlans ps (vlans_from s a k) others
vlans_beside s a zero ps left others same = refl
vlans_beside s a (suc k) ps left others same =
    (λ i. with_vlans (with_piece ps (run_at a a s) (same a (omega arith) i)) (vlans_from s (a + 1) k ++ []) left)
    ∙ vlans_beside s (a + 1) k (with_piece ps (run_at a a s) (said_of others a)) left others
    (λ n low. same n (omega arith))

pub run_on : (own rest left further others : List Run) (r : Run) (ps new all : List Piece) → own ≡ r ∷ rest
    → new ≡ with_run ps r left → Beside own left others
    → ((n : ℕ) → r.last < n → said_of further n ≡ said_of left n) → with_vlans ps (vlans_of own) others ≡ all
    → (with_vlans new (vlans_of rest) others ≡ all) × Beside rest further others
run_on own rest left further others r ps new all is grown beside same was =
    let parts : IsApart beside.0 r rest =
    apart_parts beside.0 r rest (subst (λ rs. are_apart beside.0 rs ≡ true) is beside.1) in (
      (λ i. with_vlans (grown i) (vlans_of rest) others)
          ∙ (λ i. with_vlans (vlans_beside r.said r.first (suc r.last - r.first) ps left others
          (λ n low. beside.2 n (below_more beside.0 r.first n parts.below low)) i) (vlans_of rest) others)
          ∙ sym (vlans_joined (vlans_from r.said r.first (suc r.last - r.first)) (vlans_of rest) ps others)
          ∙ (λ i. with_vlans ps (vlans_of (sym is i)) others)
          ∙ was,
      (
        Some r.last,
        parts.behind,
        λ n above.
            let up : r.last < n = ltb-true r.last n above in
            let first : r.first ≤ n = omega (arith, parts.up) in
            same n up ∙ beside.2 n (below_more beside.0 r.first n parts.below first),
      ),
    )

-- ** what the pieces say

abbrev AreUp : List Piece → Type 0
AreUp ps = AllByRecursion (λ (p : Piece). p.own.first ≤ suc p.own.last) ps

range_more : (a k : ℕ) → range_with_len a (k + 1) ≡ range_with_len a k ++ (a + k) ∷ []
range_more a zero = let e : a ≡ a + 0 = omega arith in λ i. e i ∷ []
range_more a (suc k) =
    let e : suc k + 1 ≡ suc (k + 1) = omega arith in let f : a + 1 + k ≡ a + suc k = omega arith in
    (λ i. range_with_len a (e i)) ∙ ap (λ ns. a ∷ ns) (range_more (a + 1) k)
    ∙ (λ i. a ∷ (range_with_len (a + 1) k ++ f i ∷ []))

up_more : (ps : List Piece) (n : ℕ) (s : Said) (b : Option Said) → AreUp ps → AreUp (with_piece ps (run_at n n s) b)
up_more [] n s b up = by (is_said_too s b)
  where
    by : (too : Bool) → AreUp (cond too [] (piece_at (run_at n n s) b ∷ []))
    by true = tt
    by false = (omega arith, tt)
up_more (p ∷ []) n s b up = by (is_said_too s b) (goes_on p (run_at n n s) b) refl
  where
    by : (too on : Bool) → goes_on p (run_at n n s) b ≡ on → AreUp (cond too (p ∷ [])
        (cond on (grown p (run_at n n s) ∷ []) (p ∷ piece_at (run_at n n s) b ∷ [])))
    by true on is = up
    by false true is =
        let e = eqb-true (suc p.own.last) n
        (and_parts (suc p.own.last == n) (is_said p.own.said s && is_beside p.beside b) is).0 in
        let low : p.own.first ≤ suc p.own.last = up.0 in
        (omega arith, tt)
    by false false is = (up.0, (omega arith, tt))
up_more (p ∷ q ∷ ps) n s b up = (up.0, up_more (q ∷ ps) n s b up.1)

module _ {X : Type 0} (F : ℕ → Said → Option Said → List X) where
  abbrev piece_says : Piece → List X
  piece_says p = flat_map (λ n. F n p.own.said p.beside) (vids_of p.own)

  abbrev Silent : Type 0
  Silent = (n : ℕ) (s b : Said) → is_said s b ≡ true → F n s (Some b) ≡ []

  silent_at : Silent → (n : ℕ) (s : Said) (b : Option Said) → is_said_too s b ≡ true → F n s b ≡ []
  silent_at silent n s None is = absurd cc
  silent_at silent n s (Some b) is = silent n s b is

  one_says : (n : ℕ) (s : Said) (b : Option Said) → piece_says (piece_at (run_at n n s) b) ≡ F n s b
  one_says n s b =
      let e : suc n - n ≡ 1 = omega arith in
      (λ i. flat_map (λ m. F m s b) (range_with_len n (e i))) ∙ append-nil (F n s b)

  grown_says : (p : Piece) (n : ℕ) (s : Said) (b : Option Said) → p.own.first ≤ suc p.own.last
      → goes_on p (run_at n n s) b ≡ true → piece_says (grown p (run_at n n s)) ≡ piece_says p ++ F n s b
  grown_says p n s b up on =
      let parts = and_parts (suc p.own.last == n) (is_said p.own.said s && is_beside p.beside b) on in
      let both = and_parts (is_said p.own.said s) (is_beside p.beside b) parts.1 in
      let next : suc p.own.last ≡ n = eqb-true (suc p.own.last) n parts.0 in
      let e : suc n - p.own.first ≡ suc p.own.last - p.own.first + 1 = omega arith in
      let f : p.own.first + (suc p.own.last - p.own.first) ≡ n = omega arith in
      let g : ℕ → List X = λ m. F m p.own.said p.beside in
      (λ i. flat_map g (range_with_len p.own.first (e i)))
      ∙ ap (flat_map g) (range_more p.own.first (suc p.own.last - p.own.first))
      ∙ flat_map-append g (vids_of p.own) ((p.own.first + (suc p.own.last - p.own.first)) ∷ [])
      ∙ ap (λ xs. piece_says p ++ xs) (append-nil (g (p.own.first + (suc p.own.last - p.own.first))))
      ∙ (λ i. piece_says p ++ F (f i) (said_same p.own.said s both.0 i) (beside_same p.beside b both.1 i))

  piece_said : Silent → (ps : List Piece) (n : ℕ) (s : Said) (b : Option Said) → AreUp ps
      → flat_map piece_says (with_piece ps (run_at n n s) b) ≡ flat_map piece_says ps ++ F n s b
  piece_said silent [] n s b up = by (is_said_too s b) refl
    where
      by : (too : Bool) → is_said_too s b ≡ too
          → flat_map piece_says (cond too [] (piece_at (run_at n n s) b ∷ [])) ≡ F n s b
      by true is = sym (silent_at silent n s b is)
      by false is = append-nil (piece_says (piece_at (run_at n n s) b)) ∙ one_says n s b
  piece_said silent (p ∷ []) n s b up = by (is_said_too s b) (goes_on p (run_at n n s) b) refl refl
    where
      by : (too on : Bool) → is_said_too s b ≡ too → goes_on p (run_at n n s) b ≡ on
          → flat_map piece_says (cond too (p ∷ [])
          (cond on (grown p (run_at n n s) ∷ []) (p ∷ piece_at (run_at n n s) b ∷ [])))
          ≡ (piece_says p ++ []) ++ F n s b
      by true on is goes =
          sym (append-nil (piece_says p ++ []))
          ∙ ap (λ xs. (piece_says p ++ []) ++ xs) (sym (silent_at silent n s b is))
      by false true is goes =
          append-nil (piece_says (grown p (run_at n n s))) ∙ grown_says p n s b up.0 goes
          ∙ ap (λ xs. xs ++ F n s b) (sym (append-nil (piece_says p)))
      by false false is goes =
          ap (λ xs. piece_says p ++ xs) (append-nil (piece_says (piece_at (run_at n n s) b)) ∙ one_says n s b)
          ∙ ap (λ xs. xs ++ F n s b) (sym (append-nil (piece_says p)))
  piece_said silent (p ∷ q ∷ ps) n s b up =
      ap (λ xs. piece_says p ++ xs) (piece_said silent (q ∷ ps) n s b up.1)
      ∙ sym (append_assoc (piece_says p) (flat_map piece_says (q ∷ ps)) (F n s b))

  vlans_say : Silent → (ss : List Run) (vs : List (ℕ × Said)) (ps : List Piece) → AreUp ps
      → flat_map piece_says (with_vlans ps vs ss)
      ≡ flat_map piece_says ps ++ flat_map (λ (v : ℕ × Said). F v.0 v.1 (said_of ss v.0)) vs
  vlans_say silent ss [] ps up = sym (append-nil (flat_map piece_says ps))
  vlans_say silent ss (v ∷ vs) ps up =
      vlans_say silent ss vs (with_piece ps (run_at v.0 v.0 v.1) (said_of ss v.0))
      (up_more ps v.0 v.1 (said_of ss v.0) up)
      ∙ ap (λ xs. xs ++ flat_map (λ (w : ℕ × Said). F w.0 w.1 (said_of ss w.0)) vs)
      (piece_said silent ps v.0 v.1 (said_of ss v.0) up)
      ∙ append_assoc (flat_map piece_says ps) (F v.0 v.1 (said_of ss v.0))
      (flat_map (λ (w : ℕ × Said). F w.0 w.1 (said_of ss w.0)) vs)

pub pieces_say : {X : Type 0} (F : ℕ → Said → Option Said → List X)
    → ((n : ℕ) (s b : Said) → is_said s b ≡ true → F n s (Some b) ≡ []) → (rs ss : List Run)
    → flat_map (λ (p : Piece). flat_map (λ n. F n p.own.said p.beside) (vids_of p.own)) (pieces_of rs ss)
    ≡ flat_map (λ (v : ℕ × Said). F v.0 v.1 (said_of ss v.0)) (vlans_of rs)
pieces_say F silent rs ss = vlans_say F silent ss (vlans_of rs) [] tt
