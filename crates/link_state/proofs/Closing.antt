-- Filling a canonical list gives a canonical list again.
use Rattle.std.proofs.Common.{◌≡◌, ℕ, ◌+◌, ◌==◌, List, [], ◌∷◌, ◌++◌, length, take, drop}
use Rattle.std.proofs.Common.{replicate, map, refl, sym, ap, ◌∙◌, arith, append_assoc, take_at, drop_at, eqb-true}
use Rattle.std.proofs.Common.{Bool, true, false}
use Rattle.std.proofs.lemmas.List.{length-append, length-replicate}
use Rattle.std.specs.Prelude.{if◌then◌else◌}
use Rattle.std.specs.Int.{w16, to_le_bytes}
use Rattle.std.specs.List.{AllByRecursion}
use Rattle.nla_wire.specs.Frames.{Frame, number, missing, IsFrame}
use Rattle.nla_wire.specs.Grammar.{Grammar, Every}
use Rattle.nla_wire.specs.Canon.{canon, canons, IsWritable}
use Rattle.nla_wire.proofs.Steps.{step_whole}
use Rattle.nla_wire.proofs.Back.{canon_begins}
use Rattle.link_state.specs.Table.{action_of, find}
use Rattle.link_state.specs.Cleared.{payload_by, filled}
use Rattle.link_state.specs.declared.level.Level.{Level}
use Rattle.link_state.specs.Table.{Action}
use Rattle.link_state.specs.Table.Action.{Keep}
use Rattle.link_state.proofs.Walking.{filled_next, filled_nil, length-payload_by}

-- the first of what is to be shown, and the rest of it
infixr 5 ◌&◌
abbrev pub ◌&◌ : {A B : Type 0} → A → B → A × B
x & y = (x, y)

-- ** frames

abbrev pub acted : ℕ → Action → Frame → Frame
acted by action f = record { kind = f.kind; payload = payload_by by (filled by) action f.payload }

abbrev pub filled_frame : ℕ → Level → Frame → Frame
filled_frame by level f = acted by (action_of level (number f)) f

abbrev pub head_of : Frame → List ℕ
head_of f = to_le_bytes w16 (4 + length f.payload) ++ to_le_bytes w16 f.kind

canon_parts : (f : Frame) (rest : List ℕ) → canon f ++ rest
    ≡ head_of f ++ (f.payload ++ (replicate (missing (length f.payload)) 0 ++ rest))
canon_parts f rest =
    append_assoc (head_of f ++ f.payload) (replicate (missing (length f.payload)) 0) rest
    ∙ append_assoc (head_of f) f.payload (replicate (missing (length f.payload)) 0 ++ rest)

acted_text : (by : ℕ) (action : Action) (f : Frame)
    → head_of f ++ payload_by by (filled by) action f.payload ++ replicate (missing (length f.payload)) 0
    ≡ canon (acted by action f)
acted_text by action f = ap (λ n. to_le_bytes w16 (4 + n) ++ to_le_bytes w16 f.kind
    ++ payload_by by (filled by) action f.payload ++ replicate (missing n) 0)
    (sym (length-payload_by by action f.payload))

-- the first frame of canonical encoding
pub filled_canon : (by : ℕ) (level : Level) (f : Frame) (rest : List ℕ) → IsWritable f
    → filled by level (canon f ++ rest) ≡ canon (filled_frame by level f) ++ filled by level rest
filled_canon by level f rest writable =
    let b = canon f ++ rest in
    let k = missing (length f.payload) in
    let zeros = replicate k 0 in
    let front : take 4 b ≡ head_of f =
    ap (take 4) (canon_parts f rest) ∙ take_at (head_of f) (f.payload ++ (zeros ++ rest)) 4 refl in
    let four_on : drop 4 b ≡ f.payload ++ (zeros ++ rest) =
    ap (drop 4) (canon_parts f rest) ∙ drop_at (head_of f) (f.payload ++ (zeros ++ rest)) 4 refl in
    let whole : length (head_of f ++ f.payload) ≡ 4 + length f.payload = length-append (head_of f) f.payload in
    let behind : take k (drop (4 + length f.payload) b) ≡ zeros =
    ap (λ xs. take k (drop (4 + length f.payload) xs)) (append_assoc (head_of f ++ f.payload) zeros rest)
    ∙ ap (take k) (drop_at (head_of f ++ f.payload) (zeros ++ rest) (4 + length f.payload) whole)
    ∙ take_at zeros rest k (length-replicate k 0) in
    let p = payload_by by (filled by) (action_of level (number f)) f.payload in
    filled_next by level b f rest (step_whole b f rest (canon_begins f rest writable))
    ∙ ap (λ xs. xs ++ p ++ take k (drop (4 + length f.payload) b) ++ filled by level rest) front
    ∙ ap (λ xs. head_of f ++ p ++ xs ++ filled by level rest) behind
    ∙ ap (λ xs. xs ++ filled by level rest) (acted_text by (action_of level (number f)) f)

-- values whose frames are the filled frames of others have the filled text
pub filled_canons : {V : Type 0} (by : ℕ) (level : Level) (frame : V → Frame) (vs ws : List V)
    → AllByRecursion (λ v. IsWritable (frame v)) vs
    → map frame ws ≡ map (λ v. filled_frame by level (frame v)) vs
    → canons frame ws ≡ filled by level (canons frame vs)
filled_canons by level frame [] [] writable e = sym (filled_nil by level [] refl)
filled_canons by level frame [] (w ∷ ws) writable e = absurd (omega (arith, ap (λ (fs : List Frame). length fs) e))
filled_canons by level frame (v ∷ vs) [] writable e = absurd (omega (arith, ap (λ (fs : List Frame). length fs) e))
filled_canons by level frame (v ∷ vs) (w ∷ ws) writable e =
    let first : frame w ≡ filled_frame by level (frame v) = cc in
    let later : map frame ws ≡ map (λ v. filled_frame by level (frame v)) vs = cc in
    ap (λ f. canon f ++ canons frame ws) first
    ∙ ap (λ xs. canon (filled_frame by level (frame v)) ++ xs) (filled_canons by level frame vs ws writable.1 later)
    ∙ sym (filled_canon by level (frame v) (canons frame vs) writable.0)

-- ** values that are what their own text means

module _ {V : Type 0} (g : Grammar Frame V) (frame : V → Frame) (Fits Good : V → Type 0) where
  pub record IsOwn (v : V) : Type 0 where
    pub framed : IsFrame (frame v)
    pub means : g.means (frame v) v
    pub fits : Fits v
    pub good : Good v

  -- another value, which is written as this frame
  pub record Becomes (f : Frame) : Type 0 where
    pub value : V
    pub means : g.means (frame value) value
    pub fits : Fits value
    pub good : Good value
    pub frame_is : frame value ≡ f

  -- values of this number become others
  abbrev pub ClosesAt : ℕ → ℕ → Action → Type 0
  ClosesAt by n action = (v : V) → IsOwn v → number (frame v) ≡ n → Becomes (acted by action (frame v))

  -- what is kept is the same value
  pub keep_closes : (by n : ℕ) → ClosesAt by n Keep
  keep_closes by n v own is =
      record { value = v; means = own.means; fits = own.fits; good = own.good; frame_is = refl }

  abbrev pub AllClose : ℕ → List (ℕ × Action) → Type 0
  AllClose by [] = Unit {0}
  AllClose by (row ∷ rs) = ClosesAt by row.0 row.1 × AllClose by rs

  abbrev pub Closes : ℕ → Level → Type 0
  Closes by level = (v : V) → IsOwn v → Becomes (filled_frame by level (frame v))

  closes_row : (by : ℕ) (v : V) → IsOwn v → (row : ℕ × Action) (rs : List (ℕ × Action)) → ClosesAt by row.0 row.1
      → Becomes (acted by (find rs (number (frame v))) (frame v))
      → (t : Bool) → (number (frame v) == row.0) ≡ t
      → Becomes (acted by (if t then row.1 else find rs (number (frame v))) (frame v))
  closes_row by v own row rs here later true e = here v own (eqb-true (number (frame v)) row.0 e)
  closes_row by v own row rs here later false e = later

  -- a place closes if each row does
  pub by_rows : (by : ℕ) (rs : List (ℕ × Action)) → AllClose by rs → (v : V) → IsOwn v
      → Becomes (acted by (find rs (number (frame v))) (frame v))
  by_rows by [] h v own = keep_closes by (number (frame v)) v own refl
  by_rows by (row ∷ rs) h v own =
      closes_row by v own row rs h.0 (by_rows by rs h.1 v own) (number (frame v) == row.0) refl

  pub record BecomeAll (by : ℕ) (level : Level) (vs : List V) : Type 0 where
    pub values : List V
    pub means : Every g.means (map frame values) values
    pub fits : AllByRecursion Fits values
    pub good : AllByRecursion Good values
    pub frames_are : map frame values ≡ map (λ v. filled_frame by level (frame v)) vs

  pub each : (by : ℕ) (level : Level) → Closes by level → (vs : List V) → AllByRecursion IsOwn vs
      → BecomeAll by level vs
  each by level closes [] own = record { values = []; means = tt; fits = tt; good = tt; frames_are = refl }
  each by level closes (v ∷ vs) own =
      let here = closes v own.0 in
      let later = each by level closes vs own.1 in
      record {
        values = here.value ∷ later.values;
        means = (here.means, later.means);
        fits = (here.fits, later.fits);
        good = (here.good, later.good);
        frames_are = ap (λ f. f ∷ map frame later.values) here.frame_is
            ∙ ap (λ fs. filled_frame by level (frame v) ∷ fs) later.frames_are;
      }
