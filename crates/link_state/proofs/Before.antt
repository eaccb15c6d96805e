-- What is read of filled bytes was read of them before: filling makes no payload accepted that was refused.
use Rattle.std.proofs.Common.{◌≡◌, ℕ, ◌==◌, List, [], ◌∷◌, length, map, filter, cond, refl, sym, ap, subst, ◌∙◌}
use Rattle.std.proofs.Common.{arith, eqb-true, Bool, true, false}
use Rattle.std.proofs.lemmas.List.{length-replicate}
use Rattle.std.specs.Prelude.{if◌then◌else◌}
use Rattle.std.specs.Int.{Width, from_le_bytes}
use Rattle.std.specs.List.{AllByRecursion}
use Rattle.nla_wire.specs.Frames.{Frame, number, IsBytes, IsFrame, Begins, Frames}
use Rattle.nla_wire.specs.Reading.{step}
use Rattle.nla_wire.specs.Reading.Step.{End, Bad, Next}
use Rattle.nla_wire.specs.Grammar.{Grammar, Every, list, not_empty, by_payload, as_a, undecoded, is_one, picked}
use Rattle.nla_wire.specs.Payloads as payload
use Rattle.nla_wire.specs.declared.error.Cause.{Cause}
use Rattle.nla_wire.proofs.Steps.{step_whole, step_begins, step_end, step_framed, length-begins}
use Rattle.nla_wire.proofs.Back.{all_filtered}
use Rattle.nla_wire.proofs.Joined.{begins_once}
use Rattle.nla_wire.proofs.Tables.{Seen, Entry, lines, line_in}
use Rattle.nla_wire.proofs.Codec.{Any}
use Rattle.link_state.specs.Table.{Action, find}
use Rattle.link_state.specs.Table.Action.{Keep, Clear, Enter}
use Rattle.link_state.specs.Cleared.{payload_by, filled_on, filled}
use Rattle.link_state.specs.declared.level.Level.{Level}
use Rattle.link_state.proofs.Walking.{filled_step, length-payload_by, length-filled}
use Rattle.link_state.proofs.Closing.{acted, filled_frame}
use Rattle.link_state.proofs.Masks.{by_frames, filled_begins}

-- ** payloads

-- a payload that is read once it is filled was read before
abbrev pub ReadBefore : {A : Type 0} → Grammar (List ℕ) A → ℕ → Action → Type 0
ReadBefore {A} g by action =
    (p : List ℕ) (a : A) → IsBytes p → g.means (payload_by by (filled by) action p) a → (b : A) × g.means p b

pub number_before : (by : ℕ) (w : Width) → ReadBefore (payload.number_of w) by Clear
number_before by w p a small m = (from_le_bytes w p, (sym (length-replicate (length p) by) ∙ m.0, refl))

pub filled_before : {A : Type 0} (by : ℕ) (of : List ℕ → A) (action : Action)
    → ReadBefore (payload.filled of) by action
filled_before by of action p a small m = (of p, refl)

pub sized_before : {A : Type 0} (by size : ℕ) (of : List ℕ → A) (action : Action)
    → ReadBefore (payload.sized size of) by action
sized_before by size of action p a small m = (of p, (omega (arith, m.0, length-payload_by by action p), refl))

pub as_before : {A B : Type 0} (of : A → B) (g : Grammar (List ℕ) A) (by : ℕ) (action : Action)
    → ReadBefore g by action → ReadBefore (as_a of g) by action
as_before of g by action before p b small m = let k = before p m.0 small m.1 in (of k.0, (k.0, k.1, refl))

-- ** frames

module _ {V : Type 0} (g : Grammar Frame V) where
  -- the same of frames of this number
  abbrev pub FrameBefore : ℕ → ℕ → Action → Type 0
  FrameBefore by n action =
      (f : Frame) (v : V) → IsFrame f → number f ≡ n → g.means (acted by action f) v → (w : V) × g.means f w

  pub keep_before : (by n : ℕ) → FrameBefore by n Keep
  keep_before by n f v one is means = (v, means)

  abbrev pub AllBefore : ℕ → List (ℕ × Action) → Type 0
  AllBefore by [] = Unit {0}
  AllBefore by (row ∷ rs) = FrameBefore by row.0 row.1 × AllBefore by rs

  -- of all frames of a level
  abbrev pub LevelBefore : ℕ → Level → Type 0
  LevelBefore by level =
      (f : Frame) (v : V) → IsFrame f → g.means (filled_frame by level f) v → (w : V) × g.means f w

  before_row : (by : ℕ) (f : Frame) (v : V) → IsFrame f → (row : ℕ × Action) (rs : List (ℕ × Action))
      → FrameBefore by row.0 row.1
      → (g.means (acted by (find rs (number f)) f) v → (w : V) × g.means f w)
      → (t : Bool) → (number f == row.0) ≡ t
      → g.means (acted by (if t then row.1 else find rs (number f)) f) v → (w : V) × g.means f w
  before_row by f v one row rs here later true e means = here f v one (eqb-true (number f) row.0 e) means
  before_row by f v one row rs here later false e means = later means

  -- a level, row by row
  pub rows_before : (by : ℕ) (rs : List (ℕ × Action)) → AllBefore by rs → (f : Frame) (v : V) → IsFrame f
      → g.means (acted by (find rs (number f)) f) v → (w : V) × g.means f w
  rows_before by [] h f v one means = keep_before by (number f) f v one refl means
  rows_before by (row ∷ rs) h f v one means =
      before_row by f v one row rs h.0 (rows_before by rs h.1 f v one) (number f == row.0) refl means

  every_before : (by : ℕ) (level : Level) → LevelBefore by level → (fs : List Frame) (vs : List V)
      → AllByRecursion IsFrame fs → Every g.means (map (filled_frame by level) fs) vs
      → (ws : List V) × Every g.means fs ws
  every_before by level before [] vs framed every = ([], tt)
  every_before by level before (f ∷ fs) [] framed every = absurd every
  every_before by level before (f ∷ fs) (v ∷ vs) framed every =
      let w = before f v framed.0 every.0 in
      let ws = every_before by level before fs vs framed.1 every.1 in
      (w.0 ∷ ws.0, (w.1, ws.1))

-- ** the frames of filled bytes

-- frames, of which these are the filled ones
pub record FramesBefore (by : ℕ) (level : Level) (b : List ℕ) (gs : List Frame) : Type 0 where
  pub frames : List Frame
  pub spelt : Frames b frames
  pub framed : AllByRecursion IsFrame frames
  pub filled_is : gs ≡ map (filled_frame by level) frames

abbrev Unfilled : ℕ → Level → List ℕ → Type 0
Unfilled by level b = (gs : List Frame) → Frames (filled by level b) gs → FramesBefore by level b gs

no_frame : (b : List ℕ) (c : Cause) → step b ≡ Bad c → (g : Frame) (rest : List ℕ) → Begins b g rest → ⊥
no_frame b c e g rest begins = let clash = sym e ∙ step_whole b g rest begins in absurd cc

at_bad : (by : ℕ) (level : Level) (b : List ℕ) (c : Cause) → step b ≡ Bad c → Unfilled by level b
at_bad by level b c e [] frames =
    record {
      frames = [];
      spelt = subst (λ x. Frames x []) (filled_step by level b
          ∙ ap (filled_on by (filled by) level b) e) frames;
      framed = tt;
      filled_is = refl;
    }
at_bad by level b c e (g ∷ gs) frames =
    let here = subst (λ x. Frames x (g ∷ gs))
    (filled_step by level b ∙ ap (filled_on by (filled by) level b) e) frames in
    absurd (no_frame b c e g here.0 here.1)

at_end : (by : ℕ) (level : Level) (b : List ℕ) → step b ≡ End → Unfilled by level b
at_end by level b e [] frames = record { frames = []; spelt = step_end b e; framed = tt; filled_is = refl }
at_end by level b e (g ∷ gs) frames =
    let here = subst (λ x. Frames x (g ∷ gs))
    (filled_step by level b ∙ ap (filled_on by (filled by) level b) e) frames in
    let clash = sym e ∙ step_whole b g here.0 here.1 in absurd cc

at_next : (by : ℕ) (level : Level) (b : List ℕ) (f : Frame) (rest : List ℕ) → IsBytes b → step b ≡ Next f rest
    → ((inner : Level) → Unfilled by inner f.payload) → Unfilled by level rest → Unfilled by level b
at_next by level b f rest small e inside later [] frames =
    let begins = filled_begins by level b f rest (step_begins b f rest small e) in
    absurd (omega (
      arith,
      length-begins (filled by level b) (filled_frame by level f) (filled by level rest) begins,
      ap (λ (x : List ℕ). length x) frames,
    ))
at_next by level b f rest small e inside later (g ∷ gs) (r, begun, frames) =
    let begins = step_begins b f rest small e in
    let one = begins_once (filled by level b) (filled_frame by level f) g (filled by level rest) r
    (filled_begins by level b f rest begins) begun in
    let more = later gs (subst (λ x. Frames x gs) (sym one.1) frames) in
    record {
      frames = f ∷ more.frames;
      spelt = (rest, begins, more.spelt);
      framed = (step_framed b f rest small e, more.framed);
      filled_is = ap (λ x. x ∷ gs) (sym one.0) ∙ ap (λ xs. filled_frame by level f ∷ xs) more.filled_is;
    }

pub frames_before : (by : ℕ) (level : Level) (b : List ℕ) → IsBytes b → Unfilled by level b
frames_before by = by_frames (Unfilled by) (at_end by) (at_bad by) (at_next by)

-- ** lists as payloads

filter_on : (by : ℕ) (level : Level) (f : Frame) (fs : List Frame) (t : Bool)
    → filter is_one (map (filled_frame by level) fs) ≡ map (filled_frame by level) (filter is_one fs)
    → cond t (filled_frame by level f ∷ filter is_one (map (filled_frame by level) fs))
    (filter is_one (map (filled_frame by level) fs))
    ≡ map (filled_frame by level) (cond t (f ∷ filter is_one fs) (filter is_one fs))
filter_on by level f fs true h = ap (λ xs. filled_frame by level f ∷ xs) h
filter_on by level f fs false h = h

-- filling keeps the numbers
filter_filled : (by : ℕ) (level : Level) (fs : List Frame)
    → filter is_one (map (filled_frame by level) fs) ≡ map (filled_frame by level) (filter is_one fs)
filter_filled by level [] = refl
filter_filled by level (f ∷ fs) = filter_on by level f fs (is_one f) (filter_filled by level fs)

module _ {V : Type 0} (g : Grammar Frame V) (by : ℕ) (level : Level) (before : LevelBefore g by level) where
  pub list_before : ReadBefore (list g) by (Enter level)
  list_before p vs small (gs, frames, every) =
      let h = frames_before by level p small gs frames in
      let k = every_before g by level before h.frames vs h.framed
      (subst (λ xs. Every g.means xs vs) h.filled_is every) in
      (k.0, (h.frames, h.spelt, k.1))

  pub some_before : ReadBefore (not_empty (list g)) by (Enter level)
  some_before p vs small (some, means) =
      let k = list_before p vs small means in (k.0, (omega (arith, some, length-filled by level p), k.1))

  pub picked_before : ReadBefore (picked g) by (Enter level)
  picked_before p vs small (gs, frames, every) =
      let h = frames_before by level p small gs frames in
      let picked_is = ap (filter is_one) h.filled_is ∙ filter_filled by level h.frames in
      let k = every_before g by level before (filter is_one h.frames) vs
      (all_filtered IsFrame is_one h.frames h.framed)
      (subst (λ xs. Every g.means xs vs) picked_is every) in
      (k.0, (h.frames, h.spelt, k.1))

-- ** lines of tables

-- a place of one kind
pub place_before : {A B : Type 0} (wrap : A → B) (g : Grammar (List ℕ) A) (by n : ℕ) (action : Action)
    → ReadBefore g by action → FrameBefore (by_payload (as_a wrap g)) by n action
place_before wrap g by n action before f v one is means =
    let k = before f.payload means.0 one.bytes means.1 in (wrap k.0, (k.0, k.1, refl))

module _ {S : Type 0} (base : S → Any) {V : Type 0} (view : V → Seen) (Good : V → Type 0)
    (es : List {1} (Entry base view Good)) (other : Frame → V) where
  -- frames of a number that are read by their payload
  pub line_before : {A : Type 0} (by n : ℕ) (action : Action) (g : Grammar (List ℕ) A) (variant : A → V)
      → ((size : ℕ) → line_in base view Good n size es (undecoded other) ≡ by_payload (as_a variant g))
      → ReadBefore g by action
      → FrameBefore (lines base view Good es (undecoded other)) by n action
  line_before by n action g variant reads before f v one is means =
      let size = length (acted by action f).payload in
      let read : (by_payload (as_a variant g)).means (acted by action f) v =
      subst (λ (h : Grammar Frame V). h.means (acted by action f) v) (reads size)
      (subst (λ m. (line_in base view Good m size es (undecoded other)).means (acted by action f) v) is means) in
      let k = before f.payload read.0 one.bytes read.1 in (
        variant k.0,
        subst (λ m. (line_in base view Good m (length f.payload) es (undecoded other)).means f (variant k.0)) (sym is)
            (subst (λ (h : Grammar Frame V). h.means f (variant k.0)) (sym (reads (length f.payload)))
            (k.0, k.1, refl)),
      )

  -- frames of a number that no line has
  pub kept_before : (by n : ℕ) (action : Action)
      → ((size : ℕ) → line_in base view Good n size es (undecoded other) ≡ undecoded other)
      → FrameBefore (lines base view Good es (undecoded other)) by n action
  kept_before by n action reads f v one is means = (
    other f,
    subst (λ m. (line_in base view Good m (length f.payload) es (undecoded other)).means f (other f)) (sym is)
        (subst (λ (h : Grammar Frame V). h.means f (other f)) (sym (reads (length f.payload))) refl),
  )
