-- Code that goes by the shape of a payload, with no value made: what it returns is what reading the attribute would.
use Rattle.std.proofs.Common.{◌≡◌, ℕ, ◌≤◌, List, length, refl, sym, ap, subst, ◌∙◌}
use Rattle.std.specs.Prelude.{Option, None, Some, Result, Ok, Err, IsOk}
use Rattle.nla_wire.specs.Sizes.{most_payload}
use Rattle.nla_wire.specs.Frames.{Frame, number, IsBytes}
use Rattle.nla_wire.specs.Reading.{◌>>=◌}
use Rattle.nla_wire.specs.Gives.{Checks}
use Rattle.nla_wire.specs.Canon.{canon, Writes, Weighs, HasRoom, Rewrites}
use Rattle.nla_wire.specs.declared.error.Cause.{Cause}
use Rattle.nla_wire.specs.declared.error.DecodeError.{DecodeError}
use Rattle.nla_wire.specs.Grammar.{undecoded}
use Rattle.nla_wire.proofs.Codec.{Any, kind_of}
use Rattle.nla_wire.proofs.Tables.{Seen, as_it_is, Way, Kept, Shape, Own, FitsAs, ReadsAs, ReadsBy, Entry, reads_in}
use Rattle.nla_wire.proofs.Tables.{lines, way_in, line_by}

abbrev pub frame_with : ℕ → List ℕ → Frame
frame_with kind payload = record { kind = kind; payload = payload }

-- whether a payload of this shape is read
abbrev pub ShapeChecks : {S : Type 0} (base : S → Any) (s : S) → List ℕ → Result Unit DecodeError → Type 0
ShapeChecks base s p answer = Checks answer ((base s).codec.grammar.reads p)

-- a value of this shape fits
abbrev pub ShapeFits : {S : Type 0} (base : S → Any) (s : S) → (base s).A → Type 0
ShapeFits base s x = (length ((base s).codec.encoding x) ≤ most_payload) × (base s).codec.Inside x

-- how long the encoding of the value is that a payload of this shape means
abbrev pub ShapeWeighs : {S : Type 0} (base : S → Any) (s : S) → List ℕ → Option ℕ → Type 0
ShapeWeighs base s p answer = Weighs (base s).codec.encoding (ShapeFits base s) ((base s).codec.grammar.reads p) answer

-- there is room for the attribute of this kind that a payload of this shape means
abbrev pub ShapeRoom : {S : Type 0} (base : S → Any) (s : S) (kind : ℕ) → List ℕ → ℕ → Type 0
ShapeRoom base s kind p room = HasRoom (λ x. canon (frame_with kind ((base s).codec.encoding x))) (ShapeFits base s)
    ((base s).codec.grammar.reads p) room

-- that attribute stands at the front of a buffer
abbrev pub ShapeWrites : {S : Type 0} (base : S → Any) (s : S) (kind : ℕ) → List ℕ → List ℕ → List ℕ → ℕ → Type 0
ShapeWrites base s kind p old new n =
    Rewrites (λ x. canon (frame_with kind ((base s).codec.encoding x))) ((base s).codec.grammar.reads p) old new n

checks_wrapped : {A V : Type 0} (make : A → V) (r : Result A Cause) (answer : Result Unit DecodeError) → Checks answer r
    → Checks answer (r >>= λ x. Ok (make x))
checks_wrapped make (Ok x) (Ok a) h = refl
checks_wrapped make (Ok x) (Err e) h = absurd cc
checks_wrapped make (Err c) (Ok a) h = absurd cc
checks_wrapped make (Err c) (Err e) h = cc

module _ {S : Type 0} (base : S → Any) {V : Type 0} (view : V → Seen) (Good : V → Type 0) where
  pub checks_as : (s : S) (kind : ℕ) (read : Frame → Result V Cause) → ReadsAs base view Good s kind read
      → (f : Frame) (answer : Result Unit DecodeError) → ShapeChecks base s f.payload answer → Checks answer (read f)
  checks_as s kind read by f answer h =
      subst (λ r. Checks answer r) (sym (by.reads f))
      (checks_wrapped by.make ((base s).codec.grammar.reads f.payload) answer h)

  -- a value at the place, and the shape's value that it is made of
  module _ (s : S) (kind : ℕ) (p : List ℕ) (small : IsBytes p) (read : Frame → Result V Cause)
      (by : ReadsAs base view Good s kind read) where
    means : (x : (base s).A) → (base s).codec.grammar.reads p ≡ Ok x → (base s).codec.grammar.means p x
    means x is = (base s).codec.lawful.agrees.found p x small is

    frame_is : (x : (base s).A) → (base s).codec.grammar.reads p ≡ Ok x
        → (view (by.make x)).frame ≡ frame_with kind ((base s).codec.encoding x)
    frame_is x is = by.frame_is p x small (means x is)

    fits_there : (x : (base s).A) → (base s).codec.grammar.reads p ≡ Ok x → FitsAs base view Good (by.make x)
        → ShapeFits base s x
    fits_there x is fits = (
      subst (λ (g : Frame). length g.payload ≤ most_payload) (frame_is x is) fits.0,
      by.inside p x small (means x is) fits.1,
    )

    fits_here : (x : (base s).A) → (base s).codec.grammar.reads p ≡ Ok x → ShapeFits base s x
        → FitsAs base view Good (by.make x)
    fits_here x is fits = (
      subst (λ (g : Frame). length g.payload ≤ most_payload) (sym (frame_is x is)) fits.0,
      by.outside p x small (means x is) fits.1,
    )

    weighs_read : (r : Result (base s).A Cause) → (base s).codec.grammar.reads p ≡ r → (a : Option ℕ)
        → Weighs (base s).codec.encoding (ShapeFits base s) r a
        → Weighs (λ v. (view v).frame.payload) (FitsAs base view Good) (r >>= λ x. Ok (by.make x)) a
    weighs_read (Ok x) is (Some n) w =
        (fits_here x is w.0, w.1 ∙ sym (ap (λ (g : Frame). length g.payload) (frame_is x is)))
    weighs_read (Ok x) is None w = λ fits. w (fits_there x is fits)
    weighs_read (Err c) is (Some n) w = w
    weighs_read (Err c) is None w = tt

    room_read : (r : Result (base s).A Cause) → (base s).codec.grammar.reads p ≡ r → (room : ℕ)
        → HasRoom (λ v. canon (view v).frame) (FitsAs base view Good) (r >>= λ x. Ok (by.make x)) room
        → HasRoom (λ x. canon (frame_with kind ((base s).codec.encoding x))) (ShapeFits base s) r room
    room_read (Ok x) is room h =
        (fits_there x is h.0, subst (λ (g : Frame). length (canon g) ≤ room) (frame_is x is) h.1)
    room_read (Err c) is room h = h

    writes_read : (r : Result (base s).A Cause) → (base s).codec.grammar.reads p ≡ r → (old new : List ℕ) (n : ℕ)
        → Rewrites (λ x. canon (frame_with kind ((base s).codec.encoding x))) r old new n
        → Rewrites (λ v. canon (view v).frame) (r >>= λ x. Ok (by.make x)) old new n
    writes_read (Ok x) is old new n w = subst (λ (g : Frame). Writes (canon g) old new n) (sym (frame_is x is)) w
    writes_read (Err c) is old new n w = tt

  weighs_as : (s : S) (kind : ℕ) (read : Frame → Result V Cause) → ReadsAs base view Good s kind read → (f : Frame)
      → IsBytes f.payload
      → (a : Option ℕ) → ShapeWeighs base s f.payload a
      → Weighs (λ v. (view v).frame.payload) (FitsAs base view Good) (read f) a
  weighs_as s kind read by f small a w =
      subst (λ r. Weighs (λ v. (view v).frame.payload) (FitsAs base view Good) r a) (sym (by.reads f))
      (weighs_read s kind f.payload small read by ((base s).codec.grammar.reads f.payload) refl a w)

  room_as : (s : S) (kind : ℕ) (read : Frame → Result V Cause) → ReadsAs base view Good s kind read → (f : Frame)
      → IsBytes f.payload
      → (room : ℕ) → HasRoom (λ v. canon (view v).frame) (FitsAs base view Good) (read f) room
      → ShapeRoom base s kind f.payload room
  room_as s kind read by f small room h =
      room_read s kind f.payload small read by ((base s).codec.grammar.reads f.payload) refl room
      (subst (λ r. HasRoom (λ v. canon (view v).frame) (FitsAs base view Good) r room) (by.reads f) h)

  writes_as : (s : S) (kind : ℕ) (read : Frame → Result V Cause) → ReadsAs base view Good s kind read → (f : Frame)
      → IsBytes f.payload
      → (old new : List ℕ) (n : ℕ) → ShapeWrites base s kind f.payload old new n
      → Rewrites (λ v. canon (view v).frame) (read f) old new n
  writes_as s kind read by f small old new n w =
      subst (λ r. Rewrites (λ v. canon (view v).frame) r old new n) (sym (by.reads f))
      (writes_read s kind f.payload small read by ((base s).codec.grammar.reads f.payload) refl old new n w)

  -- where frames are kept
  pub checks_kept : (n : ℕ) (read : Frame → Result V Cause) → ReadsBy base view Good n Kept read → (f : Frame)
      → Checks (Ok tt) (read f)
  checks_kept n read by f = let k = by f in let is : read f ≡ Ok k.0 = k.1 in subst (λ r. IsOk r) (sym is) refl

  weighs_kept : (n : ℕ) (read : Frame → Result V Cause) → ReadsBy base view Good n Kept read → (f : Frame)
      → length f.payload ≤ most_payload
      → Weighs (λ v. (view v).frame.payload) (FitsAs base view Good) (read f) (Some (length f.payload))
  weighs_kept n read by f small =
      let k = by f in
      subst (λ r. Weighs (λ v. (view v).frame.payload) (FitsAs base view Good) r (Some (length f.payload))) (sym k.1) (
        (subst (λ (g : Frame). length g.payload ≤ most_payload) (sym k.2) small, k.3),
        sym (ap (λ (g : Frame). length g.payload) k.2),
      )

  room_kept : (n : ℕ) (read : Frame → Result V Cause) → ReadsBy base view Good n Kept read → (f : Frame) (room : ℕ)
      → HasRoom (λ v. canon (view v).frame) (FitsAs base view Good) (read f) room → length (canon f) ≤ room
  room_kept n read by f room h =
      let k = by f in
      let there : HasRoom (λ v. canon (view v).frame) (FitsAs base view Good) (Ok k.0) room =
      subst (λ r. HasRoom (λ v. canon (view v).frame) (FitsAs base view Good) r room) k.1 h in
      subst (λ (g : Frame). length (canon g) ≤ room) k.2 there.1

  writes_kept : (n : ℕ) (read : Frame → Result V Cause) → ReadsBy base view Good n Kept read
      → (f : Frame) (old new : List ℕ) (m : ℕ)
      → Writes (canon f) old new m → Rewrites (λ v. canon (view v).frame) (read f) old new m
  writes_kept n read by f old new m w =
      let k = by f in
      subst (λ r. Rewrites (λ v. canon (view v).frame) r old new m) (sym k.1)
      (subst (λ (g : Frame). Writes (canon g) old new m) (sym k.2) w)

  -- ** all lines of a table, by the way of a frame

  abbrev pub WayChecks : Way S → List ℕ → Result Unit DecodeError → Type 0
  WayChecks Kept p answer = answer ≡ Ok tt
  WayChecks (Shape s) p answer = ShapeChecks base s p answer
  WayChecks Own p answer = ⊥

  abbrev pub WayWeighs : Way S → List ℕ → Option ℕ → Type 0
  WayWeighs Kept p answer = answer ≡ Some (length p)
  WayWeighs (Shape s) p answer = ShapeWeighs base s p answer
  WayWeighs Own p answer = ⊥

  abbrev pub WayRoom : Way S → Frame → ℕ → Type 0
  WayRoom Kept f room = length (canon f) ≤ room
  WayRoom (Shape s) f room = ShapeRoom base s (kind_of (base s).flags (number f)) f.payload room
  WayRoom Own f room = Unit {0}

  abbrev pub WayWrites : Way S → Frame → List ℕ → List ℕ → ℕ → Type 0
  WayWrites Kept f old new n = Writes (canon f) old new n
  WayWrites (Shape s) f old new n = ShapeWrites base s (kind_of (base s).flags (number f)) f.payload old new n
  WayWrites Own f old new n = ⊥

  way_checks : (n : ℕ) (w : Way S) (read : Frame → Result V Cause) → ReadsBy base view Good n w read
      → (f : Frame) (answer : Result Unit DecodeError) → WayChecks w f.payload answer → Checks answer (read f)
  way_checks n Kept read by f answer h = subst (λ a. Checks a (read f)) (sym h) (checks_kept n read by f)
  way_checks n (Shape s) read by f answer h = checks_as s (kind_of (base s).flags n) read by f answer h
  way_checks n Own read by f answer h = absurd h

  module _ (f : Frame) (small : IsBytes f.payload) (read : Frame → Result V Cause) where
    way_weighs : (w : Way S) → ReadsBy base view Good (number f) w read → length f.payload ≤ most_payload
        → (a : Option ℕ)
        → WayWeighs w f.payload a → Weighs (λ v. (view v).frame.payload) (FitsAs base view Good) (read f) a
    way_weighs Kept by short a w =
        subst (λ x. Weighs (λ v. (view v).frame.payload) (FitsAs base view Good) (read f) x) (sym w)
        (weighs_kept (number f) read by f short)
    way_weighs (Shape s) by short a w = weighs_as s (kind_of (base s).flags (number f)) read by f small a w
    way_weighs Own by short a w = absurd w

    way_room : (w : Way S) → ReadsBy base view Good (number f) w read → (room : ℕ)
        → HasRoom (λ v. canon (view v).frame) (FitsAs base view Good) (read f) room → WayRoom w f room
    way_room Kept by room h = room_kept (number f) read by f room h
    way_room (Shape s) by room h = room_as s (kind_of (base s).flags (number f)) read by f small room h
    way_room Own by room h = tt

    way_writes : (w : Way S) → ReadsBy base view Good (number f) w read → (old new : List ℕ) (n : ℕ)
        → WayWrites w f old new n → Rewrites (λ v. canon (view v).frame) (read f) old new n
    way_writes Kept by old new n w = writes_kept (number f) read by f old new n w
    way_writes (Shape s) by old new n w = writes_as s (kind_of (base s).flags (number f)) read by f small old new n w
    way_writes Own by old new n w = absurd w

  module _ (other : Frame → V) (same : (f : Frame) → view (other f) ≡ as_it_is f) (es : List {1} (Entry base view Good))
      (f : Frame) where
    by_way : (w : Way S) → way_in base view Good es (number f) (length f.payload) ≡ w
        → ReadsBy base view Good (number f) w
        (reads_in base view Good (number f) (length f.payload) es (λ f. Ok (other f)))
    by_way w is = subst (λ x. ReadsBy base view Good (number f) x (reads_in base view Good (number f) (length f.payload)
        es (λ f. Ok (other f)))) is (line_by base view Good other same (number f) (length f.payload) es)

    pub lined_checks : (w : Way S) → way_in base view Good es (number f) (length f.payload) ≡ w
        → (answer : Result Unit DecodeError) → WayChecks w f.payload answer
        → Checks answer ((lines base view Good es (undecoded other)).reads f)
    lined_checks w is answer h = way_checks (number f) w
        (reads_in base view Good (number f) (length f.payload) es (λ f. Ok (other f))) (by_way w is) f answer h

    pub lined_weighs : (w : Way S) → way_in base view Good es (number f) (length f.payload) ≡ w → IsBytes f.payload
        → length f.payload ≤ most_payload
        → (a : Option ℕ) → WayWeighs w f.payload a
        → Weighs (λ v. (view v).frame.payload) (FitsAs base view Good)
        ((lines base view Good es (undecoded other)).reads f) a
    lined_weighs w is small short a h =
        way_weighs f small (reads_in base view Good (number f) (length f.payload) es (λ f. Ok (other f))) w
        (by_way w is) short a h

    pub lined_room : (w : Way S) → way_in base view Good es (number f) (length f.payload) ≡ w → IsBytes f.payload
        → (room : ℕ)
        → HasRoom (λ v. canon (view v).frame) (FitsAs base view Good)
        ((lines base view Good es (undecoded other)).reads f) room → WayRoom w f room
    lined_room w is small room h =
        way_room f small (reads_in base view Good (number f) (length f.payload) es (λ f. Ok (other f))) w
        (by_way w is) room h

    pub lined_writes : (w : Way S) → way_in base view Good es (number f) (length f.payload) ≡ w → IsBytes f.payload
        → (old new : List ℕ) (n : ℕ) → WayWrites w f old new n
        → Rewrites (λ v. canon (view v).frame) ((lines base view Good es (undecoded other)).reads f) old new n
    lined_writes w is small old new n h =
        way_writes f small (reads_in base view Good (number f) (length f.payload) es (λ f. Ok (other f))) w
        (by_way w is) old new n h
