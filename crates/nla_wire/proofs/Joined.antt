-- Two strings of frames joined, where the first has a length that is a multiple of four.
use Rattle.std.proofs.Common.{◌≡◌, ℕ, ◌%◌, List, [], ◌∷◌, ◌++◌, ◌⊎◌, length, refl, sym, ap, subst, ◌∙◌, inl, inr}
use Rattle.std.proofs.Common.{append_assoc, length-append, arith}
use Rattle.std.specs.List.{AllZip}
use Rattle.nla_wire.specs.Frames.{Frame, unpadded, missing, Begins, Frames}
use Rattle.nla_wire.specs.Reading.Step.{Next}
use Rattle.nla_wire.specs.Grammar.{Grammar, Every, list}
use Rattle.nla_wire.proofs.Steps.{length-begins, step_whole}

next_frame : (f g : Frame) (r s : List ℕ) → Next f r ≡ Next g s → f ≡ g
next_frame f g r s e = cc

next_rest : (f g : Frame) (r s : List ℕ) → Next f r ≡ Next g s → r ≡ s
next_rest f g r s e = cc

-- bytes begin with one frame and one rest
pub begins_once : (b : List ℕ) (f g : Frame) (r s : List ℕ) → Begins b f r → Begins b g s → (f ≡ g) × (r ≡ s)
begins_once b f g r s h k =
    let same : Next f r ≡ Next g s = sym (step_whole b f r h) ∙ step_whole b g s k in
    (next_frame f g r s same, next_rest f g r s same)

-- ** frames

-- the last padding of bytes whose length is a multiple of four is whole
whole_padding : (b : List ℕ) (f : Frame) (rest : List ℕ) (h : Begins b f rest) → length b % 4 ≡ 0
    → (length h.padding ≡ missing (length f.payload)) ⊎ (rest ≡ [])
    → length h.padding ≡ missing (length f.payload)
whole_padding b f rest h whole (inl full) = full
whole_padding b f rest h whole (inr ended) = omega (arith, length-begins b f rest h, ap length ended, h.padded)

pub begins_join : (c d : List ℕ) (f : Frame) (rest : List ℕ) → length c % 4 ≡ 0 → Begins c f rest
    → Begins (c ++ d) f (rest ++ d)
begins_join c d f rest whole h = record {
  kind = h.kind;
  size = h.size;
  padding = h.padding;
  parts = ap (λ (x : List ℕ). x ++ d) h.parts ∙ append_assoc (unpadded f ++ h.padding) rest d;
  padded = h.padded;
  full = inl (whole_padding c f rest h whole h.full);
}

rest_whole : (c : List ℕ) (f : Frame) (rest : List ℕ) → length c % 4 ≡ 0 → Begins c f rest → length rest % 4 ≡ 0
rest_whole c f rest whole h = omega (arith, length-begins c f rest h, whole_padding c f rest h whole h.full)

pub frames_join : (c d : List ℕ) (fs gs : List Frame) → length c % 4 ≡ 0 → Frames c fs → Frames d gs
    → Frames (c ++ d) (fs ++ gs)
frames_join c d [] gs whole h k = subst (λ x. Frames (x ++ d) gs) (sym h) k
frames_join c d (f ∷ fs) gs whole h k =
    (h.0 ++ d, begins_join c d f h.0 whole h.1, frames_join h.0 d fs gs (rest_whole c f h.0 whole h.1) h.2 k)

pub frames_split : (c d : List ℕ) (fs hs : List Frame) → length c % 4 ≡ 0 → Frames c fs → Frames (c ++ d) hs
    → (gs : List Frame) × (hs ≡ fs ++ gs) × Frames d gs
frames_split c d [] hs whole h k = (hs, refl, subst (λ x. Frames (x ++ d) hs) h k)
frames_split c d (f ∷ fs) [] whole h k =
    absurd (omega (arith, ap length k, length-append c d, length-begins c f h.0 h.1))
frames_split c d (f ∷ fs) (g ∷ hs) whole h k =
    let same = begins_once (c ++ d) g f k.0 (h.0 ++ d) k.1 (begins_join c d f h.0 whole h.1) in
    let after = frames_split h.0 d fs hs (rest_whole c f h.0 whole h.1) h.2 (subst (λ x. Frames x hs) same.1 k.2) in
    (after.0, (λ i. same.0 i ∷ after.1 i), after.2)

-- ** lists of values

pub zip_join : {A B : Type 0} (R : A → B → Type 0) (xs us : List A) (ys vs : List B) → AllZip R xs ys → AllZip R us vs
    → AllZip R (xs ++ us) (ys ++ vs)
zip_join R [] us [] vs h k = k
zip_join R [] us (y ∷ ys) vs h k = absurd h
zip_join R (x ∷ xs) us [] vs h k = absurd h
zip_join R (x ∷ xs) us (y ∷ ys) vs h k = (h.0, zip_join R xs us ys vs h.1 k)

zip_split : {A B : Type 0} (R : A → B → Type 0) (xs us : List A) (zs : List B) → AllZip R (xs ++ us) zs
    → (ys : List B) × (vs : List B) × (zs ≡ ys ++ vs) × AllZip R xs ys × AllZip R us vs
zip_split R [] us zs h = ([], zs, refl, tt, h)
zip_split R (x ∷ xs) us [] h = absurd h
zip_split R (x ∷ xs) us (z ∷ zs) h =
    let after = zip_split R xs us zs h.1 in
    (z ∷ after.0, after.1, ap (λ q. z ∷ q) after.2, (h.0, after.3), after.4)

module _ {V : Type 0} (place : Grammar Frame V) where
  pub list_join : (c d : List ℕ) (vs ws : List V) → length c % 4 ≡ 0 → (list place).means c vs → (list place).means d ws
      → (list place).means (c ++ d) (vs ++ ws)
  list_join c d vs ws whole h k =
      (h.0 ++ k.0, frames_join c d h.0 k.0 whole h.1 k.1, zip_join place.means h.0 k.0 vs ws h.2 k.2)

  -- a frame has one value
  module _ (alone : (f : Frame) (v w : V) → place.means f v → place.means f w → v ≡ w) where
    every_alone : (fs : List Frame) (vs ws : List V) → Every place.means fs vs → Every place.means fs ws → vs ≡ ws
    every_alone [] [] [] h k = refl
    every_alone [] [] (w ∷ ws) h k = absurd k
    every_alone [] (v ∷ vs) ws h k = absurd h
    every_alone (f ∷ fs) [] ws h k = absurd h
    every_alone (f ∷ fs) (v ∷ vs) [] h k = absurd k
    every_alone (f ∷ fs) (v ∷ vs) (w ∷ ws) h k =
        let here = alone f v w h.0 k.0 in
        let after = every_alone fs vs ws h.1 k.1 in
        (λ i. here i ∷ after i)

    -- the values of the two parts are those of the whole
    pub list_parts : (c d : List ℕ) (vs us : List V) → length c % 4 ≡ 0 → (list place).means c vs
        → (list place).means (c ++ d) us
        → (ws : List V) × (us ≡ vs ++ ws) × (list place).means d ws
    list_parts c d vs us whole h k =
        let parts = frames_split c d h.0 k.0 whole h.1 k.1 in
        let values = zip_split place.means h.0 parts.0 us (subst (λ x. Every place.means x us) parts.1 k.2) in
        let same = every_alone h.0 vs values.0 h.2 values.3 in
        (values.1, values.2 ∙ ap (λ (x : List V). x ++ values.1) (sym same), (parts.0, parts.2, values.4))
