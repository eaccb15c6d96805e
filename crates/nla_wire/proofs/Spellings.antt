-- The frames of bytes by recursion agree with the format's own words, a concatenation of spellings, both ways.
use Rattle.std.proofs.Common.{◌≡◌, ℕ, ◌<◌, List, [], ◌∷◌, ◌++◌, ◌⊎◌, length, refl, sym, ap, subst, ◌∙◌, inl, inr}
use Rattle.std.proofs.Common.{append_assoc, arith}
use Rattle.std.specs.List.{flat_map}
use Rattle.nla_wire.specs.Frames.{Frame, unpadded, missing, Begins, Frames, BadStart, Fault}
use Rattle.nla_wire.specs.Spellings.{IsSpelling, IsFullSpelling, AreSpellings, IsConcatenation, AreFullSpellings}
use Rattle.nla_wire.specs.Spellings.{IsFaultAfter}
use Rattle.nla_wire.specs.declared.error.Cause.{Cause}
use Rattle.nla_wire.specs.declared.error.Cause.TheVariants.{TooShort, FrameShort, FrameOver, FrameUnder, EmptyList}
use Rattle.nla_wire.specs.declared.error.Cause.TheVariants.{WrongLength, NotUtf8, InvalidState, OutOfMemory}
use Rattle.nla_wire.proofs.Steps.{length-begins}

-- ** one spelling

spelled : (b : List ℕ) (f : Frame) (rest : List ℕ) (h : Begins b f rest) → IsSpelling (unpadded f ++ h.padding) f
spelled b f rest h = record { kind = h.kind; size = h.size; padding = h.padding; is = refl; padded = h.padded }

-- what is followed by bytes has all of its padding
fully_spelled : (b : List ℕ) (f : Frame) (rest : List ℕ) (h : Begins b f rest) → 0 < length rest
    → IsFullSpelling (unpadded f ++ h.padding) f
unfolding spelled
fully_spelled b f rest h some = record { spelling = spelled b f rest h; full = all h.full }
  where
    all : (length h.padding ≡ missing (length f.payload)) ⊎ (rest ≡ []) → length h.padding ≡ missing (length f.payload)
    all (inl full) = full
    all (inr ended) = absurd (omega (arith, ap length ended))

begins_fully : (s : List ℕ) (f : Frame) (b rest : List ℕ) → IsFullSpelling s f → b ≡ s ++ rest → Begins b f rest
begins_fully s f b rest h e = record {
  kind = h.spelling.kind;
  size = h.spelling.size;
  padding = h.spelling.padding;
  parts = e ∙ ap (λ (x : List ℕ). x ++ rest) h.spelling.is;
  padded = h.spelling.padded;
  full = inl h.full;
}

-- ** frames to the end

spell_more : (b : List ℕ) (f : Frame) (rest : List ℕ) (h : Begins b f rest) → 0 < length rest
    → (g : Frame) (fs : List Frame) (ss : List (List ℕ))
    → rest ≡ flat_map (λ s. s) ss → AreSpellings ss (g ∷ fs) → IsConcatenation b (f ∷ g ∷ fs)
spell_more b f rest h some g fs [] e spell = absurd spell
spell_more b f rest h some g fs (t ∷ ss) e spell = (
  (unpadded f ++ h.padding) ∷ t ∷ ss,
  h.parts ∙ ap (λ (r : List ℕ). (unpadded f ++ h.padding) ++ r) e,
  (fully_spelled b f rest h some, spell),
)

pub frames_concatenation : (b : List ℕ) (fs : List Frame) → Frames b fs → IsConcatenation b fs
frames_concatenation b [] h = ([], h, tt)
frames_concatenation b (f ∷ []) h = (
  (unpadded f ++ h.1.padding) ∷ [],
  h.1.parts ∙ ap (λ (r : List ℕ). (unpadded f ++ h.1.padding) ++ r) h.2,
  spelled b f h.0 h.1,
)
frames_concatenation b (f ∷ g ∷ fs) h =
    let after = frames_concatenation h.0 (g ∷ fs) h.2 in
    spell_more b f h.0 h.1 (omega (arith, length-begins h.0 g h.2.0 h.2.1)) g fs after.0 after.1 after.2

concatenated : (ss : List (List ℕ)) (fs : List Frame) (b : List ℕ) → b ≡ flat_map (λ s. s) ss → AreSpellings ss fs
    → Frames b fs
concatenated [] [] b e h = e
concatenated [] (f ∷ fs) b e h = absurd h
concatenated (s ∷ ss) [] b e h = absurd h
concatenated (s ∷ []) (f ∷ []) b e h = (
  [],
  record {
    kind = h.kind;
    size = h.size;
    padding = h.padding;
    parts = e ∙ ap (λ (x : List ℕ). x ++ []) h.is;
    padded = h.padded;
    full = inr refl;
  },
  refl,
)
concatenated (s ∷ []) (f ∷ g ∷ fs) b e h = absurd h
concatenated (s ∷ t ∷ ss) (f ∷ []) b e h = absurd h
concatenated (s ∷ t ∷ ss) (f ∷ g ∷ fs) b e h = (
  flat_map (λ s. s) (t ∷ ss),
  begins_fully s f b (flat_map (λ s. s) (t ∷ ss)) h.0 e,
  concatenated (t ∷ ss) (g ∷ fs) (flat_map (λ s. s) (t ∷ ss)) refl h.1,
)

pub concatenation_frames : (b : List ℕ) (fs : List Frame) → IsConcatenation b fs → Frames b fs
concatenation_frames b fs h = concatenated h.0 fs b h.1 h.2

-- ** frames and a fault after them

-- what begins with no frame isn't empty
pub bad_start_some : (b : List ℕ) (c : Cause) → BadStart b c → 0 < length b
bad_start_some b (FrameShort left) h = h.0
bad_start_some b (FrameOver len left) h = omega (arith, h.0)
bad_start_some b (FrameUnder len) h = omega (arith, h.0)
bad_start_some b (TooShort got need) h = absurd h
bad_start_some b EmptyList h = absurd h
bad_start_some b (WrongLength got want) h = absurd h
bad_start_some b NotUtf8 h = absurd h
bad_start_some b InvalidState h = absurd h
bad_start_some b OutOfMemory h = absurd h

-- nor is what has a fault anywhere
pub fault_some : (b : List ℕ) (fs : List Frame) (c : Cause) → Fault b fs c → 0 < length b
fault_some b [] c h = bad_start_some b c h
fault_some b (f ∷ fs) c h = omega (arith, length-begins b f h.0 h.1)

pub fault_after : (b : List ℕ) (fs : List Frame) (c : Cause) → Fault b fs c → IsFaultAfter b fs c
fault_after b [] c h = ([], b, refl, tt, h)
fault_after b (f ∷ fs) c h =
    let after = fault_after h.0 fs c h.2 in
    let s : List ℕ = unpadded f ++ h.1.padding in (
      s ∷ after.0,
      after.1,
      h.1.parts ∙ ap (λ (r : List ℕ). s ++ r) after.2 ∙ sym (append_assoc s (flat_map (λ s. s) after.0) after.1),
      (fully_spelled b f h.0 h.1 (fault_some h.0 fs c h.2), after.3),
      after.4,
    )

after_fault_at : (ss : List (List ℕ)) (fs : List Frame) (b rest : List ℕ) (c : Cause)
    → b ≡ flat_map (λ s. s) ss ++ rest → AreFullSpellings ss fs → BadStart rest c → Fault b fs c
after_fault_at [] [] b rest c e h bad = subst (λ x. BadStart x c) (sym e) bad
after_fault_at [] (f ∷ fs) b rest c e h bad = absurd h
after_fault_at (s ∷ ss) [] b rest c e h bad = absurd h
after_fault_at (s ∷ ss) (f ∷ fs) b rest c e h bad =
    let after : List ℕ = flat_map (λ s. s) ss ++ rest in (
      after,
      begins_fully s f b after h.0 (e ∙ append_assoc s (flat_map (λ s. s) ss) rest),
      after_fault_at ss fs after rest c refl h.1 bad,
    )

pub after_fault : (b : List ℕ) (fs : List Frame) (c : Cause) → IsFaultAfter b fs c → Fault b fs c
after_fault b fs c h = after_fault_at h.0 fs b h.1 c h.2 h.3 h.4
