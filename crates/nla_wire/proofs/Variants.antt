-- A table: one line for each variant of an enum, in the order in which they are declared. Grammar, frame, what fits,
-- count and bounds of the place follow from its lines.
use Rattle.std.proofs.Common.{◌≡◌, ℕ, ◌+◌, ◌≤◌, ◌&&◌, inl, inr, Bool, true, false, List, [], ◌∷◌, ◌++◌, length, refl}
use Rattle.std.proofs.Common.{ap, ◌∙◌}
use Rattle.std.specs.Prelude.{Option, None, Some, nat_le}
use lib.Dec.{T}
use denote.Struct.Field.{Field}
use denote.Struct.Values.{Values}
use denote.Enum.Declared.{Record, Choice}
use Rattle.nla_wire.specs.Sizes.{most_payload, plain_growth, growth}
use Rattle.nla_wire.specs.Frames.{Frame, number}
use Rattle.nla_wire.specs.Grammar.{undecoded}
use Rattle.nla_wire.proofs.Lawful.{always}
use Rattle.nla_wire.proofs.Codec.{Codec, CodecWhere, Any, Place, kind_of, computed_le}
use Rattle.nla_wire.proofs.Tables.{Seen, held, as_it_is, Shaped, Reading, KeepsSize, Entry, both, IsForeign, shaping}
use Rattle.nla_wire.proofs.Tables.{having, frame_of, FitsAs, count_of, lines, all_hold, lined_lawful, foreign_kept}

-- what a variant holds: its only field, or a tuple
abbrev pub Held : List Field → Type 0
Held [] = Unit {0}
Held (F ∷ []) = F.Value
Held (F ∷ G ∷ Fs) = Values (F ∷ G ∷ Fs)

abbrev pub fields : (Fs : List Field) → Held Fs → Values Fs
fields [] a = tt
fields (F ∷ []) a = (a, tt)
fields (F ∷ G ∷ Fs) a = a

abbrev pub only : (Fs : List Field) → Values Fs → Held Fs
only [] a = tt
only (F ∷ []) a = a.0
only (F ∷ G ∷ Fs) a = a

pub only_fields : (Fs : List Field) (a : Held Fs) → only Fs (fields Fs a) ≡ a
only_fields [] a = refl
only_fields (F ∷ []) a = refl
only_fields (F ∷ G ∷ Fs) a = refl

infixr 5 ◌&◌
abbrev pub ◌&◌ : {A B : Type 1} → A → B → A × B
x & y = (x, y)

module _ {S : Type 0} (base : S → Any) {V : Type 0} (Good : V → Type 0) where
  -- of one variant: what its values are written as, and the entries that read it
  pub record Line (A : Type 0) (into : A → V) : Type 1 where
    pub seen : A → Seen
    pub sure : Option ((a : A) → (seen a).Inside)
    pub entries : (view : V → Seen) → ((a : A) → view (into a) ≡ seen a) → List {1} (Entry base view Good)

  abbrev pub Lines : (Fss : List (List Field)) → (Choice Fss → V) → Type 1
  Lines [] into = Unit {1}
  Lines (Fs ∷ Fss) into = Line (Held Fs) (λ a. into (inl (fields Fs a))) × Lines Fss (λ c. into (inr c))

  abbrev pub seen_in : (Fss : List (List Field)) (into : Choice Fss → V) → Lines Fss into → Choice Fss → Seen
  seen_in [] into ls c = absurd c
  seen_in (Fs ∷ Fss) into ls (inl xs) = ls.0.seen (only Fs xs)
  seen_in (Fs ∷ Fss) into ls (inr c) = seen_in Fss (λ d. into (inr d)) ls.1 c

  abbrev pub entries_in : (view : V → Seen) (Fss : List (List Field)) (into : Choice Fss → V) (ls : Lines Fss into)
      → ((c : Choice Fss) → view (into c) ≡ seen_in Fss into ls c) → List {1} (Entry base view Good)
  entries_in view [] into ls same = []
  entries_in view (Fs ∷ Fss) into ls same =
      ls.0.entries view (λ a. same (inl (fields Fs a)) ∙ ap ls.0.seen (only_fields Fs a))
      ++ entries_in view Fss (λ c. into (inr c)) ls.1 (λ c. same (inr c))

  abbrev pub is_sure : {X : Type 0} → Option X → Bool
  is_sure None = false
  is_sure (Some x) = true

  -- nothing is inside of any variant that might not fit
  abbrev pub all_flat : (Fss : List (List Field)) (into : Choice Fss → V) → Lines Fss into → Bool
  all_flat [] into ls = true
  all_flat (Fs ∷ Fss) into ls = is_sure ls.0.sure && all_flat Fss (λ c. into (inr c)) ls.1

  surely : {A : Type 0} {P : A → Type 0} (s : Option ((a : A) → P a)) → T (is_sure s) → (a : A) → P a
  surely None h a = absurd h
  surely (Some f) h a = f a

  inside_all : (Fss : List (List Field)) (into : Choice Fss → V) (ls : Lines Fss into) → T (all_flat Fss into ls)
      → (c : Choice Fss) → (seen_in Fss into ls c).Inside
  inside_all [] into ls h c = absurd c
  inside_all (Fs ∷ Fss) into ls h (inl xs) = surely ls.0.sure (both (is_sure ls.0.sure) _ h).0 (only Fs xs)
  inside_all (Fs ∷ Fss) into ls h (inr c) = inside_all Fss (λ d. into (inr d)) ls.1 (both (is_sure ls.0.sure) _ h).1 c

-- ** lines

module _ {S : Type 0} {base : S → Any} {V : Type 0} {Good : V → Type 0} where
  abbrev one_entry : (view : V → Seen) (number : ℕ) (size : Option ℕ) (reading : Reading base view Good number)
      → KeepsSize base view Good size reading.reads → List {1} (Entry base view Good)
  one_entry view number size reading keeps =
      record { number = number; size = size; reading = reading; keeps_size = keeps } ∷ []

  abbrev own : {A : Type 0} (number kind : ℕ) (c : Codec A) (variant : A → V) → Line base Good A variant
  own number kind c variant = record {
    seen = held kind c;
    sure = c.sure;
    entries = λ view same.
        one_entry view number None (having base view Good number kind c variant same (λ a good. tt)) tt;
  }

  -- this number, whose payload is this, as this variant
  abbrev pub line : {A : Type 0} (number : ℕ) (c : Codec A) (variant : A → V) → Line base Good A variant
  line number c variant = own number number c variant

  -- this number by the shape of its payload, as this variant, of which only values with `good` are read back
  abbrev pub line_where : {A : Type 0} {GoodA : A → Type 0} (number : ℕ) (s : Shaped base A GoodA) (variant : A → V)
      → ((a : A) → Good (variant a) → GoodA a) → Line base Good A variant
  line_where number s variant good = record {
    seen = held (kind_of (base s.shape).flags number) s.codec;
    sure = s.codec.sure;
    entries = λ view same. one_entry view number None (shaping base view Good number s variant same good) tt;
  }

  -- the same where all values are
  abbrev pub line_by : {A : Type 0} (number : ℕ) (s : Shaped base A always) (variant : A → V) → Line base Good A variant
  line_by number s variant = line_where number s variant (λ a good. tt)

  -- this number where the payload has so many bytes: at any other size it is kept
  abbrev pub line_of_size : {A : Type 0} (number size : ℕ) (s : Shaped base A always) (variant : A → V)
      → ((a : A) → length (s.codec.encoding a) ≡ size) → Line base Good A variant
  line_of_size number size s variant sized = record {
    seen = held (kind_of (base s.shape).flags number) s.codec;
    sure = s.codec.sure;
    entries = λ view same.
        one_entry view number (Some size) (shaping base view Good number s variant same (λ a good. tt))
        (λ f v means. ap (λ w. length (view w).frame.payload) means.2
        ∙ ap (λ (w : Seen). length w.frame.payload) (same means.0) ∙ sized means.0);
  }

  -- written so, and read by an entry elsewhere
  abbrev pub written : {A : Type 0} {GoodA : A → Type 0} (kind : ℕ) (c : CodecWhere A GoodA) (variant : A → V)
      → Line base Good A variant
  written kind c variant = record { seen = held kind c; sure = c.sure; entries = λ view same. [] }

  -- written so, and never read
  abbrev pub emits : {A : Type 0} (kind : ℕ) (encoding : A → List ℕ) (variant : A → V) → Line base Good A variant
  emits kind encoding variant = record {
    seen = λ a. record { frame = record { kind = kind; payload = encoding a }; Inside = Unit {0}; count = 1 };
    sure = Some (λ a. tt);
    entries = λ view same. [];
  }

  -- frames that no line reads are kept as they are, as this variant
  abbrev pub keeps : (variant : Frame → V) → Line base Good Frame variant
  keeps variant = record { seen = as_it_is; sure = Some (λ f. tt); entries = λ view same. [] }

-- ** the table

abbrev pub Table : {S : Type 0} (base : S → Any) (N : Record) → (N.D → Type 0) → Type 1
Table base N Good = Lines base Good N.parts N.make

module _ {S : Type 0} (base : S → Any) (N : Record) (Good : N.D → Type 0) (ls : Table base N Good) where
  abbrev pub view_of : N.D → Seen
  view_of v = seen_in base Good N.parts N.make ls (N.as_values v)

  abbrev pub entries_of : List {1} (Entry base view_of Good)
  entries_of = entries_in base Good view_of N.parts N.make ls (λ c. ap (seen_in base Good N.parts N.make ls) (N.beta c))

-- where nothing is inside, what is small fits
pub when_small : {S : Type 0} (base : S → Any) (N : Record) (ls : Table base N always)
    → T (all_flat base always N.parts N.make ls)
    → (v : N.D) → length (view_of base N always ls v).frame.payload ≤ most_payload
    → FitsAs base (view_of base N always ls) always v
when_small base N ls h v small = (small, inside_all base always N.parts N.make ls h (N.as_values v))

-- the place with these lines, which keeps what no line accepts
abbrev pub place : {S : Type 0} (base : S → Any) (N : Record) (factor fewer enough : ℕ) (ls : Table base N always)
    (other : Frame → N.D)
    → ((f : Frame) → view_of base N always ls (other f) ≡ as_it_is f)
    → T (nat_le (plain_growth + fewer) factor)
    → T (nat_le factor growth)
    → T (all_hold base (view_of base N always ls) always factor fewer enough (entries_of base N always ls))
    → Place N.D
place base N factor fewer enough ls other same spare within h = record {
  grammar = lines base (view_of base N always ls) always (entries_of base N always ls) (undecoded other);
  frame = frame_of base (view_of base N always ls) always;
  Fits = FitsAs base (view_of base N always ls) always;
  count = count_of base (view_of base N always ls) always;
  factor = factor;
  fewer = fewer;
  spare = computed_le spare;
  within = computed_le within;
  enough = enough;
  is_small = λ v fits. fits.0;
  is_flat = all_flat base always N.parts N.make ls;
  when_small = when_small base N ls;
  Foreign = IsForeign base (view_of base N always ls) always (entries_of base N always ls);
  kept = foreign_kept base (view_of base N always ls) always other same (entries_of base N always ls);
  lawful = lined_lawful base (view_of base N always ls) always factor fewer enough other same
      (computed_le spare) (entries_of base N always ls) h;
}

-- no line goes by a shape: the enums of most places are read variant by variant
abbrev pub no_shapes : ⊥ → Any
no_shapes s = absurd s
