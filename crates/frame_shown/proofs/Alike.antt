-- What is said of frames is of what they mean: frames of one value by the lines of a place have the same said of them.
-- It is stated over the lines, for anything that is said.
use Rattle.std.proofs.Common.{[], ◌≡◌, ℕ, ◌+◌, ◌≤◌, ◌==◌, ◌&&◌, inl, inr, Bool, true, false, not, List, ◌∷◌, ◌++◌}
use Rattle.std.proofs.Common.{length, map, refl, sym, ap, subst, ◌∙◌, eqb-true, eq-eqb, filter}
use Rattle.std.specs.Prelude.{Option, None, Some, nat_le}
use Rattle.std.specs.List.{AllByRecursion}
use lib.Dec.{T}
use denote.Struct.Field.{Field}
use denote.Enum.Declared.{Record, Choice, left_or, right_or}
use Rattle.nla_wire.specs.Sizes.{plain_growth, growth}
use Rattle.nla_wire.specs.Frames.{Frame, Frames, number, IsBytes, IsFrame}
use Rattle.nla_wire.specs.Grammar.{Grammar, as_a, undecoded, if_true, list, Every, is_one, not_empty}
use Rattle.nla_wire.specs.Grammar.{picked}
use Rattle.nla_wire.specs.Items.{items}
use Rattle.nla_wire.proofs.Back.{frames_framed, all_filtered}
use Rattle.nla_wire.proofs.Codec.{Any, computed_le}
use Rattle.nla_wire.proofs.Items.{items_nil, items_next}
use Rattle.nla_wire.proofs.Lawful.{always}
use Rattle.nla_wire.proofs.Steps.{step_whole}
use Rattle.nla_wire.proofs.Tables.{Seen, as_it_is, Entry, KeepsSize, has_size, both, no_more, all_hold, frame_of}
use Rattle.nla_wire.proofs.Tables.{line_in, lines, lines_lawful}
use Rattle.nla_wire.proofs.Variants.{Held, Lines, Table, entries_in, entries_of, fields, no_shapes, only, only_fields}
use Rattle.nla_wire.proofs.Variants.{place}
use Rattle.nla_wire.proofs.Variants.{seen_in, view_of}
use Rattle.link_info.specs.Tables.{frames_in}

-- what is said of payloads is of what they mean
abbrev pub OfMeaning : {A X : Type 0} → Grammar (List ℕ) A → (List ℕ → X) → Type 0
OfMeaning {A} g said = (p q : List ℕ) (v : A) → IsBytes p → IsBytes q → g.means p v → g.means q v → said p ≡ said q

-- the same of frames
abbrev pub OfFrames : {V X : Type 0} → Grammar Frame V → (Frame → X) → Type 0
OfFrames {V} g said = (f h : Frame) (v : V) → IsFrame f → IsFrame h → g.means f v → g.means h v → said f ≡ said h

-- and of the frames of a number
abbrev pub OfNumber : {V X : Type 0} → ℕ → Grammar Frame V → (Frame → X) → Type 0
OfNumber {V} n g said = (f h : Frame) (v : V) → IsFrame f → IsFrame h → number f ≡ n → number h ≡ n → g.means f v
    → g.means h v → said f ≡ said h

abbrev pub OneToOne : {A B : Type 0} → (A → B) → Type 0
OneToOne {A} into = (a b : A) → into a ≡ into b → a ≡ b

-- ** the lines of a place

module _ {S : Type 0} (base : S → Any) {V : Type 0} (view : V → Seen) (Good : V → Type 0) {X : Type 0}
    (said : Frame → X) where
  abbrev pub EachOf : List {1} (Entry base view Good) → Type 0
  EachOf [] = Unit {0}
  EachOf (e ∷ es) = OfNumber e.number e.reading.reads said × EachOf es

  pub each_joined : (ds es : List {1} (Entry base view Good)) → EachOf ds → EachOf es → EachOf (ds ++ es)
  each_joined [] es h k = k
  each_joined (d ∷ ds) es h k = (h.0, each_joined ds es h.1 k)

  module _ (factor fewer enough : ℕ) (other : Frame → V) (same : (f : Frame) → view (other f) ≡ as_it_is f) where
    kept : (f : Frame) (v : V) → v ≡ other f → frame_of base view Good v ≡ f
    kept f v is = ap (frame_of base view Good) is ∙ ap (λ (s : Seen). s.frame) (same f)

    not_read : (n : ℕ) (e : Entry base view Good) (g : Grammar Frame V) (f : Frame) (v : V) (b c : Bool)
        → (g.means f v → frame_of base view Good v ≡ f)
        → T (not b) → (if_true (b && c) e.reading.reads g).means f v → frame_of base view Good v ≡ f
    not_read n e g f v true c later none means = absurd none
    not_read n e g f v false c later none means = later means

    -- a frame of a number that no line has
    missed : (n size : ℕ) (es : List {1} (Entry base view Good)) (f : Frame) (v : V) → T (no_more base view Good n es)
        → (line_in base view Good n size es (undecoded other)).means f v → frame_of base view Good v ≡ f
    missed n size [] f v none means = kept f v means
    missed n size (e ∷ es) f v none means =
        let parts = both (not (n == e.number)) _ none in
        not_read n e (line_in base view Good n size es (undecoded other)) f v (n == e.number)
        (has_size e.size size) (missed n size es f v parts.1) parts.0 means

    sized : (size : Option ℕ) (g : Grammar Frame V) → KeepsSize base view Good size g → (f : Frame) (v : V)
        → g.means f v → has_size size (length (frame_of base view Good v).payload) ≡ true
    sized None g keeps f v means = refl
    sized (Some size) g keeps f v means = eq-eqb (length (frame_of base view Good v).payload) size (keeps f v means)

    -- a line reads two frames of its number, or neither
    not_one : (e : Entry base view Good) (f h : Frame) (v : V) → e.reading.reads.means f v
        → frame_of base view Good v ≡ h → has_size e.size (length h.payload) ≡ false → ⊥
    not_one e f h v means again is =
        subst T (sym (sized e.size e.reading.reads e.keeps_size f v means)
        ∙ ap (λ (x : Frame). has_size e.size (length x.payload)) again ∙ is) tt

    of_line : (n : ℕ) (e : Entry base view Good) (g k : Grammar Frame V) (f h : Frame) (v : V)
        → (n ≡ e.number → e.reading.reads.means f v → e.reading.reads.means h v → said f ≡ said h)
        → (g.means f v → k.means h v → said f ≡ said h)
        → (n ≡ e.number → g.means f v → frame_of base view Good v ≡ f)
        → (n ≡ e.number → k.means h v → frame_of base view Good v ≡ h)
        → (b c d : Bool) → (n == e.number) ≡ b → has_size e.size (length f.payload) ≡ c
        → has_size e.size (length h.payload) ≡ d → (if_true (b && c) e.reading.reads g).means f v
        → (if_true (b && d) e.reading.reads k).means h v → said f ≡ said h
    of_line n e g k f h v here later first second false c d is sf sh a b = later a b
    of_line n e g k f h v here later first second true true true is sf sh a b = here (eqb-true n e.number is) a b
    of_line n e g k f h v here later first second true false false is sf sh a b = later a b
    of_line n e g k f h v here later first second true true false is sf sh a b =
        absurd (not_one e f h v a (second (eqb-true n e.number is) b) sh)
    of_line n e g k f h v here later first second true false true is sf sh a b =
        absurd (not_one e h f v b (first (eqb-true n e.number is) a) sf)

    of_lines : (n : ℕ) (es : List {1} (Entry base view Good)) → T (all_hold base view Good factor fewer enough es)
        → EachOf es → (f h : Frame) (v : V) → IsFrame f → IsFrame h → number f ≡ n → number h ≡ n
        → (line_in base view Good n (length f.payload) es (undecoded other)).means f v
        → (line_in base view Good n (length h.payload) es (undecoded other)).means h v → said f ≡ said h
    of_lines n [] hold each f h v one two is_f is_h a b = ap said (sym (kept f v a) ∙ kept h v b)
    of_lines n (e ∷ es) hold each f h v one two is_f is_h a b =
        let parts = both (e.reading.holds factor fewer enough) _ hold in
        let apart = both (no_more base view Good e.number es) _ parts.1 in
        of_line n e (line_in base view Good n (length f.payload) es (undecoded other))
        (line_in base view Good n (length h.payload) es (undecoded other)) f h v
        (λ is. each.0 f h v one two (is_f ∙ is) (is_h ∙ is))
        (of_lines n es apart.1 each.1 f h v one two is_f is_h)
        (λ is. missed n (length f.payload) es f v (subst (λ m. T (no_more base view Good m es)) (sym is) apart.0))
        (λ is. missed n (length h.payload) es h v (subst (λ m. T (no_more base view Good m es)) (sym is) apart.0))
        (n == e.number) (has_size e.size (length f.payload)) (has_size e.size (length h.payload)) refl refl refl a b

    pub of_place : plain_growth + fewer ≤ factor → (es : List {1} (Entry base view Good))
        → T (all_hold base view Good factor fewer enough es) → EachOf es
        → OfFrames (lines base view Good es (undecoded other)) said
    of_place wide es hold each f h v one two a b =
        let lawful = lines_lawful base view Good factor fewer enough other same wide es hold in
        let is : number h ≡ number f =
        sym ((lawful (number h)).same_number h v refl b) ∙ (lawful (number f)).same_number f v refl a in
        of_lines (number f) es hold each f h v one two refl is a
        (subst (λ n. (line_in base view Good n (length h.payload) es (undecoded other)).means h v) is b)

-- ** the lines of a table: its variants are one to one

module _ {S : Type 0} (base : S → Any) {V : Type 0} (Good : V → Type 0) {X : Type 0} (said : Frame → X) where
  abbrev pub LinesOf : (view : V → Seen) (Fss : List (List Field)) (into : Choice Fss → V)
      (ls : Lines base Good Fss into) → ((c : Choice Fss) → view (into c) ≡ seen_in base Good Fss into ls c) → Type 0
  LinesOf view [] into ls same = Unit {0}
  LinesOf view (Fs ∷ Fss) into ls same =
      (OneToOne (λ (a : Held Fs). into (inl (fields Fs a)))
      → EachOf base view Good said
      (ls.0.entries view (λ a. same (inl (fields Fs a)) ∙ ap ls.0.seen (only_fields Fs a))))
      × LinesOf view Fss (λ c. into (inr c)) ls.1 (λ c. same (inr c))

  pub each_of : (view : V → Seen) (Fss : List (List Field)) (into : Choice Fss → V) (ls : Lines base Good Fss into)
      (same : (c : Choice Fss) → view (into c) ≡ seen_in base Good Fss into ls c) → OneToOne into
      → LinesOf view Fss into ls same → EachOf base view Good said (entries_in base Good view Fss into ls same)
  each_of view [] into ls same one h = tt
  each_of view (Fs ∷ Fss) into ls same one h =
      each_joined base view Good said
      (ls.0.entries view (λ a. same (inl (fields Fs a)) ∙ ap ls.0.seen (only_fields Fs a)))
      (entries_in base Good view Fss (λ c. into (inr c)) ls.1 (λ c. same (inr c)))
      (h.0 (λ a b e. sym (only_fields Fs a)
      ∙ ap (λ c. only Fs (left_or (fields Fs a) c)) (one (inl (fields Fs a)) (inl (fields Fs b)) e) ∙ only_fields Fs b))
      (each_of view Fss (λ c. into (inr c)) ls.1 (λ c. same (inr c))
      (λ c d e. ap (right_or c) (one (inr c) (inr d) e)) h.1)

pub one_made : (N : Record) → OneToOne N.make
one_made N c d e = sym (N.beta c) ∙ ap N.as_values e ∙ N.beta d

-- what is to be shown of the lines of a table
abbrev pub TableOf : {S : Type 0} (base : S → Any) (N : Record) (Good : N.D → Type 0) (ls : Table base N Good)
    {X : Type 0}
    → (Frame → X) → Type 0
TableOf base N Good ls said = LinesOf base Good said (view_of base N Good ls) N.parts N.make ls
    (λ c. ap (seen_in base Good N.parts N.make ls) (N.beta c))

pub each_of_table : {S : Type 0} (base : S → Any) (N : Record) (Good : N.D → Type 0) (ls : Table base N Good)
    {X : Type 0} (said : Frame → X) → TableOf base N Good ls said
    → EachOf base (view_of base N Good ls) Good said (entries_of base N Good ls)
each_of_table base N Good ls said h = each_of base Good said (view_of base N Good ls) N.parts N.make ls
    (λ c. ap (seen_in base Good N.parts N.make ls) (N.beta c)) (one_made N) h

pub of_table : (N : Record) (factor fewer enough : ℕ) (ls : Table no_shapes N always) (other : Frame → N.D)
    (same : (f : Frame) → view_of no_shapes N always ls (other f) ≡ as_it_is f)
    (spare : T (nat_le (plain_growth + fewer) factor)) (within : T (nat_le factor growth))
    (hold : T (all_hold no_shapes (view_of no_shapes N always ls) always factor fewer enough
    (entries_of no_shapes N always ls)))
    {X : Type 0} (said : Frame → X) → TableOf no_shapes N always ls said
    → OfFrames (place no_shapes N factor fewer enough ls other same spare within hold).grammar said
of_table N factor fewer enough ls other same spare within hold said h =
    of_place no_shapes (view_of no_shapes N always ls) always said factor fewer enough other same (computed_le spare)
    (entries_of no_shapes N always ls) hold (each_of_table no_shapes N always ls said h)

-- ** lists of frames

every_of : {V X : Type 0} (g : Grammar Frame V) (said : Frame → X) → OfFrames g said → (fs hs : List Frame)
    (vs : List V) → AllByRecursion IsFrame fs → AllByRecursion IsFrame hs → Every g.means fs vs → Every g.means hs vs
    → map said fs ≡ map said hs
every_of g said of [] [] [] one two a b = refl
every_of g said of [] (h ∷ hs) [] one two a b = absurd b
every_of g said of (f ∷ fs) hs [] one two a b = absurd a
every_of g said of [] hs (v ∷ vs) one two a b = absurd a
every_of g said of (f ∷ fs) [] (v ∷ vs) one two a b = absurd b
every_of g said of (f ∷ fs) (h ∷ hs) (v ∷ vs) one two a b =
    let here = of f h v one.0 two.0 a.0 b.0 in
    let after = every_of g said of fs hs vs one.1 two.1 a.1 b.1 in
    λ i. here i ∷ after i

pub frames_are : (p : List ℕ) (fs : List Frame) → Frames p fs → frames_in (items p) ≡ fs
frames_are p [] frames = ap (λ b. frames_in (items b)) frames ∙ ap frames_in items_nil
frames_are p (f ∷ fs) frames =
    ap frames_in (items_next p f frames.0 (step_whole p f frames.0 frames.1))
    ∙ ap (λ (gs : List Frame). f ∷ gs) (frames_are frames.0 fs frames.2)

module _ {V X : Type 0} (g : Grammar Frame V) (said : Frame → X) (of : OfFrames g said) where
  pub of_list : OfMeaning (list g) (λ p. map said (frames_in (items p)))
  of_list p q vs small_p small_q a b =
      ap (map said) (frames_are p a.0 a.1)
      ∙ every_of g said of a.0 b.0 vs (frames_framed p a.0 small_p a.1) (frames_framed q b.0 small_q b.1) a.2 b.2
      ∙ sym (ap (map said) (frames_are q b.0 b.1))

  pub of_some : OfMeaning (not_empty (list g)) (λ p. map said (frames_in (items p)))
  of_some p q vs small_p small_q a b = of_list p q vs small_p small_q a.1 b.1

  pub of_picked : OfMeaning (picked g) (λ p. map said (filter is_one (frames_in (items p))))
  of_picked p q vs small_p small_q a b =
      ap (λ fs. map said (filter is_one fs)) (frames_are p a.0 a.1)
      ∙ every_of g said of (filter is_one a.0) (filter is_one b.0) vs
      (all_filtered IsFrame is_one a.0 (frames_framed p a.0 small_p a.1))
      (all_filtered IsFrame is_one b.0 (frames_framed q b.0 small_q b.1)) a.2 b.2
      ∙ sym (ap (λ fs. map said (filter is_one fs)) (frames_are q b.0 b.1))

-- ** payloads

-- by way of a value that can be taken back
pub through : {A B X : Type 0} (g : Grammar (List ℕ) A) (said : List ℕ → X) (of : A → B) (back : B → A)
    → ((p : List ℕ) (a : A) → IsBytes p → g.means p a → back (of a) ≡ a) → OfMeaning g said
    → OfMeaning (as_a of g) said
through {A} {B} {X} g said of back again h p q v small_p small_q a b =
    let is : b.0 ≡ a.0 =
    sym (again q b.0 small_q b.1) ∙ ap back (sym b.2 ∙ a.2) ∙ again p a.0 small_p a.1 in
    h p q a.0 small_p small_q a.1 (subst (λ (x : A). g.means q x) is b.1)

pub unless_empty : {A X : Type 0} (g : Grammar (List ℕ) A) (said : List ℕ → X) → OfMeaning g said
    → OfMeaning (not_empty g) said
unless_empty g said h p q v small_p small_q a b = h p q v small_p small_q a.1 b.1
