-- The lines of a place as a list, each with its test of a frame. From it follow how frames are read, that a value which
-- was read is read back, its bounds, and that frames which no line accepts are kept as they are.
use Rattle.std.proofs.Common.{◌≡◌, ◌≢◌, ℕ, ◌+◌, ◌%◌, ◌^◌, ◌≤◌, ◌==◌, ◌&&◌, Bool, true, false, not, List, [], ◌∷◌}
use Rattle.std.proofs.Common.{length, refl, sym, ap, subst, ◌∙◌, eqb-true, eq-eqb, ne_eqb, ltb-true}
use Rattle.std.specs.Prelude.{Option, None, Some, Result, Ok, Err, if◌then◌else◌, nat_le, nat_lt}
use lib.Dec.{T}
use Rattle.nla_wire.specs.Sizes.{plain_growth}
use Rattle.nla_wire.specs.Frames.{Frame, number, IsBytes, IsFrame}
use Rattle.nla_wire.specs.Reading.{◌>>=◌}
use Rattle.nla_wire.specs.Grammar.{Grammar, Agrees, as_a, by_payload, undecoded, if_true}
use Rattle.nla_wire.specs.Canon.{IsSmall}
use Rattle.nla_wire.specs.declared.error.Cause.{Cause}
use Rattle.nla_wire.proofs.Agreement.{if_agrees, if_reads}
use Rattle.nla_wire.proofs.Lawful.{LawfulPlace, LawfulReading, always, wider, wrapped_lawful, numbered, kept_lawful}
use Rattle.nla_wire.proofs.Lawful.{place_lawful}
use Rattle.nla_wire.proofs.Codec.{CodecWhere, Any, kind_of, truth, computed_le}

-- what is said of one value
pub record Seen : Type 1 where
  pub frame : Frame
  pub Inside : Type 0
  pub count : ℕ

-- a value that is written with this kind by this codec
abbrev pub held : {A : Type 0} {Good : A → Type 0} → ℕ → CodecWhere A Good → A → Seen
held kind c a =
    record { frame = record { kind = kind; payload = c.encoding a }; Inside = c.Inside a; count = 1 + c.count a }

-- a frame that is kept
abbrev pub as_it_is : Frame → Seen
as_it_is f = record { frame = f; Inside = Unit {0}; count = 1 }

-- how code decides what it does with an attribute: it keeps it, goes by its shape, or has a line of its own for it
pub data Way (S : Type 0) : Type 0 where
  Kept : Way S
  Shape : S → Way S
  Own : Way S

-- ** a payload by its shape: the value that stands for it

pub record Shaped {S : Type 0} (base : S → Any) (A : Type 0) (Good : A → Type 0) : Type 1 where
  pub shape : S
  pub codec : CodecWhere A Good
  pub wrap : (base shape).A → A
  pub reads : (p : List ℕ) → codec.grammar.reads p ≡ ((base shape).codec.grammar.reads p >>= λ x. Ok (wrap x))
  pub encoding_is : (p : List ℕ) (x : (base shape).A) → IsBytes p → (base shape).codec.grammar.means p x
      → codec.encoding (wrap x) ≡ (base shape).codec.encoding x
  pub inside : (p : List ℕ) (x : (base shape).A) → IsBytes p → (base shape).codec.grammar.means p x
      → codec.Inside (wrap x) → (base shape).codec.Inside x
  pub outside : (p : List ℕ) (x : (base shape).A) → IsBytes p → (base shape).codec.grammar.means p x
      → (base shape).codec.Inside x → codec.Inside (wrap x)

pub same_answer : {A : Type 0} (r : Result A Cause) → r ≡ (r >>= λ x. Ok x)
same_answer (Ok x) = refl
same_answer (Err c) = refl

pub two_steps : {A B C : Type 0} (r : Result A Cause) (wrap : A → B) (variant : B → C)
    → ((r >>= λ x. Ok (wrap x)) >>= λ b. Ok (variant b)) ≡ (r >>= λ x. Ok (variant (wrap x)))
two_steps (Ok x) wrap variant = refl
two_steps (Err c) wrap variant = refl

-- the value of the shape itself
abbrev pub plain : {S : Type 0} (base : S → Any) (s : S) → Shaped base (base s).A (base s).Good
plain base s = record {
  shape = s;
  codec = (base s).codec;
  wrap = λ x. x;
  reads = λ p. same_answer ((base s).codec.grammar.reads p);
  encoding_is = λ p x small means. refl;
  inside = λ p x small means fits. fits;
  outside = λ p x small means fits. fits;
}

-- a value that stands for that of the shape, with nothing inside
abbrev pub standing : {S : Type 0} (base : S → Any) (s : S) {A : Type 0} (of : (base s).A → A) (c : CodecWhere A always)
    → ((p : List ℕ) → c.grammar.reads p ≡ ((base s).codec.grammar.reads p >>= λ x. Ok (of x)))
    → ((p : List ℕ) (x : (base s).A) → IsBytes p → (base s).codec.grammar.means p x
    → c.encoding (of x) ≡ (base s).codec.encoding x)
    → ((x : (base s).A) → (base s).codec.Inside x)
    → ((a : A) → c.Inside a)
    → Shaped base A always
standing base s of c reads same whole all = record {
  shape = s;
  codec = c;
  wrap = of;
  reads = reads;
  encoding_is = same;
  inside = λ p x small means fits. whole x;
  outside = λ p x small means fits. all (of x);
}

-- ** lines

-- a test of the size of a payload
abbrev pub has_size : Option ℕ → ℕ → Bool
has_size None size = true
has_size (Some s) size = size == s

-- whether a line's bounds, and its kind, are such as its codec's are
abbrev pub kind_holds : {A : Type 0} {Good : A → Type 0} (number kind : ℕ) (c : CodecWhere A Good)
    (factor fewer enough : ℕ) → Bool
kind_holds number kind c factor fewer enough =
    (kind % 2 ^ 14 == number) && (nat_lt kind (2 ^ 16)
    && (nat_le c.factor factor && (nat_le (fewer + c.factor) (c.fewer + factor) && nat_le enough c.enough)))

pub both : (a b : Bool) → T (a && b) → T a × T b
both true true h = (tt, tt)
both true false h = absurd h
both false b h = absurd h

module _ {S : Type 0} (base : S → Any) {V : Type 0} (view : V → Seen) (Good : V → Type 0) where
  abbrev pub frame_of : V → Frame
  frame_of v = (view v).frame

  abbrev pub FitsAs : V → Type 0
  FitsAs v = IsSmall (view v).frame × (view v).Inside

  abbrev pub count_of : V → ℕ
  count_of v = (view v).count

  abbrev pub Lawful : ℕ → ℕ → ℕ → ℕ → Grammar Frame V → Type 0
  Lawful factor fewer enough number g = LawfulReading frame_of FitsAs Good count_of factor fewer enough number g

  -- frames are read by the shape of their payload
  pub record ReadsAs (s : S) (kind : ℕ) (read : Frame → Result V Cause) : Type 0 where
    pub make : (base s).A → V
    pub reads : (f : Frame) → read f ≡ ((base s).codec.grammar.reads f.payload >>= λ x. Ok (make x))
    pub frame_is : (p : List ℕ) (x : (base s).A) → IsBytes p → (base s).codec.grammar.means p x
        → (view (make x)).frame ≡ record { kind = kind; payload = (base s).codec.encoding x }
    pub inside : (p : List ℕ) (x : (base s).A) → IsBytes p → (base s).codec.grammar.means p x → (view (make x)).Inside
        → (base s).codec.Inside x
    pub outside : (p : List ℕ) (x : (base s).A) → IsBytes p → (base s).codec.grammar.means p x → (base s).codec.Inside x
        → (view (make x)).Inside

  abbrev pub ReadsBy : ℕ → Way S → (Frame → Result V Cause) → Type 0
  ReadsBy n Kept read = (f : Frame) → (v : V) × (read f ≡ Ok v) × ((view v).frame ≡ f) × (view v).Inside
  ReadsBy n (Shape s) read = ReadsAs s (kind_of (base s).flags n) read
  ReadsBy n Own read = Unit {0}

  -- how frames of one number are read
  pub record Reading (number : ℕ) : Type 1 where
    pub way : Way S
    pub reads : Grammar Frame V
    pub by : ReadsBy number way reads.reads
    -- a test that computes, of the bounds and of the kind
    pub holds : ℕ → ℕ → ℕ → Bool
    pub lawful : (factor fewer enough : ℕ) → T (holds factor fewer enough) → Lawful factor fewer enough number reads

  abbrev pub KeepsSize : Option ℕ → Grammar Frame V → Type 0
  KeepsSize None g = Unit {0}
  KeepsSize (Some size) g = (f : Frame) (v : V) → g.means f v → length (frame_of v).payload ≡ size

  pub record Entry : Type 1 where
    pub number : ℕ
    -- of payloads of any size where there is none
    pub size : Option ℕ
    pub reading : Reading number
    pub keeps_size : KeepsSize size reading.reads

  -- the line's test of a frame, by its number and the size of its payload
  abbrev pub accepts : Entry → ℕ → ℕ → Bool
  accepts e n size = (n == e.number) && has_size e.size size

  abbrev pub line_in : ℕ → ℕ → List {1} Entry → Grammar Frame V → Grammar Frame V
  line_in n size [] rest = rest
  line_in n size (e ∷ es) rest = if_true (accepts e n size) e.reading.reads (line_in n size es rest)

  abbrev pub reads_in : ℕ → ℕ → List {1} Entry → (Frame → Result V Cause) → Frame → Result V Cause
  reads_in n size [] rest f = rest f
  reads_in n size (e ∷ es) rest f = if accepts e n size then e.reading.reads.reads f else reads_in n size es rest f

  -- the place with these lines, and `rest` for the other frames
  abbrev pub lines : List {1} Entry → Grammar Frame V → Grammar Frame V
  lines es rest = record {
    means = λ f. (line_in (number f) (length f.payload) es rest).means f;
    bad = λ f. (line_in (number f) (length f.payload) es rest).bad f;
    reads = λ f. reads_in (number f) (length f.payload) es rest.reads f;
  }

  -- no line accepts the frame
  abbrev pub IsForeign : List {1} Entry → Frame → Type 0
  IsForeign [] f = Unit {0}
  IsForeign (e ∷ es) f = (accepts e (number f) (length f.payload) ≡ false) × IsForeign es f

  -- the number is no line's
  abbrev pub IsOther : List {1} Entry → ℕ → Type 0
  IsOther [] n = Unit {0}
  IsOther (e ∷ es) n = (n ≢ e.number) × IsOther es n

  -- what code does with such frames
  abbrev pub way_in : List {1} Entry → ℕ → ℕ → Way S
  way_in [] n size = Kept
  way_in (e ∷ es) n size = if accepts e n size then e.reading.way else way_in es n size

  abbrev pub no_more : ℕ → List {1} Entry → Bool
  no_more n [] = true
  no_more n (e ∷ es) = not (n == e.number) && no_more n es

  -- each line is lawful, and no two have one number
  abbrev pub all_hold : ℕ → ℕ → ℕ → List {1} Entry → Bool
  all_hold factor fewer enough [] = true
  all_hold factor fewer enough (e ∷ es) =
      e.reading.holds factor fewer enough && (no_more e.number es && all_hold factor fewer enough es)

  -- ** readings

  -- from one equation on the frame
  pub held_lawful : {A : Type 0} {GoodA : A → Type 0} (number kind : ℕ) (c : CodecWhere A GoodA) (variant : A → V)
      → ((a : A) → view (variant a) ≡ held kind c a)
      → ((a : A) → Good (variant a) → GoodA a)
      → (factor fewer enough : ℕ) → T (kind_holds number kind c factor fewer enough)
      → Lawful factor fewer enough number (by_payload (as_a variant c.grammar))
  held_lawful {A} {GoodA} n kind c variant same good factor fewer enough h =
      let first = both (kind % 2 ^ 14 == n) _ h in
      let second = both (nat_lt kind (2 ^ 16)) _ first.1 in
      let third = both (nat_le c.factor factor) _ second.1 in
      let fourth = both (nat_le (fewer + c.factor) (c.fewer + factor)) _ third.1 in
      let number_is : kind % 2 ^ 14 ≡ n = eqb-true (kind % 2 ^ 14) n (truth _ first.0) in
      let inner = wider c.grammar c.encoding c.Inside GoodA c.count c.factor c.fewer c.enough factor fewer enough
      (computed_le third.0) (computed_le fourth.0) (computed_le fourth.1) c.lawful in
      numbered frame_of FitsAs Good count_of factor fewer enough n (by_payload (as_a variant c.grammar))
      (wrapped_lawful variant c.grammar c.encoding c.Inside GoodA c.count factor fewer enough inner kind frame_of FitsAs
      Good count_of (ltb-true kind (2 ^ 16) (truth _ second.0))
      (λ a. ap (λ (s : Seen). s.frame) (same a)) (λ a. ap (λ (s : Seen). s.count) (same a))
      (λ a fits.
      (subst (λ (s : Seen). IsSmall s.frame) (same a) fits.0, subst (λ (s : Seen). s.Inside) (same a) fits.1))
      (λ a short inside. (
        subst (λ (s : Seen). IsSmall s.frame) (sym (same a)) short,
        subst (λ (s : Seen). s.Inside) (sym (same a)) inside,
      )) good)
      (λ f v is means. ap (λ w. number (frame_of w)) means.2 ∙ ap (λ (s : Seen). number s.frame) (same means.0)
      ∙ number_is)

  -- a payload by its shape
  abbrev pub shaping : (number : ℕ) {A : Type 0} {GoodA : A → Type 0} (s : Shaped base A GoodA) (variant : A → V)
      → ((a : A) → view (variant a) ≡ held (kind_of (base s.shape).flags number) s.codec a)
      → ((a : A) → Good (variant a) → GoodA a)
      → Reading number
  shaping number s variant same good = record {
    way = Shape s.shape;
    reads = by_payload (as_a variant s.codec.grammar);
    by = record {
      make = λ x. variant (s.wrap x);
      reads = λ f. ap (λ r. r >>= λ a. Ok (variant a)) (s.reads f.payload)
          ∙ two_steps ((base s.shape).codec.grammar.reads f.payload) s.wrap variant;
      frame_is = λ p x small means. ap (λ (w : Seen). w.frame) (same (s.wrap x))
          ∙ ap (λ t. record { kind = kind_of (base s.shape).flags number; payload = t })
          (s.encoding_is p x small means);
      inside = λ p x small means fits. s.inside p x small means (subst (λ (w : Seen). w.Inside) (same (s.wrap x)) fits);
      outside = λ p x small means fits.
          subst (λ (w : Seen). w.Inside) (sym (same (s.wrap x))) (s.outside p x small means fits);
    };
    holds = kind_holds number (kind_of (base s.shape).flags number) s.codec;
    lawful = held_lawful number (kind_of (base s.shape).flags number) s.codec variant same good;
  }

  -- a payload that code has a line of its own for
  abbrev pub having : (number kind : ℕ) {A : Type 0} {GoodA : A → Type 0} (c : CodecWhere A GoodA) (variant : A → V)
      → ((a : A) → view (variant a) ≡ held kind c a)
      → ((a : A) → Good (variant a) → GoodA a)
      → Reading number
  having number kind c variant same good = record {
    way = Own;
    reads = by_payload (as_a variant c.grammar);
    by = tt;
    holds = kind_holds number kind c;
    lawful = held_lawful number kind c variant same good;
  }

  pub kept_reading : (other : Frame → V) → ((f : Frame) → view (other f) ≡ as_it_is f) → (factor fewer enough : ℕ)
      → plain_growth + fewer ≤ factor → (n : ℕ)
      → Lawful factor fewer enough n (undecoded other)
  kept_reading other same factor fewer enough wide n =
      kept_lawful frame_of FitsAs Good count_of factor fewer enough wide other
      (λ f. ap (λ (s : Seen). s.frame) (same f)) (λ f. ap (λ (s : Seen). s.count) (same f))
      (λ f small.
      (subst (λ (s : Seen). IsSmall s.frame) (sym (same f)) small, subst (λ (s : Seen). s.Inside) (sym (same f)) tt)) n

  -- frames of this number are kept
  abbrev pub keeping : (number : ℕ) (variant : Frame → V) → ((f : Frame) → view (variant f) ≡ as_it_is f)
      → Reading number
  keeping number variant same = record {
    way = Kept;
    reads = undecoded variant;
    by = λ f. (variant f, refl, ap (λ (s : Seen). s.frame) (same f), subst (λ (s : Seen). s.Inside) (sym (same f)) tt);
    holds = λ factor fewer enough. nat_le (plain_growth + fewer) factor;
    lawful = λ factor fewer enough h. kept_reading variant same factor fewer enough (computed_le h) number;
  }

  -- ** all lines together

  lines_reads_is : (n size : ℕ) (es : List {1} Entry) (rest : Grammar Frame V) (f : Frame)
      → reads_in n size es rest.reads f ≡ (line_in n size es rest).reads f
  lines_reads_is n size [] rest f = refl
  lines_reads_is n size (e ∷ es) rest f =
      ap (λ x. if accepts e n size then e.reading.reads.reads f else x) (lines_reads_is n size es rest f)
      ∙ if_reads (accepts e n size) e.reading.reads (line_in n size es rest) f

  module _ (factor fewer enough : ℕ) (other : Frame → V) (same : (f : Frame) → view (other f) ≡ as_it_is f)
      (wide : plain_growth + fewer ≤ factor) where
    abbrev AllLawful : List {1} Entry → Type 0
    AllLawful [] = Unit {0}
    AllLawful (e ∷ es) = Lawful factor fewer enough e.number e.reading.reads × AllLawful es

    each_lawful : (es : List {1} Entry) → T (all_hold factor fewer enough es) → AllLawful es
    each_lawful [] h = tt
    each_lawful (e ∷ es) h =
        let k = both (e.reading.holds factor fewer enough) _ h in
        (e.reading.lawful factor fewer enough k.0, each_lawful es (both (no_more e.number es) _ k.1).1)

    line_agrees : (n size : ℕ) (es : List {1} Entry) → AllLawful es
        → Agrees IsFrame (line_in n size es (undecoded other))
    line_agrees n size [] each = (kept_reading other same factor fewer enough wide 0).agrees
    line_agrees n size (e ∷ es) each = if_agrees (accepts e n size) e.reading.reads
        (line_in n size es (undecoded other)) each.0.agrees (line_agrees n size es each.1)

    lines_agree : (es : List {1} Entry) → AllLawful es → Agrees IsFrame (lines es (undecoded other))
    lines_agree es each =
        let at = λ (f : Frame). line_agrees (number f) (length f.payload) es each in
        let is = λ (f : Frame). lines_reads_is (number f) (length f.payload) es (undecoded other) f in
        record {
          only = λ f v m. is f ∙ (at f).only f v m;
          found = λ f v one e. (at f).found f v one (sym (is f) ∙ e);
          fault = λ f c one e. (at f).fault f c one (sym (is f) ∙ e);
          refused = λ f c m. is f ∙ (at f).refused f c m;
        }

    accepted_lawful : (e : Entry) (g : Grammar Frame V) (n : ℕ) → Lawful factor fewer enough e.number e.reading.reads
        → Lawful factor fewer enough n g
        → (b c : Bool) → (n == e.number) ≡ b → Lawful factor fewer enough n (if_true (b && c) e.reading.reads g)
    accepted_lawful e g n h k true true is =
        subst (λ x. Lawful factor fewer enough x e.reading.reads) (sym (eqb-true n e.number is)) h
    accepted_lawful e g n h k true false is = k
    accepted_lawful e g n h k false c is = k

    line_lawful : (n size : ℕ) (es : List {1} Entry) → AllLawful es
        → Lawful factor fewer enough n (line_in n size es (undecoded other))
    line_lawful n size [] each = kept_reading other same factor fewer enough wide n
    line_lawful n size (e ∷ es) each =
        accepted_lawful e (line_in n size es (undecoded other)) n each.0 (line_lawful n size es each.1) (n == e.number)
        (has_size e.size size) refl

    kept_size : (size : Option ℕ) (g : Grammar Frame V) → KeepsSize size g → (f : Frame) (v : V) → g.means f v
        → has_size size (length (frame_of v).payload) ≡ true
    kept_size None g keeps f v means = refl
    kept_size (Some size) g keeps f v means = eq-eqb (length (frame_of v).payload) size (keeps f v means)

    -- frames of a number that no line has are kept
    missed : (n size : ℕ) (es : List {1} Entry) (f : Frame) (v : V) → T (no_more n es)
        → (line_in n size es (undecoded other)).means f v → frame_of v ≡ f
    missed n size [] f v none means = ap frame_of means ∙ ap (λ (s : Seen). s.frame) (same f)
    missed n size (e ∷ es) f v none means =
        by (n == e.number) (has_size e.size size) (missed n size es f v) none means where
          by : (b c : Bool) → (T (no_more n es) → (line_in n size es (undecoded other)).means f v → frame_of v ≡ f)
              → T (not b && no_more n es)
              → (if_true (b && c) e.reading.reads (line_in n size es (undecoded other))).means f v → frame_of v ≡ f
          by true c later none means = absurd none
          by false c later none means = later none means

    -- the frame of a value that was read is accepted by the line that it was read by
    accepted_back : (e : Entry) (g h : Grammar Frame V) (f : Frame) (v : V) → IsFrame f → FitsAs v → Good v
        → Lawful factor fewer enough e.number e.reading.reads
        → (g.means f v → h.means (frame_of v) v)
        → (number f ≡ e.number → g.means f v → frame_of v ≡ f)
        → (b c : Bool) → (number f == e.number) ≡ b → has_size e.size (length f.payload) ≡ c
        → (if_true (b && c) e.reading.reads g).means f v
        → (if_true (b && has_size e.size (length (frame_of v).payload)) e.reading.reads h).means (frame_of v) v
    accepted_back e g h f v one fits good lawful later kept_frame false c is sized means = later means
    accepted_back e g h f v one fits good lawful later kept_frame true true is sized means =
        subst (λ t. (if_true t e.reading.reads h).means (frame_of v) v)
        (sym (kept_size e.size e.reading.reads e.keeps_size f v means))
        (lawful.back f v one (eqb-true (number f) e.number is) means fits good)
    accepted_back e g h f v one fits good lawful later kept_frame true false is sized means =
        let again : frame_of v ≡ f = kept_frame (eqb-true (number f) e.number is) means in
        subst (λ t. (if_true t e.reading.reads h).means (frame_of v) v)
        (sym (ap (λ (x : Frame). has_size e.size (length x.payload)) again ∙ sized)) (later means)

    line_back : (es : List {1} Entry) → T (all_hold factor fewer enough es) → AllLawful es → (f : Frame) (v : V)
        → IsFrame f → FitsAs v → Good v
        → (line_in (number f) (length f.payload) es (undecoded other)).means f v
        → (line_in (number f) (length (frame_of v).payload) es (undecoded other)).means (frame_of v) v
    line_back [] h each f v one fits good means =
        (kept_reading other same factor fewer enough wide (number f)).back f v one refl means fits good
    line_back (e ∷ es) h each f v one fits good means =
        let k = both (e.reading.holds factor fewer enough) _ h in
        let l = both (no_more e.number es) _ k.1 in
        accepted_back e (line_in (number f) (length f.payload) es (undecoded other))
        (line_in (number f) (length (frame_of v).payload) es (undecoded other)) f v one fits good each.0
        (line_back es l.1 each.1 f v one fits good)
        (λ is. missed (number f) (length f.payload) es f v (subst (λ n. T (no_more n es)) (sym is) l.0))
        (number f == e.number) (has_size e.size (length f.payload)) refl refl means

    pub lines_lawful : (es : List {1} Entry) → T (all_hold factor fewer enough es) → (m : ℕ)
        → Lawful factor fewer enough m (lines es (undecoded other))
    lines_lawful es h m =
        let each = each_lawful es h in
        let at = λ (f : Frame). line_lawful (number f) (length f.payload) es each in
        record {
          agrees = lines_agree es each;
          no_memory = λ f. (at f).no_memory f;
          same_number = λ f v is means. (at f).same_number f v refl means ∙ is;
          writable = λ f. (at f).writable f;
          back = λ f v one is means fits good.
              subst (λ n. (line_in n (length (frame_of v).payload) es (undecoded other)).means (frame_of v) v)
              (sym ((at f).same_number f v refl means))
              (line_back es h each f v one fits good means);
          counted = λ f. (at f).counted f;
          bounded = λ f. (at f).bounded f;
          small = λ f. (at f).small f;
        }

    pub lined_lawful : (es : List {1} Entry) → T (all_hold factor fewer enough es)
        → LawfulPlace (lines es (undecoded other)) frame_of FitsAs Good count_of factor fewer enough
    lined_lawful es h =
        place_lawful frame_of FitsAs Good count_of factor fewer enough (lines es (undecoded other)) (lines_lawful es h)

  -- ** frames that no line accepts

  pub foreign_kept : (other : Frame → V) → ((f : Frame) → view (other f) ≡ as_it_is f)
      → (es : List {1} Entry) (f : Frame) (v : V) → IsForeign es f → (lines es (undecoded other)).means f v
      → frame_of v ≡ f
  foreign_kept other same [] f v foreign means = ap frame_of means ∙ ap (λ (s : Seen). s.frame) (same f)
  foreign_kept other same (e ∷ es) f v foreign means =
      foreign_kept other same es f v foreign.1
      (subst (λ t. (if_true t e.reading.reads (line_in (number f) (length f.payload) es (undecoded other))).means f v)
      foreign.0 means)

  missed_number : (a b : ℕ) (c : Bool) → (a ≢ b) → ((a == b) && c) ≡ false
  missed_number a b c other = ap (λ t. t && c) (ne_eqb a b other)

  pub other_way : (n size : ℕ) (es : List {1} Entry) → IsOther es n → way_in es n size ≡ Kept
  other_way n size [] other = refl
  other_way n size (e ∷ es) other =
      ap (λ t. if t then e.reading.way else way_in es n size) (missed_number n e.number (has_size e.size size) other.0)
      ∙ other_way n size es other.1

  pub other_reads : (n size : ℕ) (es : List {1} Entry) (rest : Frame → Result V Cause) (f : Frame) → IsOther es n
      → reads_in n size es rest f ≡ rest f
  other_reads n size [] rest f other = refl
  other_reads n size (e ∷ es) rest f other =
      ap (λ t. if t then e.reading.reads.reads f else reads_in n size es rest f)
      (missed_number n e.number (has_size e.size size) other.0)
      ∙ other_reads n size es rest f other.1

  -- ** code over shapes

  by_line : (e : Entry) (way : Way S) (read : Frame → Result V Cause) (n : ℕ) → ReadsBy n way read
      → (b c : Bool) → (n == e.number) ≡ b
      → ReadsBy n (if (b && c) then e.reading.way else way) (λ f. if (b && c) then e.reading.reads.reads f else read f)
  by_line e way read n by true true is =
      subst (λ x. ReadsBy x e.reading.way e.reading.reads.reads) (sym (eqb-true n e.number is)) e.reading.by
  by_line e way read n by true false is = by
  by_line e way read n by false c is = by

  pub line_by : (other : Frame → V) → ((f : Frame) → view (other f) ≡ as_it_is f)
      → (n size : ℕ) (es : List {1} Entry) → ReadsBy n (way_in es n size) (reads_in n size es (λ f. Ok (other f)))
  line_by other same n size [] = λ f.
      (other f, refl, ap (λ (s : Seen). s.frame) (same f), subst (λ (s : Seen). s.Inside) (sym (same f)) tt)
  line_by other same n size (e ∷ es) =
      by_line e (way_in es n size) (reads_in n size es (λ f. Ok (other f))) n (line_by other same n size es)
      (n == e.number) (has_size e.size size) refl
