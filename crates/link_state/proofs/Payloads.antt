-- Payloads that are filled, by what they are, and lines of tables.
use Rattle.std.proofs.Common.{◌≡◌, ℕ, zero, suc, ◌≤◌, ◌<◌, ◌^◌, ◌%◌, List, [], ◌∷◌, ◌++◌, length, replicate, map, refl}
use Rattle.std.proofs.Common.{sym, take, drop}
use Rattle.std.proofs.Common.{ap, subst, ◌∙◌, arith, filter}
use Rattle.std.proofs.lemmas.List.{length-replicate, take-append-drop}
use Rattle.nla_wire.proofs.Steps.{bytes_left, bytes_right}
use Rattle.std.specs.Int.{Width, byte_len, to_le_bytes, from_le_bytes}
use Rattle.std.specs.List.{AllByRecursion}
use Rattle.nla_wire.specs.Sizes.{most_payload}
use Rattle.nla_wire.specs.Frames.{Frame, number, IsBytes, IsFrame}
use Rattle.nla_wire.specs.Grammar.{Grammar, Every, list, not_empty, by_payload, as_a, undecoded, is_one, picked}
use Rattle.nla_wire.specs.Canon.{canons, AllFit, IsWritable}
use Rattle.nla_wire.specs.Payloads as payload
use Rattle.nla_wire.specs.Records.{WritesFilled, HasSize}
use Rattle.nla_wire.proofs.Lawful.{always}
use Rattle.nla_wire.proofs.Again.{WritesAgain}
use Rattle.nla_wire.proofs.FieldLemmas.{zero_filled_whole}
use Rattle.nla_wire.proofs.Cuts.{frames_once}
use Rattle.nla_wire.proofs.Back.{canons_frames, every_writable, frames_framed, ones_kept, all_filtered}
use Rattle.nla_wire.proofs.Codec.{Any, CodecWhere, Place}
use Rattle.nla_wire.proofs.Tables.{Seen, held, as_it_is, Entry, lines, line_in, frame_of, FitsAs}
use Rattle.link_state.specs.Table.{action_of}
use Rattle.link_state.specs.Cleared.{payload_by, filled}
use Rattle.link_state.specs.declared.level.Level.{Level}
use Rattle.link_state.specs.Table.{Action}
use Rattle.link_state.specs.Table.Action.{Clear, ClearPart, Enter}
use Rattle.link_state.proofs.Walking.{length-payload_by, length-filled}
use Rattle.link_state.proofs.Closing.{acted, filled_frame, filled_canons, IsOwn, ClosesAt, Closes}
use Rattle.link_state.proofs.Closing.{each}

filled_bytes : (by : ℕ) → by < 256 → (n : ℕ) → IsBytes (replicate n by)
filled_bytes by small zero = tt
filled_bytes by small (suc n) = (small, filled_bytes by small n)

module _ {A : Type 0} (g : Grammar (List ℕ) A) (text : A → List ℕ) (Inside Good : A → Type 0) where
  pub record IsOwnPayload (a : A) : Type 0 where
    pub bytes : IsBytes (text a)
    pub means : g.means (text a) a
    pub inside : Inside a
    pub good : Good a

  pub record BecomesPayload (p : List ℕ) : Type 0 where
    pub value : A
    pub means : g.means (text value) value
    pub inside : Inside value
    pub good : Good value
    pub text_is : text value ≡ p

  abbrev pub ClosesPayload : ℕ → Action → Type 0
  ClosesPayload by action = (a : A) → IsOwnPayload a → BecomesPayload (payload_by by (filled by) action (text a))

-- ** what is not looked into, and numbers and records

pub bytes_close : (by : ℕ) (action : Action) → ClosesPayload payload.bytes (λ p. p) always always by action
bytes_close by action a own =
    record { value = payload_by by (filled by) action a; means = refl; inside = tt; good = tt; text_is = refl }

pub number_closes : (by : ℕ) → by < 256 → (w : Width) → WritesAgain w
    → ClosesPayload (payload.number_of w) (to_le_bytes w) always always by Clear
number_closes by small w again a own =
    let n = length (to_le_bytes w a) in
    let size : n ≡ byte_len w = own.means.0 in
    let p : List ℕ = replicate n by in
    let p_size : length p ≡ byte_len w = length-replicate n by ∙ size in
    let text_is : to_le_bytes w (from_le_bytes w p) ≡ p = again p p_size (filled_bytes by small n) in
    record {
      value = from_le_bytes w p;
      means = (ap length text_is ∙ p_size, ap (from_le_bytes w) (sym text_is));
      inside = tt;
      good = tt;
      text_is = text_is;
    }

-- the value that stands for a number
pub enum_closes : (by : ℕ) → by < 256 → {A : Type 0} (w : Width) → WritesAgain w
    → (of : ℕ → A) (num : A → ℕ) → ((x : ℕ) → num (of x) ≡ x)
    → ClosesPayload (as_a of (payload.number_of w)) (λ a. to_le_bytes w (num a)) always always by Clear
enum_closes by small w written of num again a own =
    let n = length (to_le_bytes w (num a)) in
    let size : n ≡ byte_len w = own.means.1.0 in
    let p : List ℕ = replicate n by in
    let p_size : length p ≡ byte_len w = length-replicate n by ∙ size in
    let x : ℕ = from_le_bytes w p in
    let text_is : to_le_bytes w (num (of x)) ≡ p =
    ap (to_le_bytes w) (again x) ∙ written p p_size (filled_bytes by small n) in
    record {
      value = of x;
      means = (x, (ap length text_is ∙ p_size, ap (from_le_bytes w) (sym text_is)), refl);
      inside = tt;
      good = tt;
      text_is = text_is;
    }

-- what is left of bytes is bytes
abbrev pub LeavesBytes : ℕ → Action → Type 0
LeavesBytes by action = (p : List ℕ) → IsBytes p → IsBytes (payload_by by (filled by) action p)

pub clear_leaves : (by : ℕ) → by < 256 → LeavesBytes by Clear
clear_leaves by byte p small = filled_bytes by byte (length p)

bytes_joined : (xs ys : List ℕ) → IsBytes xs → IsBytes ys → IsBytes (xs ++ ys)
bytes_joined [] ys hx hy = hy
bytes_joined (x ∷ xs) ys hx hy = (hx.0, bytes_joined xs ys hx.1 hy)

bytes_take : (n : ℕ) (p : List ℕ) → IsBytes p → IsBytes (take n p)
bytes_take n p small =
    bytes_left (take n p) (drop n p) (subst IsBytes (sym (take-append-drop n p)) small)

bytes_drop : (n : ℕ) (p : List ℕ) → IsBytes p → IsBytes (drop n p)
bytes_drop n p small =
    bytes_right (take n p) (drop n p) (subst IsBytes (sym (take-append-drop n p)) small)

pub part_leaves : (by : ℕ) → by < 256 → (from to : ℕ) → LeavesBytes by (ClearPart from to)
part_leaves by byte from to p small =
    bytes_joined (take from (take to p) ++ replicate (length (drop from (take to p))) by) (drop to p)
    (bytes_joined (take from (take to p)) (replicate (length (drop from (take to p))) by)
    (bytes_take from (take to p) (bytes_take to p small)) (filled_bytes by byte (length (drop from (take to p)))))
    (bytes_drop to p small)

-- bytes of a record's size are the bytes of the record that they are read as
record_written : {A : Type 0} (size : ℕ) (of : List ℕ → A) (text : A → List ℕ) → WritesFilled size of text
    → (p : List ℕ) → IsBytes p → length p ≡ size → text (of p) ≡ p
record_written size of text plain p small sized = plain p small ∙ zero_filled_whole size p sized

pub filled_closes : {A : Type 0} (by : ℕ) (size : ℕ) (of : List ℕ → A) (text : A → List ℕ) → WritesFilled size of text
    → ((a : A) → length (text a) ≡ size)
    → (action : Action) → LeavesBytes by action
    → ClosesPayload (payload.filled of) text always always by action
filled_closes by size of text plain sized action leaves a own =
    let p = payload_by by (filled by) action (text a) in
    let same = record_written size of text plain p (leaves (text a) own.bytes)
    (length-payload_by by action (text a) ∙ sized a) in
    record { value = of p; means = ap of (sym same); inside = tt; good = tt; text_is = same }

pub sized_closes : {A : Type 0} (by : ℕ) (size : ℕ) (of : List ℕ → A) (text : A → List ℕ) → WritesFilled size of text
    → HasSize size of text
    → (action : Action) → LeavesBytes by action
    → ClosesPayload (payload.sized size of) text always always by action
sized_closes by size of text plain sized action leaves a own =
    let p = payload_by by (filled by) action (text a) in
    let size_is : length (text a) ≡ size = ap (λ x. length (text x)) own.means.1 ∙ sized (text a) in
    let same = record_written size of text plain p (leaves (text a) own.bytes)
    (length-payload_by by action (text a) ∙ size_is) in
    record {
      value = of p;
      means = (omega (arith, sized p), ap of (sym same));
      inside = tt;
      good = tt;
      text_is = same;
    }

-- ** lists

module _ {V : Type 0} (g : Grammar Frame V) (frame : V → Frame) (Fits Good : V → Type 0)
    (writable : (f : Frame) (v : V) → IsFrame f → g.means f v → Fits v → IsWritable (frame v)) where
  own_each : (vs : List V) → AllByRecursion IsFrame (map frame vs) → Every g.means (map frame vs) vs
      → AllByRecursion Fits vs → AllByRecursion Good vs → AllByRecursion (IsOwn g frame Fits Good) vs
  own_each [] framed means fits good = tt
  own_each (v ∷ vs) framed means fits good = (
    record { framed = framed.0; means = means.0; fits = fits.0; good = good.0 },
    own_each vs framed.1 means.1 fits.1 good.1,
  )

  -- what is written as frames that can be written
  same_writable : (by : ℕ) (level : Level) (vs ws : List V)
      → map frame ws ≡ map (λ v. filled_frame by level (frame v)) vs
      → AllByRecursion (λ v. IsWritable (frame v)) vs → AllByRecursion (λ v. IsWritable (frame v)) ws
  same_writable by level vs [] e h = tt
  same_writable by level [] (w ∷ ws) e h = absurd (omega (arith, ap (λ (fs : List Frame). length fs) e))
  same_writable by level (v ∷ vs) (w ∷ ws) e h =
      let first : frame w ≡ filled_frame by level (frame v) = cc in
      let later : map frame ws ≡ map (λ v. filled_frame by level (frame v)) vs = cc in (
        subst IsWritable (sym first)
            (record {
              kind = h.0.kind;
              size = omega (
                arith,
                h.0.size,
                length-payload_by by (action_of level (number (frame v))) (frame v).payload,
              );
            }),
        same_writable by level vs ws later h.1,
      )

  pub record ListBecomes (by : ℕ) (level : Level) (vs : List V) : Type 0 where
    pub values : List V
    pub means : (list g).means (canons frame values) values
    pub fits : AllByRecursion Fits values
    pub good : AllByRecursion Good values
    pub text_is : canons frame values ≡ filled by level (canons frame vs)
    pub every : Every g.means (map frame values) values
    pub written : AllByRecursion (λ v. IsWritable (frame v)) values
    pub own : AllByRecursion (IsOwn g frame Fits Good) vs
    pub frames_are : map frame values ≡ map (λ v. filled_frame by level (frame v)) vs

  pub list_closes : (by : ℕ) (level : Level) → Closes g frame Fits Good by level → (vs : List V)
      → IsBytes (canons frame vs)
      → (list g).means (canons frame vs) vs → AllByRecursion Fits vs → AllByRecursion Good vs → ListBecomes by level vs
  list_closes by level closes vs small means fits good =
      let framed = frames_framed (canons frame vs) means.0 small means.1 in
      let writable_all = every_writable g frame Fits writable means.0 vs framed means.2 fits in
      let one : means.0 ≡ map frame vs =
      frames_once (canons frame vs) means.0 (map frame vs) means.1 (canons_frames frame vs writable_all) in
      let own = own_each vs (subst (λ fs. AllByRecursion IsFrame fs) one framed)
      (subst (λ fs. Every g.means fs vs) one means.2) fits good in
      let to = each g frame Fits Good by level closes vs own in
      record {
        values = to.values;
        means = (
          map frame to.values,
          canons_frames frame to.values (same_writable by level vs to.values to.frames_are writable_all),
          to.means,
        );
        fits = to.fits;
        good = to.good;
        text_is = filled_canons by level frame vs to.values writable_all to.frames_are;
        every = to.means;
        written = same_writable by level vs to.values to.frames_are writable_all;
        own = own;
        frames_are = to.frames_are;
      }

-- ** lists as payloads

module _ {V : Type 0} (p : Place V) (by : ℕ) (level : Level)
    (closes : Closes p.grammar p.frame p.Fits always by level) where
  all_always : (vs : List V) → AllByRecursion always vs
  all_always [] = tt
  all_always (v ∷ vs) = (tt, all_always vs)

  become : (vs : List V) → IsBytes (canons p.frame vs) → (list p.grammar).means (canons p.frame vs) vs
      → AllFit p.Fits p.frame vs → ListBecomes p.grammar p.frame p.Fits always p.lawful.writable by level vs
  become vs small means fits =
      list_closes p.grammar p.frame p.Fits always p.lawful.writable by level closes vs small means fits.0
      (all_always vs)

  same_fits : (vs : List V) (to : ListBecomes p.grammar p.frame p.Fits always p.lawful.writable by level vs)
      → AllFit p.Fits p.frame vs → AllFit p.Fits p.frame to.values
  same_fits vs to fits = (
    to.fits,
    omega (arith, fits.1, ap (λ (b : List ℕ). length b) to.text_is, length-filled by level (canons p.frame vs)),
  )

  pub list_of_closes : ClosesPayload (list p.grammar) (canons p.frame) (AllFit p.Fits p.frame) always by (Enter level)
  list_of_closes vs own =
      let to = become vs own.bytes own.means own.inside in
      record {
        value = to.values;
        means = to.means;
        inside = same_fits vs to own.inside;
        good = tt;
        text_is = to.text_is;
      }

  pub some_of_closes : ClosesPayload (not_empty (list p.grammar)) (canons p.frame) (AllFit p.Fits p.frame) always
      by (Enter level)
  some_of_closes vs own =
      let to = become vs own.bytes own.means.1 own.inside in
      record {
        value = to.values;
        means = (
          omega (
            arith,
            own.means.0,
            ap (λ (b : List ℕ). length b) to.text_is,
            length-filled by level (canons p.frame vs),
          ),
          to.means,
        );
        inside = same_fits vs to own.inside;
        good = tt;
        text_is = to.text_is;
      }

  -- a list whose members with other numbers than 1 are dropped
  pub picked_of_closes : ((v : V) → number (p.frame v) ≡ 1)
      → ClosesPayload (picked p.grammar) (canons p.frame) (AllFit p.Fits p.frame) always by (Enter level)
  picked_of_closes ones vs own =
      let fs = own.means.0 in
      let framed = all_filtered IsFrame is_one fs (frames_framed (canons p.frame vs) fs own.bytes own.means.1) in
      let writable_all = every_writable p.grammar p.frame p.Fits p.lawful.writable (filter is_one fs) vs framed
      own.means.2 own.inside.0 in
      let one : fs ≡ map p.frame vs =
      frames_once (canons p.frame vs) fs (map p.frame vs) own.means.1 (canons_frames p.frame vs writable_all) in
      let ones_is : filter is_one fs ≡ map p.frame vs = ap (filter is_one) one ∙ ones_kept p.frame ones vs in
      let to = become vs own.bytes (
        map p.frame vs,
        canons_frames p.frame vs writable_all,
        subst (λ gs. Every p.grammar.means gs vs) ones_is own.means.2,
      ) own.inside in
      record {
        value = to.values;
        means = (
          map p.frame to.values,
          canons_frames p.frame to.values to.written,
          subst (λ gs. Every p.grammar.means gs to.values) (sym (ones_kept p.frame ones to.values)) to.every,
        );
        inside = same_fits vs to own.inside;
        good = tt;
        text_is = to.text_is;
      }

-- ** a place of one kind

module _ {A B : Type 0} (wrap : A → B) (inner : B → A) (c : CodecWhere A always) (same : (a : A) → inner (wrap a) ≡ a)
    (kind by : ℕ) (action : Action) (closes : ClosesPayload c.grammar c.encoding c.Inside always by action) where
  pub place_of_closes : (n : ℕ) → ClosesAt (by_payload (as_a wrap c.grammar))
      (λ b. record { kind = kind; payload = c.encoding (inner b) })
      (λ b. (length (c.encoding (inner b)) ≤ most_payload) × c.Inside (inner b)) always by n action
  place_of_closes n v own is =
      let a = own.means.0 in
      let e : inner v ≡ a = ap inner own.means.2 ∙ same a in
      let to = closes a (record {
        bytes = subst (λ x. IsBytes (c.encoding x)) e own.framed.bytes;
        means = subst (λ x. c.grammar.means (c.encoding x) a) e own.means.1;
        inside = subst c.Inside e own.fits.1;
        good = tt;
      }) in
      let b = to.value in
      let text_is : c.encoding (inner (wrap b)) ≡ payload_by by (filled by) action (c.encoding (inner v)) =
      ap c.encoding (same b) ∙ to.text_is ∙ ap (λ x. payload_by by (filled by) action (c.encoding x)) (sym e) in
      record {
        value = wrap b;
        means = (b, subst (λ x. c.grammar.means (c.encoding x) b) (sym (same b)) to.means, refl);
        fits = (
          omega (
            arith,
            own.framed.size,
            ap (λ (t : List ℕ). length t) text_is,
            length-payload_by by action (c.encoding (inner v)),
          ),
          subst c.Inside (sym (same b)) to.inside,
        );
        good = tt;
        frame_is = ap (λ t. record { kind = kind; payload = t }) text_is;
      }

-- ** lines of tables

module _ {S : Type 0} (base : S → Any) {V : Type 0} (view : V → Seen) (Good : V → Type 0)
    (es : List {1} (Entry base view Good)) (other : Frame → V) where
  abbrev pub LineClosesAt : ℕ → ℕ → Action → Type 0
  LineClosesAt by n action = ClosesAt (lines base view Good es (undecoded other)) (frame_of base view Good)
      (FitsAs base view Good) Good by n action

  -- a line whose payload closes: its number is its kind's, and it reads frames of any size
  pub line_closes : {A : Type 0} {GoodA : A → Type 0} (by n kind : ℕ) (action : Action) (c : CodecWhere A GoodA)
      (variant : A → V)
      → ((size : ℕ) → line_in base view Good n size es (undecoded other) ≡ by_payload (as_a variant c.grammar))
      → ((a : A) → view (variant a) ≡ held kind c a)
      → ((a : A) → Good (variant a) → GoodA a)
      → ((a : A) → GoodA a → Good (variant a))
      → kind % 2 ^ 14 ≡ n
      → ClosesPayload c.grammar c.encoding c.Inside GoodA by action
      → LineClosesAt by n action
  line_closes by n kind action c variant reads same good_in good_out number_is closes v own is =
      let f = (view v).frame in
      let read : (by_payload (as_a variant c.grammar)).means f v =
      subst (λ (g : Grammar Frame V). g.means f v) (reads (length f.payload))
      (subst (λ m. (line_in base view Good m (length f.payload) es (undecoded other)).means f v) is own.means) in
      let a = read.0 in
      let seen : view v ≡ held kind c a = ap view read.2 ∙ same a in
      let frame_is : f ≡ record { kind = kind; payload = c.encoding a } = ap (λ (s : Seen). s.frame) seen in
      let to = closes a (record {
        bytes = subst (λ (x : Frame). IsBytes x.payload) frame_is own.framed.bytes;
        means = subst (λ (x : Frame). c.grammar.means x.payload a) frame_is read.1;
        inside = subst (λ (s : Seen). s.Inside) seen own.fits.1;
        good = good_in a (subst Good read.2 own.good);
      }) in
      let w = variant to.value in
      let new_is : (view w).frame ≡ record { kind = kind; payload = payload_by by (filled by) action (c.encoding a) } =
      ap (λ (s : Seen). s.frame) (same to.value) ∙ ap (λ t. record { kind = kind; payload = t }) to.text_is in
      let new_number : number (view w).frame ≡ n = ap number new_is ∙ number_is in
      let new_read : (by_payload (as_a variant c.grammar)).means (view w).frame w = (
        to.value,
        subst (λ (x : Frame). c.grammar.means x.payload to.value)
            (sym (ap (λ (s : Seen). s.frame) (same to.value))) to.means,
        refl,
      ) in
      record {
        value = w;
        means = subst
            (λ m. (line_in base view Good m (length (view w).frame.payload) es (undecoded other)).means
            (view w).frame w)
            (sym new_number)
            (subst (λ (g : Grammar Frame V). g.means (view w).frame w) (sym (reads (length (view w).frame.payload)))
            new_read);
        fits = (
          omega (
            arith,
            own.framed.size,
            ap (λ (x : Frame). length x.payload) frame_is,
            ap (λ (x : Frame). length x.payload) new_is,
            length-payload_by by action (c.encoding a),
          ),
          subst (λ (s : Seen). s.Inside) (sym (same to.value)) to.inside,
        );
        good = good_out to.value to.good;
        frame_is = new_is ∙ ap (acted by action) (sym frame_is);
      }

  -- frames of a number that no line has
  pub kept_closes : (by n : ℕ) (action : Action)
      → ((size : ℕ) → line_in base view Good n size es (undecoded other) ≡ undecoded other)
      → ((f : Frame) → view (other f) ≡ as_it_is f)
      → ((f : Frame) → Good (other f))
      → LineClosesAt by n action
  kept_closes by n action reads same good v own is =
      let f = acted by action (view v).frame in
      let w = other f in
      let frame_is : (view w).frame ≡ f = ap (λ (s : Seen). s.frame) (same f) in
      record {
        value = w;
        means = subst
            (λ m. (line_in base view Good m (length (view w).frame.payload) es (undecoded other)).means
            (view w).frame w)
            (sym (ap number frame_is ∙ is))
            (subst (λ (g : Grammar Frame V). g.means (view w).frame w) (sym (reads (length (view w).frame.payload)))
            (ap other (sym frame_is)));
        fits = (
          omega (
            arith,
            own.framed.size,
            ap (λ (x : Frame). length x.payload) frame_is,
            length-payload_by by action (view v).frame.payload,
          ),
          subst (λ (s : Seen). s.Inside) (sym (same f)) tt,
        );
        good = good f;
        frame_is = frame_is;
      }
