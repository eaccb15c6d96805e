-- What the walk that measures tells beside the length: empty lists of ports, by the length of their encoding. What
-- stands after the copied prefix is measured, and the prefix counts as long as it is.
use Rattle.std.proofs.Common.{◌≡◌, ◌≢◌, ℕ, ◌+◌, ◌^◌, ◌<◌, List, [], ◌∷◌, ◌++◌, length, drop, refl, sym, ap, ◌∙◌, arith}
use Rattle.std.proofs.Common.{Result, Ok, Err, Some, None, Bool, true, false, MatchBool, length-append, append-nil}
use Rattle.std.proofs.Common.{flat_map, subst}
use Rattle.std.specs.List.{AllByRecursion}
use Rattle.nla_wire.specs.Frames.{Frame, number, missing, IsFrame}
use Rattle.nla_wire.specs.Reading.{list_of, with_front, ◌>>=◌}
use Rattle.nla_wire.specs.Items.{Item, items, read_items}
use Rattle.nla_wire.specs.Grammar.{as_a, not_empty, list}
use Rattle.nla_wire.specs.Canon.{canon, canons, Weighs}
use Rattle.nla_wire.specs.declared.error.Cause.{Cause}
use Rattle.nla_wire.proofs.Bounds.{length-canon}
use Rattle.nla_wire.proofs.Loop.{items_start, items_more}
use Rattle.nla_wire.proofs.Written.{Weighing, Counted, all_here, all_more, flat_more}
use Rattle.link_vals.specs.declared.address_family.AddressFamily.{AddressFamily}
use Rattle.link_vf.specs.Tables.{link_vf_port_place, vf_port_list}
use Rattle.link_vf.specs.declared.port_list.LinkVfPort.{LinkVfPort}
use Rattle.link_msg.specs.Tables.{attribute_frame, AttributeFits, attribute_view, attribute_entries, NotEmptyPorts}
use Rattle.link_msg.specs.Tables.{attribute_place, attribute_lawful, attribute_number}
use Rattle.link_msg.specs.declared.numbers.TheConstants.{IFLA_VF_PORTS}
use Rattle.link_msg.specs.Prefixes.{IsOwnText, CanBeWritten, IsCopiedPrefix, attribute_text}
use Rattle.link_msg.specs.Canonical.{ListWeighs, ListMeasures}
use Rattle.link_msg.proofs.Prefixes.{whole_from, prefix_sizes, all_after, all_both}
use Rattle.link_msg.specs.declared.attribute.LinkAttribute.{LinkAttribute}
use Rattle.link_msg.specs.declared.attribute.LinkAttribute.TheVariants as Attributes

-- ** one attribute

-- a text of no bytes is that of no ports
ports_long : (ps : List LinkVfPort) → length (canons link_vf_port_place.frame ps) ≡ 0 → 0 < length ps → ⊥
ports_long [] none some = absurd (omega (arith, some))
ports_long (p ∷ ps) none some =
    absurd (omega (
      arith,
      none,
      length-append (canon (link_vf_port_place.frame p)) (canons link_vf_port_place.frame ps),
      length-canon (link_vf_port_place.frame p),
    ))

ports_some : (ps : List LinkVfPort) → length (canons link_vf_port_place.frame ps) ≢ 0 → 0 < length ps
ports_some [] some = absurd (some refl)
ports_some (p ∷ ps) some = omega arith

-- IFLA_VF_PORTS is read as ports
ports_read : (family : AddressFamily) (f : Frame) → number f ≡ IFLA_VF_PORTS
    → (attribute_place family).reads f ≡ (as_a Attributes.VfPorts (not_empty vf_port_list.grammar)).reads f.payload
unfolding attribute_place attribute_entries attribute_view
ports_read family f is = rw is refl

made : (r : Result (List LinkVfPort) Cause) (v : LinkAttribute) → (r >>= λ ps. Ok (Attributes.VfPorts ps)) ≡ Ok v
    → (ps : List LinkVfPort) × (v ≡ Attributes.VfPorts ps)
made (Ok ps) v e = (ps, cc)
made (Err c) v e = absurd cc

-- one that was read from IFLA_VF_PORTS, with no bytes
pub no_ports : (family : AddressFamily) (f : Frame) (v : LinkAttribute) → (attribute_place family).reads f ≡ Ok v
    → number f ≡ IFLA_VF_PORTS → length (attribute_frame v).payload ≡ 0 → NotEmptyPorts v → ⊥
unfolding attribute_view
no_ports family f v read is none some =
    let k = made ((not_empty vf_port_list.grammar).reads f.payload) v (sym (ports_read family f is) ∙ read) in
    ports_long k.0 (subst (λ x. length (attribute_frame x).payload ≡ 0) k.1 none) (subst NotEmptyPorts k.1 some)

-- any but one that is written as IFLA_VF_PORTS, with no bytes
pub some_ports : (v : LinkAttribute)
    → ((number (attribute_frame v) ≡ IFLA_VF_PORTS) × (length (attribute_frame v).payload ≡ 0) → ⊥) → NotEmptyPorts v
unfolding attribute_view
some_ports (Attributes.VfPorts ports) never = ports_some ports (λ none. never (refl, none))
some_ports _ never = tt

-- ** the attributes of a message

all_front : (P : LinkAttribute → Type 0) (front : List LinkAttribute) (v : LinkAttribute)
    → AllByRecursion P (front ++ v ∷ []) → AllByRecursion P front
all_front P [] v all = tt
all_front P (x ∷ front) v all = (all.0, all_front P front v all.1)

-- the attributes in front were measured, and whether they hold an empty list of ports is known
pub record Telling (family : AddressFamily) (whole : Result (List LinkAttribute) Cause) (left : List Item) (len : ℕ)
    (empty : Bool) : Type 0 where
  pub weighing : Weighing (attribute_place family).reads (λ v. canon (attribute_frame v)) AttributeFits whole left len
  pub ports : MatchBool empty (AllByRecursion NotEmptyPorts weighing.front → ⊥)
      (AllByRecursion NotEmptyPorts weighing.front)

pub telling_starts : (family : AddressFamily) (b : List ℕ) (left : List Item) → left ≡ items b
    → Telling family (list_of (attribute_place family).reads b) left 0 false
telling_starts family b left left_is = record {
  weighing = record {
    front = [];
    so_far = ap (λ (xs : List Item). with_front [] (read_items (attribute_place family).reads xs)) left_is
        ∙ items_start (attribute_place family).reads b;
    fit = tt;
    len_is = refl;
    counted = omega arith;
  };
  ports = tt;
}

module _ (family : AddressFamily) (whole : Result (List LinkAttribute) Cause) (left : List Item) (len : ℕ)
    (empty : Bool)
    (h : Telling family whole left len empty) (f : Frame) (rest : List Item) (left_is : left ≡ Ok f ∷ rest)
    (v : LinkAttribute) (reads : (attribute_place family).reads f ≡ Ok v) where
  -- none of the attributes up to this one is an empty list of ports
  abbrev AllPorts : Type 0
  AllPorts = AllByRecursion NotEmptyPorts (h.weighing.front ++ v ∷ [])

  telling_on : AttributeFits v → (new : ℕ) → new ≡ len + length (canon (attribute_frame v)) → new < 2 ^ 64
      → (answer : Bool) → MatchBool answer (AllPorts → ⊥) AllPorts → Telling family whole rest new answer
  telling_on fits new new_is small answer ports = record {
    weighing = record {
      front = h.weighing.front ++ v ∷ [];
      so_far = items_more (attribute_place family).reads h.weighing.front left whole h.weighing.so_far f rest v
          left_is reads;
      fit = all_more AttributeFits h.weighing.front v h.weighing.fit fits;
      len_is =
          omega (
            arith,
            new_is,
            h.weighing.len_is,
            length-append (flat_map (λ v. canon (attribute_frame v)) h.weighing.front) (canon (attribute_frame v)),
            ap (λ (t : List ℕ). length t) (flat_more (λ v. canon (attribute_frame v)) h.weighing.front v),
          );
      counted = small;
    };
    ports = ports;
  }

  ports_none : (value : ℕ) → value ≡ length (attribute_frame v).payload → (number f ≡ IFLA_VF_PORTS) × (value ≡ 0)
      → AllPorts → ⊥
  ports_none value size none all =
      no_ports family f v reads none.0 (sym size ∙ none.1) (all_here NotEmptyPorts h.weighing.front v [] all)

  ports_more : (value : ℕ) → value ≡ length (attribute_frame v).payload → IsFrame f
      → ((number f ≡ IFLA_VF_PORTS) × (value ≡ 0) → ⊥) → MatchBool empty (AllPorts → ⊥) AllPorts
  ports_more value size one never =
      let means = (attribute_lawful family).agrees.found f v one reads in
      let same : number (attribute_frame v) ≡ number f = attribute_number family f v means in
      next empty h.ports (some_ports v (λ k. never (sym same ∙ k.0, size ∙ k.1))) where
        next : (e : Bool) → MatchBool e (AllByRecursion NotEmptyPorts h.weighing.front
            → ⊥) (AllByRecursion NotEmptyPorts h.weighing.front)
            → NotEmptyPorts v → MatchBool e (AllPorts → ⊥) AllPorts
        next true never some = λ all. never (all_front NotEmptyPorts h.weighing.front v all)
        next false all some = all_more NotEmptyPorts h.weighing.front v all some

-- ** what is returned

pub list_weighs_none : (r : Result (List LinkAttribute) Cause) → Weighs (flat_map (λ v. canon (attribute_frame v)))
    (Counted (λ v. canon (attribute_frame v)) AttributeFits) r None → ListWeighs r None
list_weighs_none (Ok vs) w = w
list_weighs_none (Err c) w = tt

pub telling_ends : (family : AddressFamily) (whole : Result (List LinkAttribute) Cause) (left : List Item) (len : ℕ)
    (empty : Bool) → Telling family whole left len empty
    → left ≡ [] → ListWeighs whole (Some (len, empty))
telling_ends family whole left len empty h left_is =
    let w = h.weighing in
    let all_is : Ok w.front ≡ whole =
    ap (λ (vs : List LinkAttribute). Ok vs) (sym (append-nil w.front))
    ∙ ap (λ (xs : List Item). with_front w.front (read_items (attribute_place family).reads xs)) (sym left_is)
    ∙ w.so_far in
    subst (λ r. ListWeighs r (Some (len, empty))) all_is
    ((w.fit, omega (arith, w.len_is, w.counted)), w.len_is, h.ports)

-- ** one more attribute

weighed : (r : Result LinkAttribute Cause) (n : ℕ) → Weighs (λ v. (attribute_frame v).payload) AttributeFits r (Some n)
    → (v : LinkAttribute) × (r ≡ Ok v) × AttributeFits v × (n ≡ length (attribute_frame v).payload)
weighed (Ok v) n w = (v, refl, w.0, w.1)
weighed (Err c) n w = absurd w

module _ (family : AddressFamily) (whole : Result (List LinkAttribute) Cause) (left : List Item) (len : ℕ)
    (empty : Bool) (h : Telling family whole left len empty)
    (f : Frame) (rest : List Item) (left_is : left ≡ Ok f ∷ rest) (one : IsFrame f) (value : ℕ)
    (w : Weighs (λ v. (attribute_frame v).payload) AttributeFits ((attribute_place family).reads f) (Some value))
    (padded new : ℕ) (padded_is : padded ≡ 4 + value + missing value) (new_is : new ≡ len + padded)
    (small : new < 2 ^ 64) where
  read_one : (v : LinkAttribute) × ((attribute_place family).reads f ≡ Ok v) × AttributeFits v
      × (value ≡ length (attribute_frame v).payload)
  read_one = weighed ((attribute_place family).reads f) value w

  counted : new ≡ len + length (canon (attribute_frame read_one.0))
  counted =
      omega (arith, new_is, padded_is, read_one.3, ap missing read_one.3, length-canon (attribute_frame read_one.0))

  pub telling_none : (number f ≡ IFLA_VF_PORTS) × (value ≡ 0) → Telling family whole rest new true
  telling_none none =
      telling_on family whole left len empty h f rest left_is read_one.0 read_one.1 read_one.2 new counted small true
      (ports_none family whole left len empty h f rest left_is read_one.0 read_one.1 value read_one.3 none)

  pub telling_some : ((number f ≡ IFLA_VF_PORTS) × (value ≡ 0) → ⊥) → Telling family whole rest new empty
  telling_some never =
      telling_on family whole left len empty h f rest left_is read_one.0 read_one.1 read_one.2 new counted small empty
      (ports_more family whole left len empty h f rest left_is read_one.0 read_one.1 value read_one.3 one never)

-- ** a frame that is its own text

-- what is known of the value of a frame that is not an empty list of ports, and is as long as its text
pub own_text : (family : AddressFamily) (f : Frame) → IsFrame f
    → Weighs (λ v. (attribute_frame v).payload) AttributeFits ((attribute_place family).reads f)
    (Some (length f.payload))
    → ((v : LinkAttribute) → (attribute_place family).reads f ≡ Ok v → attribute_text v ≡ canon f)
    → ((number f ≡ IFLA_VF_PORTS) × (length f.payload ≡ 0) → ⊥) → IsOwnText family f
own_text family f one w same never =
    let k = weighed ((attribute_place family).reads f) (length f.payload) w in
    let means = (attribute_lawful family).agrees.found f k.0 one k.1 in
    let number_is : number (attribute_frame k.0) ≡ number f = attribute_number family f k.0 means in
    (k.0, k.1, (k.2, some_ports k.0 (λ n. never (sym number_is ∙ n.0, k.3 ∙ n.1))), same k.0 k.1)

-- ** the prefix, and what stands after it

fits_all : (vs : List LinkAttribute) → AllByRecursion CanBeWritten vs → AllByRecursion AttributeFits vs
fits_all [] all = tt
fits_all (v ∷ vs) all = (all.0.0, fits_all vs all.1)

ports_all : (vs : List LinkAttribute) → AllByRecursion CanBeWritten vs → AllByRecursion NotEmptyPorts vs
ports_all [] all = tt
ports_all (v ∷ vs) all = (all.0.1, ports_all vs all.1)

module _ (family : AddressFamily) (b : List ℕ) (prefix : ℕ) (h : IsCopiedPrefix family b prefix) where
  abbrev reads_rest : Result (List LinkAttribute) Cause
  reads_rest = list_of (attribute_place family).reads (drop prefix b)

  abbrev reads_all : Result (List LinkAttribute) Cause
  reads_all = list_of (attribute_place family).reads b

  whole : (r : Result (List LinkAttribute) Cause) → reads_rest ≡ r → reads_all ≡ with_front h.0.front r
  whole = whole_from (attribute_place family).reads attribute_text b prefix h.0

  sizes : (others : List LinkAttribute) → length (canons attribute_frame (h.0.front ++ others))
      ≡ prefix + length (canons attribute_frame others)
  sizes = prefix_sizes (attribute_place family).reads attribute_text b prefix h.0

  ports_both : (others : List LinkAttribute) (empty : Bool)
      → MatchBool empty (AllByRecursion NotEmptyPorts others → ⊥) (AllByRecursion NotEmptyPorts others)
      → MatchBool empty (AllByRecursion NotEmptyPorts (h.0.front ++ others) → ⊥)
      (AllByRecursion NotEmptyPorts (h.0.front ++ others))
  ports_both others true never = λ all. never (all_after NotEmptyPorts h.0.front others all)
  ports_both others false all = all_both NotEmptyPorts h.0.front others (ports_all h.0.front h.1) all

  some_by : (r : Result (List LinkAttribute) Cause) → reads_rest ≡ r → (after : ℕ) (empty : Bool)
      → ListWeighs r (Some (after, empty)) → prefix + after < 2 ^ 64
      → ListWeighs reads_all (Some (prefix + after, empty))
  some_by (Ok others) e after empty w small =
      let size = sizes others in
      subst (λ r. ListWeighs r (Some (prefix + after, empty))) (sym (whole (Ok others) e)) (
        (
          all_both AttributeFits h.0.front others (fits_all h.0.front h.1) w.0.0,
          omega (arith, size, w.1, small),
        ),
        omega (arith, size, w.1),
        ports_both others empty w.2,
      )
  some_by (Err c) e after empty w small = absurd w

  none_by : (r : Result (List LinkAttribute) Cause) → reads_rest ≡ r → ListWeighs r None → ListWeighs reads_all None
  none_by (Ok others) e unfit =
      subst (λ r. ListWeighs r None) (sym (whole (Ok others) e))
      (λ fits. unfit (all_after AttributeFits h.0.front others fits.0, omega (arith, fits.1, sizes others)))
  none_by (Err c) e unfit = subst (λ r. ListWeighs r None) (sym (whole (Err c) e)) tt

  long_by : (r : Result (List LinkAttribute) Cause) → reads_rest ≡ r → (after : ℕ) (empty : Bool)
      → ListWeighs r (Some (after, empty)) → (prefix + after < 2 ^ 64 → ⊥) → ListWeighs reads_all None
  long_by (Ok others) e after empty w long =
      subst (λ r. ListWeighs r None) (sym (whole (Ok others) e))
      (λ fits. long (omega (arith, fits.1, sizes others, w.1)))
  long_by (Err c) e after empty w long = absurd w

  module _ (rest : List ℕ) (rest_is : rest ≡ drop prefix b) where
    rest_reads : reads_rest ≡ list_of (attribute_place family).reads rest
    rest_reads = ap (list_of (attribute_place family).reads) (sym rest_is)

    pub prefix_some : (after : ℕ) (empty : Bool)
        → ListWeighs ((list (attribute_place family)).reads rest) (Some (after, empty)) → (total : ℕ)
        → total ≡ prefix + after → total < 2 ^ 64 → ListMeasures family b (Some (total, empty, prefix))
    prefix_some after empty w total total_is small = (
      subst (λ n. ListWeighs reads_all (Some (n, empty))) (sym total_is)
          (some_by (list_of (attribute_place family).reads rest) rest_reads after empty w
          (omega (arith, total_is, small))),
      h.0,
    )

    pub prefix_none : ListWeighs ((list (attribute_place family)).reads rest) None → ListMeasures family b None
    prefix_none w = none_by (list_of (attribute_place family).reads rest) rest_reads w

    pub prefix_long : (after : ℕ) (empty : Bool)
        → ListWeighs ((list (attribute_place family)).reads rest) (Some (after, empty))
        → (prefix + after < 2 ^ 64 → ⊥) → ListMeasures family b None
    prefix_long after empty w long =
        long_by (list_of (attribute_place family).reads rest) rest_reads after empty w long
