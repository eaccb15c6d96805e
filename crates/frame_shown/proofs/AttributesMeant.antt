-- What is shown of the attributes of a link is of what they mean: a line for each row of the table.
use Rattle.std.proofs.Common.{◌≡◌, ℕ, ℤ, ◌==◌, ◌<◌, ◌^◌, Bool, true, false, cond, not, List, length}
use Rattle.std.proofs.Common.{refl, sym, ap, subst, ◌∙◌, eq-eqb}
use Rattle.std.specs.Prelude.{Option, None, Some}
use Rattle.std.specs.Int.{w8, w16, w32}
use lib.Dec.{T}
use Rattle.link_info.specs.declared.place.Place.TheVariants as Places
use Rattle.link_info.specs.declared.style.Size.TheVariants as Sizes
use Rattle.link_msg.specs.Tables.{NotEmptyPorts, attribute_table}
use Rattle.link_msg.specs.Tables.{base, is_true}
use Rattle.link_msg.specs.contracts.attribute.LinkAttribute.{enum as attributes}
use Rattle.link_msg.specs.declared.attribute.LinkAttribute.{LinkAttribute}
use Rattle.link_msg.specs.declared.attribute.LinkAttribute.TheVariants as Attributes
use Rattle.link_nest.specs.Tables.{devlink_port_place, down_reason_place, dpll_pin_place, link_info_place, prop_place}
use Rattle.link_nest.specs.Tables.{xdp_place}
use Rattle.link_nest.specs.Wireless.{wireless_event}
use Rattle.link_recs.specs.MapFields.{map_of, map_size}
use Rattle.link_recs.specs.Stats64Fields.{stats64_of}
use Rattle.link_recs.specs.StatsFields.{stats_of}
use Rattle.link_vals.proofs.ExtentSums.{sums_back}
use Rattle.link_vals.proofs.Numbers.{link_event_again, link_mode_again, state_again}
use Rattle.link_vals.specs.LinkEventTable.{link_event_of, link_event_number}
use Rattle.link_vals.specs.LinkExtentMaskTable.{ext_list, ext_sum}
use Rattle.link_vals.specs.LinkModeTable.{link_mode_of, link_mode_number}
use Rattle.link_vals.specs.LinkPhysIdBytes.{phys_id_of}
use Rattle.link_vals.specs.StateTable.{state_of, state_number}
use Rattle.link_vf.specs.Tables.{link_vf_info_place, link_vf_port_of, link_vf_port_place, vf_port_place}
use Rattle.nla_wire.proofs.FieldLemmas.{from_le_bytes_below}
use Rattle.nla_wire.specs.Frames.{Frame, number}
use Rattle.nla_wire.specs.Grammar.{Grammar, as_a, by_payload, list, not_empty, picked}
use Rattle.nla_wire.specs.Payloads as payload
use Rattle.frame_shown.specs.Frames.{frame_item, levels}
use Rattle.frame_shown.specs.Items.{Item}
use Rattle.frame_shown.specs.Tables.{is_kept_form, row_in}
use Rattle.frame_shown.specs.Values.{Nesting, form_shown, number_tokens}
use Rattle.frame_shown.specs.declared.form.Around.{Around}
use Rattle.frame_shown.specs.declared.form.Bits.TheVariants as Masks
use Rattle.frame_shown.specs.declared.form.Choice.TheVariants as Choices
use Rattle.frame_shown.specs.declared.form.Form.{Form}
use Rattle.frame_shown.specs.declared.form.Form.TheVariants as Forms
use Rattle.frame_shown.specs.declared.form.Group.TheVariants as Groups
use Rattle.frame_shown.specs.declared.form.List.TheVariants as Shapes
use Rattle.frame_shown.specs.declared.form.Record.TheVariants as Records
use Rattle.frame_shown.specs.declared.form.Table.TheVariants as Tables
use Rattle.frame_shown.specs.declared.form.Way.TheVariants as Ways
use Rattle.frame_shown.specs.declared.form.Words.TheVariants as Counts
use Rattle.frame_shown.proofs.Alike.{OfMeaning, OfNumber, OneToOne, TableOf, through, unless_empty}
use Rattle.frame_shown.proofs.InnerMeant.{info_alike, pins_alike, ports_alike, props_alike, reasons_alike, xdps_alike}
use Rattle.frame_shown.proofs.ListsMeant.{function_list, own_port, port_list}
use Rattle.frame_shown.proofs.RecordsMeant.{records_meant}
use Rattle.frame_shown.proofs.Rows.{◌&◌, bytes_alike, bytes_four, bytes_one, choices, named_list, number_row, own_list}
use Rattle.frame_shown.proofs.Rows.{shown_alike, signed_four, texts}
use Rattle.frame_shown.proofs.ValuesMeant.{values_meant}

-- ** payloads of this table alone

masks_alike : (nest : Nesting) (cx : Around)
    → OfMeaning (as_a ext_list (payload.number_of w32)) (form_shown nest cx (Forms.Flags Masks.ExtMask))
masks_alike nest cx =
    through (payload.number_of w32) (form_shown nest cx (Forms.Flags Masks.ExtMask)) ext_list ext_sum
    (λ p n small means. sums_back n
    (subst (λ k. k < 2 ^ 32) (sym means.1) (from_le_bytes_below w32 p small)))
    (shown_alike (payload.number_of w32) (form_shown nest cx (Forms.Flags Masks.ExtMask)) _
    ((values_meant nest cx).flags Masks.ExtMask))

events_alike : (nest : Nesting) (cx : Around)
    → OfMeaning (as_a link_event_of (payload.number_of w32)) (form_shown nest cx (Forms.Choice Choices.Event))
events_alike nest cx =
    through (payload.number_of w32) (form_shown nest cx (Forms.Choice Choices.Event)) link_event_of link_event_number
    (λ p n small means. link_event_again n)
    (shown_alike (payload.number_of w32) (form_shown nest cx (Forms.Choice Choices.Event)) _
    (values_meant nest cx).events)

abbrev off : ℕ
off = 0

abbrev on : ℕ
on = 1

one_truth : (b c : Bool) → not b ≡ not c → cond b off on ≡ cond c off on
one_truth true true is = refl
one_truth true false is = absurd (subst T (sym is) tt)
one_truth false true is = absurd (subst T is tt)
one_truth false false is = refl

truths_alike : (nest : Nesting) (cx : Around)
    → OfMeaning (as_a is_true (payload.number_of w8)) (form_shown nest cx Forms.Truth)
truths_alike nest cx p q v small_p small_q a b =
    (values_meant nest cx).truths p a.0 small_p a.1
    ∙ ap number_tokens (one_truth (a.0 == 0) (b.0 == 0) (sym a.2 ∙ b.2))
    ∙ sym ((values_meant nest cx).truths q b.0 small_q b.1)

-- ** rows

-- how long the payload is of an attribute of number 1
abbrev pub len_at : Frame → Option ℕ
len_at f = cond (number f == 1) (Some (length f.payload)) None

-- what an attribute is shown as, and how long the address is
abbrev pub said_of : Nesting → Around → ℕ → Frame → Item × Option ℕ
said_of nest cx family f = (frame_item nest cx (Shapes.Message family) f, len_at f)

no_len : (n : ℕ) (f : Frame) → (n == 1) ≡ false → number f ≡ n → len_at f ≡ None
no_len n f other is = ap (λ k. cond (k == 1) (Some (length f.payload)) None) is
    ∙ ap (λ b. cond b (Some (length f.payload)) None) other

module _ (nest : Nesting) (cx : Around) (family : ℕ) where
  pub other_row : (n : ℕ) (form : Form) (A V : Type 0) (g : Grammar (List ℕ) A) (variant : A → V)
      → (row_in cx (Shapes.Message family) n).1 ≡ Ways.Own form
      → ((p : List ℕ) (a : A) → g.means p a → is_kept_form form p ≡ false)
      → OfMeaning g (form_shown nest cx form) → (n == 1) ≡ false → OneToOne variant
      → OfNumber n (by_payload (as_a variant g)) (said_of nest cx family)
  other_row n form A V g variant row named h other one f k v f_is k_is number_f number_k a b =
      let item = number_row nest cx (Shapes.Message family) n form g variant row named h one f k v f_is k_is number_f
      number_k a b in
      let len : len_at f ≡ len_at k = no_len n f other number_f ∙ sym (no_len n k other number_k) in
      λ i. (item i, len i)

  row : (n : ℕ) (form : Form) (A V : Type 0) (g : Grammar (List ℕ) A) (variant : A → V)
      → (row_in cx (Shapes.Message family) n).1 ≡ Ways.Own form → ((p : List ℕ) → is_kept_form form p ≡ false)
      → OfMeaning g (form_shown nest cx form) → (n == 1) ≡ false → OneToOne variant
      → OfNumber n (by_payload (as_a variant g)) (said_of nest cx family) × Unit {0}
  row n form A V g variant is named h other one =
      (other_row n form A V g variant is (λ p a m. named p) h other one, tt)

  exact_row : (n : ℕ) (V : Type 0) (variant : ℕ → V)
      → (row_in cx (Shapes.Message family) n).1 ≡ Ways.Own (Forms.Exact Sizes.Two) → (n == 1) ≡ false
      → OneToOne variant
      → OfNumber n (by_payload (as_a variant (payload.number_of w16))) (said_of nest cx family) × Unit {0}
  exact_row n V variant is other one = (
    other_row n (Forms.Exact Sizes.Two) ℕ V (payload.number_of w16) variant is
        (λ p k means. ap not (eq-eqb (length p) 2 means.0))
        (shown_alike (payload.number_of w16) (form_shown nest cx (Forms.Exact Sizes.Two)) number_tokens
        ((values_meant nest cx).exact Sizes.Two)) other one,
    tt,
  )

  first_address : OneToOne Attributes.Address
      → OfNumber 1 (by_payload (as_a Attributes.Address payload.bytes)) (said_of nest cx family)
  first_address one f k v f_is k_is number_f number_k a b =
      let item = number_row nest cx (Shapes.Message family) 1 Forms.Address payload.bytes Attributes.Address refl
      (λ p c m. refl) (bytes_alike (form_shown nest cx Forms.Address)) one f k v f_is k_is number_f number_k a b in
      let payloads : f.payload ≡ k.payload = sym a.1 ∙ one a.0 b.0 (sym a.2 ∙ b.2) ∙ b.1 in
      let len : len_at f ≡ len_at k =
      ap (λ m. cond (m == 1) (Some (length f.payload)) None) (number_f ∙ sym number_k)
      ∙ ap (λ (p : List ℕ). cond (number k == 1) (Some (length p)) None) payloads in
      λ i. (item i, len i)

  -- a line by a row of this form
  abbrev RowOf : (n : ℕ) (form : Form) {A : Type 0} (g : Grammar (List ℕ) A) (variant : A → LinkAttribute) → Type 0
  RowOf n form g variant =
      (row_in cx (Shapes.Message family) n).1 ≡ Ways.Own form → (n == 1) ≡ false → OneToOne variant
      → OfNumber n (by_payload (as_a variant g)) (said_of nest cx family) × Unit {0}

  u8 : (n : ℕ) (variant : ℕ → LinkAttribute) → RowOf n (Forms.Number Sizes.One) (payload.number_of w8) variant
  u8 n variant is = row n (Forms.Number Sizes.One) ℕ LinkAttribute (payload.number_of w8) variant is (λ p. refl)
      (bytes_one nest cx)

  u32 : (n : ℕ) (variant : ℕ → LinkAttribute) → RowOf n (Forms.Number Sizes.Four) (payload.number_of w32) variant
  u32 n variant is = row n (Forms.Number Sizes.Four) ℕ LinkAttribute (payload.number_of w32) variant is (λ p. refl)
      (bytes_four nest cx)

  i32 : (n : ℕ) (variant : ℤ → LinkAttribute) → RowOf n Forms.Signed (payload.signed_of w32) variant
  i32 n variant is = row n Forms.Signed ℤ LinkAttribute (payload.signed_of w32) variant is (λ p. refl)
      (signed_four nest cx)

  words : (n : ℕ) (variant : List ℕ → LinkAttribute) → RowOf n Forms.Text payload.text variant
  words n variant is = row n Forms.Text (List ℕ) LinkAttribute payload.text variant is (λ p. refl) (texts nest cx)

  octets : (n : ℕ) (variant : List ℕ → LinkAttribute) → RowOf n Forms.Address payload.bytes variant
  octets n variant is = row n Forms.Address (List ℕ) LinkAttribute payload.bytes variant is (λ p. refl)
      (bytes_alike (form_shown nest cx Forms.Address))

-- the table, five levels deep
pub attributes_alike : (cx : Around) (family : ℕ)
    → TableOf base attributes NotEmptyPorts attribute_table (said_of (levels 5 cx) cx family)
attributes_alike cx family =
    let nest = levels 5 cx in
    let at = row nest cx family in
    let u8 = u8 nest cx family in
    let u32 = u32 nest cx family in
    let i32 = i32 nest cx family in
    let words = words nest cx family in
    let octets = octets nest cx family in
    ((λ one. (first_address nest cx family one, tt))
    & octets 2 Attributes.Broadcast refl refl
    & words 3 Attributes.IfName refl refl
    & u32 4 Attributes.Mtu refl refl
    & u32 5 Attributes.Link refl refl
    & words 6 Attributes.Qdisc refl refl
    & at 7 (Forms.Counters Counts.Stats) _ _ (payload.filled stats_of) Attributes.Stats refl (λ p. refl)
    (shown_alike (payload.filled stats_of) (form_shown nest cx (Forms.Counters Counts.Stats)) _ (records_meant nest
    cx).stats) refl
    & u32 10 Attributes.Controller refl refl
    & at 11 Forms.Wireless _ _ wireless_event Attributes.Wireless refl (λ p. refl) (shown_alike wireless_event
    (form_shown nest cx Forms.Wireless) _ (values_meant nest cx).wireless) refl
    & (λ one. tt)
    & (λ one. tt)
    & (λ one. tt)
    & u32 13 Attributes.TxQueueLen refl refl
    & at 14 (Forms.Record Records.Map) _ _ (payload.sized map_size map_of) Attributes.Map refl (λ p. refl)
    (shown_alike (payload.sized map_size map_of) (form_shown nest cx (Forms.Record Records.Map)) _ (records_meant
    nest cx).maps) refl
    & at 16 (Forms.Choice Choices.OperState) _ _ (as_a state_of (payload.number_of w8)) Attributes.OperState refl (λ
    p. refl) (choices nest cx Choices.OperState (λ h. h) state_of state_number state_again) refl
    & at 17 (Forms.Choice Choices.LinkMode) _ _ (as_a link_mode_of (payload.number_of w8)) Attributes.Mode refl (λ
    p. refl) (choices nest cx Choices.LinkMode (λ h. h) link_mode_of link_mode_number link_mode_again) refl
    & at 18 Forms.Info _ _ (not_empty (list link_info_place.grammar)) Attributes.LinkInfo refl (λ p. refl)
    (info_alike 4 cx) refl
    & u32 19 Attributes.NetNsPid refl refl
    & words 20 Attributes.IfAlias refl refl
    & u32 21 Attributes.NumVf refl refl
    & at 22 (Forms.List (Shapes.Entries Groups.Info)) _ _ (picked link_vf_info_place.grammar) Attributes.VfInfoList
    refl (λ p. refl) (function_list 3 cx) refl
    & at 23 (Forms.Counters Counts.Stats64) _ _ (payload.filled stats64_of) Attributes.Stats64 refl (λ p. refl)
    (shown_alike (payload.filled stats64_of) (form_shown nest cx (Forms.Counters Counts.Stats64)) _ (records_meant
    nest cx).stats64) refl
    & at 24 (Forms.List (Shapes.Entries Groups.Port)) _ _ (not_empty (picked link_vf_port_place.grammar))
    Attributes.VfPorts refl (λ p. refl) (port_list 4 cx) refl
    & at 25 (Forms.List (Shapes.Of Places.Port)) _ _ (as_a link_vf_port_of (not_empty (list vf_port_place.grammar)))
    Attributes.PortSelf refl (λ p. refl) (own_port 4 cx) refl
    & (λ one. tt)
    & (λ one. tt)
    & (λ one. tt)
    & u32 27 Attributes.Group refl refl
    & i32 28 Attributes.NetNsFd refl refl
    & at 29 (Forms.Flags Masks.ExtMask) _ _ (as_a ext_list (payload.number_of w32)) Attributes.ExtMask refl (λ p.
    refl) (masks_alike nest cx) refl
    & u32 30 Attributes.Promiscuity refl refl
    & u32 31 Attributes.NumTxQueues refl refl
    & u32 32 Attributes.NumRxQueues refl refl
    & u8 33 Attributes.Carrier refl refl
    & at 34 Forms.Id _ _ (payload.filled phys_id_of) Attributes.PhysPortId refl (λ p. refl) (shown_alike
    (payload.filled phys_id_of) (form_shown nest cx Forms.Id) _ (values_meant nest cx).ids) refl
    & u32 35 Attributes.CarrierChanges refl refl
    & at 36 Forms.Id _ _ (payload.filled phys_id_of) Attributes.PhysSwitchId refl (λ p. refl) (shown_alike
    (payload.filled phys_id_of) (form_shown nest cx Forms.Id) _ (values_meant nest cx).ids) refl
    & i32 37 Attributes.LinkNetNsId refl refl
    & words 38 Attributes.PhysPortName refl refl
    & u8 39 Attributes.ProtoDown refl refl
    & u32 40 Attributes.GsoMaxSegs refl refl
    & u32 41 Attributes.GsoMaxSize refl refl
    & at 43 (Forms.List (Shapes.Own Tables.Xdp)) _ _ (not_empty (list xdp_place.grammar)) Attributes.Xdp refl (λ p.
    refl) (unless_empty (list xdp_place.grammar) (form_shown nest cx (Forms.List (Shapes.Own Tables.Xdp))) (own_list
    4 cx xdp_place.grammar Tables.Xdp (xdps_alike (levels 4 cx) cx))) refl
    & at 44 (Forms.Choice Choices.Event) _ _ (as_a link_event_of (payload.number_of w32)) Attributes.Event refl (λ
    p. refl) (events_alike nest cx) refl
    & i32 45 Attributes.NewNetnsId refl refl
    & i32 46 Attributes.IfNetnsId refl refl
    & u32 47 Attributes.CarrierUpCount refl refl
    & u32 48 Attributes.CarrierDownCount refl refl
    & i32 49 Attributes.NewIfIndex refl refl
    & u32 50 Attributes.MinMtu refl refl
    & u32 51 Attributes.MaxMtu refl refl
    & at 52 (Forms.List (Shapes.Listed Groups.AltIfname Tables.Props)) _ _ (list prop_place.grammar)
    Attributes.PropList refl (λ p. refl) (named_list 4 cx prop_place.grammar Groups.AltIfname Tables.Props
    (props_alike (levels 4 cx) cx)) refl
    & octets 54 Attributes.PermAddress refl refl
    & at 55 (Forms.List (Shapes.Own Tables.DownReason)) _ _ (list down_reason_place.grammar)
    Attributes.ProtoDownReason refl (λ p. refl) (own_list 4 cx down_reason_place.grammar Tables.DownReason
    (reasons_alike (levels 4 cx) cx)) refl
    & words 56 Attributes.ParentDevName refl refl
    & words 57 Attributes.ParentDevBusName refl refl
    & u32 58 Attributes.GroMaxSize refl refl
    & u32 59 Attributes.TsoMaxSize refl refl
    & u32 60 Attributes.TsoMaxSegs refl refl
    & u32 61 Attributes.AllMulticast refl refl
    & at 62 (Forms.List (Shapes.Own Tables.DevlinkPort)) _ _ (list devlink_port_place.grammar)
    Attributes.DevlinkPort refl (λ p. refl) (own_list 4 cx devlink_port_place.grammar Tables.DevlinkPort
    (ports_alike (levels 4 cx) cx)) refl
    & u32 63 Attributes.GsoIpv4MaxSize refl refl
    & u32 64 Attributes.GroIpv4MaxSize refl refl
    & at 65 (Forms.List (Shapes.Own Tables.DpllPin)) _ _ (list dpll_pin_place.grammar) Attributes.DpllPin refl (λ p.
    refl) (own_list 4 cx dpll_pin_place.grammar Tables.DpllPin (pins_alike (levels 4 cx) cx)) refl
    & at 67 Forms.Truth _ _ (as_a is_true (payload.number_of w8)) Attributes.NetnsImmutable refl (λ p. refl)
    (truths_alike nest cx) refl
    & exact_row nest cx family 68 LinkAttribute Attributes.Headroom refl refl
    & exact_row nest cx family 69 LinkAttribute Attributes.Tailroom refl refl
    & (λ one. tt)
    & tt)
