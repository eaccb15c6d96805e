-- The tree of a message's attributes is sound: a payload that is refused, and that is a list with a fault, is refused
-- for that fault.
use Rattle.std.proofs.Common.{◌≡◌, ℕ, ◌<◌, ◌==◌, List, [], ◌∷◌, ◌⊎◌, inl, inr, length, refl, sym}
use Rattle.std.proofs.Common.{◌∙◌, arith, eqb-true, Bool, true, false, not, Option, Some, None}
use Rattle.nla_wire.specs.Frames.{Frame, number, IsFrame}
use Rattle.nla_wire.specs.Grammar.{Grammar, Agrees, First, FirstAfter, as_a, undecoded, if_true, is_one}
use Rattle.nla_wire.specs.Grammar.{some_if_picked}
use Rattle.nla_wire.specs.declared.error.Cause.{Cause}
use Rattle.nla_wire.specs.declared.error.Cause.TheVariants.{EmptyList}
use Rattle.nla_wire.proofs.Tables.{Way, Kept, Own}
use Rattle.nla_wire.proofs.Tables as tables
use Rattle.link_vals.specs.declared.address_family.AddressFamily.{AddressFamily}
use Rattle.link_nest.specs.Tables.{prop_place, devlink_port_place, dpll_pin_place, down_reason_place, xdp_place}
use Rattle.link_nest.specs.Tables.{link_info_place}
use Rattle.link_vf.specs.Tables.{vf_stats_place, vf_vlan_place, vf_info_place, vf_port_place, link_vf_info_place}
use Rattle.link_vf.specs.Tables.{link_vf_port_place}
use Rattle.link_vf.specs.declared.numbers.TheConstants.{IFLA_VF_STATS, IFLA_VF_VLAN_LIST}
use Rattle.link_afspec.specs.Tables.{af_spec_unspec_place, af_spec_bridge_place, link_proto_info_bridge_place}
use Rattle.link_afspec.specs.Tables.{link_proto_info_inet6_place, af_spec_inet_place, af_spec_inet6_place}
use Rattle.link_afspec.specs.Tables.{af_spec_mctp_place}
use Rattle.link_afspec.specs.declared.numbers.TheConstants.{AF_INET, AF_INET6, AF_MCTP}
use Rattle.link_msg.specs.Tables.{base, attribute_place, attribute_way, attribute_lawful}
use Rattle.link_msg.specs.declared.shape.Shape.{Shape}
use Rattle.link_msg.specs.declared.shape.Shape.TheVariants as Shapes
use Rattle.link_msg.specs.Nested.{Inside, choose, Accepts, Refuses, of_place, leaves, in_vf_info, in_function}
use Rattle.link_msg.specs.Nested.{in_functions, in_port, in_ports, in_family, in_families, in_shape, in_way}
use Rattle.link_msg.specs.Nested.{in_attribute, outermost}
use Rattle.link_msg.specs.Nested.Inside.{Flat}
use Rattle.link_msg.specs.FaultAt.{IsFirstFault, FaultIn}
use Rattle.link_msg.proofs.Shaped.{shape_refuses}
use Rattle.link_msg.proofs.FirstFaults.{After, by_frames}
use Rattle.link_msg.proofs.Innermost.{IsSound, innermost_inside}

-- ** the first fault of a list is that of the grammar

module _ {V : Type 0} (place : Grammar Frame V) where
  first_of_all : (b : List ℕ) (fs : List Frame) (frame : Option Frame) (c : Cause) (n : ℕ)
      → After (Accepts false place) (Refuses false place) b fs frame c n → FirstAfter place b fs c
  first_of_all b [] None c n h = inl h.0
  first_of_all b [] (Some f) c n h = inr (f, h.0.0, h.0.1, h.0.2.1)
  first_of_all b (f ∷ fs) frame c n h = (h.0, h.1, h.2 refl, first_of_all h.0 fs frame c h.3 h.4)

  pub first_there : (b : List ℕ) (c : Cause) (at : ℕ) (frame : Option Frame)
      → IsFirstFault (Accepts false place) (Refuses false place) b c at frame → First place b c
  first_there b c at frame h = (
    h.frames,
    first_of_all b h.frames frame c at (by_frames (Accepts false place) (Refuses false place) b c at frame h),
  )

  pub first_of : (inside : Frame → Inside) (b : List ℕ) (c : Cause) (at : ℕ) (numbers : List ℕ)
      → FaultIn (of_place false place inside) b c at numbers → First place b c
  first_of inside b c at numbers h = first_there b c h.0 h.1 h.2

  picked_value : (f : Frame) (t : Bool) → (not t ≡ false → (v : V) × place.means f v)
      → (o : Option V) × (if_true t (as_a (λ (v : V). Some v) place) (undecoded (λ f. None))).means f o
  picked_value f true h = let v = h refl in (Some v.0, (v.0, v.1, refl))
  picked_value f false h = (None, refl)

  picked_refused : (f : Frame) (c : Cause) (t : Bool) → not t ≡ false → place.bad f c
      → (if_true t (as_a (λ (v : V). Some v) place) (undecoded (λ f. None))).bad f c
  picked_refused f c true h bad = bad
  picked_refused f c false h bad = absurd cc

  first_of_ones : (b : List ℕ) (fs : List Frame) (frame : Option Frame) (c : Cause) (n : ℕ)
      → After (Accepts true place) (Refuses true place) b fs frame c n → FirstAfter (some_if_picked place) b fs c
  first_of_ones b [] None c n h = inl h.0
  first_of_ones b [] (Some f) c n h =
      inr (f, h.0.0, h.0.1, picked_refused f c (is_one f) h.0.2.0 h.0.2.1)
  first_of_ones b (f ∷ fs) frame c n h =
      (h.0, h.1, picked_value f (is_one f) h.2, first_of_ones h.0 fs frame c h.3 h.4)

  pub first_picked : (inside : Frame → Inside) (b : List ℕ) (c : Cause) (at : ℕ) (numbers : List ℕ)
      → FaultIn (of_place true place inside) b c at numbers → First (some_if_picked place) b c
  first_picked inside b c at numbers h = (
    h.2.frames,
    first_of_ones b h.2.frames h.1 c h.0 (by_frames (Accepts true place) (Refuses true place) b c h.0 h.1 h.2),
  )

-- ** a place whose lists are sound

module _ {V : Type 0} (picks : Bool) (place : Grammar Frame V) (agrees : Agrees IsFrame place) where
  both_ways : (f : Frame) (c : Cause) → Accepts picks place f → Refuses picks place f c → ⊥
  both_ways f c accepts refuses =
      let v = accepts refuses.0 in
      let clash = sym (agrees.only f v.0 v.1) ∙ agrees.refused f c refuses.1 in absurd cc

  refused_once : (f : Frame) (c d : Cause) → place.bad f c → place.bad f d → c ≡ d
  refused_once f c d h k = let same = sym (agrees.refused f c h) ∙ agrees.refused f d k in cc

  pub sound_place : (inside : Frame → Inside)
      → ((f : Frame) (c : Cause) (at : ℕ) (numbers : List ℕ) → IsFrame f
      → FaultIn (inside f) f.payload c at numbers → place.bad f c)
      → ((f : Frame) → IsSound (inside f))
      → IsSound (of_place picks place inside)
  sound_place inside below each = (
    λ f c one. both_ways f c,
    λ f c d one h k. refused_once f c d h.1 k.1,
    λ f c d at numbers one h deeper. refused_once f c d h.1 (below f d at numbers one deeper),
    each,
  )

  pub sound_leaves : IsSound (of_place picks place (λ f. Flat))
  sound_leaves = sound_place (λ f. Flat) (λ f c at numbers one h. absurd h) (λ f. tt)

-- ** virtual functions

stats_refused : (f : Frame) (c : Cause) → number f ≡ IFLA_VF_STATS → First vf_stats_place.grammar f.payload c
    → vf_info_place.grammar.bad f c
unfolding vf_info_place
stats_refused f c is first = rw is first

vlans_refused : (f : Frame) (c : Cause) → number f ≡ IFLA_VF_VLAN_LIST → First vf_vlan_place.grammar f.payload c
    → vf_info_place.grammar.bad f c
unfolding vf_info_place
vlans_refused f c is first = rw is first

module _ (f : Frame) (c : Cause) (at : ℕ) (numbers : List ℕ) where
  in_vf_info_vlans : (t : Bool) → (number f == IFLA_VF_VLAN_LIST) ≡ t
      → FaultIn (choose t (leaves vf_vlan_place.grammar) Flat) f.payload c at numbers → vf_info_place.grammar.bad f c
  in_vf_info_vlans true is h = vlans_refused f c (eqb-true (number f) IFLA_VF_VLAN_LIST is)
      (first_of vf_vlan_place.grammar (λ f. Flat) f.payload c at numbers h)
  in_vf_info_vlans false is h = absurd h

  in_vf_info_stats : (t : Bool) → (number f == IFLA_VF_STATS) ≡ t
      → FaultIn (choose t (leaves vf_stats_place.grammar)
      (choose (number f == IFLA_VF_VLAN_LIST) (leaves vf_vlan_place.grammar) Flat)) f.payload c at numbers
      → vf_info_place.grammar.bad f c
  in_vf_info_stats true is h = stats_refused f c (eqb-true (number f) IFLA_VF_STATS is)
      (first_of vf_stats_place.grammar (λ f. Flat) f.payload c at numbers h)
  in_vf_info_stats false is h = in_vf_info_vlans (number f == IFLA_VF_VLAN_LIST) refl h

  vf_info_refused : FaultIn (in_vf_info (number f)) f.payload c at numbers → vf_info_place.grammar.bad f c
  vf_info_refused h = in_vf_info_stats (number f == IFLA_VF_STATS) refl h

choose_sound : (t : Bool) (one other : Inside) → IsSound one → IsSound other → IsSound (choose t one other)
choose_sound true one other h k = h
choose_sound false one other h k = k

sound_stats : IsSound (leaves vf_stats_place.grammar)
sound_stats = sound_leaves false vf_stats_place.grammar vf_stats_place.lawful.agrees

sound_vlans : IsSound (leaves vf_vlan_place.grammar)
sound_vlans = sound_leaves false vf_vlan_place.grammar vf_vlan_place.lawful.agrees

sound_vf_info : (n : ℕ) → IsSound (in_vf_info n)
sound_vf_info n = choose_sound (n == IFLA_VF_STATS) (leaves vf_stats_place.grammar)
    (choose (n == IFLA_VF_VLAN_LIST) (leaves vf_vlan_place.grammar) Flat) sound_stats
    (choose_sound (n == IFLA_VF_VLAN_LIST) (leaves vf_vlan_place.grammar) Flat sound_vlans tt)

pub sound_function : IsSound in_function
sound_function = sound_place false vf_info_place.grammar vf_info_place.lawful.agrees (λ f. in_vf_info (number f))
    (λ f c at numbers one h. vf_info_refused f c at numbers h) (λ f. sound_vf_info (number f))

entry_refused : (f : Frame) (c : Cause) → 0 < length f.payload → First vf_info_place.grammar f.payload c
    → link_vf_info_place.grammar.bad f c
unfolding link_vf_info_place
entry_refused f c some first = inr (some, first)

pub sound_functions : IsSound in_functions
sound_functions = sound_place true link_vf_info_place.grammar link_vf_info_place.lawful.agrees (λ f. in_function)
    (λ f c at numbers one h. entry_refused f c (omega (arith, innermost_inside in_function f.payload c at numbers h))
    (first_of vf_info_place.grammar (λ f. in_vf_info (number f)) f.payload c at numbers h)) (λ f. sound_function)

-- ** ports

pub sound_port : IsSound in_port
sound_port = sound_leaves false vf_port_place.grammar vf_port_place.lawful.agrees

port_refused : (f : Frame) (c : Cause) → 0 < length f.payload → First vf_port_place.grammar f.payload c
    → link_vf_port_place.grammar.bad f c
unfolding link_vf_port_place
port_refused f c some first = inr (some, first)

pub sound_ports : IsSound in_ports
sound_ports = sound_place true link_vf_port_place.grammar link_vf_port_place.lawful.agrees (λ f. in_port)
    (λ f c at numbers one h. port_refused f c (omega (arith, innermost_inside in_port f.payload c at numbers h))
    (first_of vf_port_place.grammar (λ f. Flat) f.payload c at numbers h)) (λ f. sound_port)

-- ** settings by family

inet_refused : (f : Frame) (c : Cause) → number f ≡ AF_INET → 0 < length f.payload
    → First af_spec_inet_place.grammar f.payload c → af_spec_unspec_place.grammar.bad f c
unfolding af_spec_unspec_place
inet_refused f c is some first = rw is (inr (some, first))

inet6_refused : (f : Frame) (c : Cause) → number f ≡ AF_INET6 → 0 < length f.payload
    → First af_spec_inet6_place.grammar f.payload c → af_spec_unspec_place.grammar.bad f c
unfolding af_spec_unspec_place
inet6_refused f c is some first = rw is (inr (some, first))

mctp_refused : (f : Frame) (c : Cause) → number f ≡ AF_MCTP → 0 < length f.payload
    → First af_spec_mctp_place.grammar f.payload c → af_spec_unspec_place.grammar.bad f c
unfolding af_spec_unspec_place
mctp_refused f c is some first = rw is (inr (some, first))

module _ (f : Frame) (c : Cause) (at : ℕ) (numbers : List ℕ) where
  some_leaves : {V : Type 0} (place : Grammar Frame V) → FaultIn (leaves place) f.payload c at numbers
      → 0 < length f.payload
  some_leaves place h = omega (arith, innermost_inside (leaves place) f.payload c at numbers h)

  in_mctp : (t : Bool) → (number f == AF_MCTP) ≡ t
      → FaultIn (choose t (leaves af_spec_mctp_place.grammar) Flat) f.payload c at numbers
      → af_spec_unspec_place.grammar.bad f c
  in_mctp true is h = mctp_refused f c (eqb-true (number f) AF_MCTP is) (some_leaves af_spec_mctp_place.grammar h)
      (first_of af_spec_mctp_place.grammar (λ f. Flat) f.payload c at numbers h)
  in_mctp false is h = absurd h

  in_inet6 : (t : Bool) → (number f == AF_INET6) ≡ t
      → FaultIn (choose t (leaves af_spec_inet6_place.grammar)
      (choose (number f == AF_MCTP) (leaves af_spec_mctp_place.grammar) Flat)) f.payload c at numbers
      → af_spec_unspec_place.grammar.bad f c
  in_inet6 true is h = inet6_refused f c (eqb-true (number f) AF_INET6 is) (some_leaves af_spec_inet6_place.grammar h)
      (first_of af_spec_inet6_place.grammar (λ f. Flat) f.payload c at numbers h)
  in_inet6 false is h = in_mctp (number f == AF_MCTP) refl h

  in_inet : (t : Bool) → (number f == AF_INET) ≡ t
      → FaultIn (choose t (leaves af_spec_inet_place.grammar)
      (choose (number f == AF_INET6) (leaves af_spec_inet6_place.grammar)
      (choose (number f == AF_MCTP) (leaves af_spec_mctp_place.grammar) Flat))) f.payload c at numbers
      → af_spec_unspec_place.grammar.bad f c
  in_inet true is h = inet_refused f c (eqb-true (number f) AF_INET is) (some_leaves af_spec_inet_place.grammar h)
      (first_of af_spec_inet_place.grammar (λ f. Flat) f.payload c at numbers h)
  in_inet false is h = in_inet6 (number f == AF_INET6) refl h

sound_family : (n : ℕ) → IsSound (in_family n)
sound_family n = choose_sound (n == AF_INET) (leaves af_spec_inet_place.grammar) _
    (sound_leaves false af_spec_inet_place.grammar af_spec_inet_place.lawful.agrees)
    (choose_sound (n == AF_INET6) (leaves af_spec_inet6_place.grammar) _
    (sound_leaves false af_spec_inet6_place.grammar af_spec_inet6_place.lawful.agrees)
    (choose_sound (n == AF_MCTP) (leaves af_spec_mctp_place.grammar) Flat
    (sound_leaves false af_spec_mctp_place.grammar af_spec_mctp_place.lawful.agrees) tt))

pub sound_families : IsSound in_families
sound_families = sound_place false af_spec_unspec_place.grammar af_spec_unspec_place.lawful.agrees
    (λ f. in_family (number f)) (λ f c at numbers one h. in_inet f c at numbers (number f == AF_INET) refl h)
    (λ f. sound_family (number f))

-- ** attributes of a message

pub sound_shape : (s : Shape) → IsSound (in_shape s)
sound_shape Shapes.Port = sound_port
sound_shape Shapes.Infos = sound_leaves false link_info_place.grammar link_info_place.lawful.agrees
sound_shape Shapes.Functions = sound_functions
sound_shape Shapes.Ports = sound_ports
sound_shape Shapes.Xdps = sound_leaves false xdp_place.grammar xdp_place.lawful.agrees
sound_shape Shapes.Props = sound_leaves false prop_place.grammar prop_place.lawful.agrees
sound_shape Shapes.Reasons = sound_leaves false down_reason_place.grammar down_reason_place.lawful.agrees
sound_shape Shapes.DevlinkPorts = sound_leaves false devlink_port_place.grammar devlink_port_place.lawful.agrees
sound_shape Shapes.DpllPins = sound_leaves false dpll_pin_place.grammar dpll_pin_place.lawful.agrees
sound_shape Shapes.BridgeInfos =
    sound_leaves false link_proto_info_bridge_place.grammar link_proto_info_bridge_place.lawful.agrees
sound_shape Shapes.Inet6Infos =
    sound_leaves false link_proto_info_inet6_place.grammar link_proto_info_inet6_place.lawful.agrees
sound_shape Shapes.Bridges = sound_leaves false af_spec_bridge_place.grammar af_spec_bridge_place.lawful.agrees
sound_shape Shapes.Unspecs = sound_families
sound_shape _ = tt

sound_way : (w : Way Shape) → IsSound (in_way w)
sound_way Kept = tt
sound_way (tables.Shape s) = sound_shape s
sound_way Own = tt

module _ (p : List ℕ) (c : Cause) (at : ℕ) (numbers : List ℕ) where
  -- the list in a payload that is refused where it is empty
  some_of : {V : Type 0} (place : Grammar Frame V) (inside : Frame → Inside)
      → FaultIn (of_place false place inside) p c at numbers
      → ((p ≡ []) × (c ≡ EmptyList)) ⊎ ((0 < length p) × First place p c)
  some_of place inside h = inr (
    omega (arith, innermost_inside (of_place false place inside) p c at numbers h),
    first_of place inside p c at numbers h,
  )

  shape_refused : (s : Shape) → FaultIn (in_shape s) p c at numbers → (base s).codec.grammar.bad p c
  shape_refused Shapes.Port h = some_of vf_port_place.grammar (λ f. Flat) h
  shape_refused Shapes.Infos h = some_of link_info_place.grammar (λ f. Flat) h
  shape_refused Shapes.Functions h = first_picked link_vf_info_place.grammar (λ f. in_function) p c at numbers h
  shape_refused Shapes.Ports h = inr (
    omega (arith, innermost_inside in_ports p c at numbers h),
    first_picked link_vf_port_place.grammar (λ f. in_port) p c at numbers h,
  )
  shape_refused Shapes.Xdps h = some_of xdp_place.grammar (λ f. Flat) h
  shape_refused Shapes.Props h = first_of prop_place.grammar (λ f. Flat) p c at numbers h
  shape_refused Shapes.Reasons h = first_of down_reason_place.grammar (λ f. Flat) p c at numbers h
  shape_refused Shapes.DevlinkPorts h = first_of devlink_port_place.grammar (λ f. Flat) p c at numbers h
  shape_refused Shapes.DpllPins h = first_of dpll_pin_place.grammar (λ f. Flat) p c at numbers h
  shape_refused Shapes.BridgeInfos h = some_of link_proto_info_bridge_place.grammar (λ f. Flat) h
  shape_refused Shapes.Inet6Infos h = some_of link_proto_info_inet6_place.grammar (λ f. Flat) h
  shape_refused Shapes.Bridges h = some_of af_spec_bridge_place.grammar (λ f. Flat) h
  shape_refused Shapes.Unspecs h =
      first_of af_spec_unspec_place.grammar (λ f. in_family (number f)) p c at numbers h
  shape_refused _ h = absurd h

way_refused : (family : AddressFamily) (f : Frame) → IsFrame f → (c : Cause) (at : ℕ) (numbers : List ℕ) (w : Way Shape)
    → attribute_way family (number f) (length f.payload) ≡ w → FaultIn (in_way w) f.payload c at numbers
    → (attribute_place family).bad f c
way_refused family f one c at numbers Kept is h = absurd h
way_refused family f one c at numbers Own is h = absurd h
way_refused family f one c at numbers (tables.Shape s) is h =
    (attribute_lawful family).agrees.fault f c one (shape_refuses family f s c is
    ((base s).codec.lawful.agrees.refused f.payload c (shape_refused f.payload c at numbers s h)))

pub sound_outermost : (family : AddressFamily) → IsSound (outermost family)
sound_outermost family =
    sound_place false (attribute_place family) (attribute_lawful family).agrees (in_attribute family)
    (λ f c at numbers one h. way_refused family f one c at numbers
    (attribute_way family (number f) (length f.payload)) refl h)
    (λ f. sound_way (attribute_way family (number f) (length f.payload)))
