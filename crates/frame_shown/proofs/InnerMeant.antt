-- What is shown of the attributes of inner lists is of what they mean: a line for each row of their tables.
use Rattle.std.proofs.Common.{[], ◌≡◌, ℕ, suc, ◌==◌, Bool, true, false, cond, List, ◌∷◌, map, refl, sym, ap, ◌∙◌}
use Rattle.std.specs.Prelude.{Option, None, Some, option_and_then}
use Rattle.std.specs.Int.{w8, w32}
use Rattle.link_info.specs.Meanings.{text_or_bytes}
use Rattle.link_info.specs.Places.{place_of_kind, place_of_slave_kind}
use Rattle.link_info.specs.Tables.{frames_in}
use Rattle.link_info.specs.declared.place.Place.{Place}
use Rattle.link_info.specs.declared.style.Size.TheVariants as Sizes
use Rattle.link_nest.specs.Tables as nests
use Rattle.link_nest.specs.contracts.devlink_port.DevlinkPort.{enum as ports}
use Rattle.link_nest.specs.contracts.down_reason.LinkProtocolDownReason.{enum as reasons}
use Rattle.link_nest.specs.contracts.dpll_pin.DpllPin.{enum as pins}
use Rattle.link_nest.specs.contracts.link_info.LinkInfo.{enum as infos}
use Rattle.link_nest.specs.contracts.prop_list.Prop.{enum as props}
use Rattle.link_nest.specs.contracts.xdp.LinkXdp.{enum as xdps}
use Rattle.link_nest.specs.declared.devlink_port.DevlinkPort.TheVariants as port
use Rattle.link_nest.specs.declared.down_reason.LinkProtocolDownReason.TheVariants as reason
use Rattle.link_nest.specs.declared.dpll_pin.DpllPin.TheVariants as pin
use Rattle.link_nest.specs.declared.link_info.LinkInfo.TheVariants as info
use Rattle.link_nest.specs.declared.prop_list.Prop.TheVariants as prop
use Rattle.link_nest.specs.declared.xdp.LinkXdp.TheVariants as xdp
use Rattle.link_vals.proofs.Numbers.{xdp_attached_again}
use Rattle.link_vals.specs.XdpAttachedTable.{xdp_attached_of, xdp_attached_number}
use Rattle.nla_wire.proofs.Texts.{text_found}
use Rattle.nla_wire.specs.Frames.{Frame, number}
use Rattle.nla_wire.specs.Grammar.{as_a, by_payload, list, not_empty}
use Rattle.nla_wire.specs.Items.{items}
use Rattle.nla_wire.specs.Payloads as payload
use Rattle.nla_wire.specs.Sizes.{plain_growth, inner_small}
use Rattle.shown.specs.Drafts.{object_of}
use Rattle.frame_shown.specs.Frames.{frame_item, levels, list_shown}
use Rattle.frame_shown.specs.Items.{members_of}
use Rattle.frame_shown.specs.Values.{Nesting, first_text, form_shown, info_of, text_in, words_in}
use Rattle.frame_shown.specs.declared.form.Around.{Around}
use Rattle.frame_shown.specs.declared.form.Choice.TheVariants as Choices
use Rattle.frame_shown.specs.declared.form.Form.TheVariants as Forms
use Rattle.frame_shown.specs.declared.form.Group.TheVariants as Groups
use Rattle.frame_shown.specs.declared.form.List.TheVariants as Shapes
use Rattle.frame_shown.specs.declared.form.Table.TheVariants as Tables
use Rattle.frame_shown.proofs.Alike.{OfMeaning, OfFrames, OfNumber, OneToOne, of_some, of_table}
use Rattle.frame_shown.proofs.Rows.{◌&◌, bytes_four, choices, row, signed_four, texts}

module _ (nest : Nesting) (cx : Around) where
  pub props_alike : OfFrames nests.prop_place.grammar
      (frame_item nest cx (Shapes.Listed Groups.AltIfname Tables.Props))
  unfolding nests.prop_place
  props_alike =
      let at = row nest cx (Shapes.Listed Groups.AltIfname Tables.Props) in
      of_table props plain_growth 0 inner_small nests.prop_table prop.Other (λ f. refl) tt tt tt
      (frame_item nest cx (Shapes.Listed Groups.AltIfname Tables.Props))
      (at 53 Forms.Text _ _ payload.text prop.AltIfName refl (λ p. refl) (texts nest cx)
      & (λ one. tt)
      & tt)

  pub ports_alike : OfFrames nests.devlink_port_place.grammar (frame_item nest cx (Shapes.Own Tables.DevlinkPort))
  unfolding nests.devlink_port_place
  ports_alike =
      let at = row nest cx (Shapes.Own Tables.DevlinkPort) in
      of_table ports plain_growth 0 inner_small nests.devlink_port_table port.Other (λ f. refl) tt tt tt
      (frame_item nest cx (Shapes.Own Tables.DevlinkPort))
      (at 1 Forms.Text _ _ payload.text port.BusName refl (λ p. refl) (texts nest cx)
      & at 2 Forms.Text _ _ payload.text port.DevName refl (λ p. refl) (texts nest cx)
      & at 3 (Forms.Number Sizes.Four) _ _ (payload.number_of w32) port.PortIndex refl (λ p. refl) (bytes_four nest cx)
      & (λ one. tt)
      & tt)

  pub pins_alike : OfFrames nests.dpll_pin_place.grammar (frame_item nest cx (Shapes.Own Tables.DpllPin))
  unfolding nests.dpll_pin_place
  pins_alike =
      let at = row nest cx (Shapes.Own Tables.DpllPin) in
      of_table pins plain_growth 0 inner_small nests.dpll_pin_table pin.Other (λ f. refl) tt tt tt
      (frame_item nest cx (Shapes.Own Tables.DpllPin))
      (at 1 (Forms.Number Sizes.Four) _ _ (payload.number_of w32) pin.PinId refl (λ p. refl) (bytes_four nest cx)
      & (λ one. tt)
      & tt)

  pub reasons_alike : OfFrames nests.down_reason_place.grammar (frame_item nest cx (Shapes.Own Tables.DownReason))
  unfolding nests.down_reason_place
  reasons_alike =
      let at = row nest cx (Shapes.Own Tables.DownReason) in
      of_table reasons plain_growth 0 inner_small nests.down_reason_table reason.Other (λ f. refl) tt tt tt
      (frame_item nest cx (Shapes.Own Tables.DownReason))
      (at 1 (Forms.Number Sizes.Four) _ _ (payload.number_of w32) reason.Mask refl (λ p. refl) (bytes_four nest cx)
      & at 2 (Forms.Number Sizes.Four) _ _ (payload.number_of w32) reason.Value refl (λ p. refl) (bytes_four nest cx)
      & (λ one. tt)
      & tt)

  pub xdps_alike : OfFrames nests.xdp_place.grammar (frame_item nest cx (Shapes.Own Tables.Xdp))
  unfolding nests.xdp_place
  xdps_alike =
      let at = row nest cx (Shapes.Own Tables.Xdp) in
      let four = bytes_four nest cx in
      of_table xdps plain_growth 0 inner_small nests.xdp_table xdp.Other (λ f. refl) tt tt tt
      (frame_item nest cx (Shapes.Own Tables.Xdp))
      (at 1 Forms.Signed _ _ (payload.signed_of w32) xdp.Fd refl (λ p. refl) (signed_four nest cx)
      & at 2 (Forms.Choice Choices.Attached) _ _ (as_a xdp_attached_of (payload.number_of w8)) xdp.Attached refl
      (λ p. refl)
      (choices nest cx Choices.Attached (λ h. h) xdp_attached_of xdp_attached_number xdp_attached_again)
      & at 3 (Forms.Number Sizes.Four) _ _ (payload.number_of w32) xdp.Flags refl (λ p. refl) four
      & at 4 (Forms.Number Sizes.Four) _ _ (payload.number_of w32) xdp.ProgId refl (λ p. refl) four
      & at 5 (Forms.Number Sizes.Four) _ _ (payload.number_of w32) xdp.DrvProgId refl (λ p. refl) four
      & at 6 (Forms.Number Sizes.Four) _ _ (payload.number_of w32) xdp.SkbProgId refl (λ p. refl) four
      & at 7 (Forms.Number Sizes.Four) _ _ (payload.number_of w32) xdp.HwProgId refl (λ p. refl) four
      & at 8 (Forms.Number Sizes.Four) _ _ (payload.number_of w32) xdp.ExpectedFd refl (λ p. refl) four
      & (λ one. tt)
      & tt)

  infos_alike : (link slave : Option Place)
      → OfFrames nests.link_info_place.grammar (frame_item nest cx (Shapes.Info link slave))
  unfolding nests.link_info_place
  infos_alike link slave =
      let at = row nest cx (Shapes.Info link slave) in
      of_table infos plain_growth 0 inner_small nests.link_info_table info.Other (λ f. refl) tt tt tt
      (frame_item nest cx (Shapes.Info link slave))
      (at 1 Forms.Text _ _ payload.text info.Kind refl (λ p. refl) (texts nest cx)
      & (λ one. tt)
      & tt)

-- ** the kinds by which a link's data are shown

text_is : (p s : List ℕ) → payload.text.means p s → text_in p ≡ Some s
text_is p s means = ap (λ r. words_in (text_or_bytes p r)) (text_found p s means.1 means.0)

-- the text of a frame of this number
abbrev text_at : ℕ → Frame → Option (Option (List ℕ))
text_at n f = cond (number f == n) (Some (text_in f.payload)) None

abbrev first_in : List (Option (Option (List ℕ))) → Option (List ℕ)
first_in [] = None
first_in (None ∷ ts) = first_in ts
first_in (Some t ∷ ts) = t

first_or : (b : Bool) (t x : Option (List ℕ)) (ts : List (Option (Option (List ℕ)))) → x ≡ first_in ts
    → cond b t x ≡ first_in (cond b (Some t) None ∷ ts)
first_or true t x ts h = refl
first_or false t x ts h = h

first_is : (n : ℕ) (fs : List Frame) → first_text n fs ≡ first_in (map (text_at n) fs)
first_is n [] = refl
first_is n (f ∷ fs) =
    first_or (number f == n) (text_in f.payload) (first_text n fs) (map (text_at n) fs) (first_is n fs)

kind_alike : (n : ℕ) → OneToOne info.Kind → OfNumber 1 (by_payload (as_a info.Kind payload.text)) (text_at n)
kind_alike n one f h v one_f two_h is_f is_h a b =
    ap (λ k. cond (k == n) (Some (text_in f.payload)) None) (is_f ∙ sym is_h)
    ∙ ap (λ t. cond (number h == n) (Some t) None)
    (text_is f.payload a.0 a.1 ∙ ap Some (one a.0 b.0 (sym a.2 ∙ b.2)) ∙ sym (text_is h.payload b.0 b.1))

kinds_alike : (n : ℕ) → OfFrames nests.link_info_place.grammar (text_at n)
unfolding nests.link_info_place
kinds_alike n = of_table infos plain_growth 0 inner_small nests.link_info_table info.Other (λ f. refl) tt tt tt
    (text_at n) ((λ one. (kind_alike n one, tt)) & (λ one. tt) & tt)

pub info_alike : (n : ℕ) (cx : Around)
    → OfMeaning (not_empty (list nests.link_info_place.grammar)) (form_shown (levels (suc n) cx) cx Forms.Info)
info_alike n cx p q vs small_p small_q a b =
    let first = λ (k : ℕ). first_is k (frames_in (items p))
    ∙ ap first_in (of_some nests.link_info_place.grammar (text_at k) (kinds_alike k) p q vs small_p small_q a b)
    ∙ sym (first_is k (frames_in (items q))) in
    let kinds : info_of p ≡ info_of q = λ i. Shapes.Info (option_and_then place_of_kind (first 1 i))
    (option_and_then place_of_slave_kind (first 4 i)) in
    let link = option_and_then place_of_kind (first_text 1 (frames_in (items q))) in
    let slave = option_and_then place_of_slave_kind (first_text 4 (frames_in (items q))) in
    ap (λ shape. list_shown (levels n cx) cx shape p) kinds
    ∙ ap (λ xs. object_of (members_of [] xs)) (of_some nests.link_info_place.grammar
    (frame_item (levels n cx) cx (Shapes.Info link slave)) (infos_alike (levels n cx) cx link slave)
    p q vs small_p small_q a b)
