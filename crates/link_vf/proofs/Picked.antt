-- Laws of lists of which only the members with the number 1 are read.
use Rattle.std.proofs.Common.{◌≡◌, ℕ, List, filter, ap, subst, ◌∙◌, arith}
use Rattle.nla_wire.specs.Sizes.{plain_growth}
use Rattle.nla_wire.specs.Frames.{Frame, number}
use Rattle.nla_wire.specs.Grammar.{Grammar, Every, is_one, picked}
use Rattle.nla_wire.specs.PlaceLaws.{ListReadsBack, ListsBounded}
use Rattle.nla_wire.proofs.Cuts.{frames_once}
use Rattle.nla_wire.proofs.PlaceLaws.{picked_reads_back, picked_bounded}
use Rattle.nla_wire.specs.Canon.{canons}
use Rattle.link_vf.specs.Dropped.{OthersDropped}
use Rattle.link_vf.specs.Entries.{EntryLaws}

pub others_dropped : {V : Type 0} (place : Grammar Frame V) → OthersDropped (picked place)
others_dropped place p q fs gs front back same vs means =
    let ones : filter is_one means.0 ≡ filter is_one gs =
    ap (λ hs. filter is_one hs) (frames_once p means.0 fs means.1 front) ∙ same in
    (gs, back, subst (λ hs. Every place.means hs vs) ones means.2)

module _ {V A : Type 0} {wrap : List V → A} {members : A → List V} {member : Grammar Frame V} {frame : V → Frame}
    {fits : V → Type 0} {one : ℕ} {place : Grammar Frame A} {entry_frame : A → Frame} {entry_fits : A → Type 0}
    {count : A → ℕ}
    (h : EntryLaws wrap members member frame fits one place entry_frame entry_fits count plain_growth 0) where
  ones : (a : A) → number (entry_frame a) ≡ 1
  ones a = ap (λ (of : A → Frame). number (of a)) h.written
      ∙ ap (λ n. number (record { kind = n; payload = canons frame (members a) })) h.one

  pub entries_again : ListReadsBack (picked place).means entry_frame entry_fits
  entries_again = picked_reads_back place entry_frame entry_fits count plain_growth 0 h.enough h.lawful ones

  pub entries_bounded : ListsBounded plain_growth 0 (picked place).means count entry_frame
  entries_bounded = picked_bounded place entry_frame entry_fits count plain_growth 0 h.enough h.lawful (omega arith)
