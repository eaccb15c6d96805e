use Rattle.std.proofs.Common.{◌≡◌, refl, sym, ap, ◌∙◌, subst}
use Rattle.std.specs.Fmt.{HasWritten, IsPlainFormatter}
use Rattle.link_vals.specs.FlagText.{names_set, joined, is_none}
use Rattle.link_vals.specs.LinkFlagsTable.{link_flags_bits}
use Rattle.link_vals.proofs.Pieces.{names_more, names_same, is_none_more, written_more, written_none}
use Rattle.link_vals.proofs.flag_text.write_names.Goals as goal

pub loop-flag-init : goal.loop-flag-init
unfolding names_set
loop-flag-init g c = (λ plain. written_none g.W.Write.write_str_gives c.args.f.now plain, refl)

pub loop-flag-preserved-then-not-contains : goal.loop-flag-preserved-then-not-contains
loop-flag-preserved-then-not-contains g c =
    let same = names_same (λ flag. flag.name.now) (λ flag. link_flags_bits flag.value) (link_flags_bits c.args.value)
    c.args.flags.now c.loop-flag.flag-index _ c.loop-flag-test.true (link_flags_bits c.value.result.now)
    (ap link_flags_bits c.value.ensures) (sym c.contains.ensures ∙ c.if-not-contains.true) in
    subst (λ names. (IsPlainFormatter c.args.f.now → HasWritten g.W.Write.write_str_gives c.args.f.now
    (joined names) c.loop-flag.f) × (c.loop-flag.is_first ≡ is_none names)) (sym same) c.loop-flag.invariant

pub loop-flag-preserved : goal.loop-flag-preserved
loop-flag-preserved g c =
    let more = names_more (λ flag. flag.name.now) (λ flag. link_flags_bits flag.value)
    (link_flags_bits c.args.value) c.args.flags.now c.loop-flag.flag-index _ c.loop-flag-test.true
    (link_flags_bits c.value.result.now) c.name.result.now
    (ap link_flags_bits c.value.ensures) c.name.ensures (sym c.contains.ensures ∙ c.if-not-contains.false) in (
      λ plain.
          let before = c.loop-flag.invariant.0 plain in
          subst (λ names. HasWritten g.W.Write.write_str_gives c.args.f.now (joined names) c.write_piece.new.f)
          (sym more)
          (written_more g.W.Write.write_str_gives _ _ _ _ c.name.result.now c.loop-flag.is_first c.loop-flag.invariant.1
          before (c.in_ok-write_piece.ensures before.plain refl)),
      sym (ap is_none more ∙ is_none_more _ c.name.result.now),
    )
