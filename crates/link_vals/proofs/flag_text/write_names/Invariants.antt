use Rattle.std.proofs.Common.{◌≡◌, ℕ, List, take}
use Rattle.std.specs.Fmt.{HasWritten, IsPlainFormatter}
use Rattle.link_vals.specs.FlagText.{names_set, joined, is_none}
use Rattle.link_vals.specs.LinkFlagsTable.{link_flags_bits}
use Rattle.link_vals.proofs.flag_text.write_names.Given as goal

abbrev pub invariant-loop-flag : goal.invariant-loop-flag
invariant-loop-flag g l =
    let names : List (List ℕ) = names_set (λ flag. flag.name.now) (λ flag. link_flags_bits flag.value)
    (link_flags_bits l.value) (take l.flag-index l.flags) in
    (IsPlainFormatter l.fn.f → HasWritten g.W.Write.write_str_gives l.fn.f (joined names) l.f)
    × (l.is_first ≡ is_none names)
