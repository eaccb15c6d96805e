use Rattle.std.proofs.Common.{◌≡◌, ℕ, ◌==◌, true, false, List, length, Err, Ok, ◌∙◌, ap, sym}
use Rattle.nla_wire.specs.Reading.{list_of, ◌>>=◌}
use Rattle.link_vf.proofs.Entries.{entry_empty, entry_reads}
use Rattle.link_view.proofs.entries.read_entry.Goals as goal

pub returns-then-is_empty : goal.returns-then-is_empty
returns-then-is_empty g c =
    let empty : (length c.args.frame.payload == 0) ≡ true =
    ap (λ (p : List ℕ). length p == 0) (sym c.value-payload.ensures.value)
    ∙ sym c.is_empty.ensures ∙ c.if-is_empty.true in
    ap (λ e. Err e) (c.within.ensures ∙ c.empty_list.ensures)
    ∙ sym (entry_empty g.E.Entry.of g.E.Member.NlaRead.grammar c.args.frame.payload empty)
    ∙ sym (g.met.E.Entry.laws.read c.args.frame)

pub returns : goal.returns
returns g c =
    let full : (length c.args.frame.payload == 0) ≡ false =
    ap (λ (p : List ℕ). length p == 0) (sym c.value-payload.ensures.value)
    ∙ sym c.is_empty.ensures ∙ c.if-is_empty.false in
    ap (λ (p : List ℕ). list_of g.E.Member.NlaRead.grammar.reads p >>= λ vs. Ok (g.E.Entry.of vs))
    c.value-payload.ensures.value
    ∙ sym (entry_reads g.E.Entry.of g.E.Member.NlaRead.grammar c.args.frame.payload full)
    ∙ sym (g.met.E.Entry.laws.read c.args.frame)
