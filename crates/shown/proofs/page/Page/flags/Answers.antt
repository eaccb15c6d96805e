use Rattle.std.proofs.Common.{◌<◌, [], length, get_or, ◌∙◌, sym, subst}
use Rattle.std.proofs.lemmas.List.{get_or-map, length-map}
use Rattle.shown.proofs.Flags.{rows, bits_more, flag_added, flag_passed}
use Rattle.shown.proofs.page.Page.flags.Goals as goal

pub loop-i-preserved : goal.loop-i-preserved
loop-i-preserved c =
    let at = c.loop-i in
    let names = c.args.names.now in
    let row = get_or names at.i (0, record { ref_ptr = (0, 0); now = [] }) in
    let is = get_or-map (λ r. (r.0, r.1.now)) names at.i (0, record { ref_ptr = (0, 0); now = [] }) (0, [])
    c.loop-i-test.true in
    let within : at.i < length (rows names) =
    subst (λ n. at.i < n) (sym (length-map names (λ r. (r.0, r.1.now)))) c.loop-i-test.true in
    let left = bits_more (rows names) c.args.bits at.i at.others (0, []) (row.0, row.1.now) within is
    at.invariant.left in
    elim c.if-bits-bit-ne0.branch [
      | goal.then-bits-bit-ne0+in_ok-string w ↦ record {
        page = flag_added c.args.name.now (rows names) c.args.bits at.i (0, []) (row.0, row.1.now) c.args.self.now _ _
            within is w.if-bits-bit-ne0.true at.invariant.page (w.self-is ∙ w.in_ok-string.ensures);
        left = left;
      }
      | goal.else-bits-bit-ne0 w ↦ record {
        page = flag_passed c.args.name.now (rows names) c.args.bits at.i (0, []) (row.0, row.1.now) c.args.self.now _ _
            within is w.if-bits-bit-ne0.false at.invariant.page w.self-is;
        left = left;
      }
    ]
