use Rattle.std.proofs.Common.{[], inl, refl, sym, append-nil, rules}
use Rattle.message_diff.proofs.reading.said_by_bytes.Goals as goal

pub returns-in-Ok : goal.returns-in-Ok
returns-in-Ok c = (
  [],
  inl (record {
    shot = c.in-Ok.snapshot;
    has = (search rules);
    order = (search rules);
    is = (search rules);
    none = refl;
  }),
  sym (append-nil c.args.out.now.items),
)
