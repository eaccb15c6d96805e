use Rattle.std.proofs.Common.{ap, ◌∙◌}
use Rattle.std.specs.Prelude.{Option, None, Some, cond}
use Rattle.message_diff.specs.declared.store.Known.{Known}
use Rattle.message_diff.specs.Known.{is_key}
use Rattle.message_diff.specs.Held.{held, held_in, last_of}
use Rattle.message_diff.proofs.store.Host.see.Goals as goal

pub returns-clause-known : goal.returns-clause-known
returns-clause-known c = λ q.
    let seen : Known = record { at = c.args.at; last = None } in
    c.in_ok-insert.ensures.updates.0 q
    ∙ ap (λ m. cond (is_key c.args.key q) (Some seen) (held_in m.entries q)) c.get_mut.follows.holds-at-none
    ∙ ap (λ (o : Option Known). cond (is_key c.args.key q) (Some (record { at = c.args.at; last = last_of o }))
    (held c.args.self.now q)) c.in_default.ensures.value
