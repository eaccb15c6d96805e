use Rattle.std.proofs.Common.{[], ◌∷◌, ◌++◌, ◌<◌, rules}
use Rattle.std.proofs.lemmas.List.Elements.{All-push, All-same}
use Rattle.link_vlans.specs.declared.run.Run.{Run}
use Rattle.link_vlans.proofs.run.read_next.Goals as goal

pub returns-in_ok-push-in-Some-default-Some-clause-small :
    goal.returns-in_ok-push-in-Some-default-Some-clause-small
returns-in_ok-push-in-Some-default-Some-clause-small c = λ small.
    let runs = c.args.runs.now.items in
    let run = c.in-Some-default-Some.run' in
    let last : run.last < 65536 = search rules in
    All-same (λ (r : Run). r.last < 65536) c.push.new.self.items (runs ++ run ∷ [])
    c.in_ok-push-in-Some-default-Some.ensures.items
    (All-push (λ (r : Run). r.last < 65536) runs run small last)
