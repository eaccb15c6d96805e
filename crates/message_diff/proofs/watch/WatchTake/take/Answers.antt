use Rattle.std.proofs.Common.{◌≡◌, List, ℕ, refl, sym, ap, subst, append_assoc, ◌++◌, ◌∙◌}
use Rattle.std.specs.Prelude.{◌||◌}
use Rattle.std.proofs.lemmas.Result.{on_ok_weaker}
use Rattle.line_filter.specs.Words.{rest_of}
use Rattle.message_diff.specs.Said.{Says}
use Rattle.message_diff.proofs.Hosts.{takes_at}
use Rattle.message_diff.proofs.watch.WatchTake.take.Goals as goal

pub returns : goal.returns
returns c =
    let front = c.split.result.0.now in
    let old = c.args.self.now in
    let said = c.in_ok-said.said in
    let read = c.in_ok-said.ensures.said in
    let out = c.args.out.now.items in
    let new = c.take_any.new.self in
    let reader : new.reader ≡ c.read.new.self = c.take_any.ensures.reader in
    let told : new.told ≡ old.told = c.take_any.ensures.told in
    let lines : new.lines ≡ c.saturating_add-self.result = c.take_any.ensures.lines in
    on_ok_weaker c.take_any.result
    (λ takes. (
      read.0 ++ takes.0,
      record {
        said = said;
        fault = read.0;
        more = takes.0;
        says = subst (λ (f : List ℕ). Says old.reader.by f (rest_of c.args.line.now) said read.0) c.split.ensures.front
            (subst (λ (r : List ℕ). Says old.reader.by front r said read.0) c.split.ensures.rest read.1);
        lines = lines ∙ c.saturating_add-self.ensures;
        by = ap (λ r. r.by) reader ∙ c.in_ok-said.ensures.by;
        told = told;
        dumps = c.take_any.ensures.dumps ∙ ap (λ b. old.has_dumps || b) c.is_of_dump.ensures;
        takes = takes_at front _ old.told _ _ said _ old new takes.0 c.split.ensures.front (sym lines) refl takes.1;
        all = refl;
      },
      takes.2 ∙ ap (λ t. t ++ takes.0) read.2 ∙ append_assoc out read.0 takes.0,
    ))
    c.take_any.ensures.known
