use Rattle.std.proofs.Common.{◌≡◌, List, [], refl, sym, ap, subst, append-nil, ◌∙◌}
use Rattle.std.specs.Prelude.{Result, Ok, Err, OnOk, None, cond}
use Rattle.std.specs.declared.alloc.AllocError.{AllocError}
use Rattle.message_diff.specs.declared.key.Key.{Key}
use Rattle.std.specs.List.Sorted.{IsStrictlySortedBy}
use Rattle.std.specs.Map.{keys_of}
use Rattle.message_diff.specs.Known.{Item, is_among, key_cmp}
use Rattle.message_diff.specs.Told.{AddsAllGone}
use Rattle.message_diff.specs.Held.{held, held_in, left, picture, seen_in, shot_told}
use Rattle.message_diff.proofs.Gone.{tells_gone, tells_nothing}
use Rattle.message_diff.proofs.Missed.{missed_taken, runs, runs_not, left_sorted, left_each}
use Rattle.message_diff.proofs.line.Line.finish.Goals as goal

always : {P : Type 0} (r : Result (Unit {0}) AllocError) → P → OnOk r P
always (Ok _) h = h
always (Err _) h = tt

pub returns-clause-known : goal.returns-clause-known
returns-clause-known c = always c.keep_whole.result (λ q.
    let host = c.args.host.now in
    let kept : held c.keep_whole.new.self q ≡ held c.forget_all.new.host q =
    ap (λ k. held_in k.entries q) c.keep_whole.ensures.known in
    let listed = c.as_slice.ensures.value ∙ c.in_ok-missed.ensures.keys in
    ap seen_in (kept ∙ c.in_ok-forget_all.ensures.known q)
    ∙ ap (λ (keys : List Key). seen_in (cond (is_among keys q) None (held host q))) listed
    ∙ missed_taken host c.args.family c.in-Some.begin c.in_ok-missed.ensures.ordered q
    ∙ ap (λ b. cond b None (seen_in (held host q)))
    (sym (runs host.dump c.args.dump.now c.in-Some.begin (sym c.in-Some.ensures) (picture host).of c.args.family q)))

pub returns-in_default-clause-told : goal.returns-in_default-clause-told
returns-in_default-clause-told c =
    let host = c.args.host.now in
    tells_nothing c.args.self.front.now c.args.self.told (picture host) (Item.finished c.args.dump.now c.args.family)
    c.args.out.now.items
    (runs_not host.dump c.args.dump.now (sym c.in_default.ensures) (picture host).of c.args.family) refl

pub returns-clause-told : goal.returns-clause-told
returns-clause-told c =
    let host = c.args.host.now in
    let p = picture host in
    let x : Item = Item.finished c.args.dump.now c.args.family in
    let keys : List Key = keys_of (left host c.args.family c.in-Some.begin) in
    let listed = c.as_slice.ensures.value ∙ c.in_ok-missed.ensures.keys in
    let ordered = c.in_ok-missed.ensures.ordered in
    let sorted = left_sorted host c.args.family c.in-Some.begin ordered in
    let front = c.args.self.front.now in
    let told = c.args.self.told in
    let out = c.forget_all.new.out.items in
    always c.keep_whole.result
    (tells_gone front told p x keys [] c.args.out.now.items out out
    (record {
      sorted = sorted;
      each = left_each host c.args.family c.in-Some.begin c.args.dump.now ordered (sym c.in-Some.ensures);
    })
    (subst (λ (ks : List Key). AddsAllGone front (shot_told told host) ks c.args.out.now.items out) listed
    (c.in_ok-forget_all.ensures.told
    (subst (λ (ks : List Key). IsStrictlySortedBy key_cmp ks) (sym listed) sorted)))
    refl (sym (append-nil out)))
