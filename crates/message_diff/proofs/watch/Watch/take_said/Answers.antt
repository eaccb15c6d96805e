use Rattle.std.proofs.Common.{◌≡◌, List, ℕ, true, false, sym, ap, subst, ◌∙◌, rules}
use Rattle.std.specs.Prelude.{Option, Some}
use Rattle.std.specs.BTreeMap.{is_at}
use Rattle.std.specs.Cmp.Lexicographic.{slice_cmp}
use Rattle.std.specs.Ordering.{nat_cmp}
use Rattle.std.specs.Map.{lookup}
use Rattle.message_diff.specs.declared.store.Host.{Host}
use Rattle.message_diff.specs.Known.{Picture, is_text, nothing_known}
use Rattle.message_diff.specs.Held.{Applies, knows_any, picture}
use Rattle.message_diff.specs.Watched.{IsHeld, known_of}
use Rattle.message_diff.proofs.Hosts.{others_stay, taken_for}
use Rattle.message_diff.proofs.Unknown.{unknown_is}
use Rattle.message_diff.proofs.watch.Watch.take_said.Goals as goal

pub returns-then-not-knows_any-clause-known : goal.returns-then-not-knows_any-clause-known
returns-then-not-knows_any-clause-known c =
    let updates = (c.get_mut.follows.holds c.apply.new.host).3 (search rules) in
    let removes = c.remove.ensures.updates in
    let none : knows_any c.apply.new.host ≡ false = search rules in
    let name = c.word_of-name.result.now in
    taken_for c.args.front.now c.args.self.now.told c.args.self.now.lines c.args.said c.args.self.now _
    c.args.out.now.items c.apply.new.out.items name (picture c.in-Some.host.now) nothing_known c.word_of-name.ensures
    (ap known_of (sym c.in-Some.ensures.value)) (ap known_of removes.1)
    (subst (λ (o : Option Host). IsHeld o) (sym removes.1) tt)
    (λ other apart. others_stay (λ k. k.items) name other _ _ removes.3 apart
    ∙ others_stay (λ k. k.items) name other _ _ updates.3 apart)
    (subst (λ (p : Picture). Applies c.args.front.now c.args.self.now.told c.args.self.now.lines c.args.said
    (picture c.in-Some.host.now) p c.args.out.now.items c.apply.new.out.items) (unknown_is c.apply.new.host none)
    c.in_ok-apply.ensures)

pub returns-else-not-knows_any-clause-known : goal.returns-else-not-knows_any-clause-known
returns-else-not-knows_any-clause-known c =
    let updates = (c.get_mut.follows.holds c.apply.new.host).3 (search rules) in
    let some : knows_any c.apply.new.host ≡ true = search rules in
    let name = c.word_of-name.result.now in
    taken_for c.args.front.now c.args.self.now.told c.args.self.now.lines c.args.said c.args.self.now _
    c.args.out.now.items c.apply.new.out.items name (picture c.in-Some.host.now) (picture c.apply.new.host)
    c.word_of-name.ensures (ap known_of (sym c.in-Some.ensures.value)) (ap known_of updates.1)
    (subst (λ (o : Option Host). IsHeld o) (sym updates.1) some)
    (λ other apart. others_stay (λ k. k.items) name other _ _ updates.3 apart) c.in_ok-apply.ensures

pub returns-in_ok-insert-clause-known : goal.returns-in_ok-insert-clause-known
returns-in_ok-insert-clause-known c =
    let name = c.word_of-name.result.now in
    let key = c.in_ok-to_vec.field-0 in
    let named : key.items ≡ name = c.in_ok-to_vec.ensures.items_if_clones_equal (search rules) in
    let updates = c.in_ok-insert.ensures.updates in
    let some : knows_any c.apply-2.new.host ≡ true = search rules in
    let at_name : lookup (is_at (λ k. slice_cmp nat_cmp name k.items)) c.insert.new.self.entries
    ≡ Some c.apply-2.new.host =
    ap (λ (n : List ℕ). lookup (is_at (λ k. slice_cmp nat_cmp n k.items)) c.insert.new.self.entries) (sym named)
    ∙ updates.1 in
    taken_for c.args.front.now c.args.self.now.told c.args.self.now.lines c.args.said c.args.self.now _
    c.args.out.now.items c.apply-2.new.out.items name (picture c.new-host.result) (picture c.apply-2.new.host)
    c.word_of-name.ensures (ap known_of (sym c.in_default.ensures.value) ∙ sym c.new-host.ensures)
    (ap known_of at_name) (subst (λ (o : Option Host). IsHeld o) (sym at_name) some)
    (λ other apart. others_stay (λ k. k.items) key.items other _ _ updates.3
    (ap (λ (n : List ℕ). is_text n other) named ∙ apart)
    ∙ ap (λ m. lookup (is_at (λ k. slice_cmp nat_cmp other k.items)) m.entries) c.get_mut.follows.holds-at-none)
    c.in_ok-apply-2.ensures

pub returns-else-knows_any-clause-known : goal.returns-else-knows_any-clause-known
returns-else-knows_any-clause-known c =
    let name = c.word_of-name.result.now in
    let same = c.get_mut.follows.holds-at-none in
    let none : knows_any c.apply-2.new.host ≡ false = search rules in
    let at_name = ap (λ m. lookup (is_at (λ k. slice_cmp nat_cmp name k.items)) m.entries) same
    ∙ sym c.in_default.ensures.value in
    taken_for c.args.front.now c.args.self.now.told c.args.self.now.lines c.args.said c.args.self.now _
    c.args.out.now.items c.apply-2.new.out.items name (picture c.new-host.result) nothing_known
    c.word_of-name.ensures (ap known_of (sym c.in_default.ensures.value) ∙ sym c.new-host.ensures)
    (ap known_of at_name) (subst (λ (o : Option Host). IsHeld o) (sym at_name) tt)
    (λ other apart. ap (λ m. lookup (is_at (λ k. slice_cmp nat_cmp other k.items)) m.entries) same)
    (subst (λ (p : Picture). Applies c.args.front.now c.args.self.now.told c.args.self.now.lines c.args.said
    (picture c.new-host.result) p c.args.out.now.items c.apply-2.new.out.items) (unknown_is c.apply-2.new.host none)
    c.in_ok-apply-2.ensures)
