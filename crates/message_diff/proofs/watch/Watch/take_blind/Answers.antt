use Rattle.std.proofs.Common.{◌≡◌, List, ℕ, true, false, [], refl, sym, ap, subst, ◌∙◌, rules}
use Rattle.std.specs.Prelude.{Option}
use Rattle.std.specs.BTreeMap.{is_at}
use Rattle.std.specs.Cmp.Lexicographic.{slice_cmp}
use Rattle.std.specs.Ordering.{nat_cmp}
use Rattle.std.specs.Map.{lookup}
use Rattle.message_diff.specs.declared.reading.Said.TheVariants.{Blind}
use Rattle.message_diff.specs.declared.telling.Telling.{Telling}
use Rattle.message_diff.specs.declared.store.Host.{Host}
use Rattle.message_diff.specs.Known.{Item, Picture, nothing_known}
use Rattle.message_diff.specs.Held.{Applies, knows_any, picture, run_in}
use Rattle.message_diff.specs.Watched.{IsHeld, known_of}
use Rattle.message_diff.proofs.Gone.{stays, tells_nothing}
use Rattle.message_diff.proofs.Hosts.{others_stay, taken_for}
use Rattle.message_diff.proofs.Unknown.{unknown_is}
use Rattle.message_diff.proofs.watch.Watch.take_blind.Goals as goal

-- of a host of which nothing is known nothing is known
unknown : (front : List ℕ) (told : Telling) (at : ℕ) → Applies front told at Blind nothing_known nothing_known [] []
unknown front told at = (
  record { of = λ q. refl; run = refl; whole = λ f. refl },
  tells_nothing front told nothing_known Item.blind [] (λ q. refl) refl,
)

pub returns-then-not-knows_any-clause-known : goal.returns-then-not-knows_any-clause-known
returns-then-not-knows_any-clause-known c =
    let updates = (c.get_mut.follows.holds c.break_dump.new.self).3 (search rules) in
    let removes = c.remove.ensures.updates in
    let none : knows_any c.break_dump.new.self ≡ false = search rules in
    let host = c.in-Some.host.now in
    let name = c.word_of-name.result.now in
    let is = stays c.args.front.now c.args.self.now.told c.args.self.now.lines host c.break_dump.new.self Item.blind []
    c.break_dump.ensures.known c.break_dump.ensures.whole (ap run_in c.break_dump.ensures.dump) (λ q. refl) (λ q. refl)
    (λ f. refl) refl in
    taken_for c.args.front.now c.args.self.now.told c.args.self.now.lines Blind c.args.self.now _ [] [] name
    (picture host) nothing_known c.word_of-name.ensures (ap known_of (sym c.in-Some.ensures.value))
    (ap known_of removes.1) (subst (λ (o : Option Host). IsHeld o) (sym removes.1) tt)
    (λ other apart. others_stay (λ k. k.items) name other _ _ removes.3 apart
    ∙ others_stay (λ k. k.items) name other _ _ updates.3 apart)
    (subst (λ (p : Picture). Applies c.args.front.now c.args.self.now.told c.args.self.now.lines Blind (picture host) p
    [] []) (unknown_is c.break_dump.new.self none) is)

pub returns-else-not-knows_any-clause-known : goal.returns-else-not-knows_any-clause-known
returns-else-not-knows_any-clause-known c =
    let updates = (c.get_mut.follows.holds c.break_dump.new.self).3 (search rules) in
    let some : knows_any c.break_dump.new.self ≡ true = search rules in
    let host = c.in-Some.host.now in
    let name = c.word_of-name.result.now in
    let is = stays c.args.front.now c.args.self.now.told c.args.self.now.lines host c.break_dump.new.self Item.blind []
    c.break_dump.ensures.known c.break_dump.ensures.whole (ap run_in c.break_dump.ensures.dump) (λ q. refl) (λ q. refl)
    (λ f. refl) refl in
    taken_for c.args.front.now c.args.self.now.told c.args.self.now.lines Blind c.args.self.now _ [] [] name
    (picture host) (picture c.break_dump.new.self) c.word_of-name.ensures
    (ap known_of (sym c.in-Some.ensures.value)) (ap known_of updates.1)
    (subst (λ (o : Option Host). IsHeld o) (sym updates.1) some)
    (λ other apart. others_stay (λ k. k.items) name other _ _ updates.3 apart) is

pub returns-in_default-clause-known : goal.returns-in_default-clause-known
returns-in_default-clause-known c =
    let name = c.word_of-name.result.now in
    let same = c.get_mut.follows.holds-at-none in
    let at_name = ap (λ m. lookup (is_at (λ k. slice_cmp nat_cmp name k.items)) m.entries) same
    ∙ sym c.in_default.ensures.value in
    taken_for c.args.front.now c.args.self.now.told c.args.self.now.lines Blind c.args.self.now _ [] [] name
    nothing_known nothing_known c.word_of-name.ensures (ap known_of (sym c.in_default.ensures.value))
    (ap known_of at_name) (subst (λ (o : Option Host). IsHeld o) (sym at_name) tt)
    (λ other apart. ap (λ m. lookup (is_at (λ k. slice_cmp nat_cmp other k.items)) m.entries) same)
    (unknown c.args.front.now c.args.self.now.told c.args.self.now.lines)
