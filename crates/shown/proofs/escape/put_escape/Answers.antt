use Rattle.std.proofs.Common.{◌≡◌, ◌+◌, ◌-◌, length, take, drop, get_or, sym, ap, ◌∙◌, subst, rules, arith}
use borrow.Rule.Slice.PartMut.{put_mid}
use Rattle.json.specs.Filled.{Placed}
use Rattle.json.proofs.Printed.Places.{Placed-put_mid}
use Rattle.shown.specs.Escapes.{Escaped}
use Rattle.shown.specs.Print.{bytes_behind, escape_first, unseen_in}
use Rattle.shown.proofs.Escapes.{character_stored, seen_stored}
use Rattle.shown.proofs.escape.put_escape.Goals as goal

pub returns-clause-escaped : goal.returns-clause-escaped
returns-clause-escaped c =
    let at = c.args.at in
    let from = c.args.from in
    let text = c.args.text.now in
    let escape = c.escape_first-len.result.0 in
    let len = c.escape_first-len.result.1 in
    let new = put_mid at (at + 6 - at) c.args.buf.now c.copy_from_slice.new.self in
    let six : at + 6 - at ≡ 6 = omega arith in
    let same : c.copy_from_slice.new.self ≡ escape = search rules in
    let long : length escape ≡ 6 = search rules in
    let first : take len escape ≡ escape_first (unseen_in (drop from text)) (get_or text from 0) =
    c.escape_first-len.ensures.value ∙ ap (λ n. escape_first n (get_or text from 0)) c.unseen_at-number.ensures in
    let put : Placed c.args.buf.now new at (take len escape) (at + len) =
    rw (six, same)
    (Placed-put_mid c.args.buf.now escape at 6 len c.requires.room long c.escape_first-len.ensures.bound) in
    let to : from + 1 + bytes_behind (unseen_in (drop from text)) ≡ from + 1 + c.bytes_behind.result =
    ap (λ n. from + 1 + n) (sym (c.bytes_behind.ensures ∙ ap bytes_behind c.unseen_at-number.ensures)) in
    subst (λ n. Escaped c.args.buf.now new at (at + len) text from n) to
    (character_stored text from c.requires.within c.escape_first-len.ensures.bound
    (subst (λ l. Placed c.args.buf.now new at l (at + len)) first put))

pub returns-then-byte-gt127-clause-escaped : goal.returns-then-byte-gt127-clause-escaped
returns-then-byte-gt127-clause-escaped c =
    seen_stored c.args.text.now c.args.from c.requires.within
    (omega (arith, c.unseen_at-number.ensures, c.if-number-eq0.true)) (omega (arith, c.if-byte-gt127.true))
    c.put_byte.ensures
