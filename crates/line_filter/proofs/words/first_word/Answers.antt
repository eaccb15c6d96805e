use Rattle.std.proofs.Common.{rules, ◌≡◌, ◌≤◌, ◌+◌, length, arith, refl}
use Rattle.line_filter.specs.Words.{step_len}
use Rattle.line_filter.proofs.Front.{found_at, no_equals, no_word, some_word, step_is, step_within}
use Rattle.memchr.specs.Find.{is_byte}
use Rattle.line_filter.proofs.words.first_word.Goals as goal

pub returns-in_err-equals-clause-none : goal.returns-in_err-equals-clause-none
returns-in_err-equals-clause-none c = rw c.from_residual.ensures (no_equals _ c.in_err-equals.ensures)

pub returns-then-equals-eq0-clause-none : goal.returns-then-equals-eq0-clause-none
returns-then-equals-eq0-clause-none c =
    no_word _ _ _ c.in_ok-equals.ensures c.part_len-end.ensures.len c.then-equals-eq0.either

pub overflow_add-result-2 : goal.overflow_add-result-2
overflow_add-result-2 c =
    let inner : step_len c.args.line.now ≤ length c.args.line.now = step_within _ in
    let len : c.part_len-end.result + c.blanks_len-blanks.result ≡ step_len c.args.line.now =
    step_is _ _ _ c.part_len-end.ensures.len c.blanks_len-blanks.ensures in
    let within : c.part_len-end.result + c.blanks_len-blanks.result ≤ length c.args.line.now = rw len inner in
    search rules

pub returns-clause-none : goal.returns-clause-none
returns-clause-none c =
    some_word _ _ _ c.in_ok-equals.ensures c.part_len-end.ensures.len c.if-equals-eq0.false (omega arith)

pub returns-clause-key : goal.returns-clause-key
returns-clause-key c = rw (found_at (is_byte 61) _ _ c.in_ok-equals.ensures) refl

pub returns-clause-value : goal.returns-clause-value
returns-clause-value c = rw (found_at (is_byte 61) _ _ c.in_ok-equals.ensures, c.part_len-end.ensures.len) refl

pub returns-clause-len : goal.returns-clause-len
returns-clause-len c = step_is _ _ _ c.part_len-end.ensures.len c.blanks_len-blanks.ensures

pub returns-clause-within : goal.returns-clause-within
returns-clause-within c =
    rw (step_is _ _ _ c.part_len-end.ensures.len c.blanks_len-blanks.ensures) (step_within _)
