use Rattle.std.proofs.Common.{◌≡◌, ◌-◌, ◌∙◌, ◌≤◌, List, [], ◌++◌, ℕ, length, drop, take, ap, subst, sym, arith, lit≤}
use Rattle.std.proofs.Common.{refl, to_z, of_z, w32, rules, length-append, append-nil}
use Rattle.std.specs.Prelude.{ℤ}
use mir.Val.{SFits}
use Rattle.std.proofs.lemmas.Int.{to_z-of_z}
use Rattle.std.proofs.lemmas.List.{length-take-le, take_all}
use Rattle.nla_wire.specs.Canon.{Filled}
use Rattle.nla_wire.proofs.Prefixes.{Filled-more}
use Rattle.link_afspec.specs.Requests.{settings_of, setting_encoding, settings_encoding}
use Rattle.link_afspec.proofs.Requests.{request_from, request_end, request_whole, request_after}
use Rattle.link_afspec.proofs.request.fill_request.Goals as goal

nothing_filled : (old : List ℕ) → Filled old old [] (length old)
nothing_filled old = (omega arith, sym (append-nil (take (length old) old) ∙ take_all (length old) old (omega arith)))

pub loop-number-init : goal.loop-number-init
loop-number-init c = record {
  in_range = lit≤ tt;
  filled = subst (λ text. Filled c.args.buffer.now c.args.buffer.now text (length c.args.buffer.now))
      (sym (request_end c.args.conf.now)) (nothing_filled c.args.buffer.now);
}

pub fill_setting-start-requires : goal.fill_setting-start-requires
fill_setting-start-requires c =
    let conf = c.args.conf.now in
    let z : ℤ = to_z w32 (of_z w32 c.setting.result) in
    let fits : SFits w32 c.setting.result = search rules in
    let is = to_z-of_z w32 c.setting.result fits ∙ c.setting.ensures in
    let from = request_from conf c.loop-number.number z c.loop-number-test.true c.loop-number.invariant.in_range is in
    let within : c.loop-number.start ≤ length c.loop-number.buffer =
    omega (arith, c.loop-number.invariant.filled.0, c.loop-number.auto.buffer) in
    omega (
      arith,
      ap length from,
      c.loop-number.invariant.filled.0,
      c.requires,
      ap (λ n. length (setting_encoding (record { number = n; value = z }))) c.to_u16.ensures,
      request_after conf (c.loop-number.number - 1),
      length-take-le c.loop-number.start c.loop-number.buffer within,
      length-append (setting_encoding (record { number = c.loop-number.number; value = z }))
          (settings_encoding (drop c.loop-number.number (settings_of conf))),
    )

pub loop-number-preserved : goal.loop-number-preserved
loop-number-preserved c =
    let conf = c.args.conf.now in
    let old = c.args.buffer.now in
    let z : ℤ = to_z w32 (of_z w32 c.setting.result) in
    let fits : SFits w32 c.setting.result = search rules in
    let is = to_z-of_z w32 c.setting.result fits ∙ c.setting.ensures in
    let from = request_from conf c.loop-number.number z c.loop-number-test.true c.loop-number.invariant.in_range is in
    let now : List ℕ = c.fill_setting-start.new.buffer ++ drop c.loop-number.start c.loop-number.buffer in
    let filled = rw c.to_u16.ensures at c.fill_setting-start.ensures in
    let more = Filled-more old c.loop-number.buffer now c.fill_setting-start.new.buffer
    (settings_encoding (drop c.loop-number.number (settings_of conf)))
    (setting_encoding (record { number = c.loop-number.number; value = z })) c.fill_setting-start.result
    c.loop-number.start c.loop-number.start c.loop-number.invariant.filled filled refl refl in
    record {
      in_range = omega (arith, c.loop-number.invariant.in_range);
      filled = subst (λ text. Filled old now text c.fill_setting-start.result) (sym from) more;
    }

pub returns : goal.returns
returns c =
    let first : c.loop-number.number ≡ 0 = omega (arith, c.loop-number-test.false) in
    rw (request_whole c.args.conf.now) (rw first at c.loop-number.invariant.filled)
