use Rattle.std.proofs.Common.{◌≡◌, ◌+◌, ◌-◌, ◌∙◌, length, drop, ap, arith, to_z, of_z, w32, rules, length-append}
use Rattle.std.specs.Prelude.{ℤ}
use mir.Val.{SFits}
use Rattle.std.proofs.lemmas.Int.{to_z-of_z}
use Rattle.link_recs.specs.declared.inet.TheConstants.{INET_DEV_CONF_COUNT}
use Rattle.link_afspec.specs.Requests.{settings_of, setting_encoding, settings_encoding}
use Rattle.link_afspec.proofs.Requests.{request_from, request_end, request_whole, request_bound}
use Rattle.link_afspec.proofs.request.request_len.Goals as goal

pub loop-number-init : goal.loop-number-init
loop-number-init c = omega (arith, ap length (request_whole c.args.conf.now))

pub overflow_add-len : goal.overflow_add-len
overflow_add-len c =
    omega (arith, c.loop-number.invariant, request_bound c.args.conf.now, c.setting_len-len.ensures.short)

pub loop-number-preserved : goal.loop-number-preserved
loop-number-preserved c =
    let conf = c.args.conf.now in
    let z : ℤ = to_z w32 (of_z w32 c.setting.result) in
    let fits : SFits w32 c.setting.result = search rules in
    let is = to_z-of_z w32 c.setting.result fits ∙ c.setting.ensures in
    let from =
    request_from conf c.loop-number.number z c.loop-number.auto.number (omega (arith, c.loop-number-test.true)) is in
    let next : c.loop-number.number + 1 - 1 ≡ c.loop-number.number = omega arith in
    omega (
      arith,
      c.loop-number.invariant,
      c.setting_len-len.ensures.text,
      ap (λ n. length (setting_encoding (record { number = n; value = z }))) c.to_u16.ensures,
      ap length from,
      ap (λ i. length (settings_encoding (drop i (settings_of conf)))) next,
      length-append (setting_encoding (record { number = c.loop-number.number; value = z }))
          (settings_encoding (drop c.loop-number.number (settings_of conf))),
    )

pub returns : goal.returns
returns c =
    let last : c.loop-number.number - 1 ≡ INET_DEV_CONF_COUNT =
    omega (arith, c.loop-number-test.false, c.loop-number.auto.number-end) in
    omega (
      arith,
      c.loop-number.invariant,
      ap (λ i. length (settings_encoding (drop i (settings_of c.args.conf.now)))) last,
      ap length (request_end c.args.conf.now),
    )
