-- Settings that are asked for, one by one.
use Rattle.std.proofs.Common.{◌≡◌, ℕ, zero, suc, ◌+◌, ◌-◌, ◌*◌, ◌<◌, ◌≤◌, Bool, true, false, if◌then◌else◌, List, []}
use Rattle.std.proofs.Common.{◌∷◌, ◌++◌, length, drop, refl, ap, ◌∙◌, sym, get_or, arith, length-append}
use Rattle.std.specs.Prelude.{ℤ, pos}
use Rattle.std.specs.Ordering.{int_eq}
use Rattle.std.specs.Int.{w32, cast_unsigned}
use Rattle.nla_wire.specs.Sizes.{most_payload}
use Rattle.nla_wire.specs.Canon.{canon}
use Rattle.nla_wire.proofs.Bounds.{length-canon}
use Rattle.nla_wire.proofs.FieldLemmas.{length-to_le_bytes}
use Rattle.link_recs.specs.InetDevConfFields.{inet_dev_conf_fields}
use Rattle.link_recs.specs.declared.inet.TheConstants.{INET_DEV_CONF_COUNT}
use Rattle.link_recs.specs.declared.inet.InetDevConf.{InetDevConf}
use Rattle.link_afspec.specs.Requests.{Setting, numbered, settings_of, setting_frame, setting_encoding}
use Rattle.link_afspec.specs.Requests.{settings_encoding, request_encoding}

-- the settings from the i-th on
numbered_from : (n : ℕ) (zs : List ℤ) (i : ℕ) → i < length zs
    → drop i (numbered n zs) ≡ record { number = n + i; value = get_or zs i (pos 0) } ∷ drop (i + 1) (numbered n zs)
numbered_from n [] i h = absurd (omega arith)
numbered_from n (z ∷ zs) zero h =
    let number : n ≡ n + 0 = omega arith in
    ap (λ k. record { number = k; value = z } ∷ numbered (n + 1) zs) number
numbered_from n (z ∷ zs) (suc i) h =
    let number : n + 1 + i ≡ n + suc i = omega arith in
    let after : suc (i + 1) ≡ suc i + 1 = omega arith in
    numbered_from (n + 1) zs i (omega arith)
    ∙ ap (λ k. record { number = k; value = get_or zs i (pos 0) } ∷ drop (i + 1) (numbered (n + 1) zs)) number
    ∙ ap (λ k. record { number = n + suc i; value = get_or zs i (pos 0) } ∷ drop k (numbered n (z ∷ zs))) after

fields_count : (conf : InetDevConf) → length (inet_dev_conf_fields conf) ≡ INET_DEV_CONF_COUNT
unfolding inet_dev_conf_fields
fields_count conf = refl

-- the encoding from the setting k on begins with that setting's
pub request_from : (conf : InetDevConf) (k : ℕ) (z : ℤ) → 0 < k → k ≤ INET_DEV_CONF_COUNT
    → z ≡ get_or (inet_dev_conf_fields conf) (k - 1) (pos 0)
    → settings_encoding (drop (k - 1) (settings_of conf))
    ≡ setting_encoding (record { number = k; value = z }) ++ settings_encoding (drop k (settings_of conf))
request_from conf k z some few is =
    let zs = inet_dev_conf_fields conf in
    let number : 1 + (k - 1) ≡ k = omega arith in
    let after : k - 1 + 1 ≡ k = omega arith in
    ap settings_encoding (numbered_from 1 zs (k - 1) (omega (arith, fields_count conf)))
    ∙ ap (λ n. setting_encoding (record { number = n; value = get_or zs (k - 1) (pos 0) })
    ++ settings_encoding (drop (k - 1 + 1) (settings_of conf))) number
    ∙ ap (λ y. setting_encoding (record { number = k; value = y })
    ++ settings_encoding (drop (k - 1 + 1) (settings_of conf))) (sym is)
    ∙ ap (λ i. setting_encoding (record { number = k; value = z })
    ++ settings_encoding (drop i (settings_of conf))) after

-- nothing stands after the last setting
pub request_end : (conf : InetDevConf) → settings_encoding (drop INET_DEV_CONF_COUNT (settings_of conf)) ≡ []
unfolding inet_dev_conf_fields
request_end conf = refl

pub request_whole : (conf : InetDevConf) → request_encoding conf ≡ settings_encoding (drop 0 (settings_of conf))
unfolding request_encoding
request_whole conf = refl

encoding_if : (s : Setting) (t : Bool) → length (if t then [] else canon (setting_frame s)) ≤ 8
encoding_if s true = omega arith
encoding_if s false = omega (arith, length-canon (setting_frame s), length-to_le_bytes w32 (cast_unsigned w32 s.value))

encodings_short : (n : ℕ) (zs : List ℤ) → length (settings_encoding (numbered n zs)) ≤ 8 * length zs
encodings_short n [] = omega arith
encodings_short n (z ∷ zs) =
    let s : Setting = record { number = n; value = z } in
    omega (
      arith,
      length-append (setting_encoding s) (settings_encoding (numbered (n + 1) zs)),
      encoding_if s (int_eq z (pos 0)),
      encodings_short (n + 1) zs,
    )

-- a request is short
pub request_bound : (conf : InetDevConf) → length (request_encoding conf) ≤ 8 * INET_DEV_CONF_COUNT
unfolding request_encoding
request_bound conf = omega (arith, encodings_short 1 (inet_dev_conf_fields conf), fields_count conf)

pub request_short : (conf : InetDevConf) → length (request_encoding conf) ≤ most_payload
request_short conf = omega (arith, request_bound conf)

-- what stands after some settings is shorter than all
encodings_after : (ss : List Setting) (i : ℕ) → length (settings_encoding (drop i ss)) ≤ length (settings_encoding ss)
encodings_after [] zero = omega arith
encodings_after [] (suc i) = omega arith
encodings_after (s ∷ ss) zero = omega arith
encodings_after (s ∷ ss) (suc i) =
    omega (arith, encodings_after ss i, length-append (setting_encoding s) (settings_encoding ss))

pub request_after : (conf : InetDevConf) (i : ℕ)
    → length (settings_encoding (drop i (settings_of conf))) ≤ length (request_encoding conf)
unfolding request_encoding
request_after conf i = encodings_after (settings_of conf) i
