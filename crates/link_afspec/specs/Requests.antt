-- How settings of IPv4 are asked for: an attribute for each setting that is not zero (linux/ip.h numbers them from 1
-- on).
use Rattle.std.specs.Prelude.{ℕ, ℤ, pos, ◌+◌, List, [], ◌∷◌, if◌then◌else◌, flat_map}
use Rattle.std.specs.Ordering.{int_eq}
use Rattle.std.specs.Int.{w32, to_le_bytes, cast_unsigned}
use Rattle.nla_wire.specs.Frames.{Frame}
use Rattle.nla_wire.specs.Canon.{canon}
use Rattle.link_recs.specs.InetDevConfFields.{inet_dev_conf_fields}
use Rattle.link_recs.specs.declared.inet.InetDevConf.{InetDevConf}

-- a setting: its number and its value
pub record Setting : Type 0 where
  pub number : ℕ
  pub value : ℤ

-- values with numbers that count from n on
abbrev pub numbered : ℕ → List ℤ → List Setting
numbered n [] = []
numbered n (z ∷ zs) = record { number = n; value = z } ∷ numbered (n + 1) zs

-- all settings
abbrev pub settings_of : InetDevConf → List Setting
settings_of conf = numbered 1 (inet_dev_conf_fields conf)

-- a setting as an attribute, a number of four bytes
abbrev pub setting_frame : Setting → Frame
setting_frame s = record { kind = s.number; payload = to_le_bytes w32 (cast_unsigned w32 s.value) }

-- a setting of zero is not asked for
abbrev pub setting_encoding : Setting → List ℕ
setting_encoding s = if int_eq s.value (pos 0) then [] else canon (setting_frame s)

-- the encodings of settings, one after the other
abbrev pub settings_encoding : List Setting → List ℕ
settings_encoding settings = flat_map setting_encoding settings

-- the value of a request
unfoldable pub request_encoding : InetDevConf → List ℕ
request_encoding conf = settings_encoding (settings_of conf)
