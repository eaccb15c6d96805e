-- Records that are shorter or longer, and requests.
use Rattle.std.specs.Prelude.{◌↔◌, replicate}
use Rattle.std.proofs.Common.{ℕ, ◌≤◌, ◌==◌, ◌&&◌, Bool, true, false, List, ◌++◌, length, arith, sym, ◌∙◌, length-append}
use Rattle.nla_wire.specs.Frames.{Frame, number}
use Rattle.nla_wire.specs.Grammar.{Grammar, as_a, undecoded, if_true, by_payload}
use Rattle.nla_wire.specs.Payloads.{filled, sized}
use Rattle.nla_wire.specs.Records.{RecordLaws}
use Rattle.link_recs.specs.declared.inet.InetDevConf.{InetDevConf}
use Rattle.link_afspec.specs.PlaceLaws.{NeverRead}
use Rattle.link_afspec.specs.Tables.{inet_dev_conf, af_spec_inet_place}
use Rattle.link_afspec.specs.declared.numbers.TheConstants.{IFLA_INET_CONF}
use Rattle.link_afspec.specs.declared.inet.AfSpecInet.TheVariants.{DevConf, DevConfRequest, Other}

-- ** records

-- a payload's meaning stays from one payload to another
abbrev pub SameMeaning : {A : Type 0} → Grammar (List ℕ) A → List ℕ → List ℕ → Type 0
SameMeaning {A} g p q = (a : A) → g.means p a ↔ g.means q a

module _ {A V : Type 0} {size : ℕ} {of : List ℕ → A} {text : A → List ℕ} (variant : A → V)
    (laws : RecordLaws size of text) where
  pub filled_zeros : (p : List ℕ) (zeros : ℕ) → SameMeaning (as_a variant (filled of)) (p ++ replicate zeros 0) p
  filled_zeros p zeros v =
      let same = laws.zeros p zeros in
      (λ m. (m.0, m.1 ∙ same, m.2), λ m. (m.0, m.1 ∙ sym same, m.2))

  pub filled_longer : (p more : List ℕ) → size ≤ length p → SameMeaning (as_a variant (filled of)) (p ++ more) p
  filled_longer p more long v =
      let same = laws.longer p more long in
      (λ m. (m.0, m.1 ∙ same, m.2), λ m. (m.0, m.1 ∙ sym same, m.2))

  pub sized_longer : (p more : List ℕ) → size ≤ length p → SameMeaning (as_a variant (sized size of)) (p ++ more) p
  sized_longer p more long v =
      let same = laws.longer p more long in
      (λ m. (m.0, (long, m.1.1 ∙ same), m.2), λ m. (m.0, (omega (arith, length-append p more), m.1.1 ∙ sym same), m.2))

-- ** requests

never_at : (t : Bool) (f : Frame) (conf : InetDevConf)
    → (if_true (t && true) (by_payload (as_a DevConf inet_dev_conf.grammar)) (undecoded Other)).means f
    (DevConfRequest conf) → ⊥
never_at true f conf m = absurd cc
never_at false f conf m = absurd cc

pub request_never_read : NeverRead af_spec_inet_place.grammar.means DevConfRequest
unfolding af_spec_inet_place
request_never_read f conf m = never_at (number f == IFLA_INET_CONF) f conf m
