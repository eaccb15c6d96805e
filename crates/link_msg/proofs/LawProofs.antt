-- The laws of messages.
use Rattle.std.proofs.Common.{arith, ◌≡◌, ℕ, ◌^◌, ◌<◌, List, [], ◌∷◌, ◌++◌, length, drop, take, sym, ap, ◌∙◌, subst}
use Rattle.std.specs.List.{AllByRecursion}
use Rattle.std.proofs.Math.Seq.{drop-append_seam, take-append_seam}
use Rattle.nla_wire.specs.Frames.{IsFrame, IsBytes}
use Rattle.nla_wire.specs.Grammar.{list}
use Rattle.nla_wire.specs.Canon.{IsWritable, canons}
use Rattle.nla_wire.proofs.Meaning.{one_meaning}
use Rattle.nla_wire.proofs.Joined.{list_join, list_parts}
use Rattle.nla_wire.proofs.Converse.{list_members}
use Rattle.link_vals.specs.declared.address_family.AddressFamily.{AddressFamily}
use Rattle.link_recs.specs.StatsFields.{stats_size, stats_laws}
use Rattle.link_recs.specs.Stats64Fields.{stats64_size, stats64_laws}
use Rattle.link_recs.specs.MapFields.{map_size, map_laws}
use Rattle.link_afspec.specs.PlaceLaws.{ZerosAdded, LongerIgnored}
use Rattle.link_afspec.proofs.Lawed.{filled_zeros, filled_longer, sized_longer}
use Rattle.link_msg.specs.Header.{header_bytes}
use Rattle.link_msg.specs.Tables.{attribute_frame, AttributeFits, NotEmptyPorts, attribute_view, attribute_entries}
use Rattle.link_msg.specs.Tables.{attribute_place, attribute_lawful}
use Rattle.link_msg.specs.declared.numbers.TheConstants.{IFLA_STATS, IFLA_MAP, IFLA_STATS64}
use Rattle.link_msg.specs.Messages.{Means, message, message_text}
use Rattle.link_msg.specs.LawStatements.{OneMeaning, OnlyWithPorts, SameTextSameMessage, CanonicalTwice, Joined}
use Rattle.link_msg.specs.declared.attribute.LinkAttribute.{LinkAttribute}
use Rattle.link_msg.specs.declared.attribute.LinkAttribute.TheVariants as Attributes
use Rattle.link_msg.proofs.Reading.{message_agrees}
use Rattle.link_msg.proofs.Messaging.{header_length}
use Rattle.link_msg.proofs.ReadingBack.{message_back}

pub one_message : OneMeaning
one_message b m n = one_meaning IsBytes message message_agrees b m n

pub same_text : SameTextSameMessage
same_text a b m n small_a small_b means_a means_b fits_a fits_b ports_a ports_b = (
  λ e. one_message (message_text n) m n (subst (λ t. Means t m) e (message_back a m small_a means_a fits_a ports_a))
      (message_back b n small_b means_b fits_b ports_b),
  λ e. ap message_text e,
)

pub canonical_twice : CanonicalTwice
canonical_twice b m n small means fits ports again =
    ap message_text (one_message (message_text m) n m again (message_back b m small means fits ports))

pub joined : Joined
joined family c d vs aligned means = (
  λ ws after. list_join (attribute_place family) c d vs ws aligned means after,
  λ us whole.
      let parts = list_parts (attribute_place family) (λ f v w. one_meaning IsFrame (attribute_place family)
      (attribute_lawful family).agrees f v w) c d vs us aligned means whole in
      (parts.0, parts.2, parts.1),
)

-- what stands after parts of one length is the same
pub after_same : (a b c d : List ℕ) → length a ≡ length b → a ++ c ≡ b ++ d → d ≡ c
after_same a b c d size whole =
    sym (drop-append_seam b d) ∙ ap (drop (length b)) (sym whole) ∙ ap (λ n. drop n (a ++ c)) (sym size)
    ∙ drop-append_seam a c

-- and so is what stands in front
pub front_same : (a b c d : List ℕ) → length a ≡ length b → a ++ c ≡ b ++ d → a ≡ b
front_same a b c d size whole =
    sym (take-append_seam a c) ∙ ap (take (length a)) whole ∙ ap (λ n. take n (b ++ d)) size ∙ take-append_seam b d

-- ** records that are filled up, and records with bytes after them

module _ (family : AddressFamily) where
  pub stats_zeros_added : ZerosAdded (attribute_place family).means IFLA_STATS
  unfolding attribute_place attribute_entries attribute_view
  stats_zeros_added kind p zeros v is = rw is (filled_zeros Attributes.Stats stats_laws.laws p zeros v)

  pub stats_longer_ignored : LongerIgnored (attribute_place family).means IFLA_STATS stats_size
  unfolding attribute_place attribute_entries attribute_view
  stats_longer_ignored kind p more v is long = rw is (filled_longer Attributes.Stats stats_laws.laws p more long v)

  pub stats64_zeros_added : ZerosAdded (attribute_place family).means IFLA_STATS64
  unfolding attribute_place attribute_entries attribute_view
  stats64_zeros_added kind p zeros v is = rw is (filled_zeros Attributes.Stats64 stats64_laws.laws p zeros v)

  pub stats64_longer_ignored : LongerIgnored (attribute_place family).means IFLA_STATS64 stats64_size
  unfolding attribute_place attribute_entries attribute_view
  stats64_longer_ignored kind p more v is long =
      rw is (filled_longer Attributes.Stats64 stats64_laws.laws p more long v)

  pub map_longer_ignored : LongerIgnored (attribute_place family).means IFLA_MAP map_size
  unfolding attribute_place attribute_entries attribute_view
  map_longer_ignored kind p more v is long = rw is (sized_longer Attributes.Map map_laws p more long v)

-- ** what its own text means holds no empty list of ports

ports_of : (family : AddressFamily) (v : LinkAttribute) → (attribute_place family).means (attribute_frame v) v
    → NotEmptyPorts v
unfolding attribute_place attribute_entries attribute_view
ports_of family (Attributes.VfPorts []) means = absurd (omega (arith, means.1.0))
ports_of family (Attributes.VfPorts (port ∷ ports)) means = omega arith
ports_of family _ means = tt

all_ports : (family : AddressFamily) (vs : List LinkAttribute)
    → AllByRecursion (λ v. (attribute_place family).means (attribute_frame v) v) vs → AllByRecursion NotEmptyPorts vs
all_ports family [] means = tt
all_ports family (v ∷ vs) means = (ports_of family v means.0, all_ports family vs means.1)

writable : (vs : List LinkAttribute) → AllByRecursion (λ v. (attribute_frame v).kind < 2 ^ 16) vs
    → AllByRecursion AttributeFits vs → AllByRecursion (λ v. IsWritable (attribute_frame v)) vs
writable [] kinds fits = tt
writable (v ∷ vs) kinds fits = (record { kind = kinds.0; size = fits.0.0 }, writable vs kinds.1 fits.1)

pub only_with_ports : OnlyWithPorts
only_with_ports m kinds fits (h, c, whole, header, means) =
    let same : c ≡ canons attribute_frame m.attributes = after_same (header_bytes m.header) h
    (canons attribute_frame m.attributes) c (header_length m.header ∙ sym header.size) whole in (
      (message_text m, (h, c, whole, header, means)),
      all_ports m.header.interface_family m.attributes
          (list_members (attribute_place m.header.interface_family) attribute_frame m.attributes
          (subst (λ x. (list (attribute_place m.header.interface_family)).means x m.attributes) same means)
          (writable m.attributes kinds fits.0)),
    )
