-- What the contracts of `link_msg` say is what the headline says.
use Rattle.std.specs.Prelude.{◌≢◌, ℕ, ◌⊎◌, Bool, List, Result, Ok, Err, IfOk, IfErr}
use Rattle.std.proofs.Common.{subst, sym, inl, inr}
use Rattle.std.specs.Global.{Vec}
use Rattle.nla_wire.specs.Grammar.{list, First}
use Rattle.nla_wire.specs.declared.error.Cause.{Cause}
use Rattle.nla_wire.specs.declared.error.Cause.TheVariants.{OutOfMemory}
use Rattle.nla_wire.specs.declared.error.DecodeError.{DecodeError}
use Rattle.link_msg.specs.Messages.{Means, FirstFault, IsBounded}
use Rattle.link_msg.specs.Canonical as canonical
use Rattle.link_msg.specs.Canonical.{HasText, AreSame}
use Rattle.link_msg.specs.LawStatements.{OneMeaning, TextMeansTheSame, SameTextSameMessage}
use Rattle.link_msg.specs.OneAnswer.{EachHasOneAnswer, OneFault, FaultOrMeaning, Answer, IsAnswer}
use Rattle.link_msg.specs.declared.encoding.CanonError.{CanonError}
use Rattle.link_msg.specs.declared.encoding.CanonError.TheVariants as Refusals
use Rattle.link_msg.specs.declared.message.LinkMessage.{LinkMessage}
use Rattle.link_headline.specs.Headline.{KernelMeans, KernelFault, Accepts, IsParsed, IsChecked, IsEncoded, IsSame}
use Rattle.link_headline.specs.Headline.{IsRefusal, Format}
use Rattle.link_headline.specs.Words.{SameMeaning, SameFault}
use Rattle.link_headline.proofs.Tied.{one_place}
use Rattle.link_headline.proofs.Following.{written}

-- ** meaning and fault

means : (b : List ℕ) (m : LinkMessage) → Means b m → KernelMeans b m
means b m d = (
  d.0,
  d.1,
  d.2,
  d.3,
  subst (λ p. (list p).means d.1 m.attributes) (one_place m.header.interface_family) d.4,
)

means_back : (b : List ℕ) (m : LinkMessage) → KernelMeans b m → Means b m
means_back b m d = (
  d.0,
  d.1,
  d.2,
  d.3,
  subst (λ p. (list p).means d.1 m.attributes) (sym (one_place m.header.interface_family)) d.4,
)

pub same_meaning : SameMeaning
same_meaning b m = (means b m, means_back b m)

fault : (b : List ℕ) (c : Cause) → FirstFault b c → KernelFault b c
fault b c (inl short) = inl short
fault b c (inr d) =
    inr (d.0, d.1, d.2, d.3, d.4, subst (λ p. First p d.1 c) (one_place d.2.interface_family) d.5)

fault_back : (b : List ℕ) (c : Cause) → KernelFault b c → FirstFault b c
fault_back b c (inl short) = inl short
fault_back b c (inr d) =
    inr (d.0, d.1, d.2, d.3, d.4, subst (λ p. First p d.1 c) (sym (one_place d.2.interface_family)) d.5)

pub same_fault : SameFault
same_fault b c = (fault b c, fault_back b c)

-- ** the format

accepts : (b : List ℕ) (m : LinkMessage) → canonical.IsAccepted b m → Accepts b m
accepts b m a = record { means = means b m a.means; fits = a.fits; ports = a.ports }

decided_by : (b : List ℕ) (a : Answer) → IsAnswer b a
    → ((m : LinkMessage) × KernelMeans b m) ⊎ ((c : Cause) × KernelFault b c)
decided_by b (Answer.Text t) is = inl (is.message, means b is.message is.accepted.means)
decided_by b (Answer.Fault c) is = inr (c, fault b c is.0)
decided_by b Answer.Unfit is = inl (is.0, means b is.0 is.1)
decided_by b Answer.EmptyPorts is = inl (is.0, means b is.0 is.1)

pub format : OneMeaning → OneFault → FaultOrMeaning → EachHasOneAnswer → TextMeansTheSame → SameTextSameMessage → Format
format one_meaning one_fault fault_or_meaning one_answer text_means same_text = record {
  written = written;
  decided = λ b small. decided_by b (one_answer b small).answer (one_answer b small).is;
  not_both = λ b m c k f. fault_or_meaning b c m (fault_back b c f) (means_back b m k);
  one_meaning = λ b m n k l. one_meaning b m n (means_back b m k) (means_back b n l);
  one_fault = λ b c d f g. one_fault b c d (fault_back b c f) (fault_back b d g);
  encoding_means = λ b m small a. means _ m (text_means b m small (means_back b m a.means) a.fits a.ports);
  same_encoding = λ a b m n small smaller x y.
      same_text a b m n small smaller (means_back a m x.means) (means_back b n y.means) x.fits y.fits x.ports y.ports;
}

-- ** what the calls return

pub parsed : (b : List ℕ) (r : Result LinkMessage DecodeError) → IfOk r (Means b) → IfOk r (IsBounded b)
    → IfErr r (λ e. e.cause ≢ OutOfMemory → FirstFault b e.cause) → IsParsed b r
parsed b (Ok m) is bounds why =
    (means b m is, record { few = bounds.few; short = bounds.short; small = bounds.small })
parsed b (Err e) is bounds why = λ other. fault b e.cause (why other)

pub checked : (b : List ℕ) (r : Result Unit DecodeError) → IfOk r (λ x. (m : LinkMessage) × Means b m)
    → IfErr r (λ e. FirstFault b e.cause) → IfErr r (λ e. e.cause ≢ OutOfMemory) → IsChecked b r
checked b (Ok x) found why memory = (found.0, means b found.0 found.1)
checked b (Err e) found why memory = (fault b e.cause why, memory)

refusal : (b : List ℕ) (e : CanonError) → canonical.IsRefusal b e → IsRefusal b e
refusal b (Refusals.Decode e) is = (fault b e.cause is.0, is.1)
refusal b Refusals.DoesNotFit is = (is.0, means b is.0 is.1, is.2)
refusal b Refusals.EmptyVfPorts is = (is.0, means b is.0 is.1, is.2, is.3)
refusal b Refusals.OutOfMemory is = tt

pub texted : (b : List ℕ) (r : Result (Vec ℕ) CanonError) → IfOk r (λ t. HasText b t.items)
    → IfErr r (canonical.IsRefusal b) → IsEncoded b r
texted b (Ok t) has why = (has.message, accepts b has.message has.accepted, has.text, has.short)
texted b (Err e) has why = refusal b e why

refusal_of_two : (a b : List ℕ) (e : CanonError) → canonical.IsRefusalOfTwo a b e → IsSame a b (Err e)
refusal_of_two a b e (inl first) = inl (refusal a e first)
refusal_of_two a b e (inr second) = inr ((second.0.0, accepts a second.0.0 second.0.1), refusal b e second.1)

pub compared : (a b : List ℕ) (r : Result Bool CanonError) → IfOk r (AreSame a b)
    → IfErr r (canonical.IsRefusalOfTwo a b) → IsSame a b r
compared a b (Ok answer) same why =
    (same.0, same.1, accepts a same.0 same.2.first, accepts b same.1 same.2.second, same.2.messages)
compared a b (Err e) same why = refusal_of_two a b e why
