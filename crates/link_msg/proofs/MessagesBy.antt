-- Messages by any lawful table of attributes: the reader agrees, what is read is bounded, and its text means the same.
use Rattle.std.proofs.Common.{◌≡◌, ℕ, ◌+◌, ◌<◌, ◌≤◌, inl, inr, List, ◌++◌, length, take, drop, refl, sym, ap, subst}
use Rattle.std.proofs.Common.{◌∙◌}
use Rattle.std.proofs.Common.{arith, length-append, lt-ltb, le-ltb, lit<, Result, Ok, Err}
use Rattle.std.specs.Prelude.{IfOk}
use Rattle.std.proofs.lemmas.Bool.Decides.{leb_tells}
use Rattle.std.proofs.lemmas.List.{take-append-drop, length-take-le}
use Rattle.std.proofs.Math.Seq.{take-append_seam, drop-append_seam}
use Rattle.nla_wire.specs.Sizes.{growth, attribute_small}
use Rattle.nla_wire.specs.Frames.{Frame, IsBytes}
use Rattle.nla_wire.specs.Grammar.{Grammar, Agrees, list}
use Rattle.nla_wire.specs.Canon.{canons}
use Rattle.nla_wire.specs.Gives.{Gives}
use Rattle.nla_wire.specs.declared.error.Cause.{Cause}
use Rattle.nla_wire.specs.declared.error.Cause.TheVariants.{TooShort, OutOfMemory}
use Rattle.nla_wire.specs.declared.error.DecodeError.{DecodeError}
use Rattle.nla_wire.proofs.Lawful.{LawfulPlace, place_count, place_growth, place_all_fit, place_back}
use Rattle.nla_wire.proofs.Lists.{list_agrees}
use Rattle.nla_wire.proofs.Meaning.{one_meaning}
use Rattle.nla_wire.proofs.Memory.{memory_list}
use Rattle.nla_wire.proofs.Steps.{bytes_left, bytes_right}
use Rattle.link_vals.specs.declared.address_family.AddressFamily.{AddressFamily}
use Rattle.link_msg.specs.Header.{header_size, header_of, header_bytes, IsHeader}
use Rattle.link_msg.specs.Tables.{attribute_frame, AttributeFits, NotEmptyPorts, attribute_count}
use Rattle.link_msg.specs.Messages.{MessageFits, NoEmptyPorts, IsBounded, message_text, with_header}
use Rattle.link_msg.specs.Lenient.{MeansBy, FaultBy, read_after_by, read_by, message_by}
use Rattle.link_msg.specs.declared.attribute.LinkAttribute.{LinkAttribute}
use Rattle.link_msg.specs.declared.header.LinkHeader.{LinkHeader}
use Rattle.link_msg.specs.declared.message.LinkMessage.{LinkMessage}
use Rattle.link_msg.proofs.Messaging.{text_length}
use Rattle.link_msg.proofs.HeaderBack.{header_back}

-- every byte string is shorter than a header, or a header and what is after it
pub parts : (b : List ℕ) → header_size ≤ length b → b ≡ take header_size b ++ drop header_size b
parts b long = sym (take-append-drop header_size b)

pub is_header : (b : List ℕ) → header_size ≤ length b → IsHeader (take header_size b) (header_of (take header_size b))
is_header b long = record { size = length-take-le header_size b long; says = refl }

bytes_after : (n : ℕ) (b : List ℕ) → IsBytes b → IsBytes (drop n b)
bytes_after n b small = bytes_right (take n b) (drop n b) (subst IsBytes (sym (take-append-drop n b)) small)

bound_ok : (v : LinkHeader) (r : Result (List LinkAttribute) Cause) (m : LinkMessage) → with_header v r ≡ Ok m
    → (attributes : List LinkAttribute) × (r ≡ Ok attributes) × (m ≡ record { header = v; attributes = attributes })
bound_ok v (Ok attributes) m e = (attributes, refl, cc)
bound_ok v (Err c) m e = absurd cc

bound_err : (v : LinkHeader) (r : Result (List LinkAttribute) Cause) (c : Cause) → with_header v r ≡ Err c → r ≡ Err c
bound_err v (Ok attributes) c e = absurd cc
bound_err v (Err d) c e = let same : d ≡ c = cc in ap (λ x. Err x) same

module _ (place : AddressFamily → Grammar Frame LinkAttribute)
    (lawful : (family : AddressFamily) → LawfulPlace (place family) attribute_frame AttributeFits NotEmptyPorts
    attribute_count growth 0 attribute_small) where
  pub agree_by : (family : AddressFamily) → Agrees IsBytes (list (place family))
  agree_by family = list_agrees (place family) (lawful family).agrees

  read_short : (b : List ℕ) → length b < header_size → read_by place b ≡ Err (TooShort (length b) header_size)
  unfolding read_by
  read_short b short = rw (lt-ltb (length b) header_size short) refl

  read_long : (b : List ℕ) → header_size ≤ length b
      → read_by place b ≡ read_after_by place (header_of (take header_size b)) (drop header_size b)
  unfolding read_by
  read_long b long = rw (le-ltb (length b) header_size long) refl

  read_split : (h c : List ℕ) → length h ≡ header_size → read_by place (h ++ c) ≡ read_after_by place (header_of h) c
  read_split h c size =
      let long : header_size ≤ length (h ++ c) = omega (arith, length-append h c, size) in
      let front : take header_size (h ++ c) ≡ h = ap (λ n. take n (h ++ c)) (sym size) ∙ take-append_seam h c in
      let after : drop header_size (h ++ c) ≡ c = ap (λ n. drop n (h ++ c)) (sym size) ∙ drop-append_seam h c in
      read_long (h ++ c) long ∙ ap (λ x. read_after_by place (header_of x) (drop header_size (h ++ c))) front
      ∙ ap (read_after_by place (header_of h)) after

  read_only : (b : List ℕ) (m : LinkMessage) → MeansBy place b m → read_by place b ≡ Ok m
  read_only b m (h, c, whole, header, means) =
      ap (read_by place) whole ∙ read_split h c header.size ∙ ap (λ v. read_after_by place v c) (sym header.says)
      ∙ ap (with_header m.header) ((agree_by m.header.interface_family).only c m.attributes means)

  read_found : (b : List ℕ) (m : LinkMessage) → IsBytes b → read_by place b ≡ Ok m → MeansBy place b m
  read_found b m small e = elim (leb_tells header_size (length b)) [
    | inr short ↦ (let clash = sym (read_short b short.1) ∙ e in absurd cc)
    | inl long ↦
        (let v : LinkHeader = header_of (take header_size b) in
        let found = bound_ok v _ m (sym (read_long b long.1) ∙ e) in
        subst (λ x. MeansBy place b x) (sym found.2) (
          take header_size b,
          drop header_size b,
          parts b long.1,
          is_header b long.1,
          (agree_by v.interface_family).found (drop header_size b) found.0 (bytes_after header_size b small) found.1,
        ))
  ]

  read_fault : (b : List ℕ) (c : Cause) → IsBytes b → read_by place b ≡ Err c → FaultBy place b c
  read_fault b c small e = elim (leb_tells header_size (length b)) [
    | inr short ↦ (let clash = sym (read_short b short.1) ∙ e in let same : TooShort (length b) header_size ≡ c = cc in
        inl (short.1, sym same))
    | inl long ↦
        (let v : LinkHeader = header_of (take header_size b) in
        inr (
          take header_size b,
          drop header_size b,
          v,
          parts b long.1,
          is_header b long.1,
          (agree_by v.interface_family).fault (drop header_size b) c (bytes_after header_size b small)
              (bound_err v _ c (sym (read_long b long.1) ∙ e)),
        ))
  ]

  read_refused : (b : List ℕ) (c : Cause) → FaultBy place b c → read_by place b ≡ Err c
  read_refused b c (inl (short, is)) = read_short b short ∙ ap (λ x. Err x) (sym is)
  read_refused b c (inr (h, d, v, whole, header, first)) =
      ap (read_by place) whole ∙ read_split h d header.size ∙ ap (λ x. read_after_by place x d) (sym header.says)
      ∙ ap (with_header v) ((agree_by v.interface_family).refused d c first)

  pub agrees_by : Agrees IsBytes (message_by place)
  agrees_by = record { only = read_only; found = read_found; fault = read_fault; refused = read_refused }

  pub memory_by : (b : List ℕ) → FaultBy place b OutOfMemory → ⊥
  memory_by b (inl (short, is)) = absurd cc
  memory_by b (inr (h, d, v, whole, header, first)) =
      memory_list (place v.interface_family) (lawful v.interface_family).no_memory d first

  pub bounded_by : (b : List ℕ) (m : LinkMessage) → IsBytes b → MeansBy place b m → IsBounded b m
  bounded_by b m bytes (h, c, whole, header, means) =
      let family = m.header.interface_family in
      let size : length b ≡ header_size + length c =
      omega (arith, ap (λ (x : List ℕ). length x) whole, length-append h c, header.size) in
      let counted = place_count (place family) attribute_frame AttributeFits NotEmptyPorts attribute_count
      growth 0 attribute_small (lawful family) c m.attributes means in
      let grown = place_growth (place family) attribute_frame AttributeFits NotEmptyPorts attribute_count 0
      attribute_small (lawful family) c m.attributes means in
      record {
        few = omega (arith, size, counted);
        short = omega (arith, size, grown, text_length m);
        small = λ few.
            let after : IsBytes c = bytes_right h c (subst IsBytes whole bytes) in
            let fit =
            place_all_fit (place family) attribute_frame AttributeFits NotEmptyPorts attribute_count growth 0
            attribute_small (lawful family) (lit< tt) c m.attributes (omega (arith, size, few)) after means in
            (fit.0, omega (arith, text_length m, grown, size, few));
      }

  pub gives_bounded_by : (b : List ℕ) (r : Result LinkMessage DecodeError) → IsBytes b → Gives r (read_by place b)
      → IfOk r (IsBounded b)
  gives_bounded_by b (Ok m) bytes gives = bounded_by b m bytes (agrees_by.found b m bytes gives)
  gives_bounded_by b (Err e) bytes gives = tt

  pub back_by : (b : List ℕ) (m : LinkMessage) → IsBytes b → MeansBy place b m → MessageFits m → NoEmptyPorts m
      → MeansBy place (message_text m) m
  back_by b m small (h, c, whole, header, means) fits ports =
      let bytes : IsBytes (h ++ c) = subst IsBytes whole small in (
        header_bytes m.header,
        canons attribute_frame m.attributes,
        refl,
        header_back h m.header (bytes_left h c bytes) header,
        place_back (place m.header.interface_family) attribute_frame AttributeFits NotEmptyPorts attribute_count
            growth 0 attribute_small (lawful m.header.interface_family)
            c m.attributes (bytes_right h c bytes) means fits.0 ports,
      )

  pub one_by : (b : List ℕ) (m n : LinkMessage) → MeansBy place b m → MeansBy place b n → m ≡ n
  one_by b m n = one_meaning IsBytes (message_by place) agrees_by b m n
