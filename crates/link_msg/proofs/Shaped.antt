-- The attribute of a frame by its shape: what is checked and written from its payload is what the place reads.
use Rattle.std.proofs.Common.{◌≡◌, ℕ, List, length, sym, ap, ap₂, subst, ◌∙◌, Option}
use Rattle.std.proofs.Common.{Result, Ok, Err}
use Rattle.nla_wire.specs.Frames.{Frame, number, IsFrame}
use Rattle.nla_wire.specs.Gives.{Checks, Adds}
use Rattle.nla_wire.specs.Canon.{canon, Weighs, HasRoom, Rewrites}
use Rattle.nla_wire.specs.declared.error.DecodeError.{DecodeError}
use Rattle.nla_wire.proofs.Codec.{kind_of}
use Rattle.nla_wire.specs.Reading.{◌>>=◌}
use Rattle.nla_wire.specs.declared.error.Cause.{Cause}
use Rattle.nla_wire.proofs.Tables.{IsOther, other_reads, reads_in, ReadsBy, line_by}
use Rattle.nla_wire.proofs.Tables.{Shape as Shaping}
use Rattle.nla_wire.proofs.Shapes.{ShapeChecks, ShapeWeighs, ShapeRoom, ShapeWrites, WayChecks, WayWeighs, WayRoom}
use Rattle.nla_wire.proofs.Shapes.{WayWrites, lined_checks, lined_weighs, lined_room, lined_writes}
use Rattle.link_vals.specs.declared.address_family.AddressFamily.{AddressFamily}
use Rattle.link_msg.specs.Tables.{base, NotEmptyPorts, attribute_view, attribute_entries, attribute_frame}
use Rattle.link_msg.specs.Tables.{AttributeFits, attribute_place, attribute_way, as_way, other_kept}
use Rattle.link_msg.specs.declared.shape.Shape.{Shape}
use Rattle.link_msg.specs.declared.attribute.LinkAttribute.{LinkAttribute}
use Rattle.link_msg.specs.declared.attribute.LinkAttribute.TheVariants as Attributes

-- the shape that code found for a kind's number is that of the frame
pub shape_here : (family : AddressFamily) (f : Frame) (n : ℕ) (p : List ℕ) (told shape : Option Shape) → n ≡ number f
    → p ≡ f.payload → told ≡ shape
    → as_way told ≡ attribute_way family n (length p)
    → attribute_way family (number f) (length f.payload) ≡ as_way shape
shape_here family f n p told shape same payload is of =
    ap₂ (λ k (q : List ℕ). attribute_way family k (length q)) (sym same) (sym payload) ∙ sym of ∙ ap as_way is

module _ (family : AddressFamily) (f : Frame) where
  pub shape_checks : (shape : Option Shape) (answer : Result Unit DecodeError)
      → attribute_way family (number f) (length f.payload) ≡ as_way shape
      → WayChecks base attribute_view NotEmptyPorts (as_way shape) f.payload answer
      → Checks answer ((attribute_place family).reads f)
  unfolding attribute_place
  shape_checks shape answer is h = lined_checks base attribute_view NotEmptyPorts Attributes.Other other_kept
      (attribute_entries family) f (as_way shape) is answer h

  pub shape_weighs : (shape : Option Shape) (a : Option ℕ)
      → attribute_way family (number f) (length f.payload) ≡ as_way shape → IsFrame f
      → WayWeighs base attribute_view NotEmptyPorts (as_way shape) f.payload a
      → Weighs (λ v. (attribute_frame v).payload) AttributeFits ((attribute_place family).reads f) a
  unfolding attribute_place
  shape_weighs shape a is one h =
      lined_weighs base attribute_view NotEmptyPorts Attributes.Other other_kept (attribute_entries family) f
      (as_way shape) is one.bytes one.size a h

  pub shape_room : (shape : Option Shape) (room : ℕ)
      → attribute_way family (number f) (length f.payload) ≡ as_way shape → IsFrame f
      → HasRoom (λ v. canon (attribute_frame v)) AttributeFits ((attribute_place family).reads f) room
      → WayRoom base attribute_view NotEmptyPorts (as_way shape) f room
  unfolding attribute_place
  shape_room shape room is one h =
      lined_room base attribute_view NotEmptyPorts Attributes.Other other_kept (attribute_entries family) f
      (as_way shape) is one.bytes room h

  pub shape_writes : (shape : Option Shape) (old new : List ℕ) (n : ℕ)
      → attribute_way family (number f) (length f.payload) ≡ as_way shape → IsFrame f
      → WayWrites base attribute_view NotEmptyPorts (as_way shape) f old new n
      → Rewrites (λ v. canon (attribute_frame v)) ((attribute_place family).reads f) old new n
  unfolding attribute_place
  shape_writes shape old new n is one h =
      lined_writes base attribute_view NotEmptyPorts Attributes.Other other_kept (attribute_entries family) f
      (as_way shape) is one.bytes old new n h

-- an attribute whose payload is refused is refused for the same cause
pub shape_refuses : (family : AddressFamily) (f : Frame) (s : Shape) (c : Cause)
    → attribute_way family (number f) (length f.payload) ≡ Shaping s → (base s).codec.grammar.reads f.payload ≡ Err c
    → (attribute_place family).reads f ≡ Err c
unfolding attribute_place
shape_refuses family f s c is refused =
    let read = reads_in base attribute_view NotEmptyPorts (number f) (length f.payload) (attribute_entries family)
    (λ f. Ok (Attributes.Other f)) in
    let by : ReadsBy base attribute_view NotEmptyPorts (number f) (Shaping s) read =
    subst (λ w. ReadsBy base attribute_view NotEmptyPorts (number f) w read) is
    (line_by base attribute_view NotEmptyPorts Attributes.Other other_kept (number f) (length f.payload)
    (attribute_entries family)) in
    by.reads f ∙ ap (λ r. r >>= λ x. Ok (by.make x)) refused

-- an attribute of a number that no line has is kept
pub adds_other : (family : AddressFamily) (f : Frame) (answer : Result Unit DecodeError) (old new : List LinkAttribute)
    → IsOther base attribute_view NotEmptyPorts (attribute_entries family) (number f)
    → Adds answer (Ok (Attributes.Other f)) old new → Adds answer ((attribute_place family).reads f) old new
unfolding attribute_place
adds_other family f answer old new other h =
    subst (λ r. Adds answer r old new)
    (sym (other_reads base attribute_view NotEmptyPorts (number f) (length f.payload) (attribute_entries family)
    (λ f. Ok (Attributes.Other f)) f other)) h

-- ** arms of code for one shape

pub arm_checks : (s t : Shape) (p : List ℕ) (a : Result Unit DecodeError) → s ≡ t → ShapeChecks base t p a
    → ShapeChecks base s p a
arm_checks s t p a is h = subst (λ x. ShapeChecks base x p a) (sym is) h

pub arm_weighs : (s t : Shape) (p : List ℕ) (a : Option ℕ) → s ≡ t → ShapeWeighs base t p a → ShapeWeighs base s p a
arm_weighs s t p a is h = subst (λ x. ShapeWeighs base x p a) (sym is) h

pub arm_room : (s t : Shape) (n : ℕ) (p : List ℕ) (room : ℕ) → s ≡ t
    → ShapeRoom base s (kind_of (base s).flags n) p room → ShapeRoom base t (kind_of (base t).flags n) p room
arm_room s t n p room is h = subst (λ x. ShapeRoom base x (kind_of (base x).flags n) p room) is h

pub arm_writes : (s t : Shape) (n : ℕ) (p old new : List ℕ) (m : ℕ) → s ≡ t
    → ShapeWrites base t (kind_of (base t).flags n) p old new m
    → ShapeWrites base s (kind_of (base s).flags n) p old new m
arm_writes s t n p old new m is h = subst (λ x. ShapeWrites base x (kind_of (base x).flags n) p old new m) (sym is) h
