use Rattle.std.proofs.Common.{◌∙◌, sym, inl, inr, eq-eqb, ne_eqb}
use Rattle.std.proofs.lemmas.Bool.{cases_eq}
use Rattle.link_msg.proofs.LenientPorts.{other_number, measured_ports, unmeasured_ports}
use Rattle.link_msg.proofs.lenient_encoding.is_no_port.Goals as goal

pub returns-then-kind-ne-IFLA_VF_PORTS : goal.returns-then-kind-ne-IFLA_VF_PORTS
returns-then-kind-ne-IFLA_VF_PORTS c = λ v read.
    other_number c.args.family c.args.frame.now c.is_frame.ensures v read
    (λ is. c.if-kind-ne-IFLA_VF_PORTS.true (c.kind.ensures ∙ is))

pub returns-in-Some : goal.returns-in-Some
returns-in-Some c = λ v read.
    let m = measured_ports c.args.family c.args.frame.now c.is_frame.ensures v read c.in-Some.len
    (sym c.kind.ensures ∙ c.if-kind-ne-IFLA_VF_PORTS.false) c.in-Some.ensures in
    elim (cases_eq c.in-Some.len 0) [
      | inl none ↦ rw (eq-eqb _ _ none) (m.0 none)
      | inr some ↦ rw (ne_eqb _ _ some) (m.1 some)
    ]

pub returns-in-None : goal.returns-in-None
returns-in-None c = λ v read.
    unmeasured_ports c.args.family c.args.frame.now c.is_frame.ensures v read c.in-None.ensures
