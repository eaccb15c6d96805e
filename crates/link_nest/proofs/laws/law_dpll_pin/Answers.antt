use Rattle.nla_wire.proofs.Codec.{is_lawful}
use Rattle.link_nest.specs.Tables.{dpll_pin_place}
use Rattle.link_nest.proofs.laws.law_dpll_pin.Goals as goal

pub returns : goal.returns
unfolding dpll_pin_place
returns c = is_lawful dpll_pin_place
