use Rattle.link_vals.proofs.Numbers.{layer_type_again, layer_type_unlisted}
use Rattle.link_vals.proofs.laws.layer_types_read_back.Goals as goal

pub returns-clause-named : goal.returns-clause-named
returns-clause-named c = layer_type_again

pub returns-clause-unlisted : goal.returns-clause-unlisted
returns-clause-unlisted c = layer_type_unlisted
