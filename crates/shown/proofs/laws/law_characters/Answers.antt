use Rattle.shown.proofs.Characters.{characters_shown}
use Rattle.shown.proofs.laws.law_characters.Goals as goal

pub returns : goal.returns
returns c = characters_shown
