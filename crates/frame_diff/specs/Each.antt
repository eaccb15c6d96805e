-- Lists of values that are their own keys, as they are shown.
use Rattle.std.specs.Prelude.{List, map}
use Rattle.json.specs.Token.{Token}
use Rattle.frame_diff.specs.Values.{value_shown}
use Rattle.frame_diff.specs.Walked.{Showing}
use Rattle.frame_diff.specs.declared.each.Each.{Each}
use Rattle.frame_diff.specs.declared.leaf.Value.{Value}

-- a value, by what its list is shown by
abbrev pub one_shown : Showing → Each → Value → List Token
one_shown nest e v = value_shown (nest e.around.now) e.around.now v

abbrev pub whole_shown : Showing → Each → List Token
whole_shown nest e = one_shown nest e e.whole

abbrev pub each_shown : Showing → Each → List (List Token)
each_shown nest e = map (one_shown nest e) e.values.items
