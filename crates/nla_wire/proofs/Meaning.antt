-- What follows from agreement: one meaning, one cause, never both, and always one of both.
use Rattle.std.proofs.Common.{◌≡◌, Result, Ok, Err}
use Rattle.nla_wire.specs.Grammar.{Grammar, Agrees}
use Rattle.nla_wire.specs.declared.error.Cause.{Cause}

pub ok_once : {A : Type 0} (r : Result A Cause) (a b : A) → r ≡ Ok a → r ≡ Ok b → a ≡ b
ok_once r a b e k = cc

pub not_both : {A : Type 0} (r : Result A Cause) (a : A) (c : Cause) → r ≡ Ok a → r ≡ Err c → ⊥
not_both r a c e k = absurd cc

module _ {S A : Type 0} (One : S → Type 0) (g : Grammar S A) (h : Agrees One g) where
  pub one_meaning : (s : S) (a b : A) → g.means s a → g.means s b → a ≡ b
  one_meaning s a b m n = ok_once (g.reads s) a b (h.only s a m) (h.only s b n)

  pub never_both : (s : S) (a : A) (c : Cause) → g.means s a → g.bad s c → ⊥
  never_both s a c m n = not_both (g.reads s) a c (h.only s a m) (h.refused s c n)
