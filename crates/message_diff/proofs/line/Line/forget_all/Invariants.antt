use Rattle.std.proofs.Common.{◌≡◌, ℕ, List, drop}
use Rattle.std.specs.Prelude.{None, cond}
use Rattle.std.specs.List.Sorted.{IsStrictlySortedBy}
use Rattle.message_diff.specs.declared.key.Key.{Key}
use Rattle.message_diff.specs.Known.{is_among, key_cmp}
use Rattle.message_diff.specs.Told.{AddsAllGone}
use Rattle.message_diff.specs.Held.{held, shot_told}
use Rattle.message_diff.proofs.line.Line.forget_all.Given as goal

abbrev pub invariant-loop-key : goal.invariant-loop-key
invariant-loop-key l = record {
  known : (q : Key) → cond (is_among (drop l.key-index l.keys) q) None (held l.host q)
      ≡ cond (is_among l.keys q) None (held l.fn.host q);
  dump : l.host.dump ≡ l.fn.host.dump;
  whole : l.host.whole ≡ l.fn.host.whole;
  sorted : IsStrictlySortedBy key_cmp l.keys → IsStrictlySortedBy key_cmp (drop l.key-index l.keys);
  told : IsStrictlySortedBy key_cmp l.keys → (all : List ℕ)
      → AddsAllGone l.self.front.now (shot_told l.self.told l.host) (drop l.key-index l.keys) l.out.items all
      → AddsAllGone l.self.front.now (shot_told l.self.told l.fn.host) l.keys l.fn.out.items all;
}
