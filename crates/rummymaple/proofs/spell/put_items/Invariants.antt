-- The datagrams of the items before k are written behind the header.
use Rattle.std.proofs.Common.{◌≡◌, ◌≤◌, length}
use Rattle.rummymaple.proofs.SpellLemmas.{IsSpelling}
use Rattle.rummymaple.proofs.spell.put_items.Given as goal

abbrev pub invariant-loop-k : goal.invariant-loop-k
invariant-loop-k l = record {
  spelling : IsSpelling l.image l.items l.first l.end l.k l.at l.fn.room l.room;
  inside : l.k ≤ l.end;
  size : length l.room ≡ length l.fn.room;
}
