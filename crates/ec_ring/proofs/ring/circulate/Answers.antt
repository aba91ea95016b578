-- One datagram more circulates.
use Rattle.std.proofs.Common.{◌≡◌, ◌<◌, ℕ, length, refl, ap, sym, ◌∙◌, arith, length-set}
use Rattle.std.specs.Prelude.{true}
use Rattle.ec_ring.proofs.MapLemmas.{map_from-zero, map_from-next, map_from-length}
use Rattle.ec_ring.proofs.PassLemmas.{circulating_from}
use Rattle.ec_wire.specs.Datagram.{DatagramRecord, blank}
use Rattle.ec_ring.proofs.ring.circulate.Goals as goal

abbrev circulating : DatagramRecord → DatagramRecord
circulating d = record d { circulating = true }

pub loop-k-init : goal.loop-k-init
loop-k-init c = record { size = refl; so_far = map_from-zero circulating c.args.frame.now }

pub loop-k-preserved : goal.loop-k-preserved
loop-k-preserved c =
    let k = c.loop-k.k in
    let inside : k < length c.loop-k.frame =
    omega (arith, c.loop-k.invariant.size, c.count-count.ensures.count) in
    record {
      size = rw c.set_circulating.ensures (simp length-set c.loop-k.invariant.size);
      so_far = rw c.set_circulating.ensures
          (map_from-next circulating k c.loop-k.frame blank inside ∙ c.loop-k.invariant.so_far);
    }

pub returns : goal.returns
returns c =
    let all : c.loop-k.k ≡ length c.loop-k.frame =
    omega (arith, c.loop-k.invariant.size, c.count-count.ensures.count) in
    let done = map_from-length circulating c.loop-k.frame in
    sym done ∙ ap (λ (k : ℕ). circulating_from k c.loop-k.frame) (sym all) ∙ c.loop-k.invariant.so_far
