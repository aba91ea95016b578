use Rattle.std.proofs.Common.{◌≡◌, sym, subst, length, List, [], ◌∷◌}
use Rattle.ec_wire.specs.Datagram.{record_of, nth, DatagramRecord}
use Rattle.ec_merge.specs.Frames.{IsOwn, copy_or, joined_frame}
use Rattle.ec_services.proofs.AreaLemmas.{joined_size}
use Rattle.ec_services.proofs.asking.ask.Goals as goal

pub returns-in-Ok-join_frames-clause-size : goal.returns-in-Ok-join_frames-clause-size
returns-in-Ok-join_frames-clause-size g c =
    let s : DatagramRecord = record_of c.args.sent.now in
    rw (c.in-Ok-join_frames.ensures.joined)
    (subst (λ (f : List DatagramRecord). length (nth (joined_frame f (copy_or c.as_ref.result f)
    (copy_or c.as_ref-2.result f)) 0).payload
    ≡ length s.payload) (sym c.of-frame.ensures)
    (joined_size s (copy_or c.as_ref.result (s ∷ [])) (copy_or c.as_ref-2.result (s ∷ []))
    (subst (λ (f : List DatagramRecord). IsOwn f (copy_or c.as_ref.result f)) c.of-frame.ensures
    c.in-Ok-join_frames.ensures.own_a)
    (subst (λ (f : List DatagramRecord). IsOwn f (copy_or c.as_ref-2.result f)) c.of-frame.ensures
    c.in-Ok-join_frames.ensures.own_b)))
