-- A datagram that is set once more.
use Rattle.std.proofs.Common.{◌≡◌, ℕ, ◌<◌, List, length, set, ap, ◌∙◌}
use Rattle.std.proofs.lemmas.List.{set-set, get_or-set_same}
use Rattle.ec_wire.specs.Datagram.{DatagramRecord, nth, blank}

-- a datagram that was set is set anew
pub set_again : (w : DatagramRecord → DatagramRecord) (rs f g : List DatagramRecord) (k : ℕ)
    (u : DatagramRecord) → k < length rs → f ≡ set rs k u → g ≡ set f k (w (nth f k)) → g ≡ set rs k (w u)
set_again w rs f g k u inside was now =
    now ∙ ap (λ (l : List DatagramRecord). set l k (w (nth l k))) was
    ∙ ap (λ (r : DatagramRecord). set (set rs k u) k (w r)) (get_or-set_same rs k u blank inside)
    ∙ set-set rs k u (w u)
