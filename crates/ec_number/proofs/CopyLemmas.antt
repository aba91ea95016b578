-- A packet that spells one frame is a copy exactly where that frame came of the sent one.
use Rattle.std.proofs.Common.{◌≡◌, ◌∙◌, ℕ, List, Option, Some, None, IfSome, sym, ap, subst}
use Rattle.ec_wire.specs.Datagram.{DatagramRecord}
use Rattle.ec_wire.specs.Fault.{IsSpelt}
use Rattle.ec_wire.specs.declared.fault.Form.TheVariants.{Udp}
use Rattle.ec_number.specs.Number.{CameBack, IsCopyOf}

pub taken : (sent copy : List DatagramRecord) (packet : List ℕ) (r : Option (List DatagramRecord))
    → IsSpelt Udp packet copy → ((rs : List DatagramRecord) → IsSpelt Udp packet rs → copy ≡ rs)
    → IfSome r (λ xs. (xs ≡ copy) × CameBack sent copy) → (CameBack sent copy → r ≡ Some copy)
    → IsCopyOf sent (Some packet) r
taken sent copy packet None spelt only came kept = (
  tt,
  λ rs is. kept (subst (CameBack sent) (sym (only rs is.spelt)) is.came) ∙ ap Some (only rs is.spelt),
)
taken sent copy packet (Some xs) spelt only came kept = (
  record {
    spelt = subst (IsSpelt Udp packet) (sym came.0) spelt;
    came = subst (CameBack sent) (sym came.0) came.1;
  },
  λ rs is. kept (subst (CameBack sent) (sym (only rs is.spelt)) is.came) ∙ ap Some (only rs is.spelt),
)
