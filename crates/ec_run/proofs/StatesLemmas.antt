-- Slaves that are asked for a state until they are in it.
use Rattle.std.proofs.Common.{◌≡◌, ℕ, suc, sym, refl, subst, true, false, List, Result, Ok, Err}
use Rattle.ec_wire.specs.Datagram.{DatagramRecord}
use Rattle.ec_regs.specs.declared.al.AlState.{AlState}
use Rattle.ec_master.specs.Ports.{Trips}
use Rattle.ec_services.specs.declared.fault.MasterFault.{MasterFault}
use Rattle.ec_services.specs.declared.fault.MasterFault.TheVariants.{NoAnswer}
use Rattle.ec_run.specs.Ask.{IsPut}
use Rattle.ec_run.specs.States.{Leaves, control_broadcast, is_left, states_read}

-- what the asks that are left come to, from the ports as they are now, is what all come to
abbrev pub LeavesOn : {P : Type 0} → Trips P → P → P → AlState → ℕ → ℕ → ℕ → Type 0
LeavesOn {P} trips start now state slaves all left =
    (result : Result (Unit {0}) MasterFault) (later : P)
    → Leaves trips now state slaves left result later → Leaves trips start state slaves all result later

-- one ask: the write, and then the read with this answer
pub record Once {P : Type 0} (trips : Trips P) (now : P) (state : AlState)
    (joined : Result (List DatagramRecord) MasterFault) (after : P) : Type 0 where
  pub written : Result (List DatagramRecord) MasterFault
  pub between : P
  pub writes : IsPut trips now (control_broadcast state) written between
  pub reads : IsPut trips between states_read joined after

asks-again : {P : Type 0} (trips : Trips P) (now after : P) (state : AlState) (slaves left : ℕ)
    (joined : Result (List DatagramRecord) MasterFault) → is_left state slaves joined ≡ false
    → Once trips now state joined after
    → (result : Result (Unit {0}) MasterFault) (later : P)
    → Leaves trips after state slaves left result later
    → Leaves trips now state slaves (suc left) result later
unfolding Leaves
asks-again trips now after state slaves left joined not_yet once result later more =
    (once.written, once.between, once.writes, joined, after, once.reads, rw not_yet more)

asks-once : {P : Type 0} (trips : Trips P) (now after : P) (state : AlState) (slaves left : ℕ)
    (joined : Result (List DatagramRecord) MasterFault) → is_left state slaves joined ≡ true
    → Once trips now state joined after
    → Leaves trips now state slaves (suc left) (Ok tt) after
unfolding Leaves
asks-once trips now after state slaves left joined they_are once =
    (once.written, once.between, once.writes, joined, after, once.reads, rw they_are (refl, refl))

asks-none : {P : Type 0} (trips : Trips P) (now : P) (state : AlState) (slaves : ℕ)
    → Leaves trips now state slaves 0 (Err NoAnswer) now
unfolding Leaves
asks-none trips now state slaves = (refl, refl)

pub leaves_on : {P : Type 0} (trips : Trips P) (start now after : P) (state : AlState)
    (slaves all left less : ℕ) (joined : Result (List DatagramRecord) MasterFault)
    → LeavesOn trips start now state slaves all left → left ≡ suc less
    → is_left state slaves joined ≡ false → Once trips now state joined after
    → LeavesOn trips start after state slaves all less
leaves_on trips start now after state slaves all left less joined so_far is not_yet once result later more =
    so_far result later
    (subst (λ (n : ℕ). Leaves trips now state slaves n result later) (sym is)
    (asks-again trips now after state slaves less joined not_yet once result later more))

pub leaves_end : {P : Type 0} (trips : Trips P) (start now after : P) (state : AlState)
    (slaves all left less : ℕ) (joined : Result (List DatagramRecord) MasterFault)
    → LeavesOn trips start now state slaves all left → left ≡ suc less
    → is_left state slaves joined ≡ true → Once trips now state joined after
    → Leaves trips start state slaves all (Ok tt) after
leaves_end trips start now after state slaves all left less joined so_far is they_are once =
    so_far (Ok tt) after
    (subst (λ (n : ℕ). Leaves trips now state slaves n (Ok tt) after) (sym is)
    (asks-once trips now after state slaves less joined they_are once))

pub leaves_none : {P : Type 0} (trips : Trips P) (start now : P) (state : AlState) (slaves all left : ℕ)
    → LeavesOn trips start now state slaves all left → left ≡ 0
    → Leaves trips start state slaves all (Err NoAnswer) now
leaves_none trips start now state slaves all left so_far is =
    so_far (Err NoAnswer) now
    (subst (λ (n : ℕ). Leaves trips now state slaves n (Err NoAnswer) now) (sym is)
    (asks-none trips now state slaves))
