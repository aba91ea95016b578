-- One command after the other, and the rounds between them.
use Rattle.std.proofs.Common.{◌≡◌, inl, inr, ℕ, suc, ◌+◌, ◌-◌, ◌^◌, ◌<◌, ◌≤◌, sym, subst, refl, arith}
use Rattle.std.proofs.Common.{Result, Ok, Err}
use Rattle.ec_ring.specs.declared.port.PortFault.{PortFault}
use Rattle.ecat_serve.specs.Commands.{IsCommanded, ServesCommanded, packets}
use Rattle.ecat_serve.specs.Ends.{Calls}
use Rattle.ecat_serve.specs.Rounds.{Serves, Serving}
use Rattle.ecat_serve.specs.declared.served.Counts.{Counts}

-- nothing has come in yet
abbrev pub no_packets : Counts
no_packets = record { frames = 0; dropped = 0 }

-- what the commands that are left come to, from the line and the ends as they are now, is what all come to
abbrev pub LeadsOn : {E : Type 0} → Calls E → ℕ → ℕ → Serving E → ℕ → Counts → Serving E → Type 0
LeadsOn {E} calls most all start left counts now =
    (result : Result Counts PortFault) (later : Serving E)
    → ServesCommanded calls most left counts now result later
    → ServesCommanded calls most all no_packets start result later

-- one command fewer is left
fewer : (all k : ℕ) → k < all → all - k ≡ suc (all - (k + 1))
fewer all k inside = omega arith

-- before the first one all are left
pub leads_first : {E : Type 0} (calls : Calls E) (most all left : ℕ) (start : Serving E) → left ≡ all
    → LeadsOn calls most all start left no_packets start
leads_first calls most all left start is result later rest =
    subst (λ (n : ℕ). ServesCommanded calls most n no_packets start result later) is rest

-- packets were served, and a command came behind which the service goes on
pub leads_on : {E : Type 0} (calls : Calls E) (most all : ℕ) (start : Serving E) (k : ℕ)
    (counts told : Counts) (now between commanded : Serving E) → k < all
    → Serves calls (most - packets counts) counts now (Ok told) between
    → packets told < most → IsCommanded between.line commanded.line
    → LeadsOn calls most all start (all - k) counts now
    → LeadsOn calls most all start (all - (k + 1)) told commanded
unfolding ServesCommanded
leads_on calls most all start k counts told now between commanded inside serves few does leads result later
    rest =
    leads result later
    (subst (λ (n : ℕ). ServesCommanded calls most n counts now result later) (sym (fewer all k inside))
    (Ok told, between, serves, inr (few, commanded, does, inr rest)))

-- or behind which it ends
pub leads_end : {E : Type 0} (calls : Calls E) (most all : ℕ) (start : Serving E) (k : ℕ)
    (counts told : Counts) (now between commanded : Serving E) → k < all
    → Serves calls (most - packets counts) counts now (Ok told) between
    → packets told < most → IsCommanded between.line commanded.line
    → LeadsOn calls most all start (all - k) counts now
    → ServesCommanded calls most all no_packets start (Ok told) commanded
unfolding ServesCommanded
leads_end calls most all start k counts told now between commanded inside serves few does leads =
    leads (Ok told) commanded
    (subst (λ (n : ℕ). ServesCommanded calls most n counts now (Ok told) commanded) (sym (fewer all k inside))
    (Ok told, between, serves, inr (few, commanded, does, inl (refl, refl))))

-- so many packets have come
pub leads_all : {E : Type 0} (calls : Calls E) (most all : ℕ) (start : Serving E) (k : ℕ)
    (counts told : Counts) (now between : Serving E) → k < all
    → Serves calls (most - packets counts) counts now (Ok told) between → most ≤ packets told
    → LeadsOn calls most all start (all - k) counts now
    → ServesCommanded calls most all no_packets start (Ok told) between
unfolding ServesCommanded
leads_all calls most all start k counts told now between inside serves many leads =
    leads (Ok told) between
    (subst (λ (n : ℕ). ServesCommanded calls most n counts now (Ok told) between) (sym (fewer all k inside))
    (Ok told, between, serves, inl (many, refl, refl)))

-- a call failed
pub leads_fault : {E : Type 0} (calls : Calls E) (most all : ℕ) (start : Serving E) (k : ℕ) (counts : Counts)
    (now between : Serving E) (fault : PortFault) → k < all
    → Serves calls (most - packets counts) counts now (Err fault) between
    → LeadsOn calls most all start (all - k) counts now
    → ServesCommanded calls most all no_packets start (Err fault) between
unfolding ServesCommanded
leads_fault calls most all start k counts now between fault inside serves leads =
    leads (Err fault) between
    (subst (λ (n : ℕ). ServesCommanded calls most n counts now (Err fault) between) (sym (fewer all k inside))
    (Err fault, between, serves, (refl, refl)))

-- no command is left
pub leads_nowhere : {E : Type 0} (calls : Calls E) (most all : ℕ) (start : Serving E) (left : ℕ)
    (counts : Counts) (now : Serving E) → left ≡ 0 → LeadsOn calls most all start left counts now
    → ServesCommanded calls most all no_packets start (Ok counts) now
unfolding ServesCommanded
leads_nowhere calls most all start left counts now none leads =
    leads (Ok counts) now
    (subst (λ (n : ℕ). ServesCommanded calls most n counts now (Ok counts) now) (sym none) (refl, refl))

-- ---- numbers of packets, as they are counted

-- how many may still come, where the count is as it is answered
pub left_is : (most came answer left : ℕ) → came ≤ most → most < 2 ^ 64 → (came < 2 ^ 64 → answer ≡ came)
    → left ≡ most - answer → left ≡ most - came
left_is most came answer left counted fits is sub =
    rw (sub, is (omega (arith, counted, fits))) refl

-- those that came are counted as they are answered
pub told_is : (most came left told answer : ℕ) → came ≤ most → most < 2 ^ 64 → left ≡ most - came
    → told ≤ came + left → (told < 2 ^ 64 → answer ≡ told) → answer ≡ told
told_is most came left told answer counted fits sub more is = is (omega (arith, counted, fits, sub, more))
