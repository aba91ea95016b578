use Rattle.std.proofs.Common.{◌≡◌, ◌*◌, List, ℕ, length, take, get_or, sym, ◌∙◌, ap, subst, arith}
use Rattle.ec_regs.specs.Bits.{AreBytes, with_bits}
use Rattle.ec_regs.specs.declared.fmmu.Fmmu.{Fmmu}
use Rattle.ec_regs.specs.declared.sync_man.SyncMan.{SyncMan}
use Rattle.ec_regs.specs.declared.registers.TheConstants.{AL_STATUS, MEMORY_SIZE}
use Rattle.ec_regs.proofs.Laws.{length-with_bits, with_bits_same_places}
use Rattle.ec_areas.specs.Logical.{write_map, writes_some}
use Rattle.ec_areas.specs.Records.{fmmus_of, sync_managers_of}
use Rattle.ec_areas.proofs.Laws.{fmmus_same, sync_managers_same}
use Rattle.ec_esc.specs.Reached.{AreUsed}
use Rattle.ec_esc.proofs.PlannedLemmas.{registers_stay, status_stays, first_are_used, written_by_used}
use Rattle.ec_esc.proofs.PlannedLemmas.{writes_some_by_used}
use Rattle.ec_esc.proofs.planned.PlannedMemory.write_mapped.Goals as goal

-- the memory keeps its size
size : (c : goal.After-write_mapped) → length c.write_mapped.new.memory ≡ MEMORY_SIZE
size c = ap length c.write_mapped.ensures.bits
    ∙ length-with_bits c.self.inside.memory c.args.payload.now _ ∙ c.self.invariant.size

pub invariant_of-self : goal.invariant_of-self
invariant_of-self c =
    let memory : List ℕ = c.self.inside.memory in
    let are : AreBytes memory = subst AreBytes (sym c.self.view_is) c.requires in
    let same = registers_stay memory c.args.payload.now c.self.inside.managers
    (take c.used_count-count.result c.self.inside.fmmus) (8 * c.args.address) (8 * length c.args.payload.now) c.self.invariant.size are in
    record {
      size = size c;
      fmmus_are = c.self.invariant.fmmus_are ∙ sym (ap fmmus_of c.write_mapped.ensures.bits
          ∙ fmmus_same memory _ same);
      extent_is = c.self.invariant.extent_is;
      managers_are =
          c.self.invariant.managers_are
          ∙ sym (ap sync_managers_of c.write_mapped.ensures.bits ∙ sync_managers_same memory _ same);
      status =
          status_stays memory c.write_mapped.new.memory
          (ap (λ (m : List ℕ). get_or m AL_STATUS 0) c.write_mapped.ensures.bits
          ∙ same.bytes AL_STATUS (omega arith))
          c.self.invariant.status;
    }

pub returns-clause-size : goal.returns-clause-size
returns-clause-size c = size c

-- the sync managers are those of the memory
managers_are : (c : goal.After-write_mapped) → c.self.inside.managers ≡ sync_managers_of c.args.self.now
managers_are c = c.self.invariant.managers_are ∙ ap sync_managers_of c.self.view_is

-- and the FMMUs that are asked those of which need be asked
are_used : (c : goal.After-write_mapped)
    → AreUsed (fmmus_of c.args.self.now) (take c.used_count-count.result c.self.inside.fmmus)
are_used c =
    first_are_used c.args.self.now c.self.inside.fmmus c.used_count-count.result
    (c.self.invariant.fmmus_are ∙ ap (λ (m : List ℕ). fmmus_of m) c.self.view_is) c.used_count-count.ensures.count

pub returns-clause-bits : goal.returns-clause-bits
returns-clause-bits c =
    let memory : List ℕ = c.args.self.now in
    let payload : List ℕ = c.args.payload.now in
    let managers : List SyncMan = sync_managers_of memory in
    let fmmus : List Fmmu = fmmus_of memory in
    let from : ℕ = 8 * c.args.address in
    let n : ℕ = 8 * length payload in
    let few : List Fmmu = take c.used_count-count.result c.self.inside.fmmus in
    let asked : List SyncMan = c.self.inside.managers in
    c.write_mapped.ensures.bits
    ∙ ap (λ (m : List ℕ). with_bits m payload (write_map asked few from n)) c.self.view_is
    ∙ ap (λ (ms : List SyncMan). with_bits memory payload (write_map ms few from n)) (managers_are c)
    ∙ with_bits_same_places memory payload (write_map managers few from n) (write_map managers fmmus from n)
    (λ i inside. written_by_used managers fmmus few (are_used c) from n i)

pub returns-clause-served : goal.returns-clause-served
returns-clause-served c =
    let managers : List SyncMan = sync_managers_of c.args.self.now in
    let fmmus : List Fmmu = fmmus_of c.args.self.now in
    let from : ℕ = 8 * c.args.address in
    let n : ℕ = 8 * length c.args.payload.now in
    let few : List Fmmu = take c.used_count-count.result c.self.inside.fmmus in
    c.write_mapped.ensures.served
    ∙ ap (λ (ms : List SyncMan). writes_some ms few from n) (managers_are c)
    ∙ writes_some_by_used managers fmmus few (are_used c) from n
