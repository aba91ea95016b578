use Rattle.std.proofs.Common.{◌≡◌, ◌*◌, ◌+◌, ℕ, List, length, sym, ◌∙◌, ap}
use Rattle.ec_regs.specs.Bits.{with_bits}
use Rattle.ec_regs.specs.declared.fmmu.Fmmu.{Fmmu}
use Rattle.ec_regs.specs.declared.sync_man.SyncMan.{SyncMan}
use Rattle.ec_regs.proofs.Laws.{with_bits_none, with_bits_same_places}
use Rattle.ec_areas.specs.Logical.{read_map, read_places, reads_some}
use Rattle.ec_areas.specs.Records.{fmmus_of, sync_managers_of}
use Rattle.ec_areas.proofs.Laws.{names_none}
use Rattle.ec_esc.proofs.PlannedLemmas.{read_by_used, reads_some_by_used}
use Rattle.ec_esc.proofs.planned.PlannedMemory.read_mapped.Goals as goal

pub returns-then-reads_elsewhere-clause-bits : goal.returns-then-reads_elsewhere-clause-bits
returns-then-reads_elsewhere-clause-bits c =
    let managers : List SyncMan = sync_managers_of c.args.self.now in
    let fmmus : List Fmmu = fmmus_of c.args.self.now in
    let from : ℕ = 8 * c.args.address in
    sym (with_bits_none c.args.into.now c.args.self.now (read_places managers fmmus from) c.are_bytes.ensures
    (λ i inside. names_none (λ i. read_map managers fmmus (from + i)) (8 * length c.args.into.now) i
    (c.reads_elsewhere.ensures c.if-reads_elsewhere.true) inside))

-- the sync managers are those of the memory
managers_are : (c : goal.After-slice_known-2-1) → c.self.inside.managers ≡ sync_managers_of c.args.self.now
managers_are c = c.self.invariant.managers_are ∙ ap sync_managers_of c.self.view_is

pub returns-clause-bits : goal.returns-clause-bits
returns-clause-bits c =
    let into : List ℕ = c.args.into.now in
    let memory : List ℕ = c.args.self.now in
    let managers : List SyncMan = sync_managers_of memory in
    let fmmus : List Fmmu = fmmus_of memory in
    let from : ℕ = 8 * c.args.address in
    let few : List Fmmu = c.used_fmmus.result.now in
    c.read_mapped.ensures.bits
    ∙ ap (λ (m : List ℕ). with_bits into m (read_places c.self.inside.managers few from))
    (c.bytes-memory.ensures.value ∙ c.self.view_is)
    ∙ ap (λ (ms : List SyncMan). with_bits into memory (read_places ms few from)) (managers_are c)
    ∙ with_bits_same_places into memory (read_places managers few from) (read_places managers fmmus from)
    (λ i inside. read_by_used managers fmmus few c.used_fmmus.ensures (from + i))

pub returns-clause-served : goal.returns-clause-served
returns-clause-served c =
    let managers : List SyncMan = sync_managers_of c.args.self.now in
    let fmmus : List Fmmu = fmmus_of c.args.self.now in
    let from : ℕ = 8 * c.args.address in
    let n : ℕ = 8 * length c.args.into.now in
    c.read_mapped.ensures.served
    ∙ ap (λ (ms : List SyncMan). reads_some ms c.used_fmmus.result.now from n) (managers_are c)
    ∙ reads_some_by_used managers fmmus c.used_fmmus.result.now c.used_fmmus.ensures from n
