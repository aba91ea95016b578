use Rattle.std.proofs.Common.{◌≡◌, ◌+◌, ◌*◌, ◌&&◌, ℕ, Bool, true, List, get_or, sym, ◌∙◌, ap}
use Rattle.std.proofs.lemmas.Bool.{and_parts}
use Rattle.ec_regs.specs.declared.fmmu.Fmmu.{Fmmu}
use Rattle.ec_regs.specs.declared.sync_man.SyncMan.{SyncMan}
use Rattle.ec_regs.specs.SyncMan.{guards_outputs, is_active, is_buffered, master_writes}
use Rattle.ec_areas.specs.Logical.{names, write_map}
use Rattle.ec_areas.specs.Records.{fmmus_of, sync_manager_at, sync_managers_of}
use Rattle.ec_areas.specs.Showing.{last_byte}
use Rattle.ec_areas.proofs.Laws.{active_place, get_or-sync_managers_of}
use Rattle.ec_esc.proofs.PlannedLemmas.{written_byte_by_used}
use Rattle.ec_esc.proofs.planned.PlannedMemory.hands_over.Goals as goal

-- the record that is looked at stands in the memory
area_is : (c : goal.After-writes_outputs)
    → c.index-managers-number.result ≡ sync_manager_at c.args.self.now c.args.number
area_is c =
    let number = c.args.number in
    let area : SyncMan = c.index-managers-number.result in
    c.index-managers-number.is
    ∙ ap (λ (ms : List SyncMan). get_or ms number area) c.self.invariant.managers_are
    ∙ get_or-sync_managers_of c.self.inside.memory area number c.requires
    ∙ ap (λ (m : List ℕ). sync_manager_at m number) c.self.view_is

pub returns-clause-value : goal.returns-clause-value
returns-clause-value c =
    let area : SyncMan = c.index-managers-number.result in
    let memory : List ℕ = c.args.self.now in
    let managers : List SyncMan = sync_managers_of memory in
    let fmmus : List Fmmu = fmmus_of memory in
    let from : ℕ = 8 * c.args.address in
    let n : ℕ = 8 * c.args.count in
    let said : List SyncMan → List Fmmu → SyncMan → Bool = λ ms fs s.
    guards_outputs s && names (λ b. write_map ms fs from n (8 * last_byte s + b)) 8 in
    c.writes_outputs.ensures
    ∙ ap (λ (ms : List SyncMan). said ms c.used_fmmus.result.now area)
    (c.self.invariant.managers_are ∙ ap sync_managers_of c.self.view_is)
    ∙ ap (λ (b : Bool). guards_outputs area && b)
    (written_byte_by_used managers fmmus c.used_fmmus.result.now c.used_fmmus.ensures from n (last_byte area))
    ∙ ap (said managers fmmus) (area_is c)

-- an area that is handed over is active
is_active_then : (c : goal.After-writes_outputs) → c.writes_outputs.result ≡ true
    → is_active (sync_manager_at c.args.self.now c.args.number) ≡ true
is_active_then c handed =
    let s = sync_manager_at c.args.self.now c.args.number in
    let outputs = (and_parts (guards_outputs s) _ (sym (returns-clause-value c) ∙ handed)).0 in
    let buffered = (and_parts (is_active s && is_buffered s) (master_writes s) outputs).0 in
    (and_parts (is_active s) (is_buffered s) buffered).0

pub returns-clause-from : goal.returns-clause-from
returns-clause-from c = λ handed.
    (active_place (sync_manager_at c.args.self.now c.args.number) (is_active_then c handed)).0

pub returns-clause-to : goal.returns-clause-to
returns-clause-to c = λ handed.
    (active_place (sync_manager_at c.args.self.now c.args.number) (is_active_then c handed)).1
