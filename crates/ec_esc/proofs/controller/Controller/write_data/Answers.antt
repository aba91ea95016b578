use Rattle.std.proofs.Common.{◌≡◌, ◌+◌, ◌*◌, ℕ, false, List, None, length, sym, ◌∙◌, ap, subst}
use Rattle.ec_regs.specs.Bits.{AreBytes, with_bits}
use Rattle.ec_regs.specs.declared.fmmu.Fmmu.{Fmmu}
use Rattle.ec_regs.specs.declared.sync_man.SyncMan.{SyncMan}
use Rattle.ec_regs.proofs.Laws.{length-with_bits}
use Rattle.ec_areas.specs.Logical.{write_map, names}
use Rattle.ec_areas.specs.Records.{fmmus_of, sync_managers_of}
use Rattle.ec_areas.proofs.Laws.{fmmus_same, sync_managers_same}
use Rattle.ec_esc.specs.Pass.{Half, mapped_write, serves_write, where_served, write_sources, written_by}
use Rattle.ec_esc.specs.State.{ControllerState}
use Rattle.ec_esc.specs.Writing.{shown_after}
use Rattle.ec_esc.proofs.IdleLemmas.{written_by_nothing}
use Rattle.ec_esc.proofs.PlannedLemmas.{registers_stay}
use Rattle.ec_esc.proofs.ServedLemmas.{written_mapped}
use Rattle.ec_esc.proofs.controller.Controller.write_data.Goals as goal

pub invariant_of-self : goal.invariant_of-self
invariant_of-self c = (
  ap length c.write_mapped-served.ensures.bits
      ∙ length-with_bits c.self.inside.memory c.args.payload.now _ ∙ c.self.invariant.0,
  c.self.invariant.1,
)

-- a controller with a memory, once those areas are shown whose last byte these FMMUs reached
abbrev with_shown : ControllerState → ℕ → ℕ → List ℕ → List SyncMan → List Fmmu → ControllerState
with_shown s address count memory managers fmmus = record s {
  memory = memory;
  shown = shown_after (λ byte. names (λ b. write_map managers fmmus (8 * address)
      (8 * count) (8 * byte + b)) 8) managers managers memory s.shown;
}

pub returns-clause-state : goal.returns-clause-state
returns-clause-state c n =
    let came : ControllerState = record {
      memory = c.self.inside.memory;
      shown = c.self.inside.shown.items;
      written = c.self.inside.written;
    } in
    let address = c.args.address in
    let payload : List ℕ = c.args.payload.now in
    let memory : List ℕ = came.memory in
    let managers : List SyncMan = sync_managers_of memory in
    let fmmus : List Fmmu = fmmus_of memory in
    let bytes : AreBytes memory = subst AreBytes c.bytes.ensures.value c.are_bytes.ensures in
    let written : List ℕ =
    with_bits memory payload (write_map managers fmmus (8 * address) (8 * length payload)) in
    let same = registers_stay memory payload managers fmmus (8 * address) (8 * length payload)
    c.self.invariant.0 bytes in
    let shown : List ℕ → List SyncMan → List Fmmu → ControllerState = with_shown came address (length payload) in
    c.show_outputs.ensures
    ∙ ap (λ (m : List ℕ). shown m (sync_managers_of m) (fmmus_of m)) c.write_mapped-served.ensures.bits
    ∙ ap (λ (ms : List SyncMan). shown written ms (fmmus_of written)) (sync_managers_same memory written same)
    ∙ ap (λ (fs : List Fmmu). shown written managers fs) (fmmus_same memory written same)
    ∙ written_mapped came address payload n bytes c.self.invariant.0
    ∙ ap (λ (s : ControllerState). written_by (mapped_write n s address (length payload)) payload s)
    c.self.view_is

-- a write that the hull of what is written misses is not served
unserved : (c : goal.Then-writes_elsewhere)
    → serves_write c.args.self.now c.args.address (length c.args.payload.now) ≡ false
unserved c =
    let count : ℕ = length c.args.payload.now in
    ap (λ (s : ControllerState). serves_write s c.args.address count) (sym c.self.view_is)
    ∙ c.writes_elsewhere.ensures c.if-writes_elsewhere.true

pub returns-then-writes_elsewhere-clause-state : goal.returns-then-writes_elsewhere-clause-state
returns-then-writes_elsewhere-clause-state c n =
    let s : ControllerState = c.args.self.now in
    let address = c.args.address in
    let payload : List ℕ = c.args.payload.now in
    let half : Half = record {
      places = write_sources s address (length payload);
      gain = n;
      mail = None;
    } in
    subst (λ b. s ≡ written_by (where_served b half) payload s) (sym (unserved c))
    (sym (written_by_nothing s payload
    (subst AreBytes (c.bytes.ensures.value ∙ ap (λ (t : ControllerState). t.memory) c.self.view_is)
    c.are_bytes.ensures)
    (ap (λ (t : ControllerState). length t.memory) (sym c.self.view_is) ∙ c.bytes.ensures.size)))

pub returns-then-writes_elsewhere-clause-served : goal.returns-then-writes_elsewhere-clause-served
returns-then-writes_elsewhere-clause-served c = sym (unserved c)
