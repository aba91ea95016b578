use Rattle.std.proofs.Common.{◌≡◌, ◌≤◌, ◌<◌, ◌&&◌, ℕ, Bool, true, List, length, get_or, sym, ◌∙◌, ap, refl}
use Rattle.std.proofs.Common.{arith}
use Rattle.std.proofs.lemmas.Bool.{and_parts}
use Rattle.ec_regs.specs.declared.sync_man.SyncMan.{SyncMan}
use Rattle.ec_regs.specs.declared.registers.TheConstants.{MEMORY_SIZE}
use Rattle.ec_regs.specs.SyncMan.{guards_outputs, is_active}
use Rattle.ec_areas.specs.Records.{sync_manager_at, sync_managers_of}
use Rattle.ec_areas.specs.Showing.{last_byte}
use Rattle.ec_areas.proofs.Laws.{active_place, get_or-sync_managers_of, length-sync_managers_of}
use Rattle.ec_esc.specs.State.{ControllerState, with_area_shown}
use Rattle.ec_esc.specs.Writing.{hands_over, reaches_byte}
use Rattle.ec_esc.proofs.ShowLemmas.{length-with_area_shown, hands_over_outputs, shown_after_more}
use Rattle.ec_esc.proofs.ShowLemmas.{shown_after_skip, shown_after_done}
use Rattle.ec_esc.proofs.controller.Controller.show_outputs.Goals as goal
use Rattle.ec_esc.proofs.controller.Controller.show_outputs.Goals.{then-hands_over, else-hands_over}

pub loop-number-init : goal.loop-number-init
loop-number-init c = record {
  kept = refl;
  size = ap (λ (s : ControllerState). length s.shown) (sym c.self.view_is) ∙ c.self.invariant.1;
  rest = refl;
}

-- the memory is that of before
same : (c : goal.Joined-hands_over) → c.self-in-loop-number.inside.memory ≡ c.args.self.now.memory
same c = ap (λ (s : ControllerState). s.memory) (c.self-in-loop-number.view_is ∙ c.loop-number.invariant.kept)

-- the sync manager with the number
abbrev area_at : goal.Joined-hands_over → SyncMan
area_at c =
    get_or (sync_managers_of c.args.self.now.memory) c.loop-number.number
    (sync_manager_at c.args.self.now.memory c.loop-number.number)

-- it is the one that stands there in the memory
area_is : (c : goal.Joined-hands_over)
    → area_at c ≡ sync_manager_at c.args.self.now.memory c.loop-number.number
area_is c =
    get_or-sync_managers_of c.args.self.now.memory
    (sync_manager_at c.args.self.now.memory c.loop-number.number) c.loop-number.number c.loop-number-test.true

-- is its area handed over
handed_is : (c : goal.Joined-hands_over) → c.hands_over.result
    ≡ hands_over (reaches_byte c.args.self.now.memory c.args.address c.args.count) (area_at c) (area_at c)
handed_is c =
    let number = c.loop-number.number in
    let address = c.args.address in
    let count = c.args.count in
    let memory : List ℕ = c.args.self.now.memory in
    c.hands_over.ensures.value
    ∙ ap (λ (m : List ℕ). guards_outputs (sync_manager_at m number) && reaches_byte m address count
    (last_byte (sync_manager_at m number))) (same c)
    ∙ sym (hands_over_outputs (reaches_byte memory address count) (sync_manager_at memory number))
    ∙ ap (λ (s : SyncMan). hands_over (reaches_byte memory address count) s s) (sym (area_is c))

pub loop-number-preserved : goal.loop-number-preserved
loop-number-preserved c =
    let number = c.loop-number.number in
    let memory : List ℕ = c.args.self.now.memory in
    let managers : List SyncMan = sync_managers_of memory in
    let written : ℕ → Bool = reaches_byte memory c.args.address c.args.count in
    let area = area_at c in
    let inside : number < length managers = omega (arith, length-sync_managers_of memory, c.loop-number-test.true) in
    let memory_size : length memory ≡ MEMORY_SIZE =
    ap (λ (s : ControllerState). length s.memory) (sym c.self.view_is) ∙ c.self.invariant.0 in
    elim c.if-hands_over.branch [
      | then-hands_over w ↦
          let handed : hands_over written area area ≡ true = sym (handed_is c) ∙ w.if-hands_over.true in
          let active : is_active area ≡ true = (and_parts (is_active area) _ handed).0 in
          let place = active_place area active in
          let now : c.if-hands_over.self ≡ record c.args.self.now {
            shown = with_area_shown area memory c.loop-number.self.shown;
          } =
          w.self-is ∙ w.show_area.ensures
          ∙ ap (λ (s : SyncMan). record c.loop-number.self {
            shown = with_area_shown s c.loop-number.self.memory c.loop-number.self.shown;
          }) w.syncman-area.ensures
          ∙ ap (λ (s : ControllerState). record s {
            shown = with_area_shown (sync_manager_at s.memory number) s.memory c.loop-number.self.shown;
          }) c.loop-number.invariant.kept
          ∙ ap (λ (s : SyncMan). record c.args.self.now {
            shown = with_area_shown s memory c.loop-number.self.shown;
          }) (sym (area_is c))
          in
          rw now record {
            kept = refl;
            size = length-with_area_shown area memory c.loop-number.self.shown place.0 place.1 memory_size
                c.loop-number.invariant.size ∙ c.loop-number.invariant.size;
            rest =
                shown_after_more written managers managers memory c.loop-number.self.shown number
                (sync_manager_at memory number) (sync_manager_at memory number) inside inside
                handed active place.0 place.1 memory_size c.loop-number.invariant.size
                ∙ c.loop-number.invariant.rest;
          }
      | else-hands_over w ↦ rw w.self-is record {
        kept = c.loop-number.invariant.kept;
        size = c.loop-number.invariant.size;
        rest =
            shown_after_skip written managers managers memory c.loop-number.self.shown number
            (sync_manager_at memory number) (sync_manager_at memory number) inside inside
            (sym (handed_is c) ∙ w.if-hands_over.false)
            ∙ c.loop-number.invariant.rest;
      }
    ]

pub returns : goal.returns
returns c =
    let memory : List ℕ = c.args.self.now.memory in
    let managers : List SyncMan = sync_managers_of memory in
    let all : length managers ≤ c.loop-number.number =
    omega (arith, length-sync_managers_of memory) in
    c.loop-number.invariant.kept
    ∙ ap (λ (shown : List ℕ). record c.args.self.now { shown = shown })
    (sym (shown_after_done (reaches_byte memory c.args.address c.args.count) managers managers memory
    c.loop-number.self.shown c.loop-number.number all)
    ∙ c.loop-number.invariant.rest)
