use Rattle.std.proofs.Common.{◌≡◌, ◌≤◌, ◌+◌, ℕ, Bool, true, List, length, get_or, sym, ◌∙◌, ap, refl, arith}
use Rattle.std.proofs.lemmas.Bool.{and_parts}
use Rattle.ec_regs.specs.declared.sync_man.SyncMan.{SyncMan}
use Rattle.ec_regs.specs.declared.registers.TheConstants.{PROCESS_MEMORY, MEMORY_SIZE}
use Rattle.ec_regs.specs.SyncMan.{is_active}
use Rattle.ec_esc.specs.State.{ControllerState, with_area_shown}
use Rattle.ec_areas.specs.Showing.{SaysOfLastBytes}
use Rattle.ec_esc.specs.Writing.{hands_over}
use Rattle.ec_esc.proofs.ShowLemmas.{length-with_area_shown, hands_over_at, shown_after_more}
use Rattle.ec_esc.proofs.ShowLemmas.{shown_after_skip, shown_after_done}
use Rattle.ec_esc.proofs.controller.Controller.show_written.Goals as goal
use Rattle.ec_esc.proofs.controller.Controller.show_written.Goals.{then-hands_over, else-hands_over}

pub loop-i-init : goal.loop-i-init
loop-i-init c = record {
  kept = refl;
  size = ap (λ (s : ControllerState). length s.shown) (sym c.self.view_is) ∙ c.self.invariant.1;
  rest = λ _ _. refl;
}

-- is the area at i handed over
handed_is : (c : goal.Joined-hands_over) (is_written : ℕ → Bool)
    → SaysOfLastBytes is_written c.args.after.now c.args.last_written.now
    → c.hands_over.result
    ≡ hands_over is_written (get_or c.args.before.now c.loop-i.i c.index-before-i.result)
    (get_or c.args.after.now c.loop-i.i c.index-after-i.result)
handed_is c is_written says =
    c.hands_over.ensures.value
    ∙ hands_over_at is_written c.args.before.now c.args.after.now c.args.last_written.now c.loop-i.i
    c.index-before-i.result c.index-after-i.result (omega arith) says

pub loop-i-preserved : goal.loop-i-preserved
loop-i-preserved c =
    let i = c.loop-i.i in
    let before = c.args.before.now in
    let after = c.args.after.now in
    let memory = c.args.self.now.memory in
    let memory_size : length memory ≡ MEMORY_SIZE =
    ap (λ (s : ControllerState). length s.memory) (sym c.self.view_is) ∙ c.self.invariant.0 in
    elim c.if-hands_over.branch [
      | then-hands_over w ↦
          let area : SyncMan = get_or after i c.index-after-i.result in
          let active : is_active area ≡ true = (and_parts (is_active area) _ (sym c.hands_over.ensures.value
          ∙ w.if-hands_over.true)).0 in
          let starts : PROCESS_MEMORY ≤ area.start = c.hands_over.ensures.from w.if-hands_over.true in
          let ends : area.start + area.length ≤ MEMORY_SIZE = c.hands_over.ensures.to w.if-hands_over.true in
          let now : c.if-hands_over.self ≡ record c.args.self.now {
            shown = with_area_shown area memory c.loop-i.self.shown;
          } =
          w.self-is ∙ w.show_area.ensures
          ∙ ap (λ (s : SyncMan). record c.loop-i.self {
            shown = with_area_shown s c.loop-i.self.memory c.loop-i.self.shown;
          }) w.manager.ensures
          ∙ ap (λ (s : ControllerState). record s {
            shown = with_area_shown area s.memory c.loop-i.self.shown;
          }) c.loop-i.invariant.kept
          in
          rw now record {
            kept = refl;
            size = length-with_area_shown area memory c.loop-i.self.shown starts ends memory_size
                c.loop-i.invariant.size ∙ c.loop-i.invariant.size;
            rest = λ is_written says.
                shown_after_more is_written before after memory c.loop-i.self.shown i
                c.index-before-i.result c.index-after-i.result (omega arith) (omega arith)
                (sym (handed_is c is_written says)
                ∙ w.if-hands_over.true) active starts ends memory_size c.loop-i.invariant.size
                ∙ c.loop-i.invariant.rest is_written says;
          }
      | else-hands_over w ↦ rw w.self-is record {
        kept = c.loop-i.invariant.kept;
        size = c.loop-i.invariant.size;
        rest = λ is_written says.
            shown_after_skip is_written before after memory c.loop-i.self.shown i c.index-before-i.result
            c.index-after-i.result (omega arith) (omega arith) (sym (handed_is c is_written says)
            ∙ w.if-hands_over.false)
            ∙ c.loop-i.invariant.rest is_written says;
      }
    ]

pub returns : goal.returns
returns c = λ is_written said.
    c.loop-i.invariant.kept
    ∙ ap (λ (shown : List ℕ). record c.args.self.now { shown = shown })
    (sym (shown_after_done is_written c.args.before.now c.args.after.now c.args.self.now.memory
    c.loop-i.self.shown c.loop-i.i (omega arith))
    ∙ c.loop-i.invariant.rest is_written said)
