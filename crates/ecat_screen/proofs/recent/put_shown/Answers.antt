use Rattle.std.proofs.Common.{rules, ◌≡◌, ◌++◌, ◌∷◌, ◌∙◌, [], ℕ, ◌<◌, length, ap}
use Rattle.ecat_screen.specs.Kept.{shown}
use Rattle.ecat_screen.specs.declared.recent.TheConstants.{WIDTH}
use Rattle.ecat_screen.proofs.RowLemmas.{with_room, without_room}
use Rattle.ecat_screen.proofs.recent.put_shown.Goals as goal

-- src/recent.rt:76:1
pub returns-then-not-is_full : goal.returns-then-not-is_full
returns-then-not-is_full c =
    let room : length c.args.line.now.items < WIDTH = search rules in
    c.push.ensures.items ∙ ap (λ (b : ℕ). c.args.line.now.items ++ b ∷ []) c.shown.ensures
    ∙ with_room WIDTH c.args.line.now.items (shown c.args.byte) room

-- src/recent.rt:76:1
pub returns-else-not-is_full : goal.returns-else-not-is_full
returns-else-not-is_full c =
    let full : length c.args.line.now.items ≡ WIDTH = search rules in
    without_room WIDTH c.args.line.now.items (shown c.args.byte) full
