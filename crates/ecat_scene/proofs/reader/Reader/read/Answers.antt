use Rattle.std.proofs.Common.{◌≡◌, ◌+◌, ◌≤◌, ◌∷◌, Ok, drop, length, ap, sym, ◌∙◌, arith, rules}
use Rattle.std.proofs.lemmas.List.{drop_all, length_push}
use Rattle.std.specs.List.{slice_split}
use Rattle.std.specs.Slice.Iter.{split_callee, split_done, split_rest}
use Rattle.ecat_scene.specs.Deeds.{is_line_end, lines_do, text_does}
use Rattle.ecat_scene.specs.Scene.{scene_record}
use Rattle.ecat_scene.proofs.DeedLemmas.{if-some, left, same-does, stopped, turn}
use Rattle.ecat_scene.proofs.SignalLemmas.{judged-all, judged-stopped}
use Rattle.ecat_scene.proofs.WordLemmas.{no_part_left, part_at}
use Rattle.ecat_scene.proofs.reader.Reader.read.Goals as goal
use Rattle.ecat_scene.proofs.reader.Reader.read.Goals.{In-Some}

-- the line that is read is the first of those that are left
this-line : (c : In-Some) → let lines = slice_split is_line_end c.args.text.now in
    let n = length c.loop-line.yielded in drop n lines ≡ c.in-Some.line.now ∷ drop (n + 1) lines
this-line c =
    let same = c.into_iter-line-iterator.ensures.into_iter_gives in
    left (slice_split is_line_end c.args.text.now) (length c.loop-line.yielded) c.in-Some.line.now
    (part_at _ _ _ _ is_line_end c.args.text.now
    (ap split_rest same ∙ c.split-line-items.ensures.rest)
    (ap split_done same ∙ c.split-line-items.ensures.done)
    (ap split_callee same ∙ c.split-line-items.ensures.closure)
    (λ x b q k. search rules) c.loop-line.yielded c.loop-line.yielded_by _ _ c.next.ensures.steps
    c.in-Some.line c.in-Some.is)

pub loop-line-preserved : goal.loop-line-preserved
loop-line-preserved c = λ does h.
    let lines = slice_split is_line_end c.args.text.now in
    let n = length c.loop-line.yielded in
    let now = scene_record c.loop-line.self.scene in
    let here = this-line (goal.at.loop-line-preserved c).In-Some in
    let before = record c.loop-line.self { line = c.saturating_add.result } in
    let inv = c.loop-line.invariant does h in
    let step = turn before c.read_line.new.self c.in-Some.line.now (drop (n + 1) lines) does c.in-Ok.ensures
    (ap (λ ls. lines_do ls now) (sym here) ∙ inv.0) in
    let further = length_push c.loop-line.yielded c.in-Some.line in (
      ap (λ k. lines_do (drop k lines) (scene_record c.read_line.new.self.scene)) further ∙ step.0,
      step.1 ∙ inv.1,
    )

pub returns-in-Err-clause-read : goal.returns-in-Err-clause-read
returns-in-Err-clause-read c = λ none. if-some (text_does c.args.text.now (scene_record c.args.self.scene)) _
    (λ does h.
    let lines = slice_split is_line_end c.args.text.now in
    let n = length c.loop-line.yielded in
    let now = scene_record c.loop-line.self.scene in
    let here = this-line (goal.at.returns-in-Err-clause-read c).In-Some in
    let before = record c.loop-line.self { line = c.saturating_add.result } in
    let inv = c.loop-line.invariant does h in
    rw c.fault_of.ensures.told (judged-stopped _ does
    (stopped _ before c.read_line.new.self c.in-Some.line.now (drop (n + 1) lines)
    c.in-Err.stop does c.in-Err.ensures (ap (λ ls. lines_do ls now) (sym here) ∙ inv.0))))

pub returns-clause-read : goal.returns-clause-read
returns-clause-read c = λ none. if-some (text_does c.args.text.now (scene_record c.args.self.scene)) _
    (λ does h.
    let lines = slice_split is_line_end c.args.text.now in
    let n = length c.loop-line.yielded in
    let same = c.into_iter-line-iterator.ensures.into_iter_gives in
    let all = no_part_left _ _ _ _ is_line_end c.args.text.now
    (ap split_rest same ∙ c.split-line-items.ensures.rest)
    (ap split_done same ∙ c.split-line-items.ensures.done)
    (ap split_callee same ∙ c.split-line-items.ensures.closure)
    (λ x b q k. search rules) c.loop-line.yielded c.loop-line.yielded_by _ _ c.next.ensures.steps
    c.in-None.is in
    let last : length lines ≤ n = omega arith in
    let now = scene_record c.loop-line.self.scene in
    let done = ap (λ ls. lines_do ls now) (sym (drop_all n lines last)) ∙ (c.loop-line.invariant does h).0 in
    judged-all now does c.judged.result (same-does (Ok now) does done)
    (c.judged.ensures.judged ((c.loop-line.invariant does h).1 ∙ none)))
