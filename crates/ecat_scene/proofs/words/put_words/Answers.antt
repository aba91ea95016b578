use Rattle.std.proofs.Common.{◌∙◌, ap, sym, rules, filter, map}
use Rattle.std.specs.Slice.Iter.{split_rest, split_done, split_callee}
use Rattle.ecat_scene.specs.Text.{has_bytes}
use Rattle.ecat_scene.proofs.WordLemmas as words
use Rattle.ecat_scene.proofs.words.put_words.Goals as goal

pub loop-word-preserved-in-Continue-1 : goal.loop-word-preserved-in-Continue-1
loop-word-preserved-in-Continue-1 c =
    ap (map (λ word. word.now)) c.in_ok-push.ensures.items
    ∙ words.one_more (λ word. word.now) c.loop-word.words.items c.loop-word.yielded c.in-Some.word
    c.loop-word.invariant (sym c.is_empty.ensures ∙ c.if-not-is_empty.true)

pub loop-word-preserved : goal.loop-word-preserved
loop-word-preserved c =
    words.one_left_out (λ word. word.now) c.loop-word.words.items c.loop-word.yielded c.in-Some.word
    c.loop-word.invariant (sym c.is_empty.ensures ∙ c.if-not-is_empty.false)

pub returns : goal.returns
returns c =
    let same = c.into_iter-word-iterator.ensures.into_iter_gives in
    c.loop-word.invariant ∙ ap (filter has_bytes)
    (words.all_parts _ _ _ _ c.args.line.now c.loop-word.yielded c.loop-word.yielded_by _ _ c.in-None.is
    c.next.ensures.steps
    (ap split_rest same ∙ c.split-word-items.ensures.rest)
    (ap split_done same ∙ c.split-word-items.ensures.done)
    (ap split_callee same ∙ c.split-word-items.ensures.closure)
    (λ x b q k. search rules))
