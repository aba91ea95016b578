use Rattle.std.proofs.Common.{rules, ◌≡◌, ◌≤◌, ◌∷◌, ◌++◌, ◌+◌, ℕ, [], List, Ok, Err, Some, ap, sym, ◌∙◌, arith}
use Rattle.std.proofs.Common.{inl, inr}
use Rattle.std.proofs.Common.{⊎_elim, length}
use Rattle.ec_run.specs.Images.{image_in, images_in}
use Rattle.ec_run.specs.declared.images.ImagesFault.TheVariants.{NoMemory}
use Rattle.ec_run.proofs.ImagesLemmas.{all_read, fewer, most_in, no_more, one_fails, one_read, put_behind}
use Rattle.ec_run.proofs.ImagesLemmas.{texts_in}
use Rattle.ec_run.proofs.images.read_lines.Goals as goal

pub returns-in-Err-clause-fault : goal.returns-in-Err-clause-fault
returns-in-Err-clause-fault c =
    let kept = c.loop-rest.images.items in
    let number = c.loop-rest.number + 1 in
    let line = c.cut_line.result.0.now in
    let now : texts_in c.loop-rest.rest ≡ line ∷ texts_in c.cut_line.result.1 =
    ap texts_in c.in-Some.is ∙ c.cut_line.ensures.line in
    ⊎_elim
    (λ (memory : c.in-Err.fault ≡ NoMemory). inl memory)
    (λ (fails : image_in c.args.length number line ≡ Err c.in-Err.fault).
    inr (c.loop-rest.invariant.told
    ∙ ap (λ (ls : List (List ℕ)). put_behind kept (images_in c.args.length number ls)) now
    ∙ one_fails c.args.length number kept line (texts_in c.cut_line.result.1) c.in-Err.fault fails))
    c.in-Err.ensures.fault

pub loop-rest-preserved : goal.loop-rest-preserved
loop-rest-preserved c =
    let kept = c.loop-rest.images.items in
    let number = c.loop-rest.number + 1 in
    let line = c.cut_line.result.0.now in
    let rest = texts_in c.cut_line.result.1 in
    let now : texts_in c.loop-rest.rest ≡ line ∷ rest =
    ap texts_in c.in-Some.is ∙ c.cut_line.ensures.line in
    let more : c.push.new.self.items ≡ kept ++ c.in-Ok.image ∷ [] = search rules in
    let fewer_left : most_in c.cut_line.result.1 ≤ length c.in-Some.text.now =
    fewer c.cut_line.result.1 (length c.in-Some.text.now) c.cut_line.ensures.shorter in
    let most : most_in c.loop-rest.rest ≡ length c.in-Some.text.now + 1 = ap most_in c.in-Some.is in
    record {
      told = c.loop-rest.invariant.told
          ∙ ap (λ (ls : List (List ℕ)). put_behind kept (images_in c.args.length number ls)) now
          ∙ one_read c.args.length number kept c.in-Ok.image line rest c.in-Ok.ensures.image
          ∙ ap (λ (ks : List (List ℕ)). put_behind ks (images_in c.args.length (number + 1) rest)) (sym more);
      bound = omega (arith, c.loop-rest.invariant.bound, fewer_left, most);
    }

pub returns-clause-images : goal.returns-clause-images
returns-clause-images c =
    let none : texts_in c.loop-rest.rest ≡ [] = no_more c.loop-rest.rest c.in_default.not-Some in
    c.loop-rest.invariant.told
    ∙ ap (λ (ls : List (List ℕ)). put_behind c.loop-rest.images.items (images_in c.args.length
    (c.loop-rest.number + 1) ls)) none
    ∙ all_read c.args.length (c.loop-rest.number + 1) c.loop-rest.images.items
