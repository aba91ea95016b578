use Rattle.std.proofs.Common.{◌≡◌, ◌+◌, ◌++◌, ◌∙◌, sym, ap, drop, length, List, ℕ}
use Rattle.ec_io.specs.Question.{question_bytes, question_head}
use Rattle.ec_io.proofs.question.Question.write.Goals as goal

pub returns-clause-written : goal.returns-clause-written
unfolding question_bytes
returns-clause-written c =
    let line : List ℕ = c.args.self.now.line.now in
    let before : List ℕ = c.args.into.now in
    let said : List ℕ = question_head c.args.self.now.number (length line) in
    let head : c.question_head-head.result ≡ said = c.question_head-head.ensures in
    let size : c.in_ok-size.size ≡ 16 + length line = c.in_ok-size.ensures.value in
    c.put_packet.ensures
    ∙ ap (λ (h : List ℕ). h ++ line ++ drop (length h + length line) before) head
    ∙ ap (λ (n : ℕ). said ++ line ++ drop n before) (sym size)
