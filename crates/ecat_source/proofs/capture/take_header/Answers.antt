-- Why the 24 bytes that were taken are refused.
use Rattle.std.proofs.Common.{arith, ◌≡◌, length, take}
use Rattle.std.proofs.lemmas.List.{take_all}
use Rattle.std.proofs.lemmas.Result.{IfErr-weaker}
use Rattle.ecat_source.proofs.Fronts.{Explains-from_header}
use Rattle.ecat_source.proofs.capture.take_header.Goals as goal

pub returns-clause-err : goal.returns-clause-err
returns-clause-err g c =
    let header = c.take.new.into in
    let whole : length header ≡ 24 = omega arith in
    let all : take c.in_ok-take.field-0 header ≡ header = take_all _ _ (omega arith) in
    let taken = rw all at c.in_ok-take.ensures.taken in
    IfErr-weaker _ _ _
    (λ fault refused. Explains-from_header header whole c.args.input.now c.take.new.self fault taken refused)
    c.check_header.ensures.err
