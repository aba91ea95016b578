use Rattle.std.proofs.Common.{◌≡◌, ◌++◌, ◌∙◌, arith, ap, sym, List, [], ◌∷◌, length}
use Rattle.ec_master.specs.Report.{ReportRecord}
use Rattle.ec_master.specs.declared.report.CopiesBack.{CopiesBack}
use Rattle.ec_master.specs.declared.work.TheConstants.{MAX_ITEMS}
use Rattle.ec_master.proofs.ReportLemmas.{kept-room, kept-full}
use Rattle.ec_master.proofs.report.Report.keep_copies.Goals as goal

pub returns-then-len-lt-MAX_ITEMS-clause-copies : goal.returns-then-len-lt-MAX_ITEMS-clause-copies
returns-then-len-lt-MAX_ITEMS-clause-copies c =
    let same : c.self.inside.copies.items ≡ c.args.self.now.copies =
    ap (λ (r : ReportRecord). r.copies) c.self.view_is in
    c.push.ensures.items
    ∙ ap (λ (xs : List CopiesBack). xs ++ c.args.copies ∷ []) same
    ∙ sym (kept-room MAX_ITEMS c.args.self.now.copies c.args.copies
    (omega (arith, ap length same, c.len.ensures.value, c.if-len-lt-MAX_ITEMS.true)))

pub returns-else-len-lt-MAX_ITEMS-clause-copies : goal.returns-else-len-lt-MAX_ITEMS-clause-copies
returns-else-len-lt-MAX_ITEMS-clause-copies c =
    let same : c.self.inside.copies.items ≡ c.args.self.now.copies =
    ap (λ (r : ReportRecord). r.copies) c.self.view_is in
    sym (kept-full MAX_ITEMS c.args.self.now.copies c.args.copies
    (omega (arith, ap length same, c.len.ensures.value, c.len.ensures.fits, c.if-len-lt-MAX_ITEMS.false)))
