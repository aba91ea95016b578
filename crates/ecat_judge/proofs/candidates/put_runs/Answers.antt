use Rattle.std.proofs.Common.{◌+◌, ◌++◌, ◌&&◌, sym, ap, ◌∙◌, append_assoc}
use Rattle.std.specs.Prelude.{nat_lt}
use Rattle.std.proofs.lemmas.List.{append-nil}
use Rattle.ecat_judge.specs.declared.share.Missing.TheVariants.{Slaves}
use Rattle.ecat_judge.specs.Candidates.{one_if, runs_from}
use Rattle.ecat_judge.proofs.CandidateLemmas.{run_none, run_more}
use Rattle.ecat_judge.proofs.candidates.put_runs.Goals as goal

pub loop-to-init : goal.loop-to-init
loop-to-init c =
    let all = c.args.all.now.items in
    sym (ap (λ xs. all ++ xs) (run_none c.args.any c.args.from) ∙ append-nil all)

pub loop-to-preserved : goal.loop-to-preserved
loop-to-preserved c =
    let all = c.args.all.now.items in
    let from = c.args.from in
    let to = c.loop-to.to in
    let last = one_if (c.args.any && nat_lt (from + 1) to) (Slaves from to) in
    c.in_ok-put_if.ensures
    ∙ ap (λ may. c.loop-to.all.items ++ one_if may (Slaves from to)) c.ends_there.ensures
    ∙ ap (λ xs. xs ++ last) c.loop-to.invariant
    ∙ append_assoc all (runs_from c.args.any from to) last
    ∙ ap (λ xs. all ++ xs) (sym (run_more c.args.any from to))
