use Rattle.std.proofs.Common.{◌≡◌, ◌≤◌, ◌&&◌, Bool, true, sym, ◌∙◌, ap, arith}
use Rattle.std.proofs.lemmas.Bool.{and_parts}
use Rattle.std.proofs.lemmas.Bool.Decides.{nat_tests}
use Rattle.ec_regs.specs.SyncMan.{is_active, is_mailbox, master_reads, master_writes}
use Rattle.ec_regs.specs.declared.sync_man.SyncMan.{SyncMan}
use Rattle.ec_services.specs.Mailbox.{IsMailbox}
use Rattle.ec_services.specs.declared.mailbox.Area.{Area}
use Rattle.ec_run.proofs.objects.peer_between.Goals as goal

-- an active mailbox has the length of one
active_mailbox : (m : SyncMan) (a : Area) (d : Bool) → is_active m && is_mailbox m && d ≡ true
    → a.length ≡ m.length
    → IsMailbox a
unfolding is_active
active_mailbox m a d all same =
    let both : is_active m && is_mailbox m ≡ true = (and_parts (is_active m && is_mailbox m) d all).0 in
    let active : is_active m ≡ true = (and_parts (is_active m) (is_mailbox m) both).0 in
    let mailbox : is_mailbox m ≡ true = (and_parts (is_active m) (is_mailbox m) both).1 in (
      let least : 16 ≤ m.length = grind (arith, nat_tests) in omega (arith, least, same),
      let most : m.length ≤ 1486 = grind (arith, nat_tests) in omega (arith, most, same),
    )

pub returns-clause-peer : goal.returns-clause-peer
returns-clause-peer c = record {
  to = active_mailbox c.args.requests.now c.area_of.result (master_writes c.args.requests.now)
      (sym c.is_request_mailbox.ensures ∙ c.if-not-is_request_mailbox.false)
      (ap (λ (a : Area). a.length) c.area_of.ensures);
  from = active_mailbox c.args.answers.now c.area_of-2.result (master_reads c.args.answers.now)
      (sym c.is_answer_mailbox.ensures ∙ c.if-not-is_answer_mailbox.false)
      (ap (λ (a : Area). a.length) c.area_of-2.ensures);
  least = omega (arith, c.requires.least);
  most = omega (arith, c.requires.most);
}
