use Rattle.std.proofs.Common.{◌∙◌, Ok, ap, length, refl, subst, sym}
use Rattle.ecat_master.specs.Course.{IsCaredFor, IsFollowed, MayBeLooked, MayBeLookedAt}
use Rattle.ecat_master.proofs.teller.Teller.tell.Goals as goal

pub returns-in_err-see_to : goal.returns-in_err-see_to
returns-in_err-see_to g c = record {
  followed = IsFollowed.ended (sym c.stops_behind-is_last.ensures ∙ c.if-is_last-2.true) c.tell.new.ports
      c.see_to.new.ports
      (subst (λ line. MayBeLooked g.P.HeardPorts.trips c.args.ports.now (length line) c.tell.new.ports)
      c.setting-setting.ensures c.tell.ensures.looks) c.see_to.ensures.seen_to (MayBeLookedAt.none refl);
}

pub returns-then-is_last-2 : goal.returns-then-is_last-2
returns-then-is_last-2 g c = record {
  followed = IsFollowed.ended (sym c.stops_behind-is_last.ensures ∙ c.if-is_last-2.true) c.tell.new.ports
      c.see_to.new.ports
      (subst (λ line. MayBeLooked g.P.HeardPorts.trips c.args.ports.now (length line) c.tell.new.ports)
      c.setting-setting.ensures c.tell.ensures.looks) c.see_to.ensures.seen_to
      c.look_at_found.ensures.looked_at;
}

pub returns : goal.returns
returns g c = record {
  followed = IsFollowed.seen_to
      (subst (λ p. IsCaredFor g.P.HeardPorts.trips c.args.line_plan.now.line.now p c.go_beside.new.ports)
      (c.in_ok-has_looked.ensures.kept (ap Ok c.if-has_looked-2.false)) c.go_beside.ensures.seen_to);
}
