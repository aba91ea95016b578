use Rattle.std.proofs.Common.{rules}
use Rattle.ecat_master.specs.Course.{MayBeLookedAt}
use Rattle.ecat_master.proofs.teller.Teller.look_at_one.Goals as goal

pub returns : goal.returns
returns g c = record {
  looked_at = MayBeLookedAt.looked_at c.args.place c.in-Some.wanted.now _ (search rules) c.look_at-seen.ensures.looked;
}
