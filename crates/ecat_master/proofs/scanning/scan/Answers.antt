use Rattle.std.proofs.Common.{◌∙◌, ℕ, Some, subst, sym}
use Rattle.ecat_master.specs.Course.{IsLookedOver}
use Rattle.ecat_master.proofs.scanning.scan.Goals as goal

pub returns : goal.returns
returns g c = record {
  scanned = λ all. record {
    counts = c.in_ok-counted.counted;
    counted = c.count_often.new.ports;
    asks = c.in_ok-counted.ensures;
    count = c.in-Some.count;
    greatest_is = sym c.greatest.ensures ∙ c.in-Some.is;
    alike = c.is_all.ensures.alike all;
    cable = c.in-Some-look_surely.located;
    looked = c.look_surely.new.ports;
    looks = subst (λ (n : ℕ). IsLookedOver g.P.HeardPorts.trips c.count_often.new.ports n
        (Some c.in-Some-look_surely.located) c.look_surely.new.ports) c.from.ensures
        c.in-Some-look_surely.ensures;
    known = c.is_all.ensures.known all;
    reads = c.in_ok-read.ensures (c.is_all.ensures.read all);
  };
}
