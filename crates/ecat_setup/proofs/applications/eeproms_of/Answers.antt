use Rattle.std.proofs.Common.{◌≡◌, ◌∙◌, Some, ap, arith, length, map, refl}
use Rattle.std.proofs.lemmas.Option.{slice_get-map, slice_get_read}
use Rattle.std.specs.Option.{option_map}
use Rattle.std.specs.Prelude.{slice_get}
use Rattle.ecat_scene.specs.Scene.{slave_record}
use Rattle.ecat_setup.specs.Devices.{is_device}
use Rattle.ecat_setup.proofs.ApplicationLemmas.{devices_more, own_more}
use Rattle.ecat_setup.proofs.applications.eeproms_of.Goals as goal

pub loop-place-preserved : goal.loop-place-preserved
loop-place-preserved c =
    let all = c.args.described.now in
    let before = c.loop-place in
    let k = before.place in
    let x = c.index-described-place.result in
    let added = c.in_ok-push_own.ensures in
    let at : slice_get (map slave_record all) k ≡ Some (slave_record x) =
    slice_get-map slave_record all k
    ∙ ap (option_map slave_record)
    (slice_get_read all (length all) k x refl c.loop-place-test.true c.index-described-place.is) in
    record {
      devices = devices_more before.given.items all k x before.all.items c.push_own.new.all.items _
          c.loop-place-test.true c.index-described-place.is added.own before.invariant.devices;
      own = own_more c.args.given.items before.given.items (map slave_record all) k (slave_record x)
          before.all.items c.push_own.new.all.items (is_device (slave_record x).kind) at
          (before.invariant.left k (omega arith)) added.own before.invariant.own;
      left = λ other later. added.others other (λ e. omega arith)
          ∙ before.invariant.left other (omega arith);
    }
