use Rattle.std.proofs.Common.{◌≡◌, ◌<◌, ◌++◌, ◌∷◌, [], map, length, take, sym, ap, ◌∙◌, arith}
use Rattle.std.proofs.lemmas.List.{map-append, map_more}
use Rattle.ec_check.specs.Line.{controllers_by, controller_of, no_controller}
use Rattle.ec_check.proofs.Laws.{controller_of-controllers_by, length-controllers_by}
use Rattle.ec_map.specs.Share.{share}
use Rattle.ecat_judge.specs.Share.{whole}
use Rattle.ecat_judge.proofs.table.shares_of.Goals as goal

pub loop-slave-preserved : goal.loop-slave-preserved
loop-slave-preserved g c =
    let controller = g.M.Mapped.controller in
    let line = controllers_by controller c.args.line.now in
    let i = c.loop-slave.slave-index in
    let item = c.args.item.now in
    let here : controller_of line i ≡ controller c.slave-item.result =
    controller_of-controllers_by controller c.args.line.now i c.slave-item.result
    c.loop-slave-test.true c.slave-item.is in
    let inside : i < length line =
    omega (arith, length-controllers_by controller c.args.line.now, c.loop-slave-test.true) in
    let one : whole c.share_of.result ≡ share item (controller_of line i) =
    c.share_of.ensures ∙ ap (share item) (sym here) in (
      c.loop-slave.invariant.0,
      ap (map whole) c.in_ok-push.ensures.items
          ∙ map-append whole c.loop-slave.shares.items (c.share_of.result ∷ [])
          ∙ ap (λ xs. xs ++ whole c.share_of.result ∷ []) c.loop-slave.invariant.1
          ∙ ap (λ x. map (share item) (take i line) ++ x ∷ []) one
          ∙ sym (map_more (share item) line i no_controller inside),
    )
