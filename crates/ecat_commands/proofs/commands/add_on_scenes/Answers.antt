use Rattle.ecat_commands.proofs.commands.add_on_scenes.Goals as goal

pub returns : goal.returns
returns c above is =
    let check = c.add-line.ensures _ _ is c.check.ensures in
    let cover = c.add-line-2.ensures _ _ check c.cover.ensures in
    let lint = c.add-line-3.ensures _ _ cover c.lint.ensures in
    let where_broken = c.add-line-4.ensures _ _ lint c.where_broken.ensures in
    let run = c.add-line-5.ensures _ _ where_broken c.run.ensures in
    let sweep = c.add-line-6.ensures _ _ run c.sweep.ensures in
    c.add.ensures _ _ sweep c.sdo.ensures
