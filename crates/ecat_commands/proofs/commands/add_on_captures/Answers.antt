use Rattle.ecat_commands.proofs.commands.add_on_captures.Goals as goal

pub returns : goal.returns
returns c above is =
    let show = c.add-line.ensures _ _ is c.show.ensures in
    let list = c.add-line-2.ensures _ _ show c.list.ensures in
    let learn = c.add-line-3.ensures _ _ list c.learn.ensures in
    let judge = c.add-line-4.ensures _ _ learn c.judge_capture.ensures in
    c.add.ensures _ _ judge c.replay.ensures
