use Rattle.ecat_commands.specs.Commands.{course_words, end_words, io_words, master_words, pace_words}
use Rattle.ecat_commands.proofs.commands.master.Goals as goal

pub returns : goal.returns
returns c =
    let on_line = c.in_ok-master.ensures master_words c.in_ok-words.ensures in
    let paced = c.in_ok-paced.ensures _ pace_words on_line c.in_ok-pace.ensures in
    let on_course = c.in_ok-on_course.ensures _ course_words paced c.in_ok-course.ensures in
    let spoken_to = c.in_ok-spoken_to.ensures _ io_words on_course c.in_ok-io.ensures in
    c.more-4.ensures _ end_words spoken_to c.in_ok-end.ensures
