use Rattle.std.proofs.lemmas.Result.{err_from_is_err_and}
use Rattle.ec_check.specs.Fit.{twin_station_rule, bad_fmmu_rule, areas_meet_rule, outside_area_rule}
use Rattle.ec_check.specs.Fit.{twice_written_rule, twice_read_rule}
use Rattle.ec_check.specs.Line.{controllers_by}
use Rattle.ec_check.proofs.FitLemmas.{no_rule_yet, one_rule_more, IsFirstFault-rule, last_rule-accepted}
use Rattle.ec_check.proofs.FitLemmas.{last_rule-refused}
use Rattle.ec_check.proofs.checker.test_rules.Goals as goal

pub returns-in_err-twin_stations : goal.returns-in_err-twin_stations
returns-in_err-twin_stations g c =
    let line = controllers_by g.S.Mapped.controller c.args.line.now in
    let none = no_rule_yet line in
    let p = err_from_is_err_and c.from_residual.result c.from_residual.ensures.1 in
    rw (p.1, p.2)
    (record {
      accepted = tt;
      refused = IsFirstFault-rule line twin_station_rule _ none c.in_err-twin_stations.ensures;
    })

pub returns-in_err-bad_fmmus : goal.returns-in_err-bad_fmmus
returns-in_err-bad_fmmus g c =
    let line = controllers_by g.S.Mapped.controller c.args.line.now in
    let none = no_rule_yet line in
    let one = one_rule_more line twin_station_rule none c.in_ok-twin_stations.ensures in
    let p = err_from_is_err_and c.from_residual-in_err-bad_fmmus.result
    c.from_residual-in_err-bad_fmmus.ensures.1 in
    rw (p.1, p.2)
    (record {
      accepted = tt;
      refused = IsFirstFault-rule line bad_fmmu_rule _ one c.in_err-bad_fmmus.ensures;
    })

pub returns-in_err-meeting_areas : goal.returns-in_err-meeting_areas
returns-in_err-meeting_areas g c =
    let line = controllers_by g.S.Mapped.controller c.args.line.now in
    let none = no_rule_yet line in
    let one = one_rule_more line twin_station_rule none c.in_ok-twin_stations.ensures in
    let two = one_rule_more line bad_fmmu_rule one c.in_ok-bad_fmmus.ensures in
    let p = err_from_is_err_and c.from_residual-in_err-meeting_areas.result
    c.from_residual-in_err-meeting_areas.ensures.1 in
    rw (p.1, p.2)
    (record {
      accepted = tt;
      refused = IsFirstFault-rule line areas_meet_rule _ two c.in_err-meeting_areas.ensures;
    })

pub returns-in_err-fmmus_outside : goal.returns-in_err-fmmus_outside
returns-in_err-fmmus_outside g c =
    let line = controllers_by g.S.Mapped.controller c.args.line.now in
    let none = no_rule_yet line in
    let one = one_rule_more line twin_station_rule none c.in_ok-twin_stations.ensures in
    let two = one_rule_more line bad_fmmu_rule one c.in_ok-bad_fmmus.ensures in
    let three = one_rule_more line areas_meet_rule two c.in_ok-meeting_areas.ensures in
    let p = err_from_is_err_and c.from_residual-in_err-fmmus_outside.result
    c.from_residual-in_err-fmmus_outside.ensures.1 in
    rw (p.1, p.2)
    (record {
      accepted = tt;
      refused = IsFirstFault-rule line outside_area_rule _ three c.in_err-fmmus_outside.ensures;
    })

pub returns-in_err-bits_written_twice : goal.returns-in_err-bits_written_twice
returns-in_err-bits_written_twice g c =
    let line = controllers_by g.S.Mapped.controller c.args.line.now in
    let none = no_rule_yet line in
    let one = one_rule_more line twin_station_rule none c.in_ok-twin_stations.ensures in
    let two = one_rule_more line bad_fmmu_rule one c.in_ok-bad_fmmus.ensures in
    let three = one_rule_more line areas_meet_rule two c.in_ok-meeting_areas.ensures in
    let four = one_rule_more line outside_area_rule three c.in_ok-fmmus_outside.ensures in
    let p = err_from_is_err_and c.from_residual-in_err-bits_written_twice.result
    c.from_residual-in_err-bits_written_twice.ensures.1 in
    rw (p.1, p.2)
    (record {
      accepted = tt;
      refused = IsFirstFault-rule line twice_written_rule _ four c.in_err-bits_written_twice.ensures;
    })

pub returns-in_err-bits_read_twice : goal.returns-in_err-bits_read_twice
returns-in_err-bits_read_twice g c =
    let line = controllers_by g.S.Mapped.controller c.args.line.now in
    let none = no_rule_yet line in
    let one = one_rule_more line twin_station_rule none c.in_ok-twin_stations.ensures in
    let two = one_rule_more line bad_fmmu_rule one c.in_ok-bad_fmmus.ensures in
    let three = one_rule_more line areas_meet_rule two c.in_ok-meeting_areas.ensures in
    let four = one_rule_more line outside_area_rule three c.in_ok-fmmus_outside.ensures in
    let five = one_rule_more line twice_written_rule four c.in_ok-bits_written_twice.ensures in
    let p = err_from_is_err_and c.from_residual-in_err-bits_read_twice.result
    c.from_residual-in_err-bits_read_twice.ensures.1 in
    rw (p.1, p.2)
    (record {
      accepted = tt;
      refused = IsFirstFault-rule line twice_read_rule _ five c.in_err-bits_read_twice.ensures;
    })

pub returns : goal.returns
returns g c =
    let line = controllers_by g.S.Mapped.controller c.args.line.now in
    let none = no_rule_yet line in
    let one = one_rule_more line twin_station_rule none c.in_ok-twin_stations.ensures in
    let two = one_rule_more line bad_fmmu_rule one c.in_ok-bad_fmmus.ensures in
    let three = one_rule_more line areas_meet_rule two c.in_ok-meeting_areas.ensures in
    let four = one_rule_more line outside_area_rule three c.in_ok-fmmus_outside.ensures in
    let five = one_rule_more line twice_written_rule four c.in_ok-bits_written_twice.ensures in
    let six = one_rule_more line twice_read_rule five c.in_ok-bits_read_twice.ensures in
    let last = c.bits_read_and_written in
    record {
      accepted = last_rule-accepted line last.result six last.ensures;
      refused = last_rule-refused line last.result six last.ensures;
    }
