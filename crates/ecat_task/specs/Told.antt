-- How a packet says how a cycle ended.
use Rattle.std.specs.Prelude.{min, Result, Ok, Err}
use Rattle.ec_io.specs.declared.end.CycleEnded.{CycleEnded}
use Rattle.ec_io.specs.declared.end.CycleEnded.TheVariants.{Good as IsGood, Over as IsOver, PortFailed}
use Rattle.ec_io.specs.declared.end.CycleEnded.TheVariants.{Short as IsShort, Stranger as WasStranger}
use Rattle.ec_master.specs.declared.cycle.CycleFault.{CycleFault}
use Rattle.ec_master.specs.declared.cycle.CycleFault.TheVariants.{Port, Stranger}
use Rattle.ec_master.specs.declared.verdict.Verdict.{Verdict}
use Rattle.ec_master.specs.declared.verdict.Verdict.TheVariants.{Good, Short, Over}

-- an item by its number, as far as a packet has bits for it
abbrev pub end_of : Result Verdict CycleFault → CycleEnded
end_of (Ok Good) = IsGood
end_of (Ok (Short item)) = IsShort (min item 65535)
end_of (Ok (Over item)) = IsOver (min item 65535)
end_of (Err Port) = PortFailed
end_of (Err Stranger) = WasStranger
