-- What is printed of a cable: each copy of a frame that came back, which links are down, and which slaves are
-- cut off (IEC 61158-4-12, the ports of a slave and the circulating bit).
use Rattle.std.specs.Prelude.{ℕ, ◌++◌, ◌-◌, ◌==◌, zero, suc, List, [], Option, Some, None, codes, length}
use Rattle.std.specs.Prelude.{if◌then◌else◌, slice_get}
use Rattle.std.specs.Fmt.{decimal}
use Rattle.std.specs.Option.{option_map_or}
use Rattle.std.specs.Prelude.{String, string_bytes}
use Rattle.ec_diag.specs.declared.cut_off.CutOff.{CutOff}
use Rattle.ec_diag.specs.declared.cut_off.CutOff.TheVariants as cut
use Rattle.ec_diag.specs.declared.heard.Heard.{Heard}
use Rattle.ec_diag.specs.declared.located.Located.{Located}
use Rattle.ec_diag.specs.declared.located.Located.TheVariants as located
use Rattle.ec_ring.specs.declared.port.Port.{Port}
use Rattle.ec_ring.specs.declared.port.Port.TheVariants.{A, B}
use Rattle.ecat_text.specs.Words.{hexadecimal}
use Rattle.ecat_text.specs.declared.cable.ArrivedText.{ArrivedText}
use Rattle.ecat_text.specs.declared.cable.CopyText.{CopyText}
use Rattle.ecat_text.specs.declared.cable.End.{End}
use Rattle.ecat_text.specs.declared.cable.End.TheVariants.{AtPort, AtSlave}
use Rattle.ecat_text.specs.declared.cable.BreakText.{BreakText}
use Rattle.ecat_text.specs.declared.cable.BreakText.TheVariants.{Whole, One, Two, First, Last, Unknown}
use Rattle.ecat_text.specs.declared.cable.BreakText.TheVariants.{Changed, Swapped}
use Rattle.ecat_text.specs.declared.cable.Missing.{Missing}
use Rattle.ecat_text.specs.declared.cable.Missing.TheVariants.{Nobody, CutOff as IsCutOff, NotTold}
use Rattle.ecat_text.specs.declared.cable.Places.{Places}

-- a port of the master by its name
abbrev pub port_words : Port → List ℕ
port_words A = codes "A"
port_words B = codes "B"

-- where a copy arrived, and how many slaves counted on it; or that it did not come back
abbrev pub heard_words : Option Heard → List ℕ
heard_words None = codes " lost"
heard_words (Some heard) = codes " back at " ++ port_words heard.at ++ codes " after " ++ decimal heard.count

-- what is heard at a port: how many slaves counted on it
abbrev pub at_words : Port → Option Heard → List ℕ
at_words at None = codes "nothing at " ++ port_words at
at_words at (Some heard) = codes "at " ++ port_words at ++ codes " after " ++ decimal heard.count

abbrev pub arrived_words : ArrivedText → List ℕ
arrived_words arrived = at_words arrived.at arrived.heard

-- a copy by the port where it started
abbrev pub copy_words : CopyText → List ℕ
copy_words copy = port_words copy.from ++ heard_words copy.heard

-- a station address, four digits
unfoldable pub station_words : ℕ → List ℕ
station_words station = codes "0x" ++ hexadecimal 4 station

-- a slave's name behind a space, if it has one
unfoldable pub name_words : List ℕ → List ℕ
name_words name = if length name == 0 then [] else codes " " ++ name

-- a slave by its place on the line, its name where it has one, and its station address
abbrev pub slave_words : ℕ → List ℕ → ℕ → List ℕ
slave_words place name station =
    codes "slave " ++ decimal place ++ name_words name ++ codes " (" ++ station_words station ++ codes ")"

-- an end of a link: a port of the master, or a slave
abbrev pub end_words : End → List ℕ
end_words (AtPort port) = codes "port " ++ port_words port
end_words (AtSlave place station name) = slave_words place name.now station

-- slaves that follow each other, by their places on the line
abbrev pub places_words : Places → List ℕ
places_words places = if places.first == places.last then codes "slave " ++ decimal places.first
    else codes "slaves " ++ decimal places.first ++ codes ".." ++ decimal places.last

-- a link by its number, and what is said of it
abbrev pub link_words : ℕ → List ℕ → List ℕ
link_words link rest = codes "link " ++ (decimal link ++ rest)

-- the slaves or ports between which a link lies
abbrev pub between_words : List ℕ → List ℕ → List ℕ
between_words before behind = codes " down: between " ++ (before ++ (codes " and " ++ behind))

-- which links are down; where slaves are cut off, as far as their station addresses
abbrev pub break_words : BreakText → List ℕ
break_words Whole = codes "whole"
break_words (One link before behind) = link_words link (between_words (end_words before) (end_words behind))
break_words (Two first last missing) = codes "links " ++ decimal first ++ codes " and " ++ decimal last
    ++ codes " down: " ++ places_words missing ++ codes " cut off"
break_words (First link) = link_words link (codes " is the first down, behind it unknown")
break_words (Last link) = link_words link (codes " is the last down, before it unknown")
break_words Unknown = codes "no copy came back: nothing known"
break_words Changed =
    codes "no one set of links gives these copies: the links changed between them"
break_words Swapped = codes "ports A and B are swapped"

-- the name of the slave at a place, where the slaves have these names
abbrev pub name_at : {Z : Type 0} → List (String Z) → ℕ → List ℕ
name_at {Z} names place = option_map_or (λ (name : String Z). string_bytes name) (slice_get names place) []

-- what is printed of the end of a link where the slave at a place is, or a port where the line has none there
abbrev pub end_at : {S Z : Type 0} → (S → ℕ) → Port → List S → List (String Z) → ℕ → List ℕ
end_at {S} {Z} station port line names place = option_map_or
    (λ (slave : S). slave_words place (name_at names place) (station slave)) (slice_get line place)
    (codes "port " ++ port_words port)

-- the end of link k that is nearer to port A: slave k - 1, or the port itself
abbrev pub end_before : {S Z : Type 0} → (S → ℕ) → List S → List (String Z) → ℕ → List ℕ
end_before station line names zero = codes "port A"
end_before station line names (suc place) = end_at station B line names place

-- what is printed of what is known of the links of a line, with the ends of a link that is down
abbrev pub break_of : {S Z : Type 0} → (S → ℕ) → List S → List (String Z) → Located → List ℕ
break_of station line names located.Unknown = break_words Unknown
break_of station line names located.Whole = break_words Whole
break_of station line names (located.One k) =
    link_words k (between_words (end_before station line names k) (end_at station B line names k))
break_of station line names (located.Between p q) =
    break_words (Two p q (record { first = p; last = q - 1 }))
break_of station line names (located.First k) = break_words (First k)
break_of station line names (located.Last k) = break_words (Last k)
break_of station line names located.Changed = break_words Changed

-- the exit status: 0 where the whole cable is found whole
abbrev pub break_status : Located → ℕ
break_status located.Whole = 0
break_status _ = 1

-- which of so many slaves are cut off, or may be
abbrev pub missing_of : ℕ → CutOff → Missing
missing_of slaves cut.Nobody = Nobody
missing_of slaves (cut.Places p q) = IsCutOff (record { first = p; last = q })
missing_of slaves (cut.PerhapsFrom k) = NotTold (record { first = k; last = slaves - 1 })
missing_of slaves (cut.PerhapsBelow k) = NotTold (record { first = 0; last = k - 1 })
missing_of slaves cut.NotTold =
    if slaves == 0 then Nobody else NotTold (record { first = 0; last = slaves - 1 })

-- who is missing, behind a comma
abbrev pub missing_words : Missing → List ℕ
missing_words Nobody = codes ""
missing_words (IsCutOff places) = codes ", " ++ places_words places ++ codes " cut off"
missing_words (NotTold places) = codes ", " ++ places_words places ++ codes " unknown"
