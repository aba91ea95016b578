-- What is printed of a service: where it lies, and at its end what came; and after how many packets it ends.
use Rattle.std.specs.Prelude.{Bool, not, is_none, ◌&&◌, ◌||◌, ℕ, ◌++◌, ◌^◌, ◌-◌, List, Option, Some, None}
use Rattle.std.specs.Prelude.{codes}
use Rattle.std.specs.Fmt.{decimal}
use Rattle.std.specs.Net.Addr.{ipv4_octets}
use Rattle.std.specs.Net.Text.{ipv4_text}
use Rattle.std.specs.declared.net.ipv4_addr.Ipv4Addr.{Ipv4Addr}
use Rattle.ec_ring.specs.declared.port.Port.TheVariants.{A, B}
use Rattle.ecat_serve.specs.Ends.{asked_port}
use Rattle.ecat_service.specs.declared.serving.CountsText.{CountsText}
use Rattle.ecat_service.specs.declared.service.Service.{Service}
use Rattle.ecat_service.specs.declared.serving.WhereText.{WhereText}

-- an end at this address and port
unfoldable pub address_words : Ipv4Addr → ℕ → List ℕ
address_words address port = ipv4_text (ipv4_octets address) ++ codes ":" ++ decimal port

-- where the ends of a line lie
abbrev pub where_words : WhereText → List ℕ
where_words text = codes "serving A " ++ address_words text.address text.port_a
    ++ codes " B " ++ address_words text.address text.port_b

-- of a line at this address and port: each end at the port that its socket asks the system for
abbrev pub where_of : Ipv4Addr → ℕ → WhereText
where_of address port = record {
  address = address;
  port_a = asked_port A port;
  port_b = asked_port B port;
}

-- after how many packets a service ends: the number that it was given, or else the greatest there is
abbrev pub most_packets : Option ℕ → ℕ
most_packets None = 2 ^ 64 - 1
most_packets (Some count) = count

-- a service ends with its input where that has commands, or where no number of packets ends it and it is not
-- to go on forever
abbrev pub awaits_input : Service → Bool
awaits_input service = service.control || (is_none service.packets && not service.forever)

-- how many packets came, how many were frames, and how many were dropped
abbrev pub counts_words : CountsText → List ℕ
counts_words counts = codes "packets " ++ decimal counts.packets ++ codes " frames " ++ decimal counts.frames
    ++ codes " dropped " ++ decimal counts.dropped
