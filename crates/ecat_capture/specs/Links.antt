-- What the packets of a capture begin with, by its link type: an Ethernet header, or one of those that Linux
-- makes where it captures at any interface (the list of libpcap: LINKTYPE_ETHERNET, LINKTYPE_LINUX_SLL,
-- LINKTYPE_LINUX_SLL2).
use Rattle.std.specs.Prelude.{ℕ, ◌+◌, ◌==◌, Option, Some, None, if◌then◌else◌}
use Rattle.ecat_capture.specs.declared.link.Link.{Link}
use Rattle.ecat_capture.specs.declared.link.Link.TheVariants.{Ethernet, Cooked, CookedTwo}

-- the header of the link type with a number
unfoldable pub link_of : ℕ → Option Link
link_of number =
    if number == 1 then Some Ethernet else if number == 113 then Some Cooked
    else if number == 276 then Some CookedTwo else None

-- the place of the type of what a packet carries: behind the addresses of Ethernet, at the end of the first
-- header of Linux, and at the beginning of its second one
abbrev pub type_place : Link → ℕ
type_place Ethernet = 12
type_place Cooked = 14
type_place CookedTwo = 0

-- the place behind the header, where what a packet carries begins
abbrev pub payload_place : Link → ℕ
payload_place Ethernet = 14
payload_place Cooked = 16
payload_place CookedTwo = 20

-- the place of the six bytes of its sender's address
abbrev pub sender_place : Link → ℕ
sender_place Ethernet = 6
sender_place Cooked = 6
sender_place CookedTwo = 12

-- the place behind the type at a place: the header ends behind the type that stands in it, and what follows a
-- VLAN tag stands behind the type that follows the tag
abbrev pub behind_type : Link → ℕ → ℕ
behind_type link at = if at == type_place link then payload_place link else at + 2
