-- When a packet was captured, by the unit of time that its file or interface counts in.
use Rattle.std.specs.Prelude.{ℕ, ◌/◌, ◌%◌, ◌*◌, ◌-◌, ◌^◌, ◌&&◌, nat_lt, if◌then◌else◌}
use Rattle.ecat_capture.specs.declared.packet.Time.{Time}

-- the time of so many ticks since the epoch, of which a second has so many
abbrev pub time_of : ℕ → ℕ → Time
time_of per_second ticks = record {
  seconds = ticks / per_second;
  nanoseconds = ticks % per_second * 1000000000 / per_second;
  fine = nat_lt 1000000 per_second;
}

-- how many ticks a second has, by the byte of the option if_tsresol (pcapng, interface description block): a
-- power of ten, or where its highest bit is set of two; 0 where they are finer than this reader counts
unfoldable pub per_second_of : ℕ → ℕ
per_second_of resolution =
    if nat_lt resolution 10 then 10 ^ resolution
    else if nat_lt 127 resolution && nat_lt resolution 163 then 2 ^ (resolution - 128) else 0
