-- Process data reach the master where FMMUs map them: outputs through FMMUs that it writes through, inputs
-- through those that it reads through (IEC 61158-4-12, FMMU and sync manager). A byte is mapped where one of
-- its bits is: a digital terminal has fewer signals than bits.
use Rattle.std.specs.Prelude.{ℕ, ◌+◌, ◌-◌, ◌*◌, ◌==◌, ◌&&◌, ◌||◌, Bool, not, nat_lt, if◌then◌else◌}
use Rattle.std.specs.Prelude.{Option, None, Some, List, find, count_by}
use Rattle.std.specs.List.{list_any, range_with_len}
use Rattle.ec_regs.specs.Pairs.{reads, writes, pair_count, first_physical}
use Rattle.ec_regs.specs.SyncMan.{guards_inputs, guards_outputs}
use Rattle.ec_regs.specs.declared.fmmu.Fmmu.{Fmmu}
use Rattle.ec_regs.specs.declared.sync_man.SyncMan.{SyncMan}
use Rattle.ec_app.specs.Roles.{fits_inputs, fits_outputs}
use Rattle.ecat_lint.specs.declared.oddity.ProcessData.{ProcessData}
use Rattle.ecat_lint.specs.declared.oddity.ProcessData.TheVariants.{Outputs, Inputs}
use Rattle.ecat_lint.specs.declared.oddity.Oddity.{Oddity}
use Rattle.ecat_lint.specs.declared.oddity.Oddity.TheVariants.{AreaDiffers, Unmapped, FewerMapped}

-- does the sync manager guard an area of them
abbrev pub guards : ProcessData → SyncMan → Bool
guards Outputs s = guards_outputs s
guards Inputs s = guards_inputs s

-- does the master move them through the FMMU
abbrev pub moves : ProcessData → Fmmu → Bool
moves Outputs f = writes f
moves Inputs f = reads f

-- does the FMMU map one of the eight bits of the byte at an address
abbrev pub maps_byte : Fmmu → ℕ → Bool
maps_byte f address =
    not (pair_count f == 0) && nat_lt (first_physical f) (8 * address + 8)
    && nat_lt (8 * address) (first_physical f + pair_count f)

-- does one of the FMMUs through which they are moved
abbrev pub is_mapped : ProcessData → List Fmmu → ℕ → Bool
is_mapped kind fmmus address = list_any (λ f. moves kind f && maps_byte f address) fmmus

abbrev pub is_unmapped : ProcessData → List Fmmu → ℕ → Bool
is_unmapped kind fmmus address = not (is_mapped kind fmmus address)

-- the addresses of the bytes of an area, from the first to the last
abbrev pub area_bytes : SyncMan → List ℕ
area_bytes s = range_with_len s.start s.length

-- how many bytes of the area are mapped, if they are of these data, else none
abbrev pub mapped_count : ProcessData → List Fmmu → SyncMan → ℕ
mapped_count kind fmmus s = if guards kind s then count_by (is_mapped kind fmmus) (area_bytes s) else 0

-- how many bytes of the area stand behind the last one that no FMMU maps
abbrev pub count_behind : ProcessData → List Fmmu → SyncMan → Option ℕ
count_behind kind fmmus s =
    find (λ k. is_unmapped kind fmmus (s.start + s.length - 1 - k)) (range_with_len 0 s.length)

-- ---- what is odd of it

-- so many bytes of an area that no FMMU maps, by the first and by how many stand behind the last one
abbrev pub unmapped_between : ℕ → ProcessData → SyncMan → ℕ → Option ℕ → Option ℕ → Option Oddity
unmapped_between number kind s count None behind = None
unmapped_between number kind s count (Some first) None = None
unmapped_between number kind s count (Some first) (Some behind) =
    Some (Unmapped number kind count s.length first (s.start + s.length - 1 - behind))

-- bytes of an area of process data, which the sync manager with this number guards, that no FMMU maps: how
-- many of how many, the first address and the last one
abbrev pub unmapped : ℕ → ProcessData → List Fmmu → SyncMan → Option Oddity
unmapped number kind fmmus s =
    if guards kind s then
    unmapped_between number kind s (count_by (is_unmapped kind fmmus) (area_bytes s))
    (find (is_unmapped kind fmmus) (area_bytes s)) (count_behind kind fmmus s)
    else None

-- fewer bytes are mapped than the application has
abbrev pub fewer_mapped : ProcessData → List Fmmu → SyncMan → ℕ → Option Oddity
fewer_mapped kind fmmus s wanted =
    if nat_lt (mapped_count kind fmmus s) wanted
    then Some (FewerMapped kind (mapped_count kind fmmus s) wanted) else None

-- is the area of the length that the application has, or none where that is 0
abbrev pub fits : ProcessData → SyncMan → ℕ → Bool
fits Outputs s wanted = fits_outputs s wanted
fits Inputs s wanted = fits_inputs s wanted

-- how many bytes there are where so many are wanted: where none are, those of whatever area there is
abbrev pub bytes_there : ProcessData → SyncMan → ℕ → ℕ
bytes_there kind s wanted = if (wanted == 0) || guards kind s then s.length else 0

-- the area is of another length, or none of these data
abbrev pub area_differs : ℕ → ProcessData → SyncMan → ℕ → Option Oddity
area_differs number kind s wanted =
    if fits kind s wanted then None else Some (AreaDiffers number kind wanted (bytes_there kind s wanted))
