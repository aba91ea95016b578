-- What a working counter gains: a number for each way that is served.
use Rattle.std.proofs.Common.{◌≡◌, ◌+◌, ℕ, Bool, true, false, ◌&&◌, cond, None, refl, ap, ◌∙◌}
use Rattle.ec_wire.specs.Command.{addressing, reads, writes}
use Rattle.ec_wire.specs.Datagram.{ado_of}
use Rattle.ec_wire.specs.declared.command.Addressing.{Addressing}
use Rattle.ec_wire.specs.declared.command.Addressing.TheVariants.{Nobody, AutoIncrement}
use Rattle.ec_wire.specs.declared.command.Addressing.TheVariants.{ConfiguredStation, All, Logical}
use Rattle.ec_wire.specs.declared.command.Command.{Command}
use Rattle.ec_esc.specs.State.{ControllerState}
use Rattle.ec_esc.specs.Pass.{Half, where_served, range_given, range_taken, read_sources, write_sources}
use Rattle.ec_esc.specs.Pass.{range_sources, broadcast_sources, is_addressed, serves_read, serves_write}
use Rattle.ec_esc.specs.Pass.{serves_range_read, serves_range_write, serves_reading, serves_writing}
use Rattle.ec_esc.specs.Pass.{read_half, write_half, effect, gain_of}

-- a half counts its gain where it is served
pub gain_where : (b : Bool) (h : Half) → (where_served b h).gain ≡ cond b h.gain 0
gain_where true h = refl
gain_where false h = refl

-- what the data take counts 1 where it is served
pub gain-read_half : (a : Addressing) (c : ControllerState) (address n : ℕ) → (read_half a c address n).gain
    ≡ cond (serves_reading a c address n) 1 0
gain-read_half Logical c address n =
    gain_where (serves_read c address n) (record { places = read_sources c address; gain = 1; mail = None })
gain-read_half All c address n =
    let from = ado_of address in
    gain_where (serves_range_read c from n) (range_given (broadcast_sources c from) c from n)
gain-read_half Nobody c address n = refl
gain-read_half AutoIncrement c address n =
    let from = ado_of address in
    gain_where (is_addressed AutoIncrement c address && serves_range_read c from n)
    (range_given (range_sources from) c from n)
gain-read_half ConfiguredStation c address n =
    let from = ado_of address in
    gain_where (is_addressed ConfiguredStation c address && serves_range_read c from n)
    (range_given (range_sources from) c from n)

-- what the memory takes counts its number where it is served
pub gain-write_half : (a : Addressing) (m : ℕ) (c : ControllerState) (address n : ℕ)
    → (write_half a m c address n).gain ≡ cond (serves_writing a c address n) m 0
gain-write_half Logical m c address n =
    gain_where (serves_write c address n)
    (record { places = write_sources c address n; gain = m; mail = None })
gain-write_half All m c address n =
    gain_where (serves_range_write c (ado_of address) n) (range_taken m c (ado_of address) n)
gain-write_half Nobody m c address n = refl
gain-write_half AutoIncrement m c address n =
    gain_where (is_addressed AutoIncrement c address && serves_range_write c (ado_of address) n)
    (range_taken m c (ado_of address) n)
gain-write_half ConfiguredStation m c address n =
    gain_where (is_addressed ConfiguredStation c address && serves_range_write c (ado_of address) n)
    (range_taken m c (ado_of address) n)

-- two conditions for a number, one after the other
cond_and : (a b : Bool) (m : ℕ) → cond a (cond b m 0) 0 ≡ cond (a && b) m 0
cond_and true b m = refl
cond_and false b m = refl

-- a command counts 1 for its read and, for its write, 2 beside a read and 1 alone, each where it is served
pub gain-effect : (x : Command) (c : ControllerState) (address n : ℕ) → gain_of (effect x c address n)
    ≡ cond (reads x && serves_reading (addressing x) c address n) 1 0
    + cond (writes x && serves_writing (addressing x) c address n) (cond (reads x) 2 1) 0
gain-effect x c address n =
    let m : ℕ = cond (reads x) 2 1 in
    let read =
    gain_where (reads x) (read_half (addressing x) c address n)
    ∙ ap (λ g. cond (reads x) g 0) (gain-read_half (addressing x) c address n)
    ∙ cond_and (reads x) (serves_reading (addressing x) c address n) 1 in
    let write =
    gain_where (writes x) (write_half (addressing x) m c address n)
    ∙ ap (λ g. cond (writes x) g 0) (gain-write_half (addressing x) m c address n)
    ∙ cond_and (writes x) (serves_writing (addressing x) c address n) m in
    ap (λ g. g + (where_served (writes x) (write_half (addressing x) m c address n)).gain) read
    ∙ ap (λ g. cond (reads x && serves_reading (addressing x) c address n) 1 0 + g) write
