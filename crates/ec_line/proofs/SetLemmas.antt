-- On a fit line what a controller claims, takes and counts of a logical item is that of the sets of its
-- readable and writable pairs; of an addressed item and a broadcast read, that of the range.
use Rattle.std.proofs.Common.{◌≡◌, ℕ, ◌+◌, ◌*◌, ◌<◌, true}
use Rattle.std.proofs.Common.{Option, None, Some}
use Rattle.std.proofs.Common.{sym, ◌∙◌, ap, refl, arith}
use Rattle.std.specs.Option.{option_map, is_some}
use Rattle.ec_regs.specs.Bits.{bit}
use Rattle.ec_areas.specs.Logical.{read_map, write_map, target_places}
use Rattle.ec_areas.specs.Records.{fmmus_of, sync_managers_of}
use Rattle.ec_areas.proofs.Laws.{NamesPairs-read_map, names_at, NamesPairs-write_map}
use Rattle.ec_areas.proofs.Laws.{NamesPairs-target_map}
use Rattle.ec_esc.specs.State.{ControllerState}
use Rattle.ec_esc.specs.Pass.{Half, where_served, serves_read, serves_write, read_sources, write_sources}
use Rattle.ec_line.specs.Claims.{effect_of, claim, taken}
use Rattle.ec_line.specs.Fit.{Reads, Writes, IsFitAlone}
use Rattle.ec_line.specs.Request.{Request}
use Rattle.ec_wire.specs.declared.kind.Kind.TheVariants.{Lrd, Lwr, Lrw}
use Rattle.ec_line.proofs.SteadyLemmas.{claim_in, where_some}
use Rattle.ec_line.proofs.FitLemmas.{claimed_place}

-- ---- served

-- a logical read is served exactly where a readable pair has its logical bit in the range
pub ReadsIn : ControllerState → ℕ → ℕ → Type 0
ReadsIn c address count = (i p : ℕ) × (i < 8 * count) × Reads c (8 * address + i) p

pub WritesIn : ControllerState → ℕ → ℕ → Type 0
WritesIn c address count = (i p : ℕ) × (i < 8 * count) × Writes c (8 * address + i) p

some_value : (o : Option ℕ) → is_some o ≡ true → (p : ℕ) × (o ≡ Some p)
some_value None none = absurd (cc)
some_value (Some p) some = (p, refl)

pub read_served : (c : ControllerState) (a n : ℕ) → ReadsIn c a n → serves_read c a n ≡ true
unfolding ReadsIn
read_served c a n found =
    names_at (read_sources c a) (8 * n) found.0 found.2
    ((NamesPairs-read_map (sync_managers_of c.memory) (fmmus_of c.memory)).is_found (8 * a + found.0) found.1
    found.3)

pub write_served : (c : ControllerState) (a n : ℕ) → WritesIn c a n → serves_write c a n ≡ true
unfolding WritesIn
write_served c a n found =
    let places : ℕ → Option ℕ = target_places (sync_managers_of c.memory) (fmmus_of c.memory) (8 * a) in
    names_at places (8 * n) found.0 found.2
    ((NamesPairs-target_map (sync_managers_of c.memory) (fmmus_of c.memory)).is_found (8 * a + found.0)
    found.1 found.3)

-- ---- claims of logical items

-- the bit of a readable pair
read_place_of : (c : ControllerState) (l p : ℕ) → IsFitAlone c → Reads c l p
    → read_map (sync_managers_of c.memory) (fmmus_of c.memory) l ≡ Some p
read_place_of c l p fit pair =
    let managers = sync_managers_of c.memory in
    let fmmus = fmmus_of c.memory in
    let pairs = NamesPairs-read_map managers fmmus in
    let value = some_value (read_map managers fmmus l) (pairs.is_found l p pair) in
    value.1 ∙ ap Some (fit.read_once l value.0 p (pairs.is_paired l value.0 value.1) pair)

logical_claim_by : (r : Request) (c : ControllerState) (i p g : ℕ) → IsFitAlone c → i < 8 * r.count
    → Reads c (8 * r.address + i) p
    → (effect_of r c).reading
    ≡ where_served (serves_read c r.address r.count)
    (record { places = read_sources c r.address; gain = g; mail = None })
    → claim r c i ≡ Some (bit c.memory p)
unfolding ReadsIn
logical_claim_by r c i p g fit inside pair half_is =
    let half : Half = record { places = read_sources c r.address; gain = g; mail = None } in
    let served : serves_read c r.address r.count ≡ true =
    read_served c r.address r.count (i, p, inside, pair) in
    claim_in r c i inside
    ∙ ap (λ (h : Half). option_map (bit c.memory) (h.places i)) half_is
    ∙ ap (λ b. option_map (bit c.memory) ((where_served b half).places i)) served
    ∙ ap (option_map (bit c.memory)) (read_place_of c (8 * r.address + i) p fit pair)

pub claim_lrd : (a n : ℕ) (c : ControllerState) (i p : ℕ) → IsFitAlone c → i < 8 * n → Reads c (8 * a + i) p
    → claim (record { kind = Lrd; address = a; count = n }) c i ≡ Some (bit c.memory p)
claim_lrd a n c i p fit inside pair =
    logical_claim_by (record { kind = Lrd; address = a; count = n }) c i p 1 fit inside pair refl

pub claim_lrw : (a n : ℕ) (c : ControllerState) (i p : ℕ) → IsFitAlone c → i < 8 * n → Reads c (8 * a + i) p
    → claim (record { kind = Lrw; address = a; count = n }) c i ≡ Some (bit c.memory p)
claim_lrw a n c i p fit inside pair =
    logical_claim_by (record { kind = Lrw; address = a; count = n }) c i p 1 fit inside pair refl

-- and of what no readable pair names there is none
unclaimed_by : (r : Request) (c : ControllerState) (i g : ℕ)
    → (effect_of r c).reading
    ≡ where_served (serves_read c r.address r.count)
    (record { places = read_sources c r.address; gain = g; mail = None })
    → ((p : ℕ) → Reads c (8 * r.address + i) p → ⊥) → claim r c i ≡ None
unclaimed_by r c i g half_is none =
    let half : Half = record { places = read_sources c r.address; gain = g; mail = None } in
    let P : Option ℕ → Type 0 = λ o. claim r c i ≡ o → o ≡ None in
    elim (claim r c i) as P [
      | None ↦ λ _. refl
      | Some v ↦ λ e.
          let f = claimed_place r c i v e in
          let place : (where_served (serves_read c r.address r.count) half).places i ≡ Some f.1 =
          ap (λ (h : Half). h.places i) (sym half_is) ∙ f.2 in
          absurd (none f.1
          ((NamesPairs-read_map (sync_managers_of c.memory) (fmmus_of c.memory)).is_paired (8 * r.address + i)
          f.1
          (where_some (serves_read c r.address r.count) half i f.1 place).1))
    ] refl

pub unclaimed_lrd : (a n : ℕ) (c : ControllerState) (i : ℕ) → ((p : ℕ) → Reads c (8 * a + i) p → ⊥)
    → claim (record { kind = Lrd; address = a; count = n }) c i ≡ None
unclaimed_lrd a n c i none = unclaimed_by (record { kind = Lrd; address = a; count = n }) c i 1 refl none

pub unclaimed_lrw : (a n : ℕ) (c : ControllerState) (i : ℕ) → ((p : ℕ) → Reads c (8 * a + i) p → ⊥)
    → claim (record { kind = Lrw; address = a; count = n }) c i ≡ None
unclaimed_lrw a n c i none = unclaimed_by (record { kind = Lrw; address = a; count = n }) c i 1 refl none

-- ---- takes of logical items

write_place_of : (c : ControllerState) (a n p i : ℕ) → IsFitAlone c → i < 8 * n → Writes c (8 * a + i) p
    → write_map (sync_managers_of c.memory) (fmmus_of c.memory) (8 * a) (8 * n) p ≡ Some i
write_place_of c a n p i fit inside pair =
    let managers = sync_managers_of c.memory in
    let fmmus = fmmus_of c.memory in
    let pairs = NamesPairs-write_map managers fmmus (8 * a) (8 * n) in
    let value = some_value (write_map managers fmmus (8 * a) (8 * n) p) (pairs.is_found p i (inside, pair)) in
    let found = pairs.is_paired p value.0 value.1 in
    let same : 8 * a + value.0 ≡ 8 * a + i = fit.written_once (8 * a + value.0) (8 * a + i) p found.1 pair in
    let number : value.0 ≡ i = omega arith in
    value.1 ∙ ap Some number

pub taken_lwr : (a n : ℕ) (c : ControllerState) (p i : ℕ) → IsFitAlone c → i < 8 * n → Writes c (8 * a + i) p
    → taken (record { kind = Lwr; address = a; count = n }) c p ≡ Some i
unfolding taken WritesIn
taken_lwr a n c p i fit inside pair =
    let half : Half = record { places = write_sources c a n; gain = 1; mail = None } in
    ap (λ b. (where_served b half).places p) (write_served c a n (i, p, inside, pair))
    ∙ write_place_of c a n p i fit inside pair

pub taken_lrw : (a n : ℕ) (c : ControllerState) (p i : ℕ) → IsFitAlone c → i < 8 * n → Writes c (8 * a + i) p
    → taken (record { kind = Lrw; address = a; count = n }) c p ≡ Some i
unfolding taken WritesIn
taken_lrw a n c p i fit inside pair =
    let half : Half = record { places = write_sources c a n; gain = 2; mail = None } in
    ap (λ b. (where_served b half).places p) (write_served c a n (i, p, inside, pair))
    ∙ write_place_of c a n p i fit inside pair

-- and what no writable pair in the range names is not taken
pub untaken_by : (c : ControllerState) (a n p g : ℕ) → ((i : ℕ) → i < 8 * n → Writes c (8 * a + i) p → ⊥)
    → (where_served (serves_write c a n)
    (record { places = write_sources c a n; gain = g; mail = None })).places p ≡ None
untaken_by c a n p g none =
    let half : Half = record { places = write_sources c a n; gain = g; mail = None } in
    let places : ℕ → Option ℕ = (where_served (serves_write c a n) half).places in
    let P : Option ℕ → Type 0 = λ o. places p ≡ o → o ≡ None in
    elim (places p) as P [
      | None ↦ λ _. refl
      | Some i ↦ λ e.
          let pairs = NamesPairs-write_map (sync_managers_of c.memory) (fmmus_of c.memory) (8 * a) (8 * n) in
          let found = pairs.is_paired p i (where_some (serves_write c a n) half p i e).1 in
          absurd (none i found.0 found.1)
    ] refl

pub untaken_lwr : (a n : ℕ) (c : ControllerState) (p : ℕ) → ((i : ℕ) → i < 8 * n → Writes c (8 * a + i) p → ⊥)
    → taken (record { kind = Lwr; address = a; count = n }) c p ≡ None
unfolding taken
untaken_lwr a n c p none = untaken_by c a n p 1 none

pub untaken_lrw : (a n : ℕ) (c : ControllerState) (p : ℕ) → ((i : ℕ) → i < 8 * n → Writes c (8 * a + i) p → ⊥)
    → taken (record { kind = Lrw; address = a; count = n }) c p ≡ None
unfolding taken
untaken_lrw a n c p none = untaken_by c a n p 2 none
