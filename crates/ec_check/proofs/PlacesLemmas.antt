-- Whether a line is fit does not hang on the order of its slaves.
use Rattle.std.proofs.Common.{◌≡◌, ◌≢◌, ⊎_elim, inl, inr, ℕ, ◌+◌, ◌<◌, ◌≤◌, true, cond, eqb}
use Rattle.std.proofs.Common.{List, [], ◌∷◌, length, get_or, set, sym, subst, ◌∙◌, ap, refl, arith}
use Rattle.std.specs.List.{swap}
use Rattle.std.specs.List.Sorted.{IsPermutation}
use Rattle.std.proofs.lemmas.Bool.{cases_lt, cases_eq, ne_eqb, eq-eqb}
use Rattle.std.proofs.lemmas.List.{get_or-set_same, get_or-set_other, get_or_default, length-set}
use Rattle.std.proofs.lemmas.Grind.{get_or_moved}
use Rattle.std.proofs.lemmas.List.Edits.{length-swap}
use Rattle.std.proofs.lemmas.List.Sorted.{IsPermutation-keeps}
use Rattle.ec_regs.specs.Pairs.{is_switched_on, reads, writes}
use Rattle.ec_regs.specs.declared.fmmu.Fmmu.{Fmmu}
use Rattle.ec_regs.specs.declared.sync_man.SyncMan.{SyncMan}
use Rattle.ec_areas.specs.Records.{fmmu_at, sync_manager_at}
use Rattle.ec_esc.specs.State.{ControllerState, word_at}
use Rattle.ec_regs.specs.declared.registers.TheConstants.{STATION_ADDRESS}
use Rattle.ec_check.specs.Fit.{Breaks, IsFit}
use Rattle.ec_check.specs.Line.{controller_of, no_controller, station_of, fmmu_of, sync_manager_of, HasFmmu}
use Rattle.ec_check.specs.Rules.{MapsLogical, MapsPhysical, ReadsLogical, WritesLogical, WritesPhysical}
use Rattle.ec_check.specs.Rules.{IsGoodFmmu, IsInArea, Area, suits, IsAreaFor, HoldsAllOf}
use Rattle.ec_check.specs.Rules.{LeavesAreasAt}
use Rattle.ec_check.specs.declared.fault.MapFault.{MapFault}
use Rattle.ec_check.specs.declared.fault.MapFault.TheVariants.{TwinStation, BadFmmu, AreasMeet, OutsideArea}
use Rattle.ec_check.specs.declared.fault.MapFault.TheVariants.{TwiceWritten, TwiceRead, ReadAndWritten}

-- ---- the same slaves at other places

-- the slave with a number stands on the other line at the place that `to` tells; and the way back is the same
record SamePlaces (line later : List ControllerState) : Type 0 where
  size : length later ≡ length line
  to : ℕ → ℕ
  there : (k : ℕ) → k < length line → to k < length line
  back : (k : ℕ) → k < length line → to (to k) ≡ k
  same : (k : ℕ) → k < length line → controller_of later k ≡ controller_of line (to k)

-- two slaves stand at two places
places_apart : (line later : List ControllerState) (p : SamePlaces line later) (i j : ℕ) → i < length line
    → j < length line → i ≢ j → p.to i ≢ p.to j
places_apart line later p i j inside_i inside_j other is =
    other (sym (p.back i inside_i) ∙ ap p.to is ∙ p.back j inside_j)

station_there : (line later : List ControllerState) (p : SamePlaces line later) (slave : ℕ)
    → slave < length line → station_of later slave ≡ station_of line (p.to slave)
unfolding station_of
station_there line later p slave inside =
    ap (λ (c : ControllerState). word_at c.memory STATION_ADDRESS) (p.same slave inside)

fmmu_there : (line later : List ControllerState) (p : SamePlaces line later) (slave number : ℕ)
    → slave < length line → fmmu_of later slave number ≡ fmmu_of line (p.to slave) number
unfolding fmmu_of
fmmu_there line later p slave number inside =
    ap (λ (c : ControllerState). fmmu_at c.memory number) (p.same slave inside)

manager_there : (line later : List ControllerState) (p : SamePlaces line later) (slave number : ℕ)
    → slave < length line → sync_manager_of later slave number ≡ sync_manager_of line (p.to slave) number
unfolding sync_manager_of
manager_there line later p slave number inside =
    ap (λ (c : ControllerState). sync_manager_at c.memory number) (p.same slave inside)

inside_line : (line later : List ControllerState) (p : SamePlaces line later) (slave number : ℕ)
    → HasFmmu later slave number → slave < length line
inside_line line later p slave number has = omega (arith, has.slave_there, p.size)

has_there : (line later : List ControllerState) (p : SamePlaces line later) (slave number : ℕ)
    → HasFmmu later slave number → HasFmmu line (p.to slave) number
has_there line later p slave number has = record {
  slave_there = p.there slave (inside_line line later p slave number has);
  number_there = has.number_there;
}

-- ---- each rule

reads_there : (line later : List ControllerState) (p : SamePlaces line later) (slave fmmu l : ℕ)
    → ReadsLogical later slave fmmu l → ReadsLogical line (p.to slave) fmmu l
reads_there line later p slave fmmu l r =
    let same = fmmu_there line later p slave fmmu (inside_line line later p slave fmmu r.there) in
    record {
      there = has_there line later p slave fmmu r.there;
      for_reading = subst (λ (f : Fmmu). reads f ≡ true) same r.for_reading;
      maps = subst (λ (f : Fmmu). MapsLogical f l) same r.maps;
    }

writes_there : (line later : List ControllerState) (p : SamePlaces line later) (slave fmmu l : ℕ)
    → WritesLogical later slave fmmu l → WritesLogical line (p.to slave) fmmu l
writes_there line later p slave fmmu l w =
    let same = fmmu_there line later p slave fmmu (inside_line line later p slave fmmu w.there) in
    record {
      there = has_there line later p slave fmmu w.there;
      for_writing = subst (λ (f : Fmmu). writes f ≡ true) same w.for_writing;
      maps = subst (λ (f : Fmmu). MapsLogical f l) same w.maps;
    }

physical_there : (line later : List ControllerState) (p : SamePlaces line later) (slave fmmu b : ℕ)
    → WritesPhysical later slave fmmu b → WritesPhysical line (p.to slave) fmmu b
physical_there line later p slave fmmu b w =
    let same = fmmu_there line later p slave fmmu (inside_line line later p slave fmmu w.there) in
    record {
      there = has_there line later p slave fmmu w.there;
      for_writing = subst (λ (f : Fmmu). writes f ≡ true) same w.for_writing;
      maps = subst (λ (f : Fmmu). MapsPhysical f b) same w.maps;
    }

-- slaves with the same sync managers have the same areas
area_there : (line later : List ControllerState) (a b : ℕ) (f : Fmmu) (area : Area)
    → ((number : ℕ) → sync_manager_of later a number ≡ sync_manager_of line b number)
    → IsAreaFor later a f area → IsAreaFor line b f area
area_there line later a b f area same (inl g) =
    inl (record {
      number = g.number;
      there = g.there;
      suitable = ap (λ (s : SyncMan). suits s f) (sym (same g.number)) ∙ g.suitable;
      from = g.from ∙ ap (λ (s : SyncMan). s.start) (same g.number);
      to = g.to ∙ ap (λ (s : SyncMan). s.start + s.length) (same g.number);
    })
area_there line later a b f area same (inr status) = inr status

leaves_there : (line later : List ControllerState) (a b : ℕ) (f : Fmmu) (address : ℕ)
    → ((number : ℕ) → sync_manager_of later a number ≡ sync_manager_of line b number)
    → LeavesAreasAt later a f address → LeavesAreasAt line b f address
leaves_there line later a b f address same (inl none) =
    inl (λ area is. none.0 area (area_there later line b a f area (λ number. sym (same number)) is), none.1)
leaves_there line later a b f address same (inr end) =
    inr (record {
      area = end.area;
      suitable = area_there line later a b f end.area same end.suitable;
      holds = end.holds;
      behind = end.behind;
    })

-- ---- all rules

fit_there : (line later : List ControllerState) → SamePlaces line later → IsFit line → (fault : MapFault)
    → Breaks later fault → ⊥
fit_there line later p fit (TwinStation i j) b =
    let inside_j : j < length line = omega (arith, b.there, p.size) in
    let inside_i : i < length line = omega (arith, b.order, inside_j) in
    let differ : p.to i ≢ p.to j =
    places_apart line later p i j inside_i inside_j (λ is. omega (arith, is, b.order)) in
    let same : station_of line (p.to i) ≡ station_of line (p.to j) =
    sym (station_there line later p i inside_i) ∙ b.same ∙ station_there line later p j inside_j in
    ⊎_elim
    (λ (before : p.to i < p.to j).
    fit (TwinStation (p.to i) (p.to j)) (record { order = before; there = p.there j inside_j; same = same }))
    (λ (behind : p.to j ≤ p.to i).
    let before : p.to j < p.to i = omega (arith, behind, differ) in
    fit (TwinStation (p.to j) (p.to i))
    (record { order = before; there = p.there i inside_i; same = sym same }))
    (cases_lt (p.to i) (p.to j))
fit_there line later p fit (BadFmmu slave fmmu) b =
    let same = fmmu_there line later p slave fmmu (inside_line line later p slave fmmu b.there) in
    fit (BadFmmu (p.to slave) fmmu) (record {
      there = has_there line later p slave fmmu b.there;
      active = subst (λ (f : Fmmu). is_switched_on f ≡ true) same b.active;
      bad = subst (λ (f : Fmmu). ¬ IsGoodFmmu f) same b.bad;
    })
fit_there line later p fit (AreasMeet slave number other address) b =
    let inside : slave < length line = omega (arith, b.slave_there, p.size) in
    fit (AreasMeet (p.to slave) number other address) (record {
      slave_there = p.there slave inside;
      order = b.order;
      number_there = b.number_there;
      first =
          subst (λ (s : SyncMan). IsInArea s address) (manager_there line later p slave number inside) b.first;
      second =
          subst (λ (s : SyncMan). IsInArea s address) (manager_there line later p slave other inside) b.second;
    })
fit_there line later p fit (OutsideArea slave fmmu address) b =
    let inside = inside_line line later p slave fmmu b.there in
    let at : ℕ = p.to slave in
    let same = fmmu_there line later p slave fmmu inside in
    let managers : (number : ℕ) → sync_manager_of later slave number ≡ sync_manager_of line at number =
    λ number. manager_there line later p slave number inside in
    let was : Fmmu = fmmu_of later slave fmmu in
    fit (OutsideArea at fmmu address) (record {
      there = has_there line later p slave fmmu b.there;
      some_bit = subst (λ (f : Fmmu). (q : ℕ) × MapsPhysical f q) same b.some_bit;
      outside =
          subst (λ (f : Fmmu). (area : Area) → IsAreaFor line at f area → ¬ HoldsAllOf area f) same
          (λ area is.
          b.outside area (area_there later line at slave was area (λ number. sym (managers number)) is));
      place =
          subst (λ (f : Fmmu). LeavesAreasAt line at f address) same
          (leaves_there line later slave at was address managers b.place);
    })
fit_there line later p fit (TwiceWritten slave fmmu other bit) b =
    fit (TwiceWritten (p.to slave) fmmu other bit) (record {
      order = b.order;
      first = physical_there line later p slave fmmu bit b.first;
      second = physical_there line later p slave other bit b.second;
    })
fit_there line later p fit (TwiceRead slave fmmu other other_fmmu bit) b =
    let inside = inside_line line later p slave fmmu b.first.there in
    let other_inside = inside_line line later p other other_fmmu b.second.there in
    let first = reads_there line later p slave fmmu bit b.first in
    let second = reads_there line later p other other_fmmu bit b.second in
    ⊎_elim
    (λ (order : slave < other).
    let differ : p.to slave ≢ p.to other =
    places_apart line later p slave other inside other_inside (λ is. omega (arith, is, order)) in
    ⊎_elim
    (λ (before : p.to slave < p.to other).
    fit (TwiceRead (p.to slave) fmmu (p.to other) other_fmmu bit)
    (record { order = inl before; first = first; second = second }))
    (λ (behind : p.to other ≤ p.to slave).
    let before : p.to other < p.to slave = omega (arith, behind, differ) in
    fit (TwiceRead (p.to other) other_fmmu (p.to slave) fmmu bit)
    (record { order = inl before; first = second; second = first }))
    (cases_lt (p.to slave) (p.to other)))
    (λ order.
    fit (TwiceRead (p.to slave) fmmu (p.to other) other_fmmu bit)
    (record { order = inr (ap p.to order.0, order.1); first = first; second = second }))
    b.order
fit_there line later p fit (ReadAndWritten reader reader_fmmu writer writer_fmmu bit) b =
    let reads_inside = inside_line line later p reader reader_fmmu b.read.there in
    let writes_inside = inside_line line later p writer writer_fmmu b.written.there in
    fit (ReadAndWritten (p.to reader) reader_fmmu (p.to writer) writer_fmmu bit) (record {
      apart = places_apart line later p reader writer reads_inside writes_inside b.apart;
      read = reads_there line later p reader reader_fmmu bit b.read;
      written = writes_there line later p writer writer_fmmu bit b.written;
    })

-- ---- two slaves in each other's place

-- the place of a number in the list before
swapped : ℕ → ℕ → ℕ → ℕ
swapped i j k = cond (eqb k j) i (cond (eqb k i) j k)

swapped_last : (i j : ℕ) → swapped i j j ≡ i
unfolding swapped
swapped_last i j = rw (eq-eqb j j refl) refl

swapped_first : (i j : ℕ) → swapped i j i ≡ j
unfolding swapped
swapped_first i j =
    ⊎_elim (λ (same : i ≡ j). rw (eq-eqb i j same) same)
    (λ (other : i ≢ j). rw (ne_eqb i j other, eq-eqb i i refl) refl) (cases_eq i j)

swapped_other : (i j k : ℕ) → k ≢ i → k ≢ j → swapped i j k ≡ k
unfolding swapped
swapped_other i j k not_i not_j = rw (ne_eqb k j not_j, ne_eqb k i not_i) refl

-- each number is one of the two or another
by_place : (P : ℕ → Type 0) (i j k : ℕ) → P i → P j → (k ≢ i → k ≢ j → P k) → P k
by_place P i j k first last other =
    ⊎_elim (λ (same : k ≡ i). subst P (sym same) first)
    (λ (not_i : k ≢ i).
    ⊎_elim (λ (same : k ≡ j). subst P (sym same) last) (λ (not_j : k ≢ j). other not_i not_j) (cases_eq k j))
    (cases_eq k i)

get_or-swapped : (xs : List ControllerState) (i j k : ℕ) (d : ControllerState) → i < length xs → j < length xs
    → k < length xs → get_or (swap xs i j) k d ≡ get_or xs (swapped i j k) d
get_or-swapped [] i j k d inside_i inside_j inside = absurd (omega arith)
get_or-swapped (x ∷ xs) i j k d inside_i inside_j inside =
    let ys : List ControllerState = x ∷ xs in
    let a : ControllerState = get_or ys i x in
    let b : ControllerState = get_or ys j x in
    let once : List ControllerState = set ys i b in
    let size : length once ≡ length ys = length-set ys i b in
    let P : ℕ → Type 0 = λ n. get_or (set once j a) n d ≡ get_or ys (swapped i j n) d in
    let last : P j =
    get_or-set_same once j a d (omega (arith, size, inside_j)) ∙ get_or_default ys i x d inside_i
    ∙ ap (λ n. get_or ys n d) (sym (swapped_last i j)) in
    let first : P i =
    ⊎_elim (λ (same : i ≡ j). subst P (sym same) last)
    (λ (other : i ≢ j).
    get_or-set_other once j i a d (λ is. other is) ∙ get_or-set_same ys i b d inside_i
    ∙ get_or_default ys j x d inside_j ∙ ap (λ n. get_or ys n d) (sym (swapped_first i j)))
    (cases_eq i j) in
    by_place P i j k first last
    (λ not_i not_j.
    get_or-set_other once j k a d not_j ∙ get_or-set_other ys i k b d not_i
    ∙ ap (λ n. get_or ys n d) (sym (swapped_other i j k not_i not_j)))

fit_swapped : (line : List ControllerState) (i j : ℕ) → i < length line → j < length line → IsFit line
    → IsFit (swap line i j)
fit_swapped line i j inside_i inside_j fit =
    let first = swapped_first i j in
    let last = swapped_last i j in
    fit_there line (swap line i j)
    (record {
      size = length-swap line i j;
      to = swapped i j;
      there = λ k inside.
          by_place (λ n. swapped i j n < length line) i j k (omega (arith, first, inside_j))
          (omega (arith, last, inside_i))
          (λ not_i not_j. omega (arith, swapped_other i j k not_i not_j, inside));
      back = λ k inside.
          by_place (λ n. swapped i j (swapped i j n) ≡ n) i j k (ap (swapped i j) first ∙ last)
          (ap (swapped i j) last ∙ first)
          (λ not_i not_j.
          let kept = swapped_other i j k not_i not_j in ap (swapped i j) kept ∙ kept);
      same = λ k inside. get_or-swapped line i j k no_controller inside_i inside_j inside;
    })
    fit

-- ---- any order

pub fit_in_any_order : (line later : List ControllerState) → IsPermutation line later → IsFit line → IsFit later
fit_in_any_order line later order fit = IsPermutation-keeps line IsFit fit fit_swapped later order

-- an element of a list in another order stood in the list before
pub stood_before : {X : Type 0} (xs ys : List X) (k : ℕ) (d : X) → IsPermutation xs ys → k < length ys
    → (j : ℕ) × (j < length xs) × (get_or ys k d ≡ get_or xs j d)
stood_before xs ys k d order inside =
    subst (λ zs. k < length zs → (j : ℕ) × (j < length xs) × (get_or zs k d ≡ get_or xs j d)) (sym order.is)
    (λ there. (get_or_moved xs order.moves k d order.below there).1) inside
