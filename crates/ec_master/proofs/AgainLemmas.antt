-- Cycle after cycle: what a cycle leaves of an accepted line is accepted again, and counts what it counted.
use Rattle.std.proofs.Common.{◌≡◌, ℕ, ◌%◌, sym, subst, ◌∙◌, ap, refl, arith, List, [], ◌∷◌, length, map}
use Rattle.std.specs.List.{AllByRecursion, sum_by}
use Rattle.std.proofs.lemmas.List.Sums.{sum_by-cons}
use Rattle.ec_esc.specs.State.{ControllerState, IsController}
use Rattle.ec_line.specs.Claims.{gain}
use Rattle.ec_line.specs.Mapping.{mapping}
use Rattle.ec_line.specs.Request.{Request}
use Rattle.ec_line.specs.Steady.{IsLater}
use Rattle.ec_line.proofs.Laws.{mapping_steady, gain_lasts}
use Rattle.ec_check.proofs.Laws.{fit_by_mapping}
use Rattle.ec_map.specs.Item.{ItemRecord, IsItem, AsksTheSame}
use Rattle.ec_map.specs.Place.{IsPlaced}
use Rattle.ec_map.specs.Share.{share, expected_of, request_of}
use Rattle.ec_map.proofs.Laws.{placed_by_mapping, share_asked}
use Rattle.ec_ring.specs.Ring.{RingState, line_of}
use Rattle.ec_ring.specs.declared.weather.Weather.{Weather}
use Rattle.ec_ring.proofs.Laws.{line-between}
use Rattle.ec_master.specs.Again.{AskTheSame}
use Rattle.ec_master.specs.Travelled.{run_under, ring_under}
use Rattle.ec_master.specs.Unordered.{ByStation, AreAnswers, slaves_after, IsAccepted}
use Rattle.ec_master.proofs.CertificateLemmas.{run_later}
use Rattle.ec_master.proofs.VerdictLemmas.{sum-same}

-- ---- a later line

mapping-later : (xs ys : List ControllerState) → AllByRecursion IsController xs → IsLater xs ys
    → mapping ys ≡ mapping xs
mapping-later [] [] are later = refl
mapping-later [] (y ∷ ys) are later = absurd later
mapping-later (x ∷ xs) [] are later = absurd later
mapping-later (x ∷ xs) (y ∷ ys) are later =
    (λ i. mapping_steady x y are.0 later.0.0 i ∷ mapping-later xs ys are.1 later.1 i)

controllers-later : (xs ys : List ControllerState) → IsLater xs ys → AllByRecursion IsController ys
controllers-later [] [] later = tt
controllers-later [] (y ∷ ys) later = absurd later
controllers-later (x ∷ xs) [] later = absurd later
controllers-later (x ∷ xs) (y ∷ ys) later = (later.0.1, controllers-later xs ys later.1)

length-later : (xs ys : List ControllerState) → IsLater xs ys → length ys ≡ length xs
length-later [] [] later = refl
length-later [] (y ∷ ys) later = absurd later
length-later (x ∷ xs) [] later = absurd later
length-later (x ∷ xs) (y ∷ ys) later = omega (arith, length-later xs ys later.1)

gains-later : (q : Request) (xs ys : List ControllerState) → AllByRecursion IsController xs → IsLater xs ys
    → sum_by (gain q) ys ≡ sum_by (gain q) xs
gains-later q [] [] are later = refl
gains-later q [] (y ∷ ys) are later = absurd later
gains-later q (x ∷ xs) [] are later = absurd later
gains-later q (x ∷ xs) (y ∷ ys) are later =
    omega (
      arith,
      sum_by-cons (gain q) x xs,
      sum_by-cons (gain q) y ys,
      gain_lasts q x y are.0 later.0.0,
      gains-later q xs ys are.1 later.1,
    )

-- ---- items that ask the same

pub expected_asked : (r s : ItemRecord) (line : List ControllerState) → IsItem r → IsItem s → AsksTheSame r s
    → expected_of line s ≡ expected_of line r
expected_asked r s line item_r item_s asks =
    ap (λ (n : ℕ). n % 65536)
    (sum-same (share s) (share r) line (λ c. share_asked r s c item_r item_s asks))

expected-later : (r : ItemRecord) (xs ys : List ControllerState) → AllByRecursion IsController xs
    → IsLater xs ys → expected_of ys r ≡ expected_of xs r
expected-later r xs ys are later = ap (λ (n : ℕ). n % 65536) (gains-later (request_of r) xs ys are later)

pub asks-itself : (items : List ItemRecord) → AskTheSame items items
asks-itself [] = tt
asks-itself (r ∷ rs) = (record { kind = refl; address = refl; size = refl }, asks-itself rs)

-- answers ask what was asked
pub asks-answers : (slaves : ByStation) (items got : List ItemRecord) → AreAnswers slaves items got
    → AskTheSame items got
asks-answers slaves [] [] answers = tt
asks-answers slaves [] (g ∷ gs) answers = absurd answers
asks-answers slaves (r ∷ rs) [] answers = absurd answers
asks-answers slaves (r ∷ rs) (g ∷ gs) answers = (
  record { kind = answers.0.kind; address = answers.0.address; size = answers.0.size },
  asks-answers (slaves_after r slaves) rs gs answers.1,
)

pub placed-later : (line later : List ControllerState) (items others : List ItemRecord)
    → mapping later ≡ mapping line → AskTheSame items others → AllByRecursion (IsPlaced line) items
    → AllByRecursion (IsPlaced later) others
placed-later line later [] [] alike asks placed = tt
placed-later line later [] (s ∷ ss) alike asks placed = absurd asks
placed-later line later (r ∷ rs) [] alike asks placed = absurd asks
placed-later line later (r ∷ rs) (s ∷ ss) alike asks placed = (
  placed_by_mapping line later r s alike asks.0 placed.0,
  placed-later line later rs ss alike asks.1 placed.1,
)

all-expected : (xs ys : List ControllerState) (items others : List ItemRecord) → AllByRecursion IsItem items
    → AllByRecursion IsItem others → AllByRecursion IsController xs → IsLater xs ys → AskTheSame items others
    → map (expected_of ys) others ≡ map (expected_of xs) items
all-expected xs ys [] [] items others are later asks = refl
all-expected xs ys [] (s ∷ ss) items others are later asks = absurd asks
all-expected xs ys (r ∷ rs) [] items others are later asks = absurd asks
all-expected xs ys (r ∷ rs) (s ∷ ss) items others are later asks =
    (λ i. (expected_asked r s ys items.0 others.0 asks.0 ∙ expected-later r xs ys are later) i
    ∷ all-expected xs ys rs ss items.1 others.1 are later asks.1 i)

-- ---- behind a cycle

-- the controllers behind a run are those of the ring behind it
line_behind : (ws : List Weather) (r : RingState) (items : List ItemRecord) → IsAccepted r.slaves items
    → AllByRecursion IsItem items → line_of (ring_under ws r items) ≡ (run_under ws r items).line
line_behind ws r items accepted are =
    line-between r (ring_under ws r items) (run_under ws r items).line refl
    (length-later (line_of r) (run_under ws r items).line (run_later ws r items accepted are))

pub again : (ws : List Weather) (r : RingState) (items others : List ItemRecord)
    → IsAccepted r.slaves items → AllByRecursion IsItem items → AskTheSame items others
    → IsAccepted (ring_under ws r items).slaves others
again ws r items others accepted are asks =
    let line : List ControllerState = line_of r in
    let behind = line_behind ws r items accepted are in
    let later = run_later ws r items accepted are in
    let alike : mapping (line_of (ring_under ws r items)) ≡ mapping line =
    ap mapping behind ∙ mapping-later line (run_under ws r items).line accepted.are later in
    record {
      are = subst (λ (l : List ControllerState). AllByRecursion IsController l) (sym behind)
          (controllers-later line (run_under ws r items).line later);
      fit = fit_by_mapping line (line_of (ring_under ws r items)) alike accepted.fit;
      placed = placed-later line (line_of (ring_under ws r items)) items others alike asks accepted.placed;
    }

pub still_expected : (ws : List Weather) (r : RingState) (items others : List ItemRecord)
    → IsAccepted r.slaves items → AllByRecursion IsItem items → AllByRecursion IsItem others
    → AskTheSame items others
    → map (expected_of (line_of (ring_under ws r items))) others ≡ map (expected_of (line_of r)) items
still_expected ws r items others accepted are also asks =
    ap (λ (l : List ControllerState). map (expected_of l) others) (line_behind ws r items accepted are)
    ∙ all-expected (line_of r) (run_under ws r items).line items others are also accepted.are
    (run_later ws r items accepted are) asks
