-- What lacks of a counter is what the whole line gives less what the others give.
use Rattle.std.proofs.Common.{◌≡◌, ℕ, zero, suc, ◌+◌, ◌-◌, ◌*◌, ◌<◌, ◌≤◌, ◌&&◌, Bool, true, false, not, cond}
use Rattle.std.proofs.Common.{Option, None, Some, List, length, take, get_or, refl, sym, ap, ◌∙◌, arith}
use Rattle.std.proofs.Common.{eq-eqb}
use Rattle.std.specs.List.{sum, sum_by, list_all}
use Rattle.std.proofs.lemmas.List.{take_all}
use Rattle.std.proofs.lemmas.List.Sums.{sum-map, sum_by_more, list_all-from_AllPass}
use Rattle.ec_esc.specs.State.{ControllerState}
use Rattle.ec_line.proofs.Laws.{sum_bound}
use Rattle.ec_map.specs.Item.{ItemRecord}
use Rattle.ec_map.specs.Share.{share, request_of, expected_of}
use Rattle.ecat_judge.specs.declared.share.Share.{Share}
use Rattle.ecat_judge.specs.declared.share.Missing.{Missing}
use Rattle.ecat_judge.specs.declared.share.Missing.TheVariants.{Slaves, Inputs, Outputs, Two}
use Rattle.ecat_judge.specs.declared.evidence.Row.{Row}
use Rattle.ecat_judge.specs.declared.evidence.Evidence.{Evidence}
use Rattle.ecat_judge.specs.Share.{whole, no_share, share_at, part, part_at, lacking, sum_below}
use Rattle.ecat_judge.specs.Evidence.{explains, explains_by, fits, was_seen}
use Rattle.ecat_judge.specs.Without.{AreShares, IsShortOf, WentWithout, rest, rest_at}
use Rattle.ecat_judge.proofs.SumLemmas.{sum_none, sum_suc}

-- ---- the share of one slave

or_none : (b : Bool) (x most : ℕ) → x ≤ most → cond b x 0 ≤ most
or_none true x most h = h
or_none false x most h = omega arith

-- no more lacks of a share than there is
part_most : (missing : Missing) (s : Share) (place : ℕ) → part missing s place ≤ whole s
part_most (Slaves from to) s place = or_none _ (whole s) (whole s) (omega arith)
part_most (Inputs slave) s place = or_none _ s.inputs (whole s) (omega arith)
part_most (Outputs slave) s place = or_none _ s.outputs (whole s) (omega arith)
part_most (Two one other) s place = or_none _ (whole s) (whole s) (omega arith)

-- what lacks and what the slave adds are the whole share
parts_at : (missing : Missing) (shares : List Share) (place : ℕ)
    → rest_at missing shares place + part_at missing shares place ≡ whole (share_at shares place)
unfolding part_at rest_at
parts_at missing shares place =
    let most = part_most missing (share_at shares place) place in
    omega (arith, most)

-- ---- the shares of a line

sum_parts : (missing : Missing) (shares : List Share) (n : ℕ)
    → sum_below (rest_at missing shares) n + sum_below (part_at missing shares) n
    ≡ sum_below (λ place. whole (share_at shares place)) n
sum_parts missing shares zero =
    let none_rest = sum_none (rest_at missing shares) in
    let none_part = sum_none (part_at missing shares) in
    let none_whole = sum_none (λ place. whole (share_at shares place)) in
    omega (arith, none_rest, none_part, none_whole)
sum_parts missing shares (suc n) =
    let before = sum_parts missing shares n in
    let more_rest = sum_suc (rest_at missing shares) n in
    let more_part = sum_suc (part_at missing shares) n in
    let more_whole = sum_suc (λ place. whole (share_at shares place)) n in
    let here = parts_at missing shares n in
    omega (arith, before, more_rest, more_part, more_whole, here)

-- the sum over the places is the sum over the list
sum_first : (shares : List Share) (n : ℕ) → n ≤ length shares
    → sum_below (λ place. whole (share_at shares place)) n ≡ sum_by whole (take n shares)
sum_first shares zero h = sum_none (λ place. whole (share_at shares place))
sum_first shares (suc n) h =
    let before = sum_first shares n (omega (arith, h)) in
    let more = sum_suc (λ place. whole (share_at shares place)) n in
    let e : n + 1 ≡ suc n = omega arith in
    let taken = sum_by_more whole shares n no_share (omega (arith, h)) in
    let same = ap (λ m. sum_by whole (take m shares)) e in
    omega (arith, before, more, taken, same)

sum_all : (shares : List Share)
    → sum_below (λ place. whole (share_at shares place)) (length shares) ≡ sum_by whole shares
sum_all shares =
    let most : length shares ≤ length shares = omega arith in
    sum_first shares (length shares) most ∙ ap (sum_by whole) (take_all (length shares) shares most)

-- ---- the counter of an item

-- the counter that a line gives is the sum of its shares
expected_is : (line : List ControllerState) (item : ItemRecord) (shares : List Share)
    → 3 * length line < 65536 → AreShares line item shares → expected_of line item ≡ sum_by whole shares
expected_is line item shares size are =
    let same : sum_by whole shares ≡ sum_by (share item) line =
    sym (sum-map whole shares) ∙ ap sum are ∙ sum-map (share item) line in
    let most : sum_by (share item) line ≤ 3 * length line = sum_bound (request_of item) line in
    omega (arith, same, most, size)

pub lacking_is : (line : List ControllerState) (item : ItemRecord) (missing : Missing) (shares : List Share)
    → 3 * length line < 65536 → AreShares line item shares
    → lacking missing shares ≡ expected_of line item - rest missing shares
unfolding lacking rest
lacking_is line item missing shares size are =
    let given = expected_is line item shares size are in
    let all = sum_all shares in
    let parts = sum_parts missing shares (length shares) in
    omega (arith, given, all, parts)

-- ---- what trips tell

explains_short : (line : List ControllerState) (item : ItemRecord) (missing : Missing) (row : Row)
    (o : Option ℕ)
    → 3 * length line < 65536 → AreShares line item row.shares.items → IsShortOf line item missing row
    → row.short ≡ o → explains_by o missing row.shares.items ≡ true
explains_short line item missing row None size are is e = refl
explains_short line item missing row (Some n) size are is e =
    eq-eqb (lacking missing row.shares.items) n
    (lacking_is line item missing row.shares.items size are ∙ sym (is n e))

explains_all : (line : List ControllerState) (items : ℕ → ItemRecord) (missing : Missing) (e : Evidence)
    → WentWithout line items missing e → list_all (explains missing) e.rows.items ≡ true
explains_all line items missing e went =
    list_all-from_AllPass (explains missing) e.rows.items
    (λ k d inside. let row = get_or e.rows.items k d in
    explains_short line (items k) missing row row.short went.size (went.shares k d inside)
    (went.counters k d inside) refl)

-- what is missing fits to what is told by trips that passed the line without it
pub fits_without : (line : List ControllerState) (items : ℕ → ItemRecord) (missing : Missing) (e : Evidence)
    → WentWithout line items missing e → fits missing e ≡ true
fits_without line items missing e went =
    ap (λ b. b && not (was_seen missing e.passed.items) && list_all (explains missing) e.rows.items) went.gone
    ∙ ap (λ b. not b && list_all (explains missing) e.rows.items) went.unseen
    ∙ explains_all line items missing e went
