-- Reads of AL status, one behind the other, and the first answer that does not tell Op.
use Rattle.std.proofs.Common.{◌≡◌, ◌≤◌, ◌<◌, ℕ, suc, ◌+◌, ◌-◌, Bool, true, false, List, [], ◌∷◌, ◌++◌}
use Rattle.std.proofs.Common.{if◌then◌else◌, length, take, drop, map, get_or, refl, sym, ap, ◌∙◌, subst, arith}
use Rattle.std.proofs.Common.{Option, None, Some}
use Rattle.std.proofs.Math.Seq.{drop-length, take-suc}
use Rattle.std.proofs.lemmas.List.{drop_more, get_or-drop, length-drop, map-append}
use Rattle.ec_wire.specs.Datagram.{DatagramRecord, blank, nth}
use Rattle.ec_run.specs.Along.{first_out, state_read, tells_op}
use Rattle.ec_run.specs.declared.wanted.Wanted.{Wanted}

-- ---- the first that does not tell it

out_more : (d : DatagramRecord) (rest : List DatagramRecord) (k : ℕ) → tells_op d ≡ true
    → first_out (d ∷ rest) k ≡ first_out rest (k + 1)
unfolding first_out
out_more d rest k tells = ap (λ (b : Bool). if b then first_out rest (k + 1) else Some k) tells

out_here : (d : DatagramRecord) (rest : List DatagramRecord) (k : ℕ) → tells_op d ≡ false
    → first_out (d ∷ rest) k ≡ Some k
unfolding first_out
out_here d rest k tells = ap (λ (b : Bool). if b then first_out rest (k + 1) else Some k) tells

pub first_out_more : (joined : List DatagramRecord) (k : ℕ) → k < length joined
    → tells_op (nth joined k) ≡ true → first_out (drop k joined) k ≡ first_out (drop (k + 1) joined) (k + 1)
first_out_more joined k less tells =
    ap (λ xs. first_out xs k) (drop_more joined k blank less)
    ∙ out_more (nth joined k) (drop (k + 1) joined) k tells

pub first_out_here : (joined : List DatagramRecord) (k : ℕ) → k < length joined
    → tells_op (nth joined k) ≡ false → first_out (drop k joined) k ≡ Some k
first_out_here joined k less tells =
    ap (λ xs. first_out xs k) (drop_more joined k blank less)
    ∙ out_here (nth joined k) (drop (k + 1) joined) k tells

pub first_out_none : (joined : List DatagramRecord) (k : ℕ) → k ≡ length joined
    → first_out (drop k joined) k ≡ None
unfolding first_out
first_out_none joined k all =
    ap (λ n. first_out (drop n joined) k) all ∙ ap (λ xs. first_out xs k) (drop-length joined)

-- ---- one read more

pub read_more : (line : List Wanted) (first place : ℕ) (d : Wanted) → first < place → place < length line
    → map state_read (take (place + 1 - first) (drop first line))
    ≡ map state_read (take (place - first) (drop first line)) ++ (state_read (get_or line place d) ∷ [])
read_more line first place d behind inside =
    let n : ℕ = place - first in
    let rest : List Wanted = drop first line in
    let size : length rest ≡ length line - first = length-drop first line in
    let less : n < length rest = omega (arith, size, behind, inside) in
    let next : place + 1 - first ≡ suc n = omega (arith, behind) in
    let there : first + n ≡ place = omega (arith, behind) in
    let at : get_or rest n d ≡ get_or line place d =
    get_or-drop first line n d ∙ ap (λ k. get_or line k d) there in
    ap (λ k. map state_read (take k rest)) next
    ∙ ap (map state_read) (take-suc rest n d less)
    ∙ map-append state_read (take n rest) (get_or rest n d ∷ [])
    ∙ ap (λ w. map state_read (take n rest) ++ (state_read w ∷ [])) at

pub read_behind : (line : List Wanted) (first place : ℕ) (frame later : List DatagramRecord) (d : Wanted)
    (read : DatagramRecord) → first < place → place < length line
    → frame ≡ map state_read (take (place - first) (drop first line))
    → read ≡ state_read (get_or line place d) → later ≡ frame ++ (read ∷ [])
    → later ≡ map state_read (take (place + 1 - first) (drop first line))
read_behind line first place frame later d read behind inside asked is put =
    put
    ∙ ap (λ xs. xs ++ (read ∷ [])) asked
    ∙ ap (λ x. map state_read (take (place - first) (drop first line)) ++ (x ∷ [])) is
    ∙ sym (read_more line first place d behind inside)
