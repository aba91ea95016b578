-- A station address is written by place over a ring with at most one link down: copy A passes the slaves
-- before the break and copy B those behind it, each counts places from where it starts, and a frame that
-- circulates is not passed behind the break.
use Rattle.std.proofs.Common.{◌≡◌, ℕ, zero, suc, ◌+◌, ◌-◌, ◌*◌, ◌/◌, ◌%◌, ◌<◌, ◌≤◌, Bool, true, false, cond}
use Rattle.std.proofs.Common.{List, [], ◌∷◌, ◌++◌, length, map, take, drop, Option, None, Some}
use Rattle.std.proofs.Common.{Ok, Err, refl, sym, ap, ◌∙◌, arith, subst, ◌&&◌, true≢false}
use Rattle.std.specs.Prelude.{is_none}
use Rattle.std.specs.Option.{option_map}
use Rattle.std.proofs.lemmas.Bool.{and_from}
use Rattle.std.proofs.Math.Seq.{drop-append_seam, drop-length, take-append_seam}
use Rattle.std.proofs.lemmas.List.{length-drop, length-take-le}
use Rattle.ec_regs.proofs.Laws.{each-drop, each-take}
use Rattle.ec_wire.specs.Datagram.{DatagramRecord, nth}
use Rattle.ec_merge.specs.Frames.{IsOwn}
use Rattle.ec_merge.proofs.Laws.{own_no_fault}
use Rattle.ec_esc.specs.Pass.{frame_pass, pass}
use Rattle.ec_esc.specs.State.{ControllerState, IsController}
use Rattle.ec_line.specs.Trip.{PassedLine, back_pass, front_pass, line_pass}
use Rattle.ec_ring.specs.Links.{IsOnlyDown, is_up, is_whole}
use Rattle.ec_ring.specs.Reach.{arrival_a, arrival_b, back, front, turns}
use Rattle.ec_ring.specs.Travel.{Travelled, came_of, travelled}
use Rattle.ec_ring.specs.Walk.{Walked, walked_from_a, walked_from_b}
use Rattle.ec_ring.specs.Weather.{calm}
use Rattle.ec_ring.specs.declared.links.Links.{Links}
use Rattle.ec_ring.specs.declared.port.Port.{Port}
use Rattle.ec_ring.specs.declared.port.Port.TheVariants.{A, B}
use Rattle.ec_ring.specs.declared.weather.Came.{Came}
use Rattle.ec_ring.proofs.Laws.{front-is-back, length-front_pass, lost-back, lost-front}
use Rattle.ec_master.specs.Ports.{came_or}
use Rattle.ec_services.specs.Ask.{Answer, Brings}
use Rattle.ec_services.specs.Stations.{adp_of_place, station_write}
use Rattle.ec_over_ring.specs.Stations.{restationed}
use Rattle.ec_over_ring.proofs.CountLemmas.{own_alone}
use Rattle.ec_over_ring.proofs.HoldersLemmas.{IsTold, answer_counts, lost_one, told_or_lost}
use Rattle.ec_over_ring.proofs.LineLemmas.{turned, turned_pass}
use Rattle.ec_over_ring.proofs.PlaceLemmas.{behind_pass, passed_line}
use Rattle.ec_over_ring.proofs.StationWriteLemmas.{meant_pass, passed_by, write_at}
use Rattle.ec_over_ring.proofs.TripKeepsLemmas.{AreControllers}
use Rattle.ec_over_ring.proofs.TripLemmas.{first_copy, second_copy, second_is}
use Rattle.ec_over_ring.proofs.WayLemmas.{both, came_back, travelled_pieces, way_of}

-- ---- one answer

-- the answer is of the frame that was sent, and tells this count
abbrev pub TellsCount : Answer → ℕ → Type 0
TellsCount (Err fault) n = ⊥
TellsCount (Ok back) n = (nth back.joined 0).counter ≡ n

-- so it is where neither copy is a stranger
pub own_answer : (d : DatagramRecord) (came : Came) (answer : Answer) (i j : ℕ) → d.counter ≡ 0
    → IsTold i (came_or came.a (d ∷ [])) → IsTold j (came_or came.b (d ∷ [])) → i + j < 65536
    → IsOwn (d ∷ []) (came_or came.a (d ∷ [])) → IsOwn (d ∷ []) (came_or came.b (d ∷ []))
    → Brings d (Ok came) answer → TellsCount answer (i + j)
own_answer d came (Err fault) i j sent a b small own_a own_b brings =
    absurd (own_no_fault (d ∷ []) (came_or came.a (d ∷ [])) (came_or came.b (d ∷ [])) own_a own_b brings.1.1
    brings.1.2)
own_answer d came (Ok back) i j sent a b small own_a own_b brings =
    answer_counts d came (Ok back) i j sent a b small brings

-- a copy that came back is no stranger where the frame is none, and nor is the sent one in its place
pub own_or_lost : (lost : Bool) (d : DatagramRecord) (frame : List DatagramRecord) → IsOwn (d ∷ []) frame
    → IsOwn (d ∷ []) (d ∷ []) → IsOwn (d ∷ []) (came_or (cond lost None (Some frame)) (d ∷ []))
own_or_lost true d frame own sent = sent
own_or_lost false d frame own sent = own

-- ---- a piece of a line

-- the one at a place has this station address
unfoldable pub placed : ℕ → ℕ → List ControllerState → List ControllerState
placed station k [] = []
placed station zero (c ∷ cs) = restationed c station ∷ cs
placed station (suc k) (c ∷ cs) = c ∷ placed station k cs

-- how many are at that place
unfoldable pub taken : {X : Type 0} → ℕ → List X → ℕ
taken k [] = 0
taken zero (x ∷ xs) = 1
taken (suc k) (x ∷ xs) = taken k xs

pub taken_inside : {X : Type 0} (k : ℕ) (xs : List X) → k < length xs → taken k xs ≡ 1
unfolding taken
taken_inside k [] inside = absurd (omega (arith, inside))
taken_inside zero (x ∷ xs) inside = refl
taken_inside (suc k) (x ∷ xs) inside = taken_inside k xs (omega (arith, inside))

pub taken_few : {X : Type 0} (k : ℕ) (xs : List X) → taken k xs ≤ 1
unfolding taken
taken_few k [] = omega arith
taken_few zero (x ∷ xs) = omega arith
taken_few (suc k) (x ∷ xs) = taken_few k xs

pub length-placed : (station k : ℕ) (cs : List ControllerState) → length (placed station k cs) ≡ length cs
unfolding placed
length-placed station k [] = refl
length-placed station zero (c ∷ cs) = refl
length-placed station (suc k) (c ∷ cs) = ap (λ (n : ℕ). suc n) (length-placed station k cs)

-- the write behind a piece, with whatever ADP
record IsWritten (station k : ℕ) (cs : List ControllerState) : Type 0 where
  adp : ℕ
  small : adp < 65536
  passes : line_pass cs (write_at (adp_of_place k) station 0 ∷ [])
      ≡ record { frame = write_at adp station (taken k cs) ∷ []; line = placed station k cs }

written : (station k : ℕ) (cs : List ControllerState) → AreControllers cs → k + length cs < 60000
    → IsWritten station k cs
unfolding line_pass frame_pass placed taken
written station k [] are small =
    record { adp = adp_of_place k; small = omega arith; passes = refl }
written station zero (c ∷ cs) are small = record {
  adp = 1 + length cs;
  small = omega (arith, small);
  passes = ap (behind_pass cs) (meant_pass c station 0 are.0)
      ∙ ap (λ (p : PassedLine). record { frame = p.frame; line = restationed c station ∷ p.line })
      (passed_line cs 1 station are.1 (omega arith) (omega (arith, small)));
}
written station (suc k) (c ∷ cs) are small =
    let adp : ℕ = adp_of_place (suc k) in
    let some : 1 ≤ adp = omega (arith, small) in
    let low : adp < 65536 = omega arith in
    let next : (adp + 1) % 65536 ≡ adp_of_place k = omega (arith, small) in
    let rest : IsWritten station k cs = written station k cs are.1 (omega (arith, small)) in
    record {
      adp = rest.adp;
      small = rest.small;
      passes = ap (behind_pass cs) (passed_by c adp station 0 are.0 some low (omega arith))
          ∙ ap (λ (a : ℕ). behind_pass cs (record { datagram = write_at a station 0; state = c })) next
          ∙ ap (λ (p : PassedLine). record { frame = p.frame; line = c ∷ p.line }) rest.passes;
    }

-- a frame that circulates is passed as one that does not
turned_line : (b : Bool) (cs : List ControllerState) (d : DatagramRecord)
    → line_pass cs (turned b d ∷ [])
    ≡ record { frame = map (turned b) (line_pass cs (d ∷ [])).frame; line = (line_pass cs (d ∷ [])).line }
unfolding line_pass frame_pass
turned_line b [] d = refl
turned_line b (c ∷ cs) d =
    ap (behind_pass cs) (turned_pass b c d)
    ∙ ap (λ (p : PassedLine). record { frame = p.frame; line = (pass c d).state ∷ p.line })
    (turned_line b cs (pass c d).datagram)

turned_written : (b : Bool) (station k : ℕ) (cs : List ControllerState) (is : IsWritten station k cs)
    → line_pass cs (turned b (write_at (adp_of_place k) station 0) ∷ [])
    ≡ record { frame = turned b (write_at is.adp station (taken k cs)) ∷ []; line = placed station k cs }
turned_written b station k cs is =
    turned_line b cs (write_at (adp_of_place k) station 0)
    ∙ ap (λ (p : PassedLine). record { frame = map (turned b) p.frame; line = p.line }) is.passes

-- it is no stranger
own_write : (b bit : Bool) (adp station k count : ℕ) → adp < 65536
    → IsOwn (turned b (station_write k station) ∷ []) (turned bit (write_at adp station count) ∷ [])
own_write b bit adp station k count small =
    let address : (adp + 65536 * 16) / 65536 ≡ (adp_of_place k + 65536 * 16) / 65536 =
    omega (arith, small) in
    own_alone (turned b (station_write k station)) (turned bit (write_at adp station count)) refl refl refl
    address

-- ---- both copies

-- the line behind the copy that passes its first m
unfoldable pub front_placed : ℕ → ℕ → ℕ → List ControllerState → List ControllerState
front_placed m station k line = placed station k (take m line) ++ drop m line

-- copy A, circulating or not
first_written : (m : ℕ) (b : Bool) (station k : ℕ) (line : List ControllerState)
    (is : IsWritten station k (take m line))
    → first_copy m line (turned b (station_write k station))
    ≡ record {
      frame = turned b (write_at is.adp station (taken k (take m line))) ∷ [];
      line = front_placed m station k line;
    }
unfolding front_placed
first_written m b station k line is =
    ap (λ (p : PassedLine). record { frame = p.frame; line = p.line ++ drop m line })
    (turned_written b station k (take m line) is)

seam_taken : (m station k : ℕ) (line : List ControllerState) → m ≤ length line
    → take m (front_placed m station k line) ≡ placed station k (take m line)
unfolding front_placed
seam_taken m station k line inside =
    let size : length (placed station k (take m line)) ≡ m =
    length-placed station k (take m line) ∙ length-take-le m line inside in
    subst (λ (n : ℕ). take n (placed station k (take m line) ++ drop m line) ≡ placed station k (take m line))
    size (take-append_seam (placed station k (take m line)) (drop m line))

seam_dropped : (m station k : ℕ) (line : List ControllerState) → m ≤ length line
    → drop m (front_placed m station k line) ≡ drop m line
unfolding front_placed
seam_dropped m station k line inside =
    let size : length (placed station k (take m line)) ≡ m =
    length-placed station k (take m line) ∙ length-take-le m line inside in
    subst (λ (n : ℕ). drop n (placed station k (take m line) ++ drop m line) ≡ drop m line)
    size (drop-append_seam (placed station k (take m line)) (drop m line))

-- copy B behind it
abbrev back_of : List ControllerState → List ControllerState → DatagramRecord → PassedLine
back_of xs ys d =
    record { frame = (line_pass ys (d ∷ [])).frame; line = xs ++ (line_pass ys (d ∷ [])).line }

second_written : (m : ℕ) (b : Bool) (station k : ℕ) (line : List ControllerState)
    (is : IsWritten station k (drop m line)) → m ≤ length line
    → second_copy m b (front_placed m station k line) (station_write k station)
    ≡ record {
      frame = turned (cond b true false) (write_at is.adp station (taken k (drop m line))) ∷ [];
      line = placed station k (take m line) ++ placed station k (drop m line);
    }
second_written m b station k line is inside =
    let d : DatagramRecord = station_write k station in
    let bit : Bool = cond b true false in
    let after : List ControllerState = front_placed m station k line in
    ap (λ (f : List DatagramRecord). back_pass m after f) (second_is b d)
    ∙ ap (λ (xs : List ControllerState). back_of xs (drop m after) (turned bit d))
    (seam_taken m station k line inside)
    ∙ ap (λ (ys : List ControllerState). back_of (placed station k (take m line)) ys (turned bit d))
    (seam_dropped m station k line inside)
    ∙ ap (λ (p : PassedLine). record { frame = p.frame; line = placed station k (take m line) ++ p.line })
    (turned_written bit station k (drop m line) is)

-- ---- a write that does not circulate

-- the line behind both copies, of which the first passed m
unfoldable pub both_placed : ℕ → ℕ → ℕ → List ControllerState → List ControllerState
both_placed m station k line = placed station k (take m line) ++ placed station k (drop m line)

-- what a write over a line comes to: the line, and what any answer tells
pub record IsPlaced (d : DatagramRecord) (line : List ControllerState) (count : ℕ) (t : Travelled) : Type 0
  where
    pub left : t.line ≡ line
    pub tells : (answer : Answer) → Brings d (Ok t.came) answer → TellsCount answer count

both_written : (m : ℕ) (b : Bool) (station k : ℕ) (line : List ControllerState)
    (first : IsWritten station k (take m line)) (second : IsWritten station k (drop m line))
    → m ≤ length line
    → both m b line (station_write k station)
    ≡ record {
      a = write_at first.adp station (taken k (take m line)) ∷ [];
      b = turned (cond b true false) (write_at second.adp station (taken k (drop m line))) ∷ [];
      line = both_placed m station k line;
    }
unfolding both both_placed
both_written m b station k line first second inside =
    let d : DatagramRecord = station_write k station in
    ap (λ (a : PassedLine). let z = second_copy m b a.line d in
    record { a = a.frame; b = z.frame; line = z.line }) (first_written m false station k line first)
    ∙ ap (λ (z : PassedLine). record {
      a = write_at first.adp station (taken k (take m line)) ∷ [];
      b = z.frame;
      line = z.line;
    }) (second_written m b station k line second inside)

way_written : (lost_a lost_b : Bool) (m : ℕ) (b : Bool) (station k : ℕ) (line : List ControllerState)
    → AreControllers line → k + length line < 60000 → m ≤ length line
    → (lost_a ≡ true → taken k (take m line) ≡ 0) → (lost_b ≡ true → taken k (drop m line) ≡ 0)
    → IsPlaced (station_write k station) (both_placed m station k line)
    (taken k (take m line) + taken k (drop m line))
    (way_of lost_a lost_b m b line (station_write k station))
way_written lost_a lost_b m b station k line are small inside none_a none_b =
    let d : DatagramRecord = station_write k station in
    let i : ℕ = taken k (take m line) in
    let j : ℕ = taken k (drop m line) in
    let front_size : length (take m line) ≡ m = length-take-le m line inside in
    let back_size : length (drop m line) ≡ length line - m = length-drop m line in
    let first : IsWritten station k (take m line) =
    written station k (take m line) (each-take IsController m line are)
    (omega (arith, front_size, inside, small)) in
    let second : IsWritten station k (drop m line) =
    written station k (drop m line) (each-drop IsController m line are) (omega (arith, back_size, small)) in
    let e : DatagramRecord = write_at first.adp station i in
    let f : DatagramRecord = turned (cond b true false) (write_at second.adp station j) in
    let few_i : i ≤ 1 = taken_few k (take m line) in
    let few_j : j ≤ 1 = taken_few k (drop m line) in
    let own_e : IsOwn (d ∷ []) (e ∷ []) = own_write false false first.adp station k i first.small in
    let own_f : IsOwn (d ∷ []) (f ∷ []) =
    own_write false (cond b true false) second.adp station k j second.small in
    let own_d : IsOwn (d ∷ []) (d ∷ []) =
    own_write false false (adp_of_place k) station k 0 (omega arith) in
    let made = both_written m b station k line first second inside in
    subst (λ p. IsPlaced d (both_placed m station k line) (i + j) (came_back lost_a lost_b p)) (sym made)
    (record {
      left = refl;
      tells = λ answer brings.
          own_answer d (record { a = cond lost_a None (Some (e ∷ [])); b = cond lost_b None (Some (f ∷ [])) })
          answer i j refl (told_or_lost lost_a i d e (e ∷ []) none_a refl refl refl)
          (told_or_lost lost_b j d f (f ∷ []) none_b refl refl refl)
          (omega (arith, few_i, few_j))
          (own_or_lost lost_a d (e ∷ []) own_e own_d) (own_or_lost lost_b d (f ∷ []) own_f own_d) brings;
    })

-- over a line with at most one link down
pub trip_written : (links : Links) (down station k : ℕ) (line : List ControllerState) → AreControllers line
    → IsOnlyDown links (length line) down → k + length line < 60000
    → front links (length line) ≤ length line
    → let m = front links (length line) in
    IsPlaced (station_write k station) (both_placed m station k line)
    (taken k (take m line) + taken k (drop m line))
    (travelled (calm links) (station_write k station ∷ []) line)
unfolding taken
trip_written links down station k line are one small inside =
    let n : ℕ = length line in
    let m : ℕ = front links n in
    let d : DatagramRecord = station_write k station in
    let meet : m ≡ back links n = front-is-back links n down one in
    subst (λ (t : Travelled).
    IsPlaced d (both_placed m station k line) (taken k (take m line) + taken k (drop m line)) t)
    (sym (travelled_pieces links d line refl meet))
    (way_written (is_none (arrival_a links n)) (is_none (arrival_b links n)) m (turns links n) station k line
    are small inside
    (λ lost. ap (λ (i : ℕ). taken k (take i line))
    (lost-front links n (lost_one (arrival_a links n) lost)))
    (λ lost.
    let all : m ≡ n = meet ∙ lost-back links n (lost_one (arrival_b links n) lost) in
    ap (λ (i : ℕ). taken k (drop i line)) all
    ∙ ap (λ (xs : List ControllerState). taken k xs) (drop-length line)))

-- ---- a write that circulates

when_true : {X : Type 0} (b : Bool) (x y : X) → b ≡ true → cond b x y ≡ x
when_true true x y is = refl
when_true false x y is = absurd (true≢false (sym is))

-- it is destroyed where it would turn round
b_destroyed : (links : Links) (d : DatagramRecord) (line : List ControllerState)
    → turns links (length line) ≡ true → d.circulating ≡ true
    → walked_from_b links (d ∷ []) line ≡ record { arrived = None; line = line }
unfolding walked_from_b
b_destroyed links d line turning circling =
    when_true (turns links (length line) && d.circulating) _ _
    (and_from (turns links (length line)) d.circulating turning circling)

-- copy A comes back where its first link is up
some_port : (b : Bool) (p : Port) (f : List DatagramRecord) → b ≡ true
    → option_map {U = List DatagramRecord × Port} (λ (x : Port). (f, x)) (cond b (Some p) None) ≡ Some (f, p)
some_port true p f is = refl
some_port false p f is = absurd (true≢false (sym is))

a_comes : (links : Links) (frame : List DatagramRecord) (line : List ControllerState)
    → is_up links 0 ≡ true
    → let p = front_pass (front links (length line)) line frame in
    walked_from_a links frame line
    ≡ record { arrived = Some (p.frame, cond (is_whole links (length line)) B A); line = p.line }
unfolding walked_from_a
a_comes links frame line up =
    let p : PassedLine = front_pass (front links (length line)) line frame in
    ap (λ (o : Option (List DatagramRecord × Port)). record { arrived = o; line = p.line })
    (some_port (is_up links 0) (cond (is_whole links (length line)) B A) p.frame up)

-- so copy A alone passes, and comes back
circling_trip : (links : Links) (d : DatagramRecord) (line : List ControllerState)
    → turns links (length line) ≡ true → is_up links 0 ≡ true → d.circulating ≡ true
    → let p = first_copy (front links (length line)) line d in
    travelled (calm links) (d ∷ []) line
    ≡ record { came = record { a = Some p.frame; b = None }; line = p.line }
unfolding travelled
circling_trip links d line turning up circling =
    let m : ℕ = front links (length line) in
    let p : PassedLine = first_copy m line d in
    let size : length line ≡ length p.line = sym (length-front_pass m line (d ∷ [])) in
    ap (λ (v : Walked). let u = walked_from_b links (d ∷ []) v.line in
    record { came = record { a = came_of false v; b = came_of false u }; line = u.line })
    (a_comes links (d ∷ []) line up)
    ∙ ap (λ (u : Walked).
    record { came = record { a = Some p.frame; b = came_of false u }; line = u.line })
    (b_destroyed links d p.line (subst (λ (n : ℕ). turns links n ≡ true) size turning) circling)

pub trip_circling : (links : Links) (station k : ℕ) (line : List ControllerState) → AreControllers line
    → turns links (length line) ≡ true → is_up links 0 ≡ true → k + length line < 60000
    → front links (length line) ≤ length line
    → let m = front links (length line) in
    IsPlaced (turned true (station_write k station)) (front_placed m station k line)
    (taken k (take m line)) (travelled (calm links) (turned true (station_write k station) ∷ []) line)
trip_circling links station k line are turning up small inside =
    let m : ℕ = front links (length line) in
    let d : DatagramRecord = turned true (station_write k station) in
    let front_size : length (take m line) ≡ m = length-take-le m line inside in
    let first : IsWritten station k (take m line) =
    written station k (take m line) (each-take IsController m line are)
    (omega (arith, front_size, inside, small)) in
    let i : ℕ = taken k (take m line) in
    let e : DatagramRecord = turned true (write_at first.adp station i) in
    let few : i ≤ 1 = taken_few k (take m line) in
    let own_e : IsOwn (d ∷ []) (e ∷ []) = own_write true true first.adp station k i first.small in
    let own_d : IsOwn (d ∷ []) (d ∷ []) =
    own_write true true (adp_of_place k) station k 0 (omega arith) in
    subst (λ (t : Travelled). IsPlaced d (front_placed m station k line) i t)
    (sym (circling_trip links d line turning up refl
    ∙ ap (λ (p : PassedLine). record { came = record { a = Some p.frame; b = None }; line = p.line })
    (first_written m true station k line first)))
    (record {
      left = refl;
      tells = λ answer brings.
          let same : i + 0 ≡ i = omega arith in
          subst (TellsCount answer) same
          (own_answer d (record { a = Some (e ∷ []); b = None }) answer i 0 refl
          (record { told = e; is = refl; counter = refl }) (record { told = d; is = refl; counter = refl })
          (omega (arith, few)) own_e own_d brings);
    })
