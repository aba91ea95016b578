-- The frames of a cycle over ports.
use Rattle.std.proofs.Common.{◌≡◌, ℕ, ◌+◌, ◌<◌, ◌≤◌, sym, ap, refl, ◌∙◌, subst, arith}
use Rattle.std.proofs.Common.{List, [], ◌∷◌, ◌++◌, length, map, drop, get_or, append_assoc, append-nil, Ok}
use Rattle.std.proofs.Common.{Err}
use Rattle.std.specs.Prelude.{Result}
use Rattle.std.proofs.lemmas.List.{get_or-drop}
use Rattle.std.proofs.Math.Seq.{drop-length}
use Rattle.ec_wire.specs.Datagram.{DatagramRecord}
use Rattle.ec_line.specs.Answered.{sent_of}
use Rattle.ec_map.specs.Item.{ItemRecord}
use Rattle.ec_ring.specs.declared.weather.Came.{Came}
use Rattle.ec_master.specs.Cut.{entries_from, cut, concat, frame_at}
use Rattle.ec_master.specs.Ports.{came_or, ComesTo, Trips, PortTrip, Outcome, with_first, Sends}
use Rattle.ec_master.specs.Work.{with_answers, nth_item, no_item}
use Rattle.ec_master.specs.declared.cycle.CycleFault.{CycleFault}
use Rattle.ec_master.specs.declared.cycle.CycleFault.TheVariants.{Port}
use Rattle.ec_ring.specs.declared.port.PortFault.{PortFault}
use Rattle.ec_master.proofs.TravelLemmas.{cut-frame_at, drop-with_answers, SameSizes, sizes_own, sizes_joined}
use Rattle.ec_master.proofs.TravelLemmas.{sizes-count, frame_inside, frame_some, length-sent_of}

-- the frames from an item on
abbrev pub frames_from : ℕ → List ItemRecord → List (List DatagramRecord)
frames_from k items = map sent_of (cut (entries_from k (drop k items)))

-- ---- what frames come to

-- joined frames before what the others come to
unfoldable pub after_joined : List (List DatagramRecord) → Outcome → Outcome
after_joined [] outcome = outcome
after_joined (f ∷ fs) outcome = with_first f (after_joined fs outcome)

pub after_joined-end : (fs : List (List DatagramRecord)) (f : List DatagramRecord) (outcome : Outcome)
    → after_joined (fs ++ f ∷ []) outcome ≡ after_joined fs (with_first f outcome)
unfolding after_joined
after_joined-end [] f outcome = refl
after_joined-end (g ∷ fs) f outcome = ap (with_first g) (after_joined-end fs f outcome)

pub after_joined-ok : (fs gs : List (List DatagramRecord)) → after_joined fs (Ok gs) ≡ Ok (fs ++ gs)
unfolding after_joined
after_joined-ok [] gs = refl
after_joined-ok (f ∷ fs) gs = ap (with_first f) (after_joined-ok fs gs)

pub after_joined-err : (fs : List (List DatagramRecord)) (fault : CycleFault)
    → after_joined fs (Err fault) ≡ Err fault
unfolding after_joined
after_joined-err [] fault = refl
after_joined-err (f ∷ fs) fault = ap (with_first f) (after_joined-err fs fault)

pub concat-end : (fs : List (List DatagramRecord)) (f : List DatagramRecord)
    → concat (fs ++ f ∷ []) ≡ concat fs ++ f
concat-end [] f = append-nil f
concat-end (g ∷ fs) f = ap (λ (xs : List DatagramRecord). g ++ xs) (concat-end fs f)
    ∙ sym (append_assoc g (concat fs) f)

-- a joined frame goes before the others, and a fault ends them
pub sends_joined : {P : Type 0} (trips : Trips P) (before between later : P)
    (sent joined : List DatagramRecord)
    (rest : List (List DatagramRecord)) (outcome : Outcome) → PortTrip trips before sent (Ok joined) between
    → Sends trips between rest outcome later
    → Sends trips before (sent ∷ rest) (with_first joined outcome) later
unfolding Sends
sends_joined trips before between later sent joined rest outcome trip others =
    (Ok joined, between, trip, (outcome, others, refl))

pub sends_fault : {P : Type 0} (trips : Trips P) (before between : P) (sent : List DatagramRecord)
    (rest : List (List DatagramRecord)) (fault : CycleFault) → PortTrip trips before sent (Err fault) between
    → Sends trips before (sent ∷ rest) (Err fault) between
unfolding Sends
sends_fault trips before between sent rest fault trip = (Err fault, between, trip, (refl, refl))

-- ---- sizes

-- what a frame comes to has its sizes
comes_sizes : (sent joined : List DatagramRecord) (came : Result Came PortFault)
    → ComesTo sent came (Ok joined) → SameSizes sent joined
comes_sizes sent joined (Err fault) comes = absurd (let no : Ok joined ≡ Err Port = comes in cc)
comes_sizes sent joined (Ok came) comes =
    subst (SameSizes sent) (sym comes.2)
    (sizes_joined sent (came_or came.a sent) (came_or came.b sent)
    (sizes_own sent (came_or came.a sent) comes.0) (sizes_own sent (came_or came.b sent) comes.1))

pub trip_sizes : {P : Type 0} (trips : Trips P) (before later : P) (sent joined : List DatagramRecord)
    → PortTrip trips before sent (Ok joined) later → SameSizes sent joined
trip_sizes trips before later sent joined trip = comes_sizes sent joined trip.came trip.comes

-- items behind those that took answers are as they were
pub past_answers : (k j : ℕ) (items : List ItemRecord) (answers : List DatagramRecord) → length answers ≡ k
    → nth_item (with_answers items answers) (k + j) ≡ nth_item items (k + j)
past_answers k j items answers count =
    sym (get_or-drop k (with_answers items answers) j no_item)
    ∙ ap (λ (rs : List ItemRecord). get_or rs j no_item)
    (subst (λ (n : ℕ). drop n (with_answers items answers) ≡ drop n items) count
    (drop-with_answers items answers))
    ∙ get_or-drop k items j no_item

-- ---- the run so far

-- what the frames from number k on come to, from the ports as they are now, is behind the joined ones what
-- all come to
abbrev pub GoesOn : {P : Type 0} → Trips P → P → P → List ItemRecord → List (List DatagramRecord) → ℕ → Type 0
GoesOn {P} trips start now items joined k =
    (outcome : Outcome) (later : P) → Sends trips now (frames_from k items) outcome later
    → Sends trips start (frames_from 0 items) (after_joined joined outcome) later

-- the frame that goes out next
abbrev pub IsNext : ℕ → List ItemRecord → List DatagramRecord → Type 0
IsNext k items sent = sent ≡ sent_of (frame_at k items)

next_frames : (k : ℕ) (items : List ItemRecord) (sent : List DatagramRecord) (n : ℕ) → k < length items
    → IsNext k items sent
    → length sent ≡ n → frames_from k items ≡ sent ∷ frames_from (k + n) items
next_frames k items sent n inside next size =
    let count : length (frame_at k items) ≡ n = sym (length-sent_of (frame_at k items)) ∙ ap length (sym next)
    ∙ size in
    ap (map sent_of) (cut-frame_at k items inside)
    ∙ ap (λ (f : List DatagramRecord). f ∷ frames_from (k + length (frame_at k items)) items) (sym next)
    ∙ ap (λ (m : ℕ). sent ∷ frames_from (k + m) items) count

pub next_within : (k : ℕ) (items : List ItemRecord) (sent : List DatagramRecord) → k < length items
    → IsNext k items sent
    → (1 ≤ length sent) × (k + length sent ≤ length items)
next_within k items sent inside next =
    let count : length sent ≡ length (frame_at k items) =
    ap length next ∙ length-sent_of (frame_at k items) in
    (omega (arith, count, frame_some k items inside), omega (arith, count, frame_inside k items inside))

pub goes_on_joined : {P : Type 0} (trips : Trips P) (start now between : P) (items : List ItemRecord)
    (joined : List (List DatagramRecord))
    (k n : ℕ) (sent frame : List DatagramRecord) → k < length items → IsNext k items sent
    → PortTrip trips now sent (Ok frame) between
    → length frame ≡ n → GoesOn trips start now items joined k
    → GoesOn trips start between items (joined ++ frame ∷ []) (k + n)
goes_on_joined {P} trips start now between items joined k n sent frame inside next trip size goes_on outcome
    later rest =
    let same : length sent ≡ n = sym (sizes-count sent frame (trip_sizes trips now between sent frame trip))
    ∙ size in
    let here : Sends trips now (frames_from k items) (with_first frame outcome) later =
    subst (λ (fs : List (List DatagramRecord)). Sends trips now fs (with_first frame outcome) later)
    (sym (next_frames k items sent n inside next same))
    (sends_joined trips now between later sent frame (frames_from (k + n) items) outcome trip rest) in
    subst (λ (o : Outcome). Sends trips start (frames_from 0 items) o later)
    (sym (after_joined-end joined frame outcome))
    (goes_on (with_first frame outcome) later here)

pub ends_fault : {P : Type 0} (trips : Trips P) (start now between : P) (items : List ItemRecord)
    (joined : List (List DatagramRecord))
    (k : ℕ) (sent : List DatagramRecord) (fault : CycleFault) → k < length items → IsNext k items sent
    → PortTrip trips now sent (Err fault) between → GoesOn trips start now items joined k
    → Sends trips start (frames_from 0 items) (Err fault) between
ends_fault {P} trips start now between items joined k sent fault inside next trip goes_on =
    let here : Sends trips now (frames_from k items) (Err fault) between =
    subst (λ (fs : List (List DatagramRecord)). Sends trips now fs (Err fault) between)
    (sym (next_frames k items sent (length sent) inside next refl))
    (sends_fault trips now between sent (frames_from (k + length sent) items) fault trip) in
    subst (λ (o : Outcome). Sends trips start (frames_from 0 items) o between) (after_joined-err joined fault)
    (goes_on (Err fault) between here)

-- nothing is left behind the last item
sends_none : {P : Type 0} (trips : Trips P) (now : P) (items : List ItemRecord) (k : ℕ) → k ≡ length items
    → Sends trips now (frames_from k items) (Ok []) now
unfolding Sends cut entries_from
sends_none trips now items k at_end =
    let none : frames_from k items ≡ [] =
    ap (λ (n : ℕ). map sent_of (cut (entries_from k (drop n items)))) at_end
    ∙ ap (λ (rs : List ItemRecord). map sent_of (cut (entries_from k rs))) (drop-length items) in
    subst (λ (fs : List (List DatagramRecord)). Sends trips now fs (Ok []) now) (sym none) (refl, refl)

pub ends_joined : {P : Type 0} (trips : Trips P) (start now : P) (items : List ItemRecord)
    (joined : List (List DatagramRecord)) (k : ℕ)
    → k ≡ length items → GoesOn trips start now items joined k
    → Sends trips start (frames_from 0 items) (Ok joined) now
ends_joined trips start now items joined k at_end goes_on =
    subst (λ (o : Outcome). Sends trips start (frames_from 0 items) o now)
    (after_joined-ok joined [] ∙ ap Ok (append-nil joined))
    (goes_on (Ok []) now (sends_none trips now items k at_end))
