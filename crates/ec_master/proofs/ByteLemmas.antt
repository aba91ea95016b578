-- The data of datagrams that are bytes stay bytes on any trip, and so do those of items that take answers.
use Rattle.std.proofs.Common.{ℕ, zero, suc, ◌<◌, Bool, true, false, cond, List, [], ◌∷◌, length}
use Rattle.std.proofs.Common.{take, drop, get_or, sym, subst, arith, bit_xor, bit_or}
use Rattle.std.specs.List.{AllByRecursion}
use Rattle.std.proofs.lemmas.Nat.{xor_lt, or_lt}
use Rattle.ec_regs.specs.Bits.{AreBytes}
use Rattle.ec_regs.proofs.Laws.{AreBytes-with_bits, each-append}
use Rattle.ec_wire.specs.Datagram.{DatagramRecord}
use Rattle.ec_merge.specs.Bytes.{joined_bytes}
use Rattle.ec_merge.specs.Frames.{joined_frame}
use Rattle.ec_merge.specs.Rule.{joined_bits}
use Rattle.ec_esc.specs.Pass.{pass, frame_pass}
use Rattle.ec_esc.specs.State.{ControllerState}
use Rattle.ec_line.specs.After.{Entry}
use Rattle.ec_line.specs.Answered.{sent_of}
use Rattle.ec_line.specs.Run.{trips_run}
use Rattle.ec_line.specs.Trip.{line_pass, front_pass, back_pass, circulated, Trip, Passed, sent_b}
use Rattle.ec_line.specs.Trip.{passed_by_a_first, passed_by_b_first, passed, joined_of}
use Rattle.ec_map.specs.Item.{ItemRecord, is_broadcast}
use Rattle.ec_ring.specs.Ring.{RingState, line_of}
use Rattle.ec_ring.specs.declared.weather.Weather.{Weather}
use Rattle.ec_master.specs.Cut.{concat, entries_from, frames_of}
use Rattle.ec_master.specs.Travelled.{trips_under, answers_under}
use Rattle.ec_master.specs.Unordered.{HasBytes}
use Rattle.ec_master.specs.Work.{with_answers}
use Rattle.ec_master.proofs.SlaveLemmas.{concat-cut, each-concat, each-trip}

-- ---- lists of bytes

-- the data of a datagram are bytes
abbrev Bytes : DatagramRecord → Type 0
Bytes d = AreBytes d.payload

bytes-none : AreBytes []
bytes-none k = omega arith

bytes-more : (x : ℕ) (xs : List ℕ) → x < 256 → AreBytes xs → AreBytes (x ∷ xs)
bytes-more x xs first rest k =
    let P : ℕ → Type 0 = λ j. get_or (x ∷ xs) j 0 < 256 in elim k as P [ zero ↦ first | suc j ↦ rest j ]

joined-byte : (s a b : ℕ) → s < 256 → a < 256 → b < 256 → joined_bits s a b < 256
joined-byte s a b small_s small_a small_b =
    xor_lt 8 s (bit_or (bit_xor a s) (bit_xor b s)) small_s
    (or_lt 8 (bit_xor a s) (bit_xor b s) (xor_lt 8 a s small_a small_s) (xor_lt 8 b s small_b small_s))

bytes-joined : (ss xs ys : List ℕ) → AreBytes ss → AreBytes xs → AreBytes ys → AreBytes (joined_bytes ss xs ys)
bytes-joined [] xs ys sent a b = bytes-none
bytes-joined (s ∷ ss) [] ys sent a b = bytes-none
bytes-joined (s ∷ ss) (x ∷ xs) [] sent a b = bytes-none
bytes-joined (s ∷ ss) (x ∷ xs) (y ∷ ys) sent a b =
    bytes-more (joined_bits s x y) (joined_bytes ss xs ys) (joined-byte s x y (sent 0) (a 0) (b 0))
    (bytes-joined ss xs ys (λ k. sent (suc k)) (λ k. a (suc k)) (λ k. b (suc k)))

-- ---- frames

either : {S : Type 0} (P : S → Type 0) (b : Bool) (x y : S) → P x → P y → P (cond b x y)
either P true x y one two = one
either P false x y one two = two

frame-joined : (ss xs ys : List DatagramRecord) → AllByRecursion Bytes ss → AllByRecursion Bytes xs
    → AllByRecursion Bytes ys → AllByRecursion Bytes (joined_frame ss xs ys)
frame-joined [] xs ys sent a b = tt
frame-joined (s ∷ ss) [] ys sent a b = tt
frame-joined (s ∷ ss) (x ∷ xs) [] sent a b = tt
frame-joined (s ∷ ss) (x ∷ xs) (y ∷ ys) sent a b = (
  bytes-joined s.payload x.payload y.payload sent.0 a.0 b.0,
  frame-joined ss xs ys sent.1 a.1 b.1,
)

-- what passed a controller is of bytes, whatever came
frame-passed : (c : ControllerState) (ds : List DatagramRecord) → AllByRecursion Bytes (frame_pass c ds).frame
unfolding frame_pass pass
frame-passed c [] = tt
frame-passed c (d ∷ ds) = (AreBytes-with_bits _ _ _, frame-passed (pass c d).state ds)

line-passed : (line : List ControllerState) (ds : List DatagramRecord) → AllByRecursion Bytes ds
    → AllByRecursion Bytes (line_pass line ds).frame
unfolding line_pass
line-passed [] ds all = all
line-passed (x ∷ xs) ds all = line-passed xs (frame_pass x ds).frame (frame-passed x ds)

frame-turned : (ds : List DatagramRecord) → AllByRecursion Bytes ds → AllByRecursion Bytes (circulated ds)
frame-turned [] all = tt
frame-turned (d ∷ ds) all = (all.0, frame-turned ds all.1)

-- ---- trips

-- both copies of a trip
record AreOfBytes (p : Passed) : Type 0 where
  a : AllByRecursion Bytes p.a
  b : AllByRecursion Bytes p.b

trip-passed : (t : Trip) (line : List ControllerState) → AllByRecursion Bytes (sent_of t.entries)
    → AreOfBytes (passed t line)
unfolding passed
trip-passed t line all =
    let sent : List DatagramRecord = sent_of t.entries in
    let other : AllByRecursion Bytes (sent_b t) =
    either (λ (ds : List DatagramRecord). AllByRecursion Bytes ds) t.turned (circulated sent) sent
    (frame-turned sent all) all in
    let by_a = front_pass t.front line sent in
    let by_b = back_pass t.back line (sent_b t) in
    either AreOfBytes t.b_first (passed_by_b_first t line) (passed_by_a_first t line)
    (record {
      a = line-passed (take t.front by_b.line) sent all;
      b = line-passed (drop t.back line) (sent_b t) other;
    })
    (record {
      a = line-passed (take t.front line) sent all;
      b = line-passed (drop t.back by_a.line) (sent_b t) other;
    })

trip-joined : (t : Trip) (p : Passed) → AllByRecursion Bytes (sent_of t.entries) → AreOfBytes p
    → AllByRecursion Bytes (joined_of t p)
trip-joined t p all came =
    let sent : List DatagramRecord = sent_of t.entries in
    let All : List DatagramRecord → Type 0 = λ ds. AllByRecursion Bytes ds in
    frame-joined sent (cond t.lost_a sent p.a) (cond t.lost_b sent p.b) all
    (either All t.lost_a sent p.a all came.a) (either All t.lost_b sent p.b all came.b)

run-joined : (ts : List Trip) (line : List ControllerState)
    → AllByRecursion (λ t. AllByRecursion Bytes (sent_of t.entries)) ts
    → AllByRecursion Bytes (concat (trips_run ts line).joined)
unfolding trips_run
run-joined [] line all = tt
run-joined (t ∷ ts) line all =
    each-append Bytes (joined_of t (passed t line)) (concat (trips_run ts (passed t line).line).joined)
    (trip-joined t (passed t line) all.0 (trip-passed t line all.0)) (run-joined ts (passed t line).line all.1)

-- ---- items

abbrev SentBytes : Entry → Type 0
SentBytes e = AreBytes e.sent.payload

entries-bytes : (k : ℕ) (rs : List ItemRecord) → AllByRecursion HasBytes rs
    → AllByRecursion SentBytes (entries_from k rs)
unfolding entries_from
entries-bytes k [] all = tt
entries-bytes k (r ∷ rs) all = (all.0, entries-bytes (suc k) rs all.1)

sent-bytes : (es : List Entry) → AllByRecursion SentBytes es → AllByRecursion Bytes (sent_of es)
sent-bytes [] all = tt
sent-bytes (e ∷ es) all = (all.0, sent-bytes es all.1)

frames-bytes : (fs : List (List Entry)) → AllByRecursion (λ f. AllByRecursion SentBytes f) fs
    → AllByRecursion (λ f. AllByRecursion Bytes (sent_of f)) fs
frames-bytes [] all = tt
frames-bytes (f ∷ fs) all = (sent-bytes f all.0, frames-bytes fs all.1)

taken-bytes : (rs : List ItemRecord) (ds : List DatagramRecord) → AllByRecursion HasBytes rs
    → AllByRecursion Bytes ds → AllByRecursion HasBytes (with_answers rs ds)
taken-bytes [] ds all came = tt
taken-bytes (r ∷ rs) [] all came = all
taken-bytes (r ∷ rs) (d ∷ ds) all came =
    (either HasBytes (is_broadcast r.kind) _ _ came.0 came.0, taken-bytes rs ds all.1 came.1)

-- items whose data are bytes take answers whose data are
pub answers_are_bytes : (ws : List Weather) (r : RingState) (items : List ItemRecord)
    → AllByRecursion HasBytes items → AllByRecursion HasBytes (with_answers items (answers_under ws r items))
answers_are_bytes ws r items all =
    let es : List Entry = entries_from 0 items in
    let fs : List (List Entry) = frames_of items in
    let entries : AllByRecursion SentBytes (concat fs) =
    subst (λ (l : List Entry). AllByRecursion SentBytes l) (sym (concat-cut es)) (entries-bytes 0 items all) in
    taken-bytes items (answers_under ws r items) all
    (run-joined (trips_under ws r items) (line_of r)
    (each-trip (λ f. AllByRecursion Bytes (sent_of f)) ws r.links (length r.slaves) fs
    (frames-bytes fs (each-concat SentBytes fs entries))))
