-- A copy that went over a line is no stranger: each of its datagrams is still one of its request, with the
-- index of the sent one; and each counter has moved by at most three for each controller.
use Rattle.std.proofs.Common.{◌≡◌, ℕ, zero, suc, ◌+◌, ◌*◌, ◌<◌, ◌≤◌, Bool, true, false, cond, subst, List, []}
use Rattle.std.proofs.Common.{◌∷◌, length, take}
use Rattle.std.proofs.Common.{drop, sym, ◌∙◌, ap, refl, arith}
use Rattle.std.specs.List.{AllByRecursion, sum_by}
use Rattle.std.proofs.lemmas.List.{length-append, length-take, length-drop}
use Rattle.std.proofs.lemmas.Bool.Decides.{nat_tests}
use Rattle.ec_wire.specs.Datagram.{DatagramRecord, nth, code_of}
use Rattle.ec_wire.specs.declared.command.Command.{Command}
use Rattle.ec_merge.specs.Frames.{fixed_address, belongs, IsOwn}
use Rattle.ec_esc.specs.State.{ControllerState}
use Rattle.ec_esc.specs.Pass.{pass, frame_pass}
use Rattle.ec_line.specs.After.{Entry}
use Rattle.ec_line.specs.Answered.{sent_of}
use Rattle.ec_line.specs.Claims.{gain}
use Rattle.ec_line.specs.Moved.{IsMoved, AllMoved}
use Rattle.ec_line.specs.Request.{Request, SameAddress, OnWay}
use Rattle.ec_wire.specs.Kind.{command_of}
use Rattle.ec_line.specs.Trip.{line_pass, front_pass, back_pass, circulated, Trip, sent_b, passed_by_a_first}
use Rattle.ec_line.specs.Trip.{passed_by_b_first, passed}
use Rattle.ec_wire.specs.declared.kind.Kind.{Kind}
use Rattle.ec_wire.specs.declared.kind.Kind.TheVariants.{Lrd, Lwr, Lrw, Brd, Fprd, Fpwr}
use Rattle.ec_line.proofs.JoinLemmas.{IsEntry}
use Rattle.ec_line.proofs.CertificateLemmas.{sum_bound}
use Rattle.ec_line.proofs.StepLemmas.{step}

-- ---- one datagram

-- a datagram of an entry, on its way, whose counter has moved by at most n
pub record ComesOf (n : ℕ) (e : Entry) (d : DatagramRecord) : Type 0 where
  pub way : OnWay e.request d
  pub index : d.index ≡ e.sent.index
  pub moved : IsMoved n e.sent d

same_fixed : (k : Kind) (a b wanted : ℕ) → SameAddress k a wanted → SameAddress k b wanted
    → fixed_address (command_of k) a ≡ fixed_address (command_of k) b
same_fixed Lrd a b wanted one two = one ∙ sym two
same_fixed Lwr a b wanted one two = one ∙ sym two
same_fixed Lrw a b wanted one two = one ∙ sym two
same_fixed Brd a b wanted one two = one ∙ sym two
same_fixed Fprd a b wanted one two = one ∙ sym two
same_fixed Fpwr a b wanted one two = one ∙ sym two

-- it may have come of the sent one
came_of : (n : ℕ) (e : Entry) (d : DatagramRecord) → IsEntry e → ComesOf n e d → belongs e.sent d ≡ true
unfolding IsEntry
came_of n e d entry comes =
    let k = e.request.kind in
    let code : code_of d.command ≡ code_of e.sent.command =
    ap code_of (comes.way.command ∙ sym entry.command) in
    let index : d.index ≡ e.sent.index = comes.index in
    let size : length d.payload ≡ length e.sent.payload = comes.way.size ∙ sym entry.size in
    let address : fixed_address e.sent.command d.address ≡ fixed_address e.sent.command e.sent.address =
    ap (λ (x : Command). fixed_address x d.address) entry.command
    ∙ same_fixed k d.address e.sent.address e.request.address comes.way.address entry.address
    ∙ sym (ap (λ (x : Command). fixed_address x e.sent.address) entry.command) in
    grind (arith, nat_tests)

-- ---- a frame

-- each datagram of a frame is one of its entry
pub FrameComesOf : ℕ → List Entry → List DatagramRecord → Type 0
FrameComesOf n [] [] = Unit {0}
FrameComesOf n (e ∷ es) (d ∷ ds) = ComesOf n e d × FrameComesOf n es ds
FrameComesOf n _ _ = ⊥

-- so it is no stranger
came_own : (n : ℕ) (es : List Entry) (ds : List DatagramRecord) → AllByRecursion IsEntry es
    → FrameComesOf n es ds → IsOwn (sent_of es) ds
unfolding FrameComesOf
came_own n [] [] entries comes = record { count = refl; each = λ k inside. absurd (omega arith) }
came_own n [] (d ∷ ds) entries comes = absurd comes
came_own n (e ∷ es) [] entries comes = absurd comes
came_own n (e ∷ es) (d ∷ ds) entries comes =
    let rest : IsOwn (sent_of es) ds = came_own n es ds entries.1 comes.1 in
    let P : ℕ → Type 0 = λ k. k < length (sent_of (e ∷ es))
    → belongs (nth (sent_of (e ∷ es)) k) (nth (d ∷ ds) k) ≡ true in
    record {
      count = ap suc rest.count;
      each = λ k. elim k as P
          [ zero ↦ λ inside. came_of n e d entries.0 comes.0 | suc j ↦ λ inside. rest.each j (omega arith) ];
    }

-- and its counters have moved
came_moved : (n m : ℕ) (es : List Entry) (ds : List DatagramRecord) → n ≤ m → FrameComesOf n es ds
    → AllMoved m (sent_of es) ds
unfolding FrameComesOf
came_moved n m [] [] room comes = tt
came_moved n m [] (d ∷ ds) room comes = absurd comes
came_moved n m (e ∷ es) [] room comes = absurd comes
came_moved n m (e ∷ es) (d ∷ ds) room comes =
    let moved = comes.0.moved in (
      record { gain = moved.gain; few = omega (arith, moved.few, room); counter = moved.counter },
      came_moved n m es ds room comes.1,
    )

-- one that passed a controller
frame_comes : (n : ℕ) (es : List Entry) (c : ControllerState) (ds : List DatagramRecord)
    → FrameComesOf n es ds → FrameComesOf (n + 3) es (frame_pass c ds).frame
unfolding FrameComesOf frame_pass
frame_comes n [] c [] comes = tt
frame_comes n [] c (d ∷ ds) comes = absurd comes
frame_comes n (e ∷ es) c [] comes = absurd comes
frame_comes n (e ∷ es) c (d ∷ ds) comes =
    let made = step e.request c d comes.0.way in
    let moved = comes.0.moved in
    let more : ℕ = sum_by (gain e.request) (c ∷ []) in
    let bound : more ≤ 3 * 1 = sum_bound e.request (c ∷ []) in (
      record {
        way = made.way;
        index = made.index ∙ comes.0.index;
        moved = record {
          gain = moved.gain + more;
          few = omega (arith, moved.few, bound);
          counter = omega (arith, made.counter, moved.counter);
        };
      },
      frame_comes n es (pass c d).state ds comes.1,
    )

-- and one that passed some
line_comes : (n : ℕ) (es : List Entry) (line : List ControllerState) (ds : List DatagramRecord)
    → FrameComesOf n es ds → FrameComesOf (n + 3 * length line) es (line_pass line ds).frame
unfolding line_pass
line_comes n es [] ds comes = subst (λ (m : ℕ). FrameComesOf m es ds) (omega arith) comes
line_comes n es (x ∷ xs) ds comes =
    subst (λ (m : ℕ). FrameComesOf m es (line_pass xs (frame_pass x ds).frame).frame) (omega arith)
    (line_comes (n + 3) es xs (frame_pass x ds).frame (frame_comes n es x ds comes))

-- ---- the two copies

sent_moved : (r : Request) (s : DatagramRecord) → OnWay r s → IsMoved 0 s s
sent_moved r s way = record { gain = 0; few = omega arith; counter = omega (arith, way.counter) }

sent_comes : (es : List Entry) → AllByRecursion IsEntry es → FrameComesOf 0 es (sent_of es)
unfolding FrameComesOf IsEntry
sent_comes [] entries = tt
sent_comes (e ∷ es) entries = (
  record { way = entries.0; index = refl; moved = sent_moved e.request e.sent entries.0 },
  sent_comes es entries.1,
)

turned_comes : (es : List Entry) → AllByRecursion IsEntry es → FrameComesOf 0 es (circulated (sent_of es))
unfolding FrameComesOf IsEntry
turned_comes [] entries = tt
turned_comes (e ∷ es) entries =
    let way = entries.0 in
    let still = sent_moved e.request e.sent way in (
      record {
        way = record {
          command = way.command;
          size = way.size;
          address = way.address;
          counter = way.counter;
        };
        index = refl;
        moved = record { gain = still.gain; few = still.few; counter = still.counter };
      },
      turned_comes es entries.1,
    )

starts_comes : (t : Trip) → AllByRecursion IsEntry t.entries → FrameComesOf 0 t.entries (sent_b t)
starts_comes t entries =
    elim t.turned as
    (λ b. FrameComesOf 0 t.entries (cond b (circulated (sent_of t.entries)) (sent_of t.entries))) [
      | true ↦ turned_comes t.entries entries
      | false ↦ sent_comes t.entries entries
    ]

-- a line that a copy passed is as long
length-line_pass : (line : List ControllerState) (ds : List DatagramRecord)
    → length (line_pass line ds).line ≡ length line
unfolding line_pass
length-line_pass [] ds = refl
length-line_pass (x ∷ xs) ds = ap suc (length-line_pass xs (frame_pass x ds).frame)

length-front : (n : ℕ) (line : List ControllerState) (ds : List DatagramRecord)
    → length (front_pass n line ds).line ≡ length line
length-front n line ds =
    omega (
      arith,
      length-append (line_pass (take n line) ds).line (drop n line),
      length-line_pass (take n line) ds,
      length-take n line,
      length-drop n line,
    )

length-back : (n : ℕ) (line : List ControllerState) (ds : List DatagramRecord)
    → length (back_pass n line ds).line ≡ length line
length-back n line ds =
    omega (
      arith,
      length-append (take n line) (line_pass (drop n line) ds).line,
      length-line_pass (drop n line) ds,
      length-take n line,
      length-drop n line,
    )

-- how many controllers copy A has passed, and copy B
passed_a : Trip → List ControllerState → ℕ
passed_a t line =
    length (take t.front (cond t.b_first (back_pass t.back line (sent_b t)).line line))

passed_b : Trip → List ControllerState → ℕ
passed_b t line =
    length (drop t.back (cond t.b_first line (front_pass t.front line (sent_of t.entries)).line))

few_a : (t : Trip) (line : List ControllerState) → passed_a t line ≤ length line
unfolding passed_a
few_a t line =
    elim t.b_first as (λ b. length (take t.front (cond b (back_pass t.back line (sent_b t)).line line)) ≤ length line) [
      | true ↦ omega (
        arith,
        length-take t.front (back_pass t.back line (sent_b t)).line,
        length-back t.back line (sent_b t),
      )
      | false ↦ omega (arith, length-take t.front line)
    ]

few_b : (t : Trip) (line : List ControllerState) → passed_b t line ≤ length line
unfolding passed_b
few_b t line =
    let s : List DatagramRecord = sent_of t.entries in
    elim t.b_first as (λ b. length (drop t.back (cond b line (front_pass t.front line s).line)) ≤ length line) [
      | true ↦ omega (arith, length-drop t.back line)
      | false ↦ omega (
        arith,
        length-drop t.back (front_pass t.front line s).line,
        length-front t.front line s,
      )
    ]

comes_a : (t : Trip) (line : List ControllerState) → AllByRecursion IsEntry t.entries
    → FrameComesOf (3 * passed_a t line) t.entries (passed t line).a
unfolding passed passed_a
comes_a t line entries =
    let es = t.entries in
    let behind : List ControllerState = (back_pass t.back line (sent_b t)).line in
    let P : Bool → Type 0 =
    λ x. FrameComesOf (3 * length (take t.front (cond x behind line))) es
    (cond x (passed_by_b_first t line) (passed_by_a_first t line)).a in
    elim t.b_first as P [
      | true ↦ subst (λ (m : ℕ). FrameComesOf m es (line_pass (take t.front behind) (sent_of es)).frame)
          (omega arith) (line_comes 0 es (take t.front behind) (sent_of es) (sent_comes es entries))
      | false ↦ subst (λ (m : ℕ). FrameComesOf m es (line_pass (take t.front line) (sent_of es)).frame)
          (omega arith) (line_comes 0 es (take t.front line) (sent_of es) (sent_comes es entries))
    ]

comes_b : (t : Trip) (line : List ControllerState) → AllByRecursion IsEntry t.entries
    → FrameComesOf (3 * passed_b t line) t.entries (passed t line).b
unfolding passed passed_b
comes_b t line entries =
    let es = t.entries in
    let behind : List ControllerState = (front_pass t.front line (sent_of es)).line in
    let P : Bool → Type 0 =
    λ x. FrameComesOf (3 * length (drop t.back (cond x line behind))) es
    (cond x (passed_by_b_first t line) (passed_by_a_first t line)).b in
    elim t.b_first as P [
      | true ↦ subst (λ (m : ℕ). FrameComesOf m es (line_pass (drop t.back line) (sent_b t)).frame)
          (omega arith) (line_comes 0 es (drop t.back line) (sent_b t) (starts_comes t entries))
      | false ↦ subst (λ (m : ℕ). FrameComesOf m es (line_pass (drop t.back behind) (sent_b t)).frame)
          (omega arith) (line_comes 0 es (drop t.back behind) (sent_b t) (starts_comes t entries))
    ]

pub own_a : (t : Trip) (line : List ControllerState) → AllByRecursion (λ e. OnWay e.request e.sent) t.entries
    → IsOwn (sent_of t.entries) (passed t line).a
unfolding IsEntry
own_a t line entries =
    came_own (3 * passed_a t line) t.entries (passed t line).a entries (comes_a t line entries)

pub own_b : (t : Trip) (line : List ControllerState) → AllByRecursion (λ e. OnWay e.request e.sent) t.entries
    → IsOwn (sent_of t.entries) (passed t line).b
unfolding IsEntry
own_b t line entries =
    came_own (3 * passed_b t line) t.entries (passed t line).b entries (comes_b t line entries)

pub moved_a : (t : Trip) (line : List ControllerState)
    → AllByRecursion (λ e. OnWay e.request e.sent) t.entries
    → AllMoved (3 * length line) (sent_of t.entries) (passed t line).a
unfolding IsEntry
moved_a t line entries =
    came_moved (3 * passed_a t line) (3 * length line) t.entries (passed t line).a
    (omega (arith, few_a t line)) (comes_a t line entries)

pub moved_b : (t : Trip) (line : List ControllerState)
    → AllByRecursion (λ e. OnWay e.request e.sent) t.entries
    → AllMoved (3 * length line) (sent_of t.entries) (passed t line).b
unfolding IsEntry
moved_b t line entries =
    came_moved (3 * passed_b t line) (3 * length line) t.entries (passed t line).b
    (omega (arith, few_b t line)) (comes_b t line entries)
