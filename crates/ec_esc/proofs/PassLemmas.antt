-- A datagram has passed once it was served and its ADP was counted up; and a frame in which some have passed,
-- and one datagram more.
use Rattle.std.proofs.Common.{◌≡◌, ◌⊎◌, inl, inr, ℕ, suc, ◌+◌, ◌*◌, ◌%◌, ◌<◌, ◌≤◌, Bool, true, false, cond}
use Rattle.std.proofs.Common.{List, [], ◌∷◌, ◌++◌, length, get_or, set, take, drop, sym, ◌∙◌, ap, subst}
use Rattle.std.proofs.Common.{refl, arith, add-one, drop-cons, append_assoc}
use Rattle.std.proofs.lemmas.Bool.{false≢true}
use Rattle.std.proofs.lemmas.List.{take_more, length-take-le}
use Rattle.std.proofs.lemmas.List.{append-nil, length-append, length-drop, drop_all, take_all}
use Rattle.std.proofs.Math.Seq.{set-append_seam, get_or-append_seam}
use Rattle.ec_wire.specs.Command.{addressing, reads, writes, counts_adp}
use Rattle.ec_wire.specs.Datagram.{DatagramRecord, adp, ado, ado_of, nth, blank}
use Rattle.ec_wire.specs.declared.command.Addressing.{Addressing}
use Rattle.ec_wire.specs.declared.command.Addressing.TheVariants.{Nobody, AutoIncrement}
use Rattle.ec_wire.specs.declared.command.Addressing.TheVariants.{ConfiguredStation, All, Logical}
use Rattle.ec_wire.specs.declared.command.Command.{Command}
use Rattle.ec_wire.specs.declared.command.Command.TheVariants.{Nop, Aprd, Apwr, Aprw, Fprd, Fpwr, Fprw, Bwr}
use Rattle.ec_wire.specs.declared.command.Command.TheVariants.{Brw, Armw, Frmw}
use Rattle.ec_esc.specs.State.{ControllerState}
use Rattle.ec_esc.specs.Pass.{Half, Effect, nothing, only_reads, where_served, read_half, write_half, effect}
use Rattle.ec_esc.specs.Pass.{is_addressed, range_sources, range_read, range_write, only_writes, served, state_after, Arrives}
use Rattle.ec_esc.specs.Pass.{IsServed}
use Rattle.ec_esc.specs.Pass.{Passed, PassedFrame, pass, frame_pass}
use Rattle.ec_esc.proofs.ServedLemmas.{nth-set, set-put, IsServed-nothing}

-- ---- one datagram

-- what the rule makes of a datagram whose command is known
abbrev passed_as : Command → ControllerState → DatagramRecord → Passed
passed_as x c d =
    let e = effect x c d.address (length d.payload) in
    record {
      datagram = record (served e c d) {
        address = cond (counts_adp x) ((adp d + 1) % 65536 + 65536 * ado d) d.address;
      };
      state = state_after e c d.payload;
    }

pass_is : (x : Command) (c : ControllerState) (d : DatagramRecord) → d.command ≡ x → passed_as x c d
    ≡ pass c d
unfolding pass
pass_is x c d is = ap (λ (y : Command). passed_as y c d) (sym is)

-- a half of a command that addresses others
unread : (r : Bool) (a : Addressing) (c : ControllerState) (address count : ℕ)
    → is_addressed a c address ≡ false → where_served r (read_half a c address count) ≡ nothing
unread false a c address count others = refl
unread true Nobody c address count others = refl
unread true AutoIncrement c address count others = rw others refl
unread true ConfiguredStation c address count others = rw others refl
unread true All c address count others = absurd (false≢true (sym others))
unread true Logical c address count others = absurd (false≢true (sym others))

untaken : (w : Bool) (a : Addressing) (n : ℕ) (c : ControllerState) (address count : ℕ)
    → is_addressed a c address ≡ false → where_served w (write_half a n c address count) ≡ nothing
untaken false a n c address count others = refl
untaken true Nobody n c address count others = refl
untaken true AutoIncrement n c address count others = rw others refl
untaken true ConfiguredStation n c address count others = rw others refl
untaken true All n c address count others = absurd (false≢true (sym others))
untaken true Logical n c address count others = absurd (false≢true (sym others))

-- so nothing is served
pub IsServed-others : (x : Command) (rs : List DatagramRecord) (k : ℕ) (c : ControllerState)
    → Arrives c (nth rs k) → is_addressed (addressing x) c (nth rs k).address ≡ false
    → IsServed (effect x c (nth rs k).address (length (nth rs k).payload)) k rs c rs c
IsServed-others x rs k c fits others =
    let d : DatagramRecord = nth rs k in
    let reading = unread (reads x) (addressing x) c d.address (length d.payload) others in
    let writing = untaken (writes x) (addressing x) (cond (reads x) 2 1) c d.address (length d.payload) others in
    let both : only_reads nothing ≡ effect x c d.address (length d.payload) =
    sym (ap (λ (h : Half). record {
      reading = h;
      writing = (effect x c d.address (length d.payload)).writing;
    }) reading ∙ ap (λ (h : Half). record { reading = nothing; writing = h }) writing) in
    subst (λ (e : Effect). IsServed e k rs c rs c) both (IsServed-nothing rs k c fits)

-- a datagram that was served and whose ADP was then counted up has passed
pub passed_counted : (x : Command) (rs done counted : List DatagramRecord) (k : ℕ) (c after : ControllerState)
    → k < length rs → (nth rs k).command ≡ x → counts_adp x ≡ true
    → IsServed (effect x c (nth rs k).address (length (nth rs k).payload)) k rs c done after
    → counted ≡ set done k (record (nth done k) {
      address = (adp (nth done k) + 1) % 65536 + 65536 * ado (nth done k);
    })
    → counted ≡ set rs k (pass c (nth rs k)).datagram
passed_counted x rs done counted k c after inside is counts told counted_is =
    let d : DatagramRecord = nth rs k in
    let e : Effect = effect x c d.address (length d.payload) in
    let up : DatagramRecord → DatagramRecord = λ r. record r {
      address = (adp r + 1) % 65536 + 65536 * ado r;
    } in
    set-put rs done counted k (served e c d) (up (nth done k)) told.frame counted_is
    ∙ ap (λ (r : DatagramRecord). set rs k (up r)) (nth-set rs done k (served e c d) inside told.frame)
    ∙ ap (λ (b : Bool). set rs k (record (served e c d) {
      address = cond b ((adp d + 1) % 65536 + 65536 * ado d) d.address;
    })) (sym counts)
    ∙ ap (λ (p : Passed). set rs k p.datagram) (pass_is x c d is)

-- and one whose ADP stays has passed once it was served
pub passed_uncounted : (x : Command) (rs done : List DatagramRecord) (k : ℕ) (c after : ControllerState)
    → (nth rs k).command ≡ x → counts_adp x ≡ false
    → IsServed (effect x c (nth rs k).address (length (nth rs k).payload)) k rs c done after
    → done ≡ set rs k (pass c (nth rs k)).datagram
passed_uncounted x rs done k c after is stays told =
    let d : DatagramRecord = nth rs k in
    let e : Effect = effect x c d.address (length d.payload) in
    told.frame
    ∙ ap (λ (b : Bool). set rs k (record (served e c d) {
      address = cond b ((adp d + 1) % 65536 + 65536 * ado d) d.address;
    })) (sym stays)
    ∙ ap (λ (p : Passed). set rs k p.datagram) (pass_is x c d is)

-- the controller then
pub passed_state : (x : Command) (rs done : List DatagramRecord) (k : ℕ) (c after : ControllerState)
    → (nth rs k).command ≡ x
    → IsServed (effect x c (nth rs k).address (length (nth rs k).payload)) k rs c done after
    → after ≡ (pass c (nth rs k)).state
passed_state x rs done k c after is told =
    told.state ∙ ap (λ (p : Passed). p.state) (pass_is x c (nth rs k) is)

-- ---- what a command does that addresses the controller

-- it addresses the controller under its own name
addressed_as : (x y : Command) (c : ControllerState) (address : ℕ) → x ≡ y
    → is_addressed (addressing x) c address ≡ true → is_addressed (addressing y) c address ≡ true
addressed_as x y c address is addressed =
    ap (λ (z : Command). is_addressed (addressing z) c address) (sym is) ∙ addressed

-- a read of a range
pub effect_read : (x : Command) (c : ControllerState) (address n : ℕ) → (x ≡ Aprd) ⊎ (x ≡ Fprd)
    → is_addressed (addressing x) c address ≡ true
    → effect x c address n
    ≡ only_reads (range_read true (range_sources (ado_of address)) c (ado_of address) n)
effect_read x c address n (inl is) addressed =
    ap (λ (y : Command). effect y c address n) is
    ∙ ap (λ b. only_reads (range_read b (range_sources (ado_of address)) c (ado_of address) n))
    (addressed_as x Aprd c address is addressed)
effect_read x c address n (inr is) addressed =
    ap (λ (y : Command). effect y c address n) is
    ∙ ap (λ b. only_reads (range_read b (range_sources (ado_of address)) c (ado_of address) n))
    (addressed_as x Fprd c address is addressed)

-- a write of one
pub effect_write : (x : Command) (c : ControllerState) (address n : ℕ)
    → (x ≡ Apwr) ⊎ ((x ≡ Fpwr) ⊎ (x ≡ Bwr))
    → is_addressed (addressing x) c address ≡ true
    → effect x c address n ≡ only_writes (range_write true 1 c (ado_of address) n)
effect_write x c address n (inl is) addressed =
    ap (λ (y : Command). effect y c address n) is
    ∙ ap (λ b. only_writes (range_write b 1 c (ado_of address) n)) (addressed_as x Apwr c address is addressed)
effect_write x c address n (inr (inl is)) addressed =
    ap (λ (y : Command). effect y c address n) is
    ∙ ap (λ b. only_writes (range_write b 1 c (ado_of address) n)) (addressed_as x Fpwr c address is addressed)
effect_write x c address n (inr (inr is)) addressed = ap (λ (y : Command). effect y c address n) is

-- both
pub effect_exchange : (x : Command) (c : ControllerState) (address n : ℕ) → (x ≡ Aprw) ⊎ (x ≡ Fprw)
    → is_addressed (addressing x) c address ≡ true
    → effect x c address n ≡ record {
      reading = range_read true (range_sources (ado_of address)) c (ado_of address) n;
      writing = range_write true 2 c (ado_of address) n;
    }
effect_exchange x c address n (inl is) addressed =
    ap (λ (y : Command). effect y c address n) is
    ∙ ap (λ b. record {
      reading = range_read b (range_sources (ado_of address)) c (ado_of address) n;
      writing = range_write b 2 c (ado_of address) n;
    }) (addressed_as x Aprw c address is addressed)
effect_exchange x c address n (inr is) addressed =
    ap (λ (y : Command). effect y c address n) is
    ∙ ap (λ b. record {
      reading = range_read b (range_sources (ado_of address)) c (ado_of address) n;
      writing = range_write b 2 c (ado_of address) n;
    }) (addressed_as x Fprw c address is addressed)

-- a command whose effect is another's is served as that
pub IsServed-as : (e f : Effect) (k : ℕ) (rs : List DatagramRecord) (c : ControllerState)
    (after : List DatagramRecord) (left : ControllerState) → e ≡ f → IsServed f k rs c after left
    → IsServed e k rs c after left
IsServed-as e f k rs c after left same told =
    subst (λ (g : Effect). IsServed g k rs c after left) (sym same) told

-- no command that addresses nobody addresses the controller
pub addresses_somebody : (x : Command) (c : ControllerState) (address : ℕ)
    → (x ≡ Nop) ⊎ ((x ≡ Brw) ⊎ ((x ≡ Armw) ⊎ (x ≡ Frmw)))
    → is_addressed (addressing x) c address ≡ true → false ≡ true
addresses_somebody x c address (inl is) addressed = addressed_as x Nop c address is addressed
addresses_somebody x c address (inr (inl is)) addressed = addressed_as x Brw c address is addressed
addresses_somebody x c address (inr (inr (inl is))) addressed = addressed_as x Armw c address is addressed
addresses_somebody x c address (inr (inr (inr is))) addressed = addressed_as x Frmw c address is addressed

-- ---- frames

-- as many datagrams leave as came
frame_pass-length : (c : ControllerState) (ds : List DatagramRecord)
    → length (frame_pass c ds).frame ≡ length ds
unfolding frame_pass
frame_pass-length c [] = refl
frame_pass-length c (d ∷ ds) = ap suc (frame_pass-length (pass c d).state ds)

-- some datagrams and then others pass one after the other
frame_pass-append : (c : ControllerState) (xs ys : List DatagramRecord)
    → frame_pass c (xs ++ ys) ≡ record {
      frame = (frame_pass c xs).frame ++ (frame_pass (frame_pass c xs).state ys).frame;
      state = (frame_pass (frame_pass c xs).state ys).state;
    }
unfolding frame_pass
frame_pass-append c [] ys = refl
frame_pass-append c (x ∷ xs) ys =
    let first : Passed = pass c x in
    let P : PassedFrame → PassedFrame = λ rest. record {
      frame = first.datagram ∷ rest.frame;
      state = rest.state;
    } in
    ap P (frame_pass-append first.state xs ys)

-- no datagram has passed yet
pub frame_pass_none : (c : ControllerState)
    → frame_pass c [] ≡ record { frame = []; state = c }
unfolding frame_pass
frame_pass_none c = refl

-- one datagram more has passed
pub frame_pass_more : (c : ControllerState) (rs : List DatagramRecord) (k : ℕ)
    → k < length rs
    → frame_pass c (take (k + 1) rs) ≡ record {
      frame = (frame_pass c (take k rs)).frame ++ (pass (frame_pass c (take k rs)).state
          (nth rs k)).datagram ∷ [];
      state = (pass (frame_pass c (take k rs)).state (nth rs k)).state;
    }
unfolding frame_pass
frame_pass_more c rs k inside =
    ap (frame_pass c) (take_more rs k blank inside) ∙ frame_pass-append c (take k rs) (nth rs k ∷ [])

-- k datagrams have passed
passed_length : (c : ControllerState) (rs : List DatagramRecord) (k : ℕ)
    → k < length rs → length (frame_pass c (take k rs)).frame ≡ k
passed_length c rs k inside = frame_pass-length c (take k rs) ∙ length-take-le k rs (omega arith)

-- the datagrams that have not passed begin with the one at k
waiting : (rs : List DatagramRecord) (k : ℕ) → k < length rs → drop k rs ≡ nth rs k ∷ drop (k + 1) rs
waiting rs k inside = rw add-one (drop-cons rs k blank inside)

-- where the first k datagrams have passed, the one at k is as it came
pub nth_waiting : (c : ControllerState) (rs : List DatagramRecord) (k : ℕ)
    → k < length rs → nth ((frame_pass c (take k rs)).frame ++ drop k rs) k ≡ nth rs k
nth_waiting c rs k inside =
    let done : List DatagramRecord = (frame_pass c (take k rs)).frame in
    ap (λ xs. get_or (done ++ xs) k blank) (waiting rs k inside)
    ∙ ap (λ i. get_or (done ++ nth rs k ∷ drop (k + 1) rs) i blank) (sym (passed_length c rs k inside))
    ∙ get_or-append_seam done (nth rs k) (drop (k + 1) rs) blank

-- and once it is put there as it leaves, one more has passed
pub set_waiting : (c : ControllerState) (rs : List DatagramRecord) (k : ℕ) (d : DatagramRecord)
    → k < length rs
    → set ((frame_pass c (take k rs)).frame ++ drop k rs) k d
    ≡ ((frame_pass c (take k rs)).frame ++ d ∷ []) ++ drop (k + 1) rs
set_waiting c rs k d inside =
    let done : List DatagramRecord = (frame_pass c (take k rs)).frame in
    ap (λ xs. set (done ++ xs) k d) (waiting rs k inside)
    ∙ ap (λ i. set (done ++ nth rs k ∷ drop (k + 1) rs) i d) (sym (passed_length c rs k inside))
    ∙ set-append_seam done (nth rs k) (drop (k + 1) rs) d
    ∙ sym (append_assoc done (d ∷ []) (drop (k + 1) rs))

-- the frame keeps its number of datagrams
pub waiting_length : (c : ControllerState) (rs : List DatagramRecord) (k : ℕ)
    → k < length rs → length ((frame_pass c (take k rs)).frame ++ drop k rs) ≡ length rs
waiting_length c rs k inside =
    omega (
      arith,
      length-append (frame_pass c (take k rs)).frame
          (drop k rs),
      length-drop k rs,
      passed_length c rs k inside,
    )

-- once all have passed the frame has passed
pub frame_pass_all : (c : ControllerState) (rs : List DatagramRecord) (k : ℕ)
    → length rs ≤ k → (frame_pass c (take k rs)).frame ++ drop k rs ≡ (frame_pass c rs).frame
frame_pass_all c rs k past =
    rw (drop_all k rs past, take_all k rs past) (append-nil (frame_pass c rs).frame)
