-- What looks at the cable find over a ring with at most one link down: that it is whole, or the link.
use Rattle.std.proofs.Common.{◌≡◌, ℕ, zero, suc, ◌+◌, ◌-◌, ◌<◌, ◌≤◌, Bool, true, false, cond, eqb, ltb, not}
use Rattle.std.proofs.Common.{List, [], ◌∷◌, length, refl, sym, ap, ◌∙◌, arith, Option, None, Some}
use Rattle.std.proofs.Common.{Result, ◌&&◌, inl, inr, true≢false, ⊎_elim}
use Rattle.std.specs.Prelude.{◌⊎◌, if◌then◌else◌, is_none, unwrap_or}
use Rattle.std.specs.Option.{option_map}
use Rattle.std.specs.Result.{result_ok}
use Rattle.std.proofs.lemmas.Bool.{and_parts, cases_Bool, eq-eqb, eqb-false, eqb-true, lt-ltb, ltb-true}
use Rattle.std.proofs.lemmas.Bool.Decides.{nat_tests}
use Rattle.ec_wire.specs.Datagram.{DatagramRecord}
use Rattle.ec_esc.specs.State.{ControllerState}
use Rattle.ec_esc.specs.declared.counting.TheConstants.{MOST_CONTROLLERS}
use Rattle.ec_diag.specs.Arrivals.{heard_arrival, located_of, probe, with_arrivals}
use Rattle.ec_diag.specs.Heard.{IsProbe, heard_a, heard_b}
use Rattle.ec_diag.specs.Join.{with_heard}
use Rattle.ec_diag.specs.Located.{Tells}
use Rattle.ec_diag.specs.declared.heard.Heard.{Heard}
use Rattle.ec_diag.specs.declared.located.Located.{Located}
use Rattle.ec_diag.specs.declared.located.Located.TheVariants.{Unknown, Whole, One}
use Rattle.ec_ring.specs.Arrivals.{arrivals_of}
use Rattle.ec_ring.specs.Links.{AreUp, IsOnlyDown, first_down, is_up, last_down}
use Rattle.ec_ring.specs.Reach.{arrival_a, front, turns}
use Rattle.ec_ring.specs.Ring.{RingState, line_of}
use Rattle.ec_ring.specs.Weather.{calm}
use Rattle.ec_ring.specs.declared.arrivals.Arrivals.{Arrivals}
use Rattle.ec_ring.specs.declared.links.Links.{Links}
use Rattle.ec_ring.specs.declared.port.Port.{Port}
use Rattle.ec_ring.specs.declared.port.Port.TheVariants.{A, B}
use Rattle.ec_ring.specs.declared.port.PortFault.{PortFault}
use Rattle.ec_ring.specs.declared.weather.Weather.{Weather}
use Rattle.ec_ring.proofs.Laws.{is-first_down, is-last_down, length-controllers, no-first_down}
use Rattle.ec_ring.proofs.Laws.{no-last_down}
use Rattle.ec_over_ring.specs.Brought.{ReachesAll}
use Rattle.ec_over_ring.specs.Heard.{HeardRing}
use Rattle.ecat_master.specs.Course.{AreLooks, IsLook, is_last_look}
use Rattle.ecat_master.specs.Start.{gap_of}

-- ---- what the copies of a broadcast read are heard as, by the laws of diagnosis

pub record AreHeard : Type 0 where
  pub a : (w : Weather) (line : List ControllerState) (d : DatagramRecord)
      → length line ≤ MOST_CONTROLLERS → IsProbe d
      → heard_arrival (d ∷ []) (arrivals_of w (d ∷ []) line).a
      ≡ (if w.lost_a then None else heard_a w.a (length line))
  pub b : (w : Weather) (line : List ControllerState) (d : DatagramRecord)
      → length line ≤ MOST_CONTROLLERS → IsProbe d
      → heard_arrival (d ∷ []) (arrivals_of w (d ∷ []) line).b
      ≡ (if w.lost_b then None else heard_b w.b (length line))
  pub so : (w : Weather) (line : List ControllerState) (d : DatagramRecord)
      → length line ≤ MOST_CONTROLLERS → IsProbe d → w.a ≡ w.b
      → Tells (with_arrivals (length line) Unknown (d ∷ []) (arrivals_of w (d ∷ []) line)) w.a (length line)

probe_is : IsProbe probe
probe_is = record {
  command = refl;
  some = omega arith;
  registers = omega arith;
  still = refl;
  counter = omega arith;
}

-- ---- the links of a line

-- no link is down, or this one alone
abbrev IsGap : Links → ℕ → Option ℕ → Type 0
IsGap links n None = AreUp links 0 n
IsGap links n (Some k) =
    (k ≤ n) × (is_up links k ≡ false) × ((j : ℕ) → j ≤ n → (j ≡ k → ⊥) → is_up links j ≡ true)

-- it is the first that is down, and the last
pub record HasBreak (links : Links) (n : ℕ) (gap : Option ℕ) : Type 0 where
  pub first : first_down links (n + 1) ≡ gap
  pub last : last_down links (n + 1) ≡ gap
  pub is : IsGap links n gap

-- a line with at most one link down has one such gap
pub record HasSome (links : Links) (n : ℕ) : Type 0 where
  pub gap : Option ℕ
  pub broken : HasBreak links n gap

down_is : (links : Links) (n d j : ℕ) → IsOnlyDown links n d → j ≤ n → is_up links j ≡ false → j ≡ d
down_is links n d j only inside down =
    ⊎_elim (λ (same : eqb j d ≡ true). eqb-true j d same)
    (λ (other : eqb j d ≡ false).
    absurd (true≢false (sym (only j inside (λ is. true≢false (sym (eq-eqb j d is) ∙ other))) ∙ down)))
    (cases_Bool (eqb j d))

break_by : (links : Links) (n d : ℕ) → IsOnlyDown links n d → (o p : Option ℕ)
    → first_down links (n + 1) ≡ o → last_down links (n + 1) ≡ p → HasSome links n
break_by links n d only None None first last =
    record { gap = None; broken = record { first = first; last = last; is = no-first_down links n first } }
break_by links n d only None (Some j) first last =
    let down = is-last_down links n j last in
    absurd (true≢false (sym (no-first_down links n first j (omega arith) down.0) ∙ down.1))
break_by links n d only (Some k) None first last =
    let down = is-first_down links n k first in
    absurd (true≢false (sym (no-last_down links n last k (omega arith) down.0) ∙ down.1))
break_by links n d only (Some k) (Some j) first last =
    let one = is-first_down links n k first in
    let two = is-last_down links n j last in
    let here : k ≡ d = down_is links n d k only one.0 one.1 in
    let same : j ≡ k = down_is links n d j only two.0 two.1 ∙ sym here in
    record {
      gap = Some k;
      broken = record {
        first = first;
        last = last ∙ ap (λ (i : ℕ). Some i) same;
        is = (one.0, one.1, λ i inside other. only i inside (λ is. other (is ∙ sym here)));
      };
    }

pub break_of : (r : RingState) → ReachesAll r → HasSome r.links (length r.slaves)
break_of r ring =
    break_by r.links (length r.slaves) ring.down.0 ring.down.1 (first_down r.links (length r.slaves + 1))
    (last_down r.links (length r.slaves + 1)) refl refl

-- ---- what both copies tell

-- where the cable is broken
abbrev pub cable_of : Option ℕ → Located
cable_of None = Whole
cable_of (Some k) = One k

-- by which of both can start, and by the link
abbrev a_of : ℕ → Bool → Option ℕ → Option Heard
a_of n up gap =
    option_map (λ (port : Port). record { at = port; count = unwrap_or gap n; turned = false })
    (if up then Some (if is_none gap then B else A) else None)

abbrev b_of : ℕ → Bool → Option ℕ → Option Heard
b_of n up gap =
    option_map
    (λ (port : Port). record { at = port; count = n - unwrap_or gap n; turned = up && not (is_none gap) })
    (if up then Some (if is_none gap then A else B) else None)

told : ℕ → Bool → Bool → Option ℕ → Located
told n up_a up_b gap = with_heard n (with_heard n Unknown (a_of n up_a gap)) (b_of n up_b gap)

told_whole : (n : ℕ) → told n true true None ≡ Whole
unfolding told
told_whole n =
    let all : eqb n n ≡ true = eq-eqb n n refl in
    let none : n - n ≡ 0 = omega arith in
    rw (all, none) refl

told_first : (n : ℕ) → 1 ≤ n → told n false true (Some 0) ≡ One 0
unfolding told
told_first n some =
    let all : n - 0 ≡ n = omega arith in
    let here : eqb n 0 ≡ false = grind (arith, nat_tests) in
    let few : ltb n n ≡ false = grind (arith, nat_tests) in
    let none : n - n ≡ 0 = omega arith in
    rw (all, here, few, none) refl

told_last : (n : ℕ) → 1 ≤ n → told n true false (Some n) ≡ One n
unfolding told
told_last n some =
    let here : eqb n 0 ≡ false = grind (arith, nat_tests) in
    let few : ltb n n ≡ false = grind (arith, nat_tests) in
    let all : eqb n n ≡ true = eq-eqb n n refl in
    rw (here, few, all) refl

told_between : (n k : ℕ) → 1 ≤ k → k < n → told n true true (Some k) ≡ One k
unfolding told
told_between n k some inside =
    let a : eqb k 0 ≡ false = grind (arith, nat_tests) in
    let b : ltb n k ≡ false = grind (arith, nat_tests) in
    let c : eqb k n ≡ false = grind (arith, nat_tests) in
    let left : n - (n - k) ≡ k = omega (arith, inside) in
    let d : eqb (n - k) 0 ≡ false = grind (arith, nat_tests) in
    let e : ltb n (n - k) ≡ false = grind (arith, nat_tests) in
    let f : eqb k k ≡ true = eq-eqb k k refl in
    rw (a, b, c, d, e, left, f) refl

before_last : (n k : ℕ) → k ≤ n → (n ≡ k → ⊥) → k < n
before_last n k inside differ = omega (arith, inside, differ)

told_so : (links : Links) (n : ℕ) (gap : Option ℕ) → 1 ≤ n → IsGap links n gap
    → told n (is_up links 0) (is_up links n) gap ≡ cable_of gap
told_so links n None some up =
    ap (λ (b : Bool). told n b (is_up links n) None) (up 0 (omega arith) (omega arith))
    ∙ ap (λ (b : Bool). told n true b None) (up n (omega arith) (omega arith)) ∙ told_whole n
told_so links n (Some zero) some gap =
    ap (λ (b : Bool). told n b (is_up links n) (Some 0)) gap.1
    ∙ ap (λ (b : Bool). told n false b (Some 0))
    (gap.2 n (omega arith) (λ is. absurd (omega (arith, is, some)))) ∙ told_first n some
told_so links n (Some (suc k)) some gap =
    ap (λ (b : Bool). told n b (is_up links n) (Some (suc k)))
    (gap.2 0 (omega arith) (λ is. absurd (omega (arith, is)))) ∙ behind
  where
    inside : suc k ≤ n
    inside = gap.0

    behind : told n true (is_up links n) (Some (suc k)) ≡ One (suc k)
    behind =
        ⊎_elim
        (λ (last : eqb (suc k) n ≡ true).
        let same : suc k ≡ n = eqb-true (suc k) n last in
        ap (λ (j : ℕ). told n true (is_up links j) (Some (suc k))) (sym same)
        ∙ ap (λ (b : Bool). told n true b (Some (suc k))) gap.1
        ∙ ap (λ (j : ℕ). told n true false (Some j)) same ∙ told_last n some
        ∙ ap (λ (j : ℕ). One j) (sym same))
        (λ (other : eqb (suc k) n ≡ false).
        let differ : n ≡ suc k → ⊥ = λ is. true≢false (sym (eq-eqb (suc k) n (sym is)) ∙ other) in
        ap (λ (b : Bool). told n true b (Some (suc k))) (gap.2 n (omega arith) differ)
        ∙ told_between n (suc k) (omega arith) (before_last n (suc k) inside differ))
        (cases_Bool (eqb (suc k) n))

-- ---- looks

-- both copies of a look
arrivals_tell : AreHeard → (r : RingState) (n : ℕ) (gap : Option ℕ) → ReachesAll r → n ≡ length r.slaves
    → 1 ≤ n → HasBreak r.links n gap
    → with_arrivals n Unknown (probe ∷ []) (arrivals_of (calm r.links) (probe ∷ []) (line_of r))
    ≡ cable_of gap
unfolding told
arrivals_tell laws r n gap ring size some broken =
    let line : List ControllerState = line_of r in
    let o : Arrivals = arrivals_of (calm r.links) (probe ∷ []) line in
    let long : length line ≡ n = length-controllers r.slaves ∙ sym size in
    let limit : length r.slaves ≤ 256 = ring.slaves.limit in
    let room : length line ≤ MOST_CONTROLLERS = omega (arith, long, size, limit) in
    let a : heard_arrival (probe ∷ []) o.a ≡ a_of n (is_up r.links 0) gap =
    laws.a (calm r.links) line probe room probe_is ∙ ap (λ (m : ℕ). heard_a r.links m) long
    ∙ ap (λ (x : Option ℕ). option_map (λ (port : Port).
    record { at = port; count = unwrap_or x n; turned = false }) (arrival_a r.links n)) broken.first
    ∙ ap (λ (x : Option ℕ). option_map (λ (port : Port).
    record { at = port; count = unwrap_or gap n; turned = false })
    (if is_up r.links 0 then Some (if is_none x then B else A) else None)) broken.last in
    let b : heard_arrival (probe ∷ []) o.b ≡ b_of n (is_up r.links n) gap =
    laws.b (calm r.links) line probe room probe_is ∙ ap (λ (m : ℕ). heard_b r.links m) long
    ∙ ap (λ (x : Option ℕ). b_of n (is_up r.links n) x) broken.last in
    ap (λ (h : Option Heard).
    with_heard n (with_heard n Unknown h) (heard_arrival (probe ∷ []) o.b)) a
    ∙ ap (λ (h : Option Heard). with_heard n (with_heard n Unknown (a_of n (is_up r.links 0) gap)) h) b
    ∙ told_so r.links n gap some broken.is

look_tells : AreHeard → (r later : RingState) (n : ℕ) (gap : Option ℕ) (found : Option Located)
    → ReachesAll r → n ≡ length r.slaves → 1 ≤ n → HasBreak r.links n gap → IsLook HeardRing r n found later
    → found ≡ Some (cable_of gap)
look_tells laws r later n gap found ring size some broken look =
    look.finds ∙ ap (λ (x : Result Located PortFault). result_ok x)
    (look.located.located ∙ ap (λ (x : Result Arrivals PortFault). located_of n x) look.located.made.0)
    ∙ ap (λ (x : Located). Some x) (arrivals_tell laws r n gap ring size some broken)

known_cable : (gap : Option ℕ) → is_last_look (Some (cable_of gap)) ≡ true
known_cable None = refl
known_cable (Some k) = refl

-- so the first look is the last
pub looks_tell : AreHeard → (more : ℕ) (r later : RingState) (n : ℕ) (gap : Option ℕ)
    (found : Option Located) → ReachesAll r → n ≡ length r.slaves → 1 ≤ n → HasBreak r.links n gap
    → AreLooks HeardRing r n more found later → found ≡ Some (cable_of gap)
unfolding AreLooks
looks_tell laws zero r later n gap found ring size some broken look =
    look_tells laws r later n gap found ring size some broken look
looks_tell laws (suc more) r later n gap found ring size some broken (first, between, look, rest) =
    let is : first ≡ Some (cable_of gap) =
    look_tells laws r between n gap first ring size some broken look in
    ends_so (is_last_look first) (ap is_last_look is ∙ known_cable gap) is rest
  where
    ends_so : (b : Bool) → b ≡ true → first ≡ Some (cable_of gap)
        → (elim b as (λ (x : Bool). Type 0) [
          | true ↦ (found ≡ first) × (later ≡ between)
          | false ↦ AreLooks HeardRing between n more found later
        ]) → found ≡ Some (cable_of gap)
    ends_so true last is (same, still) = same ∙ is
    ends_so false last is others = absurd (true≢false (sym last))

-- ---- how far copy A gets

-- a link between two slaves is a gap
never_none : (n j : ℕ) → (j ≡ 0 → ⊥) → (j ≡ n → ⊥) → j ≤ n → gap_of (One j) n ≡ None → ⊥
never_none n j some other inside absent =
    let a : ltb 0 j ≡ true = lt-ltb 0 j (omega (arith, some)) in
    let b : ltb j n ≡ true = lt-ltb j n (omega (arith, other, inside)) in
    let found : gap_of (One j) n ≡ Some j = rw (a, b) refl in
    let never : ◌≡◌ {A = Option ℕ} (Some j) None = sym found ∙ absent in
    absurd (cc (never))

-- no two slaves are parted: it passes all slaves or none
pub no_gap : (links : Links) (n : ℕ) (gap : Option ℕ) → HasBreak links n gap → gap_of (cable_of gap) n ≡ None
    → (front links n ≡ 0) ⊎ (front links n ≡ n)
no_gap links n gap broken none =
    pieces gap (ap (λ (o : Option ℕ). unwrap_or o n) broken.first) broken.is none
  where
    pieces : (o : Option ℕ) → front links n ≡ unwrap_or o n → IsGap links n o
        → gap_of (cable_of o) n ≡ None → (front links n ≡ 0) ⊎ (front links n ≡ n)
    pieces None is up none = inr is
    pieces (Some k) is at none =
        ⊎_elim (λ (first : eqb k 0 ≡ true). inl (is ∙ eqb-true k 0 first))
        (λ (other : eqb k 0 ≡ false).
        ⊎_elim (λ (last : eqb k n ≡ true). inr (is ∙ eqb-true k n last))
        (λ (before : eqb k n ≡ false).
        absurd (never_none n k (eqb-false k 0 other) (eqb-false k n before) at.0 none))
        (cases_Bool (eqb k n)))
        (cases_Bool (eqb k 0))

-- two slaves are parted by a link: it passes those before it
pub record IsParted (links : Links) (n k : ℕ) : Type 0 where
  pub some : 1 ≤ k
  pub inside : k < n
  pub front_is : front links n ≡ k
  pub turning : turns links n ≡ true
  pub up : is_up links 0 ≡ true

pub has_gap : (links : Links) (n k : ℕ) (gap : Option ℕ) → HasBreak links n gap
    → gap_of (cable_of gap) n ≡ Some k → IsParted links n k
has_gap links n k gap broken is =
    parted gap (ap (λ (o : Option ℕ). unwrap_or o n) broken.first)
    (ap (λ (o : Option ℕ). is_up links n && not (is_none o)) broken.last) broken.is is
  where
    parted : (o : Option ℕ) → front links n ≡ unwrap_or o n
        → turns links n ≡ (is_up links n && not (is_none o)) → IsGap links n o
        → gap_of (cable_of o) n ≡ Some k → IsParted links n k
    parted None front_is turning up found = absurd (cc (found))
    parted (Some j) front_is turning at found =
        ⊎_elim
        (λ (both : (ltb 0 j && ltb j n) ≡ true).
        let parts = and_parts (ltb 0 j) (ltb j n) both in
        let some : 0 < j = ltb-true 0 j parts.0 in
        let inside : j < n = ltb-true j n parts.1 in
        let named : ◌≡◌ {A = Option ℕ} (Some j) (Some k) =
        sym (ap (λ (b : Bool). cond b (Some j) None) both) ∙ found in
        let same : j ≡ k = cc (named) in
        let up_n : is_up links n ≡ true =
        at.2 n (omega arith) (λ is_n. absurd (omega (arith, is_n, inside))) in
        record {
          some = omega (arith, some, same);
          inside = omega (arith, inside, same);
          front_is = front_is ∙ same;
          turning = turning ∙ ap (λ (b : Bool). b && true) up_n;
          up = at.2 0 (omega arith) (λ is_zero. absurd (omega (arith, is_zero, some)));
        })
        (λ (none : (ltb 0 j && ltb j n) ≡ false).
        let absent : ◌≡◌ {A = Option ℕ} None (Some k) =
        sym (ap (λ (b : Bool). cond b (Some j) None) none) ∙ found in
        absurd (cc (absent)))
        (cases_Bool (ltb 0 j && ltb j n))
