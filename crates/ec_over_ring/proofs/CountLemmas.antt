-- What a broadcast read tells of a ring: with all links up each slave counts, and where one is down the
-- cable is seen to be broken; every slave stays as it was.
use Rattle.std.proofs.Common.{◌≡◌, ℕ, zero, suc, ◌+◌, ◌-◌, ◌<◌, ◌≤◌, Bool, true, false, cond, eqb, ltb}
use Rattle.std.proofs.Common.{List, [], ◌∷◌, ◌++◌, length, min, take, drop, refl, sym, ap, ◌∙◌, arith}
use Rattle.std.proofs.Common.{subst, Option, None, Some}
use Rattle.std.specs.Prelude.{Err, Ok, Result, is_none}
use Rattle.std.specs.List.{AllByRecursion}
use Rattle.std.proofs.Math.Bool.{and-false}
use Rattle.std.proofs.lemmas.Bool.{eq-eqb}
use Rattle.std.proofs.lemmas.Bool.Decides.{nat_tests}
use Rattle.std.proofs.lemmas.List.{length-drop, length-take, length-take-le, take-append-drop}
use Rattle.ec_regs.proofs.Laws.{each-drop, each-take}
use Rattle.ec_app.specs.Table.{first_fitting}
use Rattle.ec_wire.specs.Datagram.{DatagramRecord, code_of, nth}
use Rattle.ec_wire.specs.declared.command.Command.{Command}
use Rattle.ec_merge.specs.Frames.{IsOwn, belongs, fixed_address, joined_frame}
use Rattle.ec_merge.specs.Rule.{joined_count}
use Rattle.ec_merge.proofs.Laws.{own_no_fault}
use Rattle.ec_esc.specs.State.{ControllerState, IsController}
use Rattle.ec_line.specs.Trip.{Passed, PassedLine}
use Rattle.ec_ring.specs.Links.{AreUp, SomeDown}
use Rattle.ec_ring.specs.Reach.{arrival_a, arrival_b, back, front, turns}
use Rattle.ec_ring.specs.Travel.{Travelled, travelled}
use Rattle.ec_ring.specs.Weather.{calm}
use Rattle.ec_ring.specs.declared.links.Links.{Links}
use Rattle.ec_ring.specs.declared.links.TheConstants.{MAX_SLAVES}
use Rattle.ec_ring.specs.declared.weather.Came.{Came}
use Rattle.ec_master.specs.Ports.{came_or}
use Rattle.ec_services.specs.Ask.{Answer, Brings}
use Rattle.ec_services.specs.Stations.{is_broken, slave_count, status_broadcast}
use Rattle.ec_services.specs.declared.fault.MasterFault.{MasterFault}
use Rattle.ec_services.specs.declared.fault.MasterFault.TheVariants.{BadAnswer, Broken, NoSlave}
use Rattle.ec_over_ring.proofs.LineLemmas.{turned}
use Rattle.ec_over_ring.proofs.TripLemmas.{first_copy, second_copy}
use Rattle.ec_over_ring.proofs.WayLemmas.{came_back}
use Rattle.ec_over_ring.proofs.BroadcastLemmas.{IsBroadcast, IsCountedLine, counted_line}
use Rattle.ec_over_ring.proofs.CableLemmas.{back_passes, front_passes, pieces_pass, travelled_both}
use Rattle.ec_over_ring.proofs.CableLemmas.{whole_trip}

-- ---- the answer

-- a copy in a frame alone, of which slaves have changed data, counter and ADP, is no stranger
pub own_alone : (d e : DatagramRecord) → e.command ≡ d.command → e.index ≡ d.index
    → length e.payload ≡ length d.payload
    → fixed_address d.command e.address ≡ fixed_address d.command d.address
    → IsOwn (d ∷ []) (e ∷ [])
own_alone d e command index size address = record { count = refl; each = each_own }
  where
    own : belongs d e ≡ true
    own =
        let commands : eqb (code_of e.command) (code_of d.command) ≡ true =
        eq-eqb _ _ (ap (λ (x : Command). code_of x) command) in
        let indices : eqb e.index d.index ≡ true = eq-eqb _ _ index in
        let sizes : eqb (length e.payload) (length d.payload) ≡ true = eq-eqb _ _ size in
        let addresses : eqb (fixed_address d.command e.address) (fixed_address d.command d.address) ≡ true =
        eq-eqb _ _ address in
        rw (commands, indices, sizes, addresses) refl

    each_own : (k : ℕ) → k < 1 → belongs (nth (d ∷ []) k) (nth (e ∷ []) k) ≡ true
    each_own zero inside = own
    each_own (suc k) inside = absurd (omega (arith, inside))

-- ---- the count

-- how many slaves there are, by a broken cable or not and by the joined counter
abbrev pub counted : Bool → ℕ → Result ℕ MasterFault
counted broken n =
    first_fitting
    ((broken, Err Broken)
    ∷ (eqb n 0, Err NoSlave)
    ∷ (ltb MAX_SLAVES n, Err BadAnswer)
    ∷ []) (Ok n)

-- copies that are no strangers are joined, and tell it
count_of : (came : Came) (answer : Answer)
    → IsOwn (status_broadcast ∷ []) (came_or came.a (status_broadcast ∷ []))
    → IsOwn (status_broadcast ∷ []) (came_or came.b (status_broadcast ∷ []))
    → Brings status_broadcast (Ok came) answer
    → slave_count answer
    ≡ counted (is_broken came)
    (nth (joined_frame (status_broadcast ∷ []) (came_or came.a (status_broadcast ∷ []))
    (came_or came.b (status_broadcast ∷ []))) 0).counter
count_of came (Err fault) first second brings =
    absurd (own_no_fault (status_broadcast ∷ []) _ _ first second brings.1.1 brings.1.2)
count_of came (Ok back) first second brings =
    ap (λ (c : Came). counted (is_broken c) (nth back.joined 0).counter) brings.0
    ∙ ap (λ (f : List DatagramRecord). counted (is_broken came) (nth f 0).counter) brings.1.2

pub counted_some : (n : ℕ) → 1 ≤ n → n ≤ MAX_SLAVES → counted false n ≡ Ok n
counted_some n some limit =
    let here : eqb n 0 ≡ false = grind (arith, nat_tests) in
    let few : ltb 256 n ≡ false = grind (arith, nat_tests) in
    rw (here, few) refl

-- ---- all links are up

pub sent_broadcast : IsBroadcast 0 status_broadcast
sent_broadcast = record { command = refl; index = refl; place = refl; size = refl; counter = refl }

pub own_broadcast : (n : ℕ) (e : DatagramRecord) → IsBroadcast n e → IsOwn (status_broadcast ∷ []) (e ∷ [])
own_broadcast n e is =
    own_alone status_broadcast e is.command is.index is.size is.place

-- what a broadcast read over a line comes to
pub record Counts (line : List ControllerState) (told : Result ℕ MasterFault) (t : Travelled) : Type 0 where
  pub left : t.line ≡ line
  pub tells : (answer : Answer) → Brings status_broadcast (Ok t.came) answer → slave_count answer ≡ told

whole_came : DatagramRecord → Came
whole_came e = record { a = Some (e ∷ []); b = Some (status_broadcast ∷ []) }

whole_tells : (n : ℕ) (e : DatagramRecord) (answer : Answer) → IsBroadcast n e → n ≤ MAX_SLAVES
    → Brings status_broadcast (Ok (whole_came e)) answer → slave_count answer ≡ counted false n
unfolding whole_came
whole_tells n e answer is limit brings =
    let d : DatagramRecord = status_broadcast in
    let counter : e.counter ≡ n = is.counter in
    let count : joined_count 0 e.counter 0 ≡ n = omega (arith, counter, limit) in
    count_of (whole_came e) answer (own_broadcast n e is) (own_broadcast 0 d sent_broadcast) brings
    ∙ ap (λ (b : Bool). counted b (joined_count 0 e.counter 0)) (and-false (ltb 0 e.counter))
    ∙ ap (λ (m : ℕ). counted false m) count

pub whole_counts : (links : Links) (line : List ControllerState) → AreUp links 0 (length line)
    → AllByRecursion IsController line → length line ≤ MAX_SLAVES
    → Counts line (counted false (length line)) (travelled (calm links) (status_broadcast ∷ []) line)
unfolding whole_came
whole_counts links line up controllers limit =
    let n : ℕ = length line in
    let far : IsCountedLine 0 line status_broadcast =
    counted_line 0 line status_broadcast controllers sent_broadcast (omega (arith, limit)) in
    let same : 0 + n ≡ n = omega arith in
    let is : IsBroadcast n far.told = subst (λ (m : ℕ). IsBroadcast m far.told) same far.is in
    subst (λ (t : Travelled). Counts line (counted false n) t)
    (sym (whole_trip links status_broadcast far.told line line up refl far.passes refl))
    (record { left = refl; tells = λ answer brings. whole_tells n far.told answer is limit brings })

-- ---- a link is down

-- both copies behind their pieces of a line
pub record AreCounted (i j : ℕ) (line : List ControllerState) (p : Passed) : Type 0 where
  pub a : DatagramRecord
  pub b : DatagramRecord
  pub first : p.a ≡ a ∷ []
  pub second : p.b ≡ b ∷ []
  pub left : p.line ≡ line
  pub a_is : IsBroadcast i a
  pub b_is : IsBroadcast j b

first_counted : (p : ℕ) (line : List ControllerState) (d : DatagramRecord)
    → (far : IsCountedLine 0 (take p line) d)
    → first_copy p line d ≡ record { frame = far.told ∷ []; line = line }
first_counted p line d far =
    ap (λ (x : PassedLine). record { frame = x.frame; line = x.line ++ drop p line }) far.passes
    ∙ ap (λ (xs : List ControllerState). record { frame = far.told ∷ []; line = xs })
    (take-append-drop p line)

second_sent_is : (b : Bool) (q : ℕ) (line : List ControllerState)
    → second_copy q b line status_broadcast ≡ second_copy q false line (turned b status_broadcast)
second_sent_is true q line = refl
second_sent_is false q line = refl

second_counted : (q : ℕ) (b : Bool) (line : List ControllerState)
    → (far : IsCountedLine 0 (drop q line) (turned b status_broadcast))
    → second_copy q b line status_broadcast ≡ record { frame = far.told ∷ []; line = line }
second_counted q b line far =
    second_sent_is b q line
    ∙ ap (λ (x : PassedLine). record { frame = x.frame; line = take q line ++ x.line }) far.passes
    ∙ ap (λ (xs : List ControllerState). record { frame = far.told ∷ []; line = xs })
    (take-append-drop q line)

pub are_counted : (p q : ℕ) (b : Bool) (line : List ControllerState) → AllByRecursion IsController line
    → length line ≤ MAX_SLAVES
    → AreCounted (length (take p line)) (length (drop q line)) line
    (pieces_pass p q b line status_broadcast)
unfolding pieces_pass
are_counted p q b line controllers limit =
    let d : DatagramRecord = status_broadcast in
    let front_size : length (take p line) ≡ min p (length line) = length-take p line in
    let back_size : length (drop q line) ≡ length line - q = length-drop q line in
    let one : IsCountedLine 0 (take p line) d =
    counted_line 0 (take p line) d (each-take IsController p line controllers) sent_broadcast
    (omega (arith, limit, front_size)) in
    let two : IsCountedLine 0 (drop q line) (turned b d) =
    counted_line 0 (drop q line) (turned b d) (each-drop IsController q line controllers)
    (record { command = refl; index = refl; place = refl; size = refl; counter = refl })
    (omega (arith, limit, back_size)) in
    let front_same : 0 + length (take p line) ≡ length (take p line) = omega arith in
    let back_same : 0 + length (drop q line) ≡ length (drop q line) = omega arith in
    let one_is : first_copy p line d ≡ record { frame = one.told ∷ []; line = line } =
    first_counted p line d one in
    let two_is : second_copy q b line d ≡ record { frame = two.told ∷ []; line = line } =
    second_counted q b line two in
    let later : (x : PassedLine) → x ≡ record { frame = one.told ∷ []; line = line }
    → second_copy q b x.line d ≡ record { frame = two.told ∷ []; line = line } =
    λ x is. ap (λ (y : PassedLine). second_copy q b y.line d) is ∙ two_is in
    record {
      a = one.told;
      b = two.told;
      first = ap (λ (x : PassedLine). x.frame) one_is;
      second = ap (λ (x : PassedLine). x.frame) (later (first_copy p line d) one_is);
      left = ap (λ (x : PassedLine). x.line) (later (first_copy p line d) one_is);
      a_is = subst (λ (n : ℕ). IsBroadcast n one.told) front_same one.is;
      b_is = subst (λ (n : ℕ). IsBroadcast n two.told) back_same two.is;
    }

-- what comes back of them
abbrev lost_or : Bool → DatagramRecord → Option (List DatagramRecord)
lost_or lost e = cond lost None (Some (e ∷ []))

own_or : (lost : Bool) (n : ℕ) (e : DatagramRecord) → IsBroadcast n e
    → IsOwn (status_broadcast ∷ []) (came_or (lost_or lost e) (status_broadcast ∷ []))
own_or true n e is = own_broadcast 0 status_broadcast sent_broadcast
own_or false n e is = own_broadcast n e is

-- a copy is missing, or both have counted
seen_broken : (lost_a lost_b : Bool) (i j : ℕ) (a b : DatagramRecord) → IsBroadcast i a → IsBroadcast j b
    → (lost_a ≡ false → 1 ≤ i) → (lost_b ≡ false → 1 ≤ j)
    → is_broken (record { a = lost_or lost_a a; b = lost_or lost_b b }) ≡ true
seen_broken true lost_b i j a b a_is b_is a_some b_some = refl
seen_broken false true i j a b a_is b_is a_some b_some = refl
seen_broken false false i j a b a_is b_is a_some b_some =
    let a_counter : a.counter ≡ i = a_is.counter in
    let b_counter : b.counter ≡ j = b_is.counter in
    let first : 1 ≤ i = a_some refl in
    let second : 1 ≤ j = b_some refl in
    let a_counts : ltb 0 a.counter ≡ true = grind (arith, nat_tests) in
    let b_counts : ltb 0 b.counter ≡ true = grind (arith, nat_tests) in
    rw (a_counts, b_counts) refl

broken_tells : (lost_a lost_b : Bool) (i j : ℕ) (a b : DatagramRecord) (answer : Answer) → IsBroadcast i a
    → IsBroadcast j b → (lost_a ≡ false → 1 ≤ i) → (lost_b ≡ false → 1 ≤ j)
    → Brings status_broadcast (Ok (record { a = lost_or lost_a a; b = lost_or lost_b b })) answer
    → slave_count answer ≡ Err Broken
broken_tells lost_a lost_b i j a b answer a_is b_is a_some b_some brings =
    let d : DatagramRecord = status_broadcast in
    let came : Came = record { a = lost_or lost_a a; b = lost_or lost_b b } in
    count_of came answer (own_or lost_a i a a_is) (own_or lost_b j b b_is) brings
    ∙ ap (λ (x : Bool).
    counted x (nth (joined_frame (d ∷ []) (came_or came.a (d ∷ [])) (came_or came.b (d ∷ []))) 0).counter)
    (seen_broken lost_a lost_b i j a b a_is b_is a_some b_some)

abbrev brought : Bool → Bool → List DatagramRecord → List DatagramRecord → Came
brought lost_a lost_b a b = record { a = cond lost_a None (Some a); b = cond lost_b None (Some b) }

broken_way : (lost_a lost_b : Bool) (i j : ℕ) (line : List ControllerState) (p : Passed)
    → AreCounted i j line p → (lost_a ≡ false → 1 ≤ i) → (lost_b ≡ false → 1 ≤ j)
    → Counts line (Err Broken) (came_back lost_a lost_b p)
broken_way lost_a lost_b i j line p are a_some b_some = record {
  left = are.left;
  tells = λ answer brings.
      broken_tells lost_a lost_b i j are.a are.b answer are.a_is are.b_is a_some b_some
      (subst (λ (x : List DatagramRecord).
      Brings status_broadcast (Ok (brought lost_a lost_b (are.a ∷ []) x)) answer) are.second
      (subst (λ (x : List DatagramRecord).
      Brings status_broadcast (Ok (brought lost_a lost_b x p.b)) answer) are.first brings));
}

pub broken_counts : (links : Links) (line : List ControllerState) → SomeDown links (length line)
    → AllByRecursion IsController line → length line ≤ MAX_SLAVES
    → Counts line (Err Broken) (travelled (calm links) (status_broadcast ∷ []) line)
broken_counts links line down controllers limit =
    let n : ℕ = length line in
    let p : ℕ = front links n in
    let q : ℕ = back links n in
    subst (λ (t : Travelled). Counts line (Err Broken) t)
    (sym (travelled_both links status_broadcast line refl))
    (broken_way (is_none (arrival_a links n)) (is_none (arrival_b links n)) (length (take p line))
    (length (drop q line)) line (pieces_pass p q (turns links n) line status_broadcast)
    (are_counted p q (turns links n) line controllers limit)
    (λ comes.
    let some = front_passes links n down comes in
    let low : 1 ≤ p = some.0 in
    let high : p ≤ n = some.1 in
    let size : length (take p line) ≡ p = length-take-le p line high in
    omega (arith, low, size))
    (λ comes.
    let low : q < n = back_passes links n down comes in
    let size : length (drop q line) ≡ n - q = length-drop q line in
    omega (arith, low, size)))
