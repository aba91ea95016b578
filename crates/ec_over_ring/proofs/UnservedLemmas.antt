-- A mailbox that is full takes no request, and one that is empty gives no answer: the slave that is meant
-- leaves the datagram as it was sent, and stays.
use Rattle.std.proofs.Common.{◌≡◌, ℕ, suc, ◌+◌, ◌<◌, ◌≤◌, Bool, true, false, cond, eqb, ltb, ◌&&◌, ◌||◌, List}
use Rattle.std.proofs.Common.{[], ◌∷◌, length, Option, None, Some, refl, sym, ap, ◌∙◌, arith, replicate}
use Rattle.std.proofs.Common.{⊎_elim, true≢false}
use Rattle.std.specs.Prelude.{not}
use Rattle.std.specs.List.{filter, list_any, position, position_or_len}
use Rattle.std.specs.Option.{is_some}
use Rattle.std.proofs.Math.Bool.{and-false}
use Rattle.std.proofs.lemmas.Bool.{and_parts, and_from, cases_Bool, eqb-true}
use Rattle.std.proofs.lemmas.Bool.Decides.{nat_tests}
use Rattle.std.proofs.lemmas.List.{length-replicate}
use Rattle.ec_regs.specs.Bits.{AreBytes}
use Rattle.ec_regs.specs.SyncMan.{is_active, is_full, is_mailbox, master_reads, master_writes}
use Rattle.ec_regs.specs.declared.registers.TheConstants.{STATION_ADDRESS}
use Rattle.ec_regs.specs.declared.sync_man.SyncMan.{SyncMan}
use Rattle.ec_areas.specs.Ranges.{emptied_by, filled_by, gives_mail, is_range, meets, meets_hidden}
use Rattle.ec_areas.specs.Ranges.{meets_locked, meets_one, serves_physical_read, serves_physical_write}
use Rattle.ec_areas.specs.Ranges.{some_address, takes_mail, takes_writes}
use Rattle.ec_areas.specs.Records.{sync_manager_at, sync_managers_of}
use Rattle.ec_wire.specs.Command.{addressing}
use Rattle.ec_wire.specs.Datagram.{DatagramRecord, adp_of, ado_of}
use Rattle.ec_wire.specs.declared.command.Addressing.TheVariants.{ConfiguredStation}
use Rattle.ec_wire.specs.declared.command.Command.TheVariants.{Fprd, Fpwr}
use Rattle.ec_esc.specs.Pass.{Effect, applied, effect, nothing, pass, range_given, range_sources, range_taken}
use Rattle.ec_esc.specs.Pass.{serves_range_read, serves_range_write, state_after, where_served}
use Rattle.ec_esc.specs.State.{ControllerState, IsController, word_at}
use Rattle.ec_esc.proofs.Laws.{written_nothing}
use Rattle.ec_app.specs.Roles.{is_answer_mailbox, is_request_mailbox}
use Rattle.ec_services.specs.Ask.{request}
use Rattle.ec_over_ring.proofs.BytesLemmas.{zero_bytes}
use Rattle.ec_over_ring.proofs.PassLemmas.{silent, silent_datagram}
use Rattle.ec_over_ring.proofs.ReadyLemmas.{meets_itself}

-- ---- of several one alone is met

-- where one is met first, the others are not
first_alone : (test : SyncMan → Bool) (x : SyncMan) (xs : List SyncMan) → test x ≡ true
    → length (filter test (x ∷ xs)) ≡ 1 → length (filter test xs) ≡ 0
first_alone test x xs holds one =
    let is : length (filter test (x ∷ xs)) ≡ suc (length (filter test xs)) =
    ap (λ (b : Bool). length (cond b (x ∷ filter test xs) (filter test xs))) holds in
    omega (arith, is, one)

-- one that is not met gives and takes nothing
none_of : (test given : SyncMan → Bool) → ((s : SyncMan) → test s ≡ false → given s ≡ false)
    → (xs : List SyncMan) → length (filter test xs) ≡ 0 → position_or_len given xs ≡ length xs
none_of test given fails [] none = refl
none_of test given fails (x ∷ xs) none =
    ⊎_elim
    (λ (holds : test x ≡ true).
    let is : length (filter test (x ∷ xs)) ≡ suc (length (filter test xs)) =
    ap (λ (b : Bool). length (cond b (x ∷ filter test xs) (filter test xs))) holds in
    absurd (omega (arith, is, none)))
    (λ (unmet : test x ≡ false).
    let rest : length (filter test xs) ≡ 0 =
    sym (ap (λ (b : Bool). length (cond b (x ∷ filter test xs) (filter test xs))) unmet) ∙ none in
    let others : position_or_len given xs ≡ length xs = none_of test given fails xs rest in
    let here : position_or_len given (x ∷ xs) ≡ 1 + position_or_len given xs =
    ap (λ (b : Bool). cond (not b) (1 + position_or_len given xs) 0) (fails x unmet) in
    omega (arith, here, others))
    (cases_Bool (test x))

-- one more that gives nothing
one_more : (given : SyncMan → Bool) (x : SyncMan) (xs : List SyncMan) → given x ≡ false
    → position_or_len given xs ≡ length xs → position_or_len given (x ∷ xs) ≡ length (x ∷ xs)
one_more given x xs fails others =
    let here : position_or_len given (x ∷ xs) ≡ 1 + position_or_len given xs =
    ap (λ (b : Bool). cond (not b) (1 + position_or_len given xs) 0) fails in
    omega (arith, here, others)

not_below : (n : ℕ) → ltb n n ≡ false
not_below n = grind (arith, nat_tests)

none_found : (given : SyncMan → Bool) (xs : List SyncMan) → position_or_len given xs ≡ length xs
    → position given xs ≡ None
none_found given xs all =
    ap (λ (n : ℕ). cond (ltb n (length xs)) (Some n) None) all
    ∙ ap (λ (b : Bool). cond b (Some (length xs)) None) (not_below (length xs))

-- the first is met, and gives nothing
first_gives_none : (test given : SyncMan → Bool) → ((s : SyncMan) → test s ≡ false → given s ≡ false)
    → (x : SyncMan) (xs : List SyncMan) → test x ≡ true → given x ≡ false
    → length (filter test (x ∷ xs)) ≡ 1 → position given (x ∷ xs) ≡ None
first_gives_none test given fails x xs met none one =
    none_found given (x ∷ xs)
    (one_more given x xs none (none_of test given fails xs (first_alone test x xs met one)))

-- the second is
second_gives_none : (test given : SyncMan → Bool) → ((s : SyncMan) → test s ≡ false → given s ≡ false)
    → (x y : SyncMan) (ys : List SyncMan) → test y ≡ true → given y ≡ false
    → length (filter test (x ∷ y ∷ ys)) ≡ 1 → position given (x ∷ y ∷ ys) ≡ None
second_gives_none test given fails x y ys met none one =
    ⊎_elim
    (λ (both : test x ≡ true).
    let rest : length (filter test (y ∷ ys)) ≡ 0 = first_alone test x (y ∷ ys) both one in
    let some : length (filter test (y ∷ ys)) ≡ suc (length (filter test ys)) =
    ap (λ (b : Bool). length (cond b (y ∷ filter test ys) (filter test ys))) met in
    absurd (omega (arith, rest, some)))
    (λ (unmet : test x ≡ false).
    let rest : length (filter test (y ∷ ys)) ≡ 1 =
    sym (ap (λ (b : Bool). length (cond b (x ∷ filter test (y ∷ ys)) (filter test (y ∷ ys)))) unmet) ∙ one in
    none_found given (x ∷ y ∷ ys)
    (one_more given x (y ∷ ys) (fails x unmet)
    (one_more given y ys none (none_of test given fails ys (first_alone test y ys met rest)))))
    (cases_Bool (test x))

-- ---- whose area is not met

area_met : (s : SyncMan) (from n : ℕ) → 1 ≤ n → is_active s ≡ true → s.start ≡ from → s.length ≡ n
    → meets s from n ≡ true
area_met s from n some active start size =
    ap (λ (k : ℕ). meets s k n) (sym start)
    ∙ ap (λ (k : ℕ). meets s s.start k) (sym size)
    ∙ meets_itself s active (omega (arith, some, size))

-- an area that is the range is met
whole_met : (s : SyncMan) (from n : ℕ) → 1 ≤ n
    → (is_active s && eqb s.start from && eqb s.length n) ≡ true → meets s from n ≡ true
whole_met s from n some area =
    let first = and_parts (is_active s && eqb s.start from) (eqb s.length n) area in
    let second = and_parts (is_active s) (eqb s.start from) first.0 in
    area_met s from n some second.0 (eqb-true s.start from second.1) (eqb-true s.length n first.1)

-- who is not met gives no mail, and takes none
fourth_part : (a b c d : Bool) → (a && b && c && d) ≡ true → a ≡ true
fourth_part a b c d holds =
    let abc = and_parts (a && b && c) d holds in
    let ab = and_parts (a && b) c abc.0 in
    (and_parts a b ab.0).0

gives_unmet : (from n : ℕ) → 1 ≤ n → (s : SyncMan) → meets s from n ≡ false → gives_mail from n s ≡ false
unfolding gives_mail
gives_unmet from n some s unmet =
    ⊎_elim
    (λ (gives : gives_mail from n s ≡ true).
    absurd (true≢false (sym (whole_met s from n some
    (fourth_part (is_active s && eqb s.start from && eqb s.length n) (is_mailbox s) (master_reads s)
    (is_full s) gives)) ∙ unmet)))
    (λ (none : gives_mail from n s ≡ false). none)
    (cases_Bool (gives_mail from n s))

takes_unmet : (from n : ℕ) → 1 ≤ n → (s : SyncMan) → meets s from n ≡ false → takes_mail from n s ≡ false
unfolding takes_mail
takes_unmet from n some s unmet =
    ⊎_elim
    (λ (takes : takes_mail from n s ≡ true).
    absurd (true≢false (sym (whole_met s from n some
    (fourth_part (is_active s && eqb s.start from && eqb s.length n) (is_mailbox s) (master_writes s)
    (not (is_full s)) takes)) ∙ unmet)))
    (λ (none : takes_mail from n s ≡ false). none)
    (cases_Bool (takes_mail from n s))

-- nor does who is met, where its mailbox is empty or full
gives_empty : (from n : ℕ) (s : SyncMan) → is_full s ≡ false → gives_mail from n s ≡ false
unfolding gives_mail
gives_empty from n s empty =
    let others : Bool = is_active s && eqb s.start from && eqb s.length n && is_mailbox s && master_reads s in
    ap (λ (b : Bool). others && b) empty ∙ and-false others

takes_full : (from n : ℕ) (s : SyncMan) → is_full s ≡ true → takes_mail from n s ≡ false
unfolding takes_mail
takes_full from n s full =
    let others : Bool = is_active s && eqb s.start from && eqb s.length n && is_mailbox s && master_writes s
    in
    ap (λ (b : Bool). others && not b) full ∙ and-false others

-- ---- a read

second_holds : (a b c : Bool) → b ≡ true → (a || (b || c)) ≡ true
second_holds true b c holds = refl
second_holds false b c holds = ap (λ (x : Bool). x || c) holds

either_first : (a b : Bool) → a ≡ true → (a || b) ≡ true
either_first a b holds = ap (λ (x : Bool). x || b) holds

-- the sync managers behind the second
abbrev third_on : List ℕ → List SyncMan
third_on m =
    sync_manager_at m 2 ∷ sync_manager_at m 3 ∷ sync_manager_at m 4 ∷ sync_manager_at m 5
    ∷ sync_manager_at m 6 ∷ sync_manager_at m 7 ∷ []

none_emptied : (m : List ℕ) (from n : ℕ) → 1 ≤ n → meets (sync_manager_at m 1) from n ≡ true
    → meets_one (sync_managers_of m) from n ≡ true → is_full (sync_manager_at m 1) ≡ false
    → emptied_by (sync_managers_of m) from n ≡ None
unfolding emptied_by sync_managers_of
none_emptied m from n some met alone empty =
    ap (λ (b : Bool). cond b (position (gives_mail from n) (sync_managers_of m)) None) alone
    ∙ second_gives_none (λ (s : SyncMan). meets s from n) (gives_mail from n) (gives_unmet from n some)
    (sync_manager_at m 0) (sync_manager_at m 1) (third_on m) met
    (gives_empty from n (sync_manager_at m 1) empty)
    (eqb-true _ 1 alone)

is_hidden : (m : List ℕ) (from n : ℕ) → meets (sync_manager_at m 1) from n ≡ true
    → is_mailbox (sync_manager_at m 1) ≡ true → meets_hidden (sync_managers_of m) from n ≡ true
unfolding sync_managers_of
is_hidden m from n met mailbox =
    let test : SyncMan → Bool = λ s. meets s from n && (is_mailbox s || master_writes s) in
    second_holds (test (sync_manager_at m 0)) (test (sync_manager_at m 1)) (list_any test (third_on m))
    (and_from _ _ met (either_first _ _ mailbox))

read_unserved : (managers : List SyncMan) (from n : ℕ) → meets_hidden managers from n ≡ true
    → emptied_by managers from n ≡ None → serves_physical_read managers from n ≡ false
read_unserved managers from n hidden none =
    ap (λ (b : Bool). is_range from n && (not b || is_some (emptied_by managers from n))) hidden
    ∙ ap (λ (o : Option ℕ). is_range from n && (false || is_some o)) none
    ∙ and-false (is_range from n)

read_silent : (c : ControllerState) (address from n : ℕ) → ado_of address ≡ from
    → serves_physical_read (sync_managers_of c.memory) from n ≡ false → effect Fprd c address n ≡ silent
read_silent c address from n place unserved =
    let meant : Bool = eqb (adp_of address) (word_at c.memory STATION_ADDRESS) in
    ap (λ (a : ℕ). record {
      reading = where_served (meant && serves_range_read c a n) (range_given (range_sources a) c a n);
      writing = nothing;
    }) place
    ∙ ap (λ (b : Bool). record {
      reading = where_served (meant && b) (range_given (range_sources from) c from n);
      writing = nothing;
    }) unserved
    ∙ ap (λ (b : Bool). record {
      reading = where_served b (range_given (range_sources from) c from n);
      writing = nothing;
    }) (and-false meant)

-- a pass that does nothing
nothing_done : (c : ControllerState) (d : DatagramRecord) → IsController c → AreBytes d.payload
    → addressing d.command ≡ ConfiguredStation → d.counter < 65536
    → applied silent c d ≡ record { datagram = d; state = c }
nothing_done c d controller bytes station small =
    ap (λ (x : DatagramRecord). record { datagram = x; state = state_after silent c d.payload })
    (silent_datagram c d station bytes small)
    ∙ ap (λ (x : ControllerState). record { datagram = d; state = x })
    (written_nothing c d.payload controller)

pub no_answer_read : (c : ControllerState) (address from n : ℕ) → IsController c → ado_of address ≡ from
    → 1 ≤ n → is_answer_mailbox (sync_manager_at c.memory 1) ≡ true
    → (sync_manager_at c.memory 1).start ≡ from → (sync_manager_at c.memory 1).length ≡ n
    → meets_one (sync_managers_of c.memory) from n ≡ true → is_full (sync_manager_at c.memory 1) ≡ false
    → pass c (request Fprd address (replicate n 0))
    ≡ record { datagram = request Fprd address (replicate n 0); state = c }
unfolding pass
no_answer_read c address from n controller place some answers start size alone empty =
    let s : SyncMan = sync_manager_at c.memory 1 in
    let kind = and_parts (is_active s && is_mailbox s) (master_reads s) answers in
    let active = and_parts (is_active s) (is_mailbox s) kind.0 in
    let d : DatagramRecord = request Fprd address (replicate n 0) in
    let met : meets s from n ≡ true = area_met s from n some active.0 start size in
    let count : length {A = ℕ} (replicate n 0) ≡ n = length-replicate {A = ℕ} n 0 in
    ap (λ (m : ℕ). applied (effect Fprd c address m) c d) count
    ∙ ap (λ (e : Effect). applied e c d)
    (read_silent c address from n place
    (read_unserved (sync_managers_of c.memory) from n (is_hidden c.memory from n met active.1)
    (none_emptied c.memory from n some met alone empty)))
    ∙ nothing_done c d controller (zero_bytes n) refl (omega arith)

-- ---- a write

none_filled : (m : List ℕ) (from n : ℕ) → 1 ≤ n → meets (sync_manager_at m 0) from n ≡ true
    → meets_one (sync_managers_of m) from n ≡ true → is_full (sync_manager_at m 0) ≡ true
    → filled_by (sync_managers_of m) from n ≡ None
unfolding filled_by sync_managers_of
none_filled m from n some met alone full =
    ap (λ (b : Bool). cond b (position (takes_mail from n) (sync_managers_of m)) None) alone
    ∙ first_gives_none (λ (s : SyncMan). meets s from n) (takes_mail from n) (takes_unmet from n some)
    (sync_manager_at m 0) (sync_manager_at m 1 ∷ third_on m) met
    (takes_full from n (sync_manager_at m 0) full)
    (eqb-true _ 1 alone)

is_locked : (m : List ℕ) (from n : ℕ) → meets (sync_manager_at m 0) from n ≡ true
    → is_mailbox (sync_manager_at m 0) ≡ true → meets_locked (sync_managers_of m) from n ≡ true
unfolding sync_managers_of
is_locked m from n met mailbox =
    let test : SyncMan → Bool = λ s. meets s from n && (is_mailbox s || master_reads s) in
    either_first (test (sync_manager_at m 0)) (list_any test (sync_manager_at m 1 ∷ third_on m))
    (and_from _ _ met (either_first _ _ mailbox))

write_unserved : (m : List ℕ) (managers : List SyncMan) (from n : ℕ) → meets_locked managers from n ≡ true
    → filled_by managers from n ≡ None → serves_physical_write m managers from n ≡ false
write_unserved m managers from n locked none =
    ap (λ (b : Bool). is_range from n
    && ((not b && some_address (takes_writes m) from n) || is_some (filled_by managers from n))) locked
    ∙ ap (λ (o : Option ℕ). is_range from n && (false || is_some o)) none
    ∙ and-false (is_range from n)

write_silent : (c : ControllerState) (address from n : ℕ) → ado_of address ≡ from
    → serves_physical_write c.memory (sync_managers_of c.memory) from n ≡ false
    → effect Fpwr c address n ≡ silent
write_silent c address from n place unserved =
    let meant : Bool = eqb (adp_of address) (word_at c.memory STATION_ADDRESS) in
    ap (λ (a : ℕ). record {
      reading = nothing;
      writing = where_served (meant && serves_range_write c a n) (range_taken 1 c a n);
    }) place
    ∙ ap (λ (b : Bool). record {
      reading = nothing;
      writing = where_served (meant && b) (range_taken 1 c from n);
    }) unserved
    ∙ ap (λ (b : Bool). record {
      reading = nothing;
      writing = where_served b (range_taken 1 c from n);
    }) (and-false meant)

pub no_request_written : (c : ControllerState) (address from : ℕ) (payload : List ℕ) → IsController c
    → AreBytes payload → ado_of address ≡ from → 1 ≤ length payload
    → is_request_mailbox (sync_manager_at c.memory 0) ≡ true
    → (sync_manager_at c.memory 0).start ≡ from → (sync_manager_at c.memory 0).length ≡ length payload
    → meets_one (sync_managers_of c.memory) from (length payload) ≡ true
    → is_full (sync_manager_at c.memory 0) ≡ true
    → pass c (request Fpwr address payload) ≡ record { datagram = request Fpwr address payload; state = c }
unfolding pass
no_request_written c address from payload controller bytes place some requests start size alone full =
    let s : SyncMan = sync_manager_at c.memory 0 in
    let n : ℕ = length payload in
    let kind = and_parts (is_active s && is_mailbox s) (master_writes s) requests in
    let active = and_parts (is_active s) (is_mailbox s) kind.0 in
    let d : DatagramRecord = request Fpwr address payload in
    let met : meets s from n ≡ true = area_met s from n some active.0 start size in
    ap (λ (e : Effect). applied e c d)
    (write_silent c address from n place
    (write_unserved c.memory (sync_managers_of c.memory) from n (is_locked c.memory from n met active.1)
    (none_filled c.memory from n some met alone full)))
    ∙ nothing_done c d controller bytes refl (omega arith)
