-- No mail changes which objects a slave has, what may be done with them, or how long they are: what the slave
-- answers to a download is the same at all times.
use Rattle.std.proofs.Common.{◌≡◌, ℕ, zero, suc, Bool, true, false, cond, eqb, ◌&&◌, ◌||◌, List, [], ◌∷◌, map}
use Rattle.std.proofs.Common.{Option, None, Some, Result, Ok, Err, refl, sym, ap, ◌∙◌, subst, ⊎_elim}
use Rattle.std.proofs.Common.{true≢false, inl, inr}
use Rattle.std.specs.Prelude.{◌⊎◌, not}
use Rattle.std.specs.List.{AllByRecursion, find}
use Rattle.std.specs.Option.{is_none, option_map, unwrap_or}
use Rattle.std.proofs.lemmas.Bool.{and_from, and_parts, cases_Bool, eq-eqb, eqb-true}
use Rattle.ec_wire.specs.Datagram.{DatagramRecord}
use Rattle.ec_areas.specs.Ranges.{has_sii}
use Rattle.ec_esc.specs.Application.{with_control_taken, with_mail_taken}
use Rattle.ec_esc.specs.State.{word_at}
use Rattle.ec_app.specs.AlStep.{after_request, al_answer, al_rows, al_step, with_al_answer}
use Rattle.ec_app.specs.Lending.{with_controller}
use Rattle.ec_app.specs.Mail.{mail_of}
use Rattle.ec_app.specs.MailStep.{after_bytes, after_mail, can_answer, has_request, is_download, is_dropped}
use Rattle.ec_app.specs.MailStep.{is_upload, mail_answer, mail_rows, mail_step, named, new_value}
use Rattle.ec_app.specs.MailStep.{objects_after as taken_objects, request_bytes}
use Rattle.ec_app.specs.Objects.{has_index, is_at, object_at, with_value}
use Rattle.ec_app.specs.Sdo.{index, sub}
use Rattle.ec_app.specs.Slave.{step}
use Rattle.ec_app.specs.State.{SlaveState}
use Rattle.ec_app.specs.Table.{first_fitting}
use Rattle.ec_app.specs.Value.{may_write, size_of}
use Rattle.ec_app.specs.declared.mail.Mail.{Mail}
use Rattle.ec_app.specs.declared.sdo.Sdo.{Sdo}
use Rattle.ec_app.specs.declared.sdo.Sdo.TheVariants.{Download}
use Rattle.ec_app.specs.declared.objects.Entry.{Entry}
use Rattle.ec_app.specs.declared.value.Rights.{Rights}
use Rattle.ec_app.specs.declared.value.Rights.TheVariants.{ReadOnly}
use Rattle.ec_app.specs.declared.value.Value.{Value}
use Rattle.ec_app.specs.declared.value.Value.TheVariants.{One}
use Rattle.ec_services.specs.Ask.{Answer, Asks}
use Rattle.ec_services.specs.Course.{Runs}
use Rattle.ec_services.specs.Mailbox.{IsPeer}
use Rattle.ec_services.specs.Progress.{Known}
use Rattle.ec_services.specs.Surely.{IsSure, asking, begun, next_sent}
use Rattle.ec_services.specs.Transfer.{downloading}
use Rattle.ec_services.specs.declared.fault.MasterFault.{MasterFault}
use Rattle.ec_services.specs.declared.fault.MasterFault.TheVariants.{Abort as Aborted}
use Rattle.ec_services.specs.declared.mailbox.Peer.{Peer}
use Rattle.ec_over_ring.specs.Recovery.{HasNoAnswer, History, IsOfPeer, IsStored, OneIs, SlaveTrips, begun_at}
use Rattle.ec_over_ring.specs.Recovery.{fared, steps_of, times_of}
use Rattle.ec_over_ring.specs.Transfers.{IsRequest, download_of}
use Rattle.ec_over_ring.proofs.CallLemmas.{each_so, one_found}
use Rattle.ec_over_ring.proofs.RecoveryLemmas.{download_recovers}
use Rattle.ec_over_ring.proofs.SlaveLemmas.{table_holds}

-- ---- an object but for its value

abbrev pub sized : Rights × Value → Rights × ℕ
sized x = (x.0, size_of x.1)

-- the one at an index and a subindex, and whether the index is there
abbrev pub Shape : Type 0
Shape = Bool × Option (Rights × ℕ)

abbrev pub shape_of : ℕ → ℕ → List Entry → Shape
shape_of i j es = (has_index i es, option_map sized (object_at i j es))

-- what the slave answers to a download hangs on that
by_shape : Value → Shape → Result (Unit {0}) MasterFault
by_shape v shape =
    cond (not shape.0) (Err (Aborted 0x06020000))
    (cond (is_none shape.1) (Err (Aborted 0x06090011))
    (cond (not (may_write (unwrap_or shape.1 (ReadOnly, 1)).0)) (Err (Aborted 0x06010002))
    (cond (not (eqb (size_of v) (unwrap_or shape.1 (ReadOnly, 1)).1)) (Err (Aborted 0x06070010)) (Ok tt))))

answered_by : (v : Value) (there : Bool) (o : Option (Rights × Value))
    → cond (not there) (Err (Aborted 0x06020000))
    (cond (is_none o) (Err (Aborted 0x06090011))
    (cond (not (may_write (unwrap_or o (ReadOnly, One 0)).0)) (Err (Aborted 0x06010002))
    (cond (not (eqb (size_of v) (size_of (unwrap_or o (ReadOnly, One 0)).1))) (Err (Aborted 0x06070010))
    (Ok tt))))
    ≡ by_shape v (there, option_map sized o)
unfolding by_shape
answered_by v there None = refl
answered_by v there (Some x) = refl

pub same_download : (i j : ℕ) (v : Value) (es fs : List Entry) → shape_of i j es ≡ shape_of i j fs
    → download_of i j v es ≡ download_of i j v fs
same_download i j v es fs same =
    answered_by v (has_index i es) (object_at i j es)
    ∙ ap (λ (s : Shape). by_shape v s) same
    ∙ sym (answered_by v (has_index i fs) (object_at i j fs))

-- ---- a value that is stored

index_kept : (b : Bool) (v : Value) (e : Entry) (i : ℕ)
    → eqb (cond b (record e { value = v }) e).index i ≡ eqb e.index i
index_kept true v e i = refl
index_kept false v e i = refl

at_kept : (b : Bool) (v : Value) (e : Entry) (i j : ℕ)
    → is_at i j (cond b (record e { value = v }) e) ≡ is_at i j e
at_kept true v e i j = refl
at_kept false v e i j = refl

indices_kept : (i k l : ℕ) (v : Value) (es : List Entry)
    → has_index i (map (with_value k l v) es) ≡ has_index i es
indices_kept i k l v [] = refl
indices_kept i k l v (e ∷ es) =
    ap (λ (b : Bool). b || has_index i (map (with_value k l v) es)) (index_kept (is_at k l e) v e i)
    ∙ ap (λ (b : Bool). eqb e.index i || b) (indices_kept i k l v es)

abbrev told : Entry → Rights × Value
told e = (e.rights, e.value)

-- the first of a list, and what stands behind it
here_at : (i j : ℕ) (e : Entry) (es : List Entry) → is_at i j e ≡ true
    → object_at i j (e ∷ es) ≡ Some (told e)
here_at i j e es here =
    ap (λ (b : Bool). option_map told (cond b (Some e) (find (is_at i j) es))) here

there_at : (i j : ℕ) (e : Entry) (es : List Entry) → is_at i j e ≡ false
    → object_at i j (e ∷ es) ≡ object_at i j es
there_at i j e es elsewhere =
    ap (λ (b : Bool). option_map told (cond b (Some e) (find (is_at i j) es))) elsewhere

-- an object at another place stays
pub apart_kept : (i j k l : ℕ) (v : Value) (es : List Entry)
    → ((f : Entry) → is_at i j f ≡ true → is_at k l f ≡ false)
    → object_at i j (map (with_value k l v) es) ≡ object_at i j es
apart_kept i j k l v [] apart = refl
apart_kept i j k l v (e ∷ es) apart =
    let w : Entry = with_value k l v e in
    let rest : List Entry = map (with_value k l v) es in
    ⊎_elim
    (λ (here : is_at i j e ≡ true).
    here_at i j w rest (at_kept (is_at k l e) v e i j ∙ here)
    ∙ ap (λ (b : Bool). Some (told (cond b (record e { value = v }) e))) (apart e here)
    ∙ sym (here_at i j e es here))
    (λ (elsewhere : is_at i j e ≡ false).
    there_at i j w rest (at_kept (is_at k l e) v e i j ∙ elsewhere)
    ∙ apart_kept i j k l v es apart
    ∙ sym (there_at i j e es elsewhere))
    (cases_Bool (is_at i j e))

-- two places of which one entry is at one alone
two_places : (i j k l : ℕ) (e : Entry) → is_at k l e ≡ true → is_at i j e ≡ false → (f : Entry)
    → is_at i j f ≡ true → is_at k l f ≡ false
two_places i j k l e at not_at f there =
    ⊎_elim
    (λ (both : is_at k l f ≡ true).
    let e_parts = and_parts (eqb e.index k) (eqb e.sub l) at in
    let f_parts = and_parts (eqb f.index i) (eqb f.sub j) there in
    let g_parts = and_parts (eqb f.index k) (eqb f.sub l) both in
    let e_index : e.index ≡ k = eqb-true e.index k e_parts.0 in
    let e_sub : e.sub ≡ l = eqb-true e.sub l e_parts.1 in
    let f_index : f.index ≡ i = eqb-true f.index i f_parts.0 in
    let f_sub : f.sub ≡ j = eqb-true f.sub j f_parts.1 in
    let g_index : f.index ≡ k = eqb-true f.index k g_parts.0 in
    let g_sub : f.sub ≡ l = eqb-true f.sub l g_parts.1 in
    let index_is : e.index ≡ i = cc in
    let sub_is : e.sub ≡ j = cc in
    let is : is_at i j e ≡ true =
    and_from _ _ (eq-eqb e.index i index_is) (eq-eqb e.sub j sub_is) in
    absurd (true≢false (sym is ∙ not_at)))
    (λ (apart : is_at k l f ≡ false). apart)
    (cases_Bool (is_at k l f))

-- one that takes a value of its length keeps its rights and its length
sized_kept : (i j k l : ℕ) (v : Value) (es : List Entry)
    → size_of v ≡ size_of (unwrap_or (object_at k l es) (ReadOnly, One 0)).1
    → option_map sized (object_at i j (map (with_value k l v) es)) ≡ option_map sized (object_at i j es)
sized_kept i j k l v [] size = refl
sized_kept i j k l v (e ∷ es) size =
    let w : Entry = with_value k l v e in
    let rest : List Entry = map (with_value k l v) es in
    ⊎_elim
    (λ (at : is_at k l e ≡ true).
    let own : size_of v ≡ size_of e.value =
    size ∙ ap (λ (o : Option (Rights × Value)). size_of (unwrap_or o (ReadOnly, One 0)).1)
    (here_at k l e es at) in
    ⊎_elim
    (λ (here : is_at i j e ≡ true).
    ap (λ (o : Option (Rights × Value)). option_map sized o)
    (here_at i j w rest (at_kept (is_at k l e) v e i j ∙ here))
    ∙ ap (λ (b : Bool). Some (sized (told (cond b (record e { value = v }) e)))) at
    ∙ ap (λ (n : ℕ). Some (e.rights, n)) own
    ∙ sym (ap (λ (o : Option (Rights × Value)). option_map sized o) (here_at i j e es here)))
    (λ (elsewhere : is_at i j e ≡ false).
    ap (λ (o : Option (Rights × Value)). option_map sized o)
    (there_at i j w rest (at_kept (is_at k l e) v e i j ∙ elsewhere)
    ∙ apart_kept i j k l v es (two_places i j k l e at elsewhere)
    ∙ sym (there_at i j e es elsewhere)))
    (cases_Bool (is_at i j e)))
    (λ (not_at : is_at k l e ≡ false).
    ⊎_elim
    (λ (here : is_at i j e ≡ true).
    ap (λ (o : Option (Rights × Value)). option_map sized o)
    (here_at i j w rest (at_kept (is_at k l e) v e i j ∙ here))
    ∙ ap (λ (b : Bool). Some (sized (told (cond b (record e { value = v }) e)))) not_at
    ∙ sym (ap (λ (o : Option (Rights × Value)). option_map sized o) (here_at i j e es here)))
    (λ (elsewhere : is_at i j e ≡ false).
    ap (λ (o : Option (Rights × Value)). option_map sized o)
    (there_at i j w rest (at_kept (is_at k l e) v e i j ∙ elsewhere))
    ∙ sized_kept i j k l v es
    (size ∙ ap (λ (o : Option (Rights × Value)). size_of (unwrap_or o (ReadOnly, One 0)).1)
    (there_at k l e es not_at))
    ∙ sym (ap (λ (o : Option (Rights × Value)). option_map sized o) (there_at i j e es elsewhere)))
    (cases_Bool (is_at i j e)))
    (cases_Bool (is_at k l e))

stored_shape : (i j k l : ℕ) (v : Value) (es : List Entry)
    → size_of v ≡ size_of (unwrap_or (object_at k l es) (ReadOnly, One 0)).1
    → shape_of i j (map (with_value k l v) es) ≡ shape_of i j es
stored_shape i j k l v es size =
    ap (λ (b : Bool). (b, option_map sized (object_at i j (map (with_value k l v) es))))
    (indices_kept i k l v es)
    ∙ ap (λ (o : Option (Rights × ℕ)). (has_index i es, o)) (sized_kept i j k l v es size)

-- ---- a mail

-- what holds of each row, and of the last where no test held, holds of what a table says
pub table_or_last : {R : Type 0} (P : R → Type 0) (rows : List (Bool × R)) (other : R)
    → AllByRecursion (λ (row : Bool × R). P row.1) rows
    → (AllByRecursion (λ (row : Bool × R). row.0 ≡ false) rows → P other) → P (first_fitting rows other)
table_or_last P [] other each last = last tt
table_or_last P ((true, x) ∷ rows) other each last = each.0
table_or_last P ((false, x) ∷ rows) other each last =
    table_or_last P rows other each.1 (λ none. last (refl, none))

rows_shape : {R : Type 0} (i j : ℕ) (f : R → List Entry) (old : List Entry) (answer other : R)
    (rows : List (Bool × R)) → answer ≡ first_fitting rows other
    → AllByRecursion (λ (row : Bool × R). shape_of i j (f row.1) ≡ shape_of i j old) rows
    → (AllByRecursion (λ (row : Bool × R). row.0 ≡ false) rows → shape_of i j (f other) ≡ shape_of i j old)
    → shape_of i j (f answer) ≡ shape_of i j old
rows_shape {R} i j f old answer other rows is each last =
    subst (λ (a : R). shape_of i j (f a) ≡ shape_of i j old) (sym is)
    (table_or_last (λ (a : R). shape_of i j (f a) ≡ shape_of i j old) rows other each last)

-- a download that is done has the length of the old value
same_length : (u d q : Bool) → not (u || d) ≡ false → (d && not q) ≡ false → u ≡ false → q ≡ true
same_length true d q some fits upload = absurd (true≢false upload)
same_length false true true some fits upload = refl
same_length false true false some fits upload = absurd (true≢false fits)
same_length false false q some fits upload = absurd (true≢false some)

mail_shape : (i j : ℕ) (m : Mail) (objects : List Entry)
    → shape_of i j (taken_objects m (mail_answer m objects) objects) ≡ shape_of i j objects
unfolding mail_answer
mail_shape i j m objects =
    let object : Rights × Value = unwrap_or (named m.sdo objects) (ReadOnly, One 0) in
    rows_shape i j (λ a. taken_objects m a objects) objects (mail_answer m objects) _ (mail_rows m objects)
    refl (refl, (refl, (refl, (refl, (refl, (refl, (refl, (refl, tt))))))))
    (λ none.
    let second = none.1 in
    let seventh = none.1.1.1.1.1.1 in
    stored_shape i j (index m.sdo) (sub m.sdo) (new_value m.sdo) objects
    (eqb-true (size_of (new_value m.sdo)) (size_of object.1)
    (same_length (is_upload m.sdo) (is_download m.sdo) (eqb (size_of (new_value m.sdo)) (size_of object.1))
    second.0 seventh.0 seventh.1.0)))

-- ---- a step

either_shape : (i j : ℕ) (old : List Entry) (b : Bool) (x y : SlaveState)
    → shape_of i j x.application.objects ≡ shape_of i j old
    → shape_of i j y.application.objects ≡ shape_of i j old
    → shape_of i j (cond b x y).application.objects ≡ shape_of i j old
either_shape i j old true x y first second = first
either_shape i j old false x y first second = second

mail_step_shape : (i j : ℕ) (s : SlaveState)
    → shape_of i j (mail_step s).application.objects ≡ shape_of i j s.application.objects
unfolding mail_step
mail_step_shape i j s =
    let taken : SlaveState = record s { controller = with_mail_taken s.controller 0 } in
    let bytes : List ℕ = request_bytes s.controller in
    either_shape i j s.application.objects (can_answer s.controller && has_request s.controller)
    (after_bytes bytes taken) s
    (either_shape i j s.application.objects (is_dropped (has_sii taken.controller.memory) s.application.kept bytes) taken
    (after_mail (mail_of bytes) taken) refl (mail_shape i j (mail_of bytes) s.application.objects))
    refl

-- a new state leaves the objects
al_rows_objects : {R : Type 0} (s : SlaveState) (f : R → SlaveState) (answer other : R)
    (rows : List (Bool × R)) → answer ≡ first_fitting rows other
    → AllByRecursion (λ (row : Bool × R). (f row.1).application.objects ≡ s.application.objects) rows
    → (f other).application.objects ≡ s.application.objects
    → (f answer).application.objects ≡ s.application.objects
al_rows_objects {R} s f answer other rows is each last =
    subst (λ (a : R). (f a).application.objects ≡ s.application.objects) (sym is)
    (table_holds (λ (a : R). (f a).application.objects ≡ s.application.objects) rows other each last)

al_answer_objects : (s : SlaveState) (control : ℕ)
    → (with_al_answer s (al_answer s control)).application.objects ≡ s.application.objects
unfolding al_answer
al_answer_objects s control =
    al_rows_objects s (λ a. with_al_answer s a) (al_answer s control) _ (al_rows s control) refl
    (refl, (refl, (refl, (refl, (refl, (refl, (refl, (refl, tt)))))))) refl

asked_objects : (b : Bool) (control : ℕ) (s : SlaveState)
    → (after_request (cond b (Some control) None) s).application.objects ≡ s.application.objects
asked_objects true control s = al_answer_objects s control
asked_objects false control s = refl

pub al_objects : (s : SlaveState) → (al_step s).application.objects ≡ s.application.objects
unfolding al_step
al_objects s =
    asked_objects s.controller.written (word_at s.controller.memory 288)
    (record s { controller = with_control_taken s.controller })

pub step_shape : (i j : ℕ) (s : SlaveState)
    → shape_of i j (step s).application.objects ≡ shape_of i j s.application.objects
unfolding step
step_shape i j s =
    mail_step_shape i j (al_step s) ∙ ap (λ (es : List Entry). shape_of i j es) (al_objects s)

steps_shape : (i j n : ℕ) (s : SlaveState)
    → shape_of i j (steps_of n s).application.objects ≡ shape_of i j s.application.objects
steps_shape i j zero s = refl
steps_shape i j (suc n) s = steps_shape i j n (step s) ∙ step_shape i j s

-- ---- a call

-- the object had this shape at all times
abbrev pub HadShape : ℕ → ℕ → Shape → History → Type 0
HadShape i j shape h =
    AllByRecursion (λ (t : SlaveState). shape_of i j t.application.objects ≡ shape) (times_of h)

trip_shape : (i j : ℕ) (shape : Shape) (h later : History) (d : DatagramRecord) (answer : Answer)
    → Asks SlaveTrips h d answer later → HadShape i j shape h → HadShape i j shape later
trip_shape i j shape h later d answer asks had =
    let made = asks.made in
    let x : SlaveState =
    with_controller h.now (fared made.fate h.now.controller (d ∷ [])).state in
    subst (λ (y : History). HadShape i j shape y) (sym made.later_is)
    (steps_shape i j made.fate.steps x ∙ had.0, had)

shape_at : (i j : ℕ) (shape : Shape) (later between : History) → later ≡ between → HadShape i j shape between
    → HadShape i j shape later
shape_at i j shape later between is had = subst (λ (y : History). HadShape i j shape y) (sym is) had

pub runs_shape : (n i j : ℕ) (shape : Shape) (asked : Sdo) (p last : Known) (h later : History)
    (result : Result Mail MasterFault) → HadShape i j shape h
    → Runs SlaveTrips h (asking asked) p n result last later → HadShape i j shape later
unfolding Runs
runs_shape zero i j shape asked p last h later result had (result_is, last_is, later_is) =
    shape_at i j shape later h later_is had
runs_shape (suc n) i j shape asked p last h later result had (Err fault, learned, between, step, left) =
    shape_at i j shape later between left.2
    (trip_shape i j shape h between (next_sent asked p) step.answer step.asks had)
runs_shape (suc n) i j shape asked p last h later result had (Ok (Some mail), learned, between, step, left) =
    shape_at i j shape later between left.2
    (trip_shape i j shape h between (next_sent asked p) step.answer step.asks had)
runs_shape (suc n) i j shape asked p last h later result had (Ok None, learned, between, step, left) =
    runs_shape n i j shape asked learned last between later result
    (trip_shape i j shape h between (next_sent asked p) step.answer step.asks had) left

-- ---- what a download comes to

-- it is what the objects said at all times
all_say : (i j : ℕ) (v : Value) (shape : Shape) (result : Result (Unit {0}) MasterFault) (t : SlaveState)
    (ss : List SlaveState) → result ≡ download_of i j v t.application.objects
    → shape_of i j t.application.objects ≡ shape
    → AllByRecursion (λ (u : SlaveState). shape_of i j u.application.objects ≡ shape) ss
    → AllByRecursion (λ (u : SlaveState). result ≡ download_of i j v u.application.objects) ss
all_say i j v shape result t ss says is all =
    each_so (λ (u : SlaveState). shape_of i j u.application.objects ≡ shape)
    (λ (u : SlaveState). result ≡ download_of i j v u.application.objects) ss
    (λ u so. says ∙ same_download i j v t.application.objects u.application.objects (is ∙ sym so)) all

-- at its end the slave has stored it, or holds the objects that it had
sum_map : (A B C : Type 0) → (B → C) → A ⊎ B → A ⊎ C
sum_map A B C f (inl a) = inl a
sum_map A B C f (inr b) = inr (f b)

pub said_throughout : (peer peer_later : Peer) (i j : ℕ) (v : Value) (limit : ℕ) (s : SlaveState)
    (result : Result (Unit {0}) MasterFault) (later : History) → IsPeer peer → IsOfPeer peer s
    → IsRequest (Download i j v)
    → IsSure SlaveTrips (begun_at s) peer (downloading i j v) limit result peer_later later
    → HasNoAnswer result
    ⊎ AllByRecursion (λ (u : SlaveState). result ≡ download_of i j v u.application.objects) (times_of later)
said_throughout peer peer_later i j v limit s result later peer_is is fits sure =
    let shape : Shape = shape_of i j s.application.objects in
    let had : HadShape i j shape later =
    runs_shape limit i j shape (Download i j v) (begun peer) sure.last (begun_at s) later sure.answer
    (refl, tt) sure.runs in
    sum_map (HasNoAnswer result) (OneIs (IsStored i j v result later.now) (times_of later))
    (AllByRecursion (λ (u : SlaveState). result ≡ download_of i j v u.application.objects) (times_of later))
    (λ one.
    let at = one_found (IsStored i j v result later.now)
    (λ (t : SlaveState). shape_of i j t.application.objects ≡ shape) (times_of later) one had in
    all_say i j v shape result at.slave (times_of later) at.first.result_is at.second had)
    (download_recovers peer peer_later i j v limit s result later peer_is is fits sure)
