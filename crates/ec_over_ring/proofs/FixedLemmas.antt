-- No mail and no new state changes the value of an object that may only be read.
use Rattle.std.proofs.Common.{◌≡◌, ℕ, Bool, true, false, cond, eqb, ◌&&◌, ◌||◌, List}
use Rattle.std.proofs.Common.{Option, Some, refl, sym, ap, ◌∙◌, subst, ⊎_elim, true≢false}
use Rattle.std.specs.Prelude.{not}
use Rattle.std.specs.List.{AllByRecursion}
use Rattle.std.specs.Option.{unwrap_or}
use Rattle.std.proofs.lemmas.Bool.{and_parts, cases_Bool, eqb-true}
use Rattle.ec_areas.specs.Ranges.{has_sii}
use Rattle.ec_esc.specs.Application.{with_mail_taken}
use Rattle.ec_app.specs.AlStep.{al_step}
use Rattle.ec_app.specs.Mail.{mail_of}
use Rattle.ec_app.specs.MailStep.{after_bytes, after_mail, can_answer, has_request, is_download, is_dropped}
use Rattle.ec_app.specs.MailStep.{is_upload, mail_answer, mail_rows, mail_step, named, new_value}
use Rattle.ec_app.specs.MailStep.{objects_after as taken_objects, request_bytes}
use Rattle.ec_app.specs.Objects.{is_at, object_at}
use Rattle.ec_app.specs.Sdo.{index, sub}
use Rattle.ec_app.specs.Slave.{step}
use Rattle.ec_app.specs.State.{SlaveState}
use Rattle.ec_app.specs.Table.{first_fitting}
use Rattle.ec_app.specs.Value.{may_write}
use Rattle.ec_app.specs.declared.mail.Mail.{Mail}
use Rattle.ec_app.specs.declared.objects.Entry.{Entry}
use Rattle.ec_app.specs.declared.value.Rights.{Rights}
use Rattle.ec_app.specs.declared.value.Rights.TheVariants.{ReadOnly}
use Rattle.ec_app.specs.declared.value.Value.{Value}
use Rattle.ec_app.specs.declared.value.Value.TheVariants.{One}
use Rattle.ec_over_ring.proofs.ShapeLemmas.{al_objects, apart_kept, table_or_last}

-- the object at an index and a subindex may only be read, and holds this value
abbrev pub HoldsFixed : ℕ → ℕ → Value → SlaveState → Type 0
HoldsFixed i j v s = object_at i j s.application.objects ≡ Some (ReadOnly, v)

-- ---- a mail

-- a download that is done is of an object that may be written
may_then : (u d w : Bool) → not (u || d) ≡ false → (d && not w) ≡ false → u ≡ false → w ≡ true
may_then true d w some fits upload = absurd (true≢false upload)
may_then false true true some fits upload = refl
may_then false true false some fits upload = absurd (true≢false fits)
may_then false false w some fits upload = absurd (true≢false some)

-- so it stands at another place
elsewhere : (i j k l : ℕ) (v : Value) (es : List Entry) → object_at i j es ≡ Some (ReadOnly, v)
    → may_write (unwrap_or (object_at k l es) (ReadOnly, One 0)).0 ≡ true → (f : Entry)
    → is_at i j f ≡ true → is_at k l f ≡ false
elsewhere i j k l v es at may f here =
    ⊎_elim
    (λ (there : is_at k l f ≡ true).
    let first = and_parts (eqb f.index i) (eqb f.sub j) here in
    let second = and_parts (eqb f.index k) (eqb f.sub l) there in
    let index_is : k ≡ i = sym (eqb-true f.index k second.0) ∙ eqb-true f.index i first.0 in
    let sub_is : l ≡ j = sym (eqb-true f.sub l second.1) ∙ eqb-true f.sub j first.1 in
    let same : object_at k l es ≡ Some (ReadOnly, v) =
    ap (λ (n : ℕ). object_at n l es) index_is ∙ ap (λ (n : ℕ). object_at i n es) sub_is ∙ at in
    absurd (true≢false (sym may
    ∙ ap (λ (o : Option (Rights × Value)). may_write (unwrap_or o (ReadOnly, One 0)).0) same)))
    (λ (apart : is_at k l f ≡ false). apart)
    (cases_Bool (is_at k l f))

rows_fixed : {R : Type 0} (i j : ℕ) (v : Value) (f : R → List Entry) (answer other : R)
    (rows : List (Bool × R)) → answer ≡ first_fitting rows other
    → AllByRecursion (λ (row : Bool × R). object_at i j (f row.1) ≡ Some (ReadOnly, v)) rows
    → (AllByRecursion (λ (row : Bool × R). row.0 ≡ false) rows → object_at i j (f other) ≡ Some (ReadOnly, v))
    → object_at i j (f answer) ≡ Some (ReadOnly, v)
rows_fixed {R} i j v f answer other rows is each last =
    subst (λ (a : R). object_at i j (f a) ≡ Some (ReadOnly, v)) (sym is)
    (table_or_last (λ (a : R). object_at i j (f a) ≡ Some (ReadOnly, v)) rows other each last)

mail_fixed : (i j : ℕ) (v : Value) (m : Mail) (es : List Entry) → object_at i j es ≡ Some (ReadOnly, v)
    → object_at i j (taken_objects m (mail_answer m es) es) ≡ Some (ReadOnly, v)
unfolding mail_answer
mail_fixed i j v m es at =
    let object : Rights × Value = unwrap_or (named m.sdo es) (ReadOnly, One 0) in
    rows_fixed i j v (λ a. taken_objects m a es) (mail_answer m es) _ (mail_rows m es) refl
    (at, (at, (at, (at, (at, (at, (at, (at, tt))))))))
    (λ none.
    let second = none.1 in
    let sixth = none.1.1.1.1.1 in
    let may : may_write object.0 ≡ true =
    may_then (is_upload m.sdo) (is_download m.sdo) (may_write object.0) second.0 sixth.0 sixth.1.1.0 in
    apart_kept i j (index m.sdo) (sub m.sdo) (new_value m.sdo) es
    (elsewhere i j (index m.sdo) (sub m.sdo) v es at may)
    ∙ at)

-- ---- a step

either_fixed : (i j : ℕ) (v : Value) (b : Bool) (x y : SlaveState) → HoldsFixed i j v x → HoldsFixed i j v y
    → HoldsFixed i j v (cond b x y)
either_fixed i j v true x y first second = first
either_fixed i j v false x y first second = second

mail_step_fixed : (i j : ℕ) (v : Value) (s : SlaveState) → HoldsFixed i j v s
    → HoldsFixed i j v (mail_step s)
unfolding mail_step
mail_step_fixed i j v s at =
    let taken : SlaveState = record s { controller = with_mail_taken s.controller 0 } in
    let bytes : List ℕ = request_bytes s.controller in
    either_fixed i j v (can_answer s.controller && has_request s.controller) (after_bytes bytes taken) s
    (either_fixed i j v (is_dropped (has_sii taken.controller.memory) s.application.kept bytes) taken
    (after_mail (mail_of bytes) taken) at (mail_fixed i j v (mail_of bytes) s.application.objects at))
    at

pub step_fixed : (i j : ℕ) (v : Value) (s : SlaveState) → HoldsFixed i j v s → HoldsFixed i j v (step s)
unfolding step
step_fixed i j v s at =
    mail_step_fixed i j v (al_step s) (ap (λ (es : List Entry). object_at i j es) (al_objects s) ∙ at)
