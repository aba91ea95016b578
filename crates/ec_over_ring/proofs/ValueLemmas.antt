-- What Ok of a call says of the object that it names.
use Rattle.std.proofs.Common.{◌≡◌, ℕ, Bool, true, false, cond, eqb, List, [], ◌∷◌, Option, None, Some}
use Rattle.std.proofs.Common.{Result, Ok, Err}
use Rattle.std.proofs.Common.{sym, ap, ◌∙◌, inl, inr, refl}
use Rattle.std.specs.Prelude.{not}
use Rattle.std.specs.Option.{option_map}
use Rattle.std.proofs.lemmas.Bool.{eqb-true}
use Rattle.ec_app.specs.Objects.{has_index, object_at}
use Rattle.ec_app.specs.State.{SlaveState}
use Rattle.ec_app.specs.Value.{may_read, may_write, size_of}
use Rattle.ec_app.specs.declared.objects.Entry.{Entry}
use Rattle.ec_app.specs.declared.sdo.Sdo.TheVariants.{Upload, Download}
use Rattle.ec_app.specs.declared.value.Rights.{Rights}
use Rattle.ec_app.specs.declared.value.Value.{Value}
use Rattle.ec_services.specs.Mailbox.{IsPeer}
use Rattle.ec_services.specs.Surely.{IsSure}
use Rattle.ec_services.specs.Transfer.{uploading, downloading}
use Rattle.ec_services.specs.declared.fault.MasterFault.{MasterFault}
use Rattle.ec_services.specs.declared.mailbox.Peer.{Peer}
use Rattle.ec_over_ring.specs.Recovery.{History, IsOfPeer, IsStored, OneIs, SlaveTrips, begun_at}
use Rattle.ec_over_ring.specs.Recovery.{times_of, value_at}
use Rattle.ec_over_ring.specs.Transfers.{IsRequest, download_of, upload_of}
use Rattle.ec_over_ring.proofs.ObjectLemmas.{download_by, holds_value, upload_by}
use Rattle.ec_over_ring.proofs.RecoveryLemmas.{download_recovers, upload_recovers}

-- ---- an upload

-- the value that it brings
three_tests : (a b : Bool) (v w : Value) (e f : MasterFault)
    → cond (not a) (Err e) (cond (not b) (Err f) (Ok v)) ≡ Ok w → v ≡ w
three_tests true true v w e f is = cc
three_tests true false v w e f is = absurd (cc)
three_tests false b v w e f is = absurd (cc)

told_value : (there : Bool) (o : Option (Rights × Value)) (v : Value) → upload_by there o ≡ Ok v
    → option_map (λ (x : Rights × Value). x.1) o ≡ Some v
unfolding upload_by
told_value true None v is = absurd (cc)
told_value false None v is = absurd (cc)
told_value there (Some x) v is =
    ap (λ (w : Value). Some w) (three_tests there (may_read x.0) x.1 v _ _ is)

held_value : (i j : ℕ) (es : List Entry) (v : Value) → upload_of i j es ≡ Ok v → value_at i j es ≡ Some v
unfolding upload_by
held_value i j es v is = told_value (has_index i es) (object_at i j es) v is

-- the object holds it at the end of the call
pub upload_held : (peer peer_later : Peer) (i j limit : ℕ) (s : SlaveState) (value : Value) (later : History)
    → IsPeer peer → IsOfPeer peer s → IsRequest (Upload i j)
    → IsSure SlaveTrips (begun_at s) peer (uploading i j) limit (Ok value) peer_later later
    → value_at i j later.now.application.objects ≡ Some value
upload_held peer peer_later i j limit s value later peer_is is fits sure =
    elim (upload_recovers peer peer_later i j limit s (Ok value) later peer_is is fits sure) [
      | inl none ↦ absurd none
      | inr says ↦ held_value i j later.now.application.objects value (sym says)
    ]

-- ---- a download

abbrev tested : Bool → Bool → Bool → MasterFault → MasterFault → MasterFault → Result (Unit {0}) MasterFault
tested a b c e f g = cond (not a) (Err e) (cond (not b) (Err f) (cond (not c) (Err g) (Ok tt)))

four_tests : (a b c : Bool) (e f g : MasterFault) → tested a b c e f g ≡ Ok tt
    → (b ≡ true) × (c ≡ true)
four_tests true true true e f g is = (refl, refl)
four_tests true true false e f g is = absurd (cc)
four_tests true false c e f g is = absurd (cc)
four_tests false b c e f g is = absurd (cc)

-- the object that it names may be written, and has the value's length
record IsWritable (i j : ℕ) (v : Value) (es : List Entry) : Type 0 where
  rights : Rights
  old : Value
  there : object_at i j es ≡ Some (rights, old)
  may : may_write rights ≡ true
  size : size_of v ≡ size_of old

no_object : (v : Value) (b : Bool) → download_by v b None ≡ Ok tt → ⊥
unfolding download_by
no_object v true is = absurd (cc)
no_object v false is = absurd (cc)

done_by : (i j : ℕ) (v : Value) (es : List Entry) (o : Option (Rights × Value)) → object_at i j es ≡ o
    → download_by v (has_index i es) o ≡ Ok tt → IsWritable i j v es
unfolding download_by
done_by i j v es None at is = absurd (no_object v (has_index i es) is)
done_by i j v es (Some x) at is =
    let parts = four_tests (has_index i es) (may_write x.0) (eqb (size_of v) (size_of x.1)) _ _ _ is in
    record {
      rights = x.0;
      old = x.1;
      there = at;
      may = parts.0;
      size = eqb-true (size_of v) (size_of x.1) parts.1;
    }

writable_of : (i j : ℕ) (v : Value) (es : List Entry) → download_of i j v es ≡ Ok tt → IsWritable i j v es
unfolding download_by
writable_of i j v es is = done_by i j v es (object_at i j es) refl is

stored_value : (i j : ℕ) (v : Value) (s t : SlaveState) → IsStored i j v (Ok tt) s t
    → value_at i j s.application.objects ≡ Some v
stored_value i j v s t stored =
    let es : List Entry = t.application.objects in
    let w : IsWritable i j v es = writable_of i j v es (sym stored.result_is) in
    ap (λ (xs : List Entry). value_at i j xs) stored.stored
    ∙ ap (λ (o : Option (Rights × Value)). option_map (λ (x : Rights × Value). x.1) o)
    (holds_value i j es w.rights v w.old w.there w.may w.size)

pub one_stored : (i j : ℕ) (v : Value) (s : SlaveState) (ss : List SlaveState)
    → OneIs (IsStored i j v (Ok tt) s) ss → value_at i j s.application.objects ≡ Some v
one_stored i j v s [] one = absurd one
one_stored i j v s (t ∷ ss) (inl here) = stored_value i j v s t here
one_stored i j v s (t ∷ ss) (inr there) = one_stored i j v s ss there

-- the object holds the value at the end of the call
pub download_held : (peer peer_later : Peer) (i j : ℕ) (v : Value) (limit : ℕ) (s : SlaveState)
    (later : History) → IsPeer peer → IsOfPeer peer s → IsRequest (Download i j v)
    → IsSure SlaveTrips (begun_at s) peer (downloading i j v) limit (Ok tt) peer_later later
    → value_at i j later.now.application.objects ≡ Some v
download_held peer peer_later i j v limit s later peer_is is fits sure =
    elim (download_recovers peer peer_later i j v limit s (Ok tt) later peer_is is fits sure) [
      | inl none ↦ absurd none
      | inr one ↦ one_stored i j v later.now (times_of later) one
    ]
