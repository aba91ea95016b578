-- A datagram that was put is a question that was asked.
use Rattle.std.proofs.Common.{◌≡◌, ap, sym, refl, ◌∙◌, Bool, true, false, cond, ◌==◌, nat_lt, nat_eq, not, ℕ}
use Rattle.std.proofs.Common.{List, [], ◌∷◌, length, None, Result, Ok, Err, arith}
use Rattle.std.specs.Cmp.Lexicographic.{pointwise}
use Rattle.ec_wire.specs.Datagram.{DatagramRecord, nth}
use Rattle.ec_master.specs.Ports.{Trips}
use Rattle.ec_services.specs.Ask.{Answer, told_by, Question, IsAsked, write, write_decides, done}
use Rattle.ec_services.specs.declared.fault.MasterFault.{MasterFault}
use Rattle.ec_services.specs.declared.fault.MasterFault.TheVariants.{NoSlave, BadAnswer}
use Rattle.ec_run.specs.Ask.{IsPut, joined_by, one_counted, one_or_two, held_by}
use Rattle.ec_run.specs.Step.{holds, holds_decides, behind_question, behind_decides}

-- what the joined frame says is what the answer decides
asked_by : {P : Type 0} (trips : Trips P) (before later : P) (q : Question (Unit {0}))
    (joined : Result (List DatagramRecord) MasterFault)
    (says : Result (List DatagramRecord) MasterFault → Result (Unit {0}) MasterFault)
    → ((answer : Answer) → q.decides answer ≡ done {A = Unit {0}} (says (joined_by answer)))
    → IsPut trips before q.sent joined later → IsAsked trips before q (done (says joined)) later
asked_by trips before later q joined says decides puts = record {
  answer = puts.answer;
  asks = puts.asks;
  decides = ap (λ (j : Result (List DatagramRecord) MasterFault). done {A = Unit {0}} (says j)) puts.tells
      ∙ sym (decides puts.answer);
}

two-rows : (p q : Bool) (x y : MasterFault)
    → cond p (Err x) (cond q (Err y) (Ok None)) ≡ done {A = Unit {0}} (cond p (Err x) (cond q (Err y)
    (Ok tt)))
two-rows true q x y = refl
two-rows false true x y = refl
two-rows false false x y = refl

three-rows : (p q r : Bool) (x y z : MasterFault)
    → cond p (Err x) (cond q (Err y) (cond r (Err z) (Ok None)))
    ≡ done {A = Unit {0}} (cond p (Err x) (cond q (Err y) (cond r (Err z) (Ok tt))))
three-rows true q r x y z = refl
three-rows false true r x y z = refl
three-rows false false true x y z = refl
three-rows false false false x y z = refl

write-says : (answer : Answer) → write_decides {A = Unit {0}} answer ≡ done (one_counted (joined_by answer))
write-says (Err fault) = refl
write-says (Ok back) =
    two-rows ((told_by back).counter == 0) (nat_lt 1 (told_by back).counter) NoSlave BadAnswer

holds-says : (bytes : List ℕ) (answer : Answer)
    → holds_decides bytes answer ≡ done (held_by bytes (joined_by answer))
holds-says bytes (Err fault) = refl
holds-says bytes (Ok back) =
    three-rows ((told_by back).counter == 0) (nat_lt 1 (told_by back).counter)
    (not (pointwise nat_eq (told_by back).payload bytes)) NoSlave BadAnswer BadAnswer

pub written : {P : Type 0} (trips : Trips P) (before later : P) (sent : DatagramRecord)
    (joined : Result (List DatagramRecord) MasterFault) → IsPut trips before sent joined later
    → IsAsked trips before (write {A = Unit {0}} sent) (done (one_counted joined)) later
written trips before later sent joined puts =
    asked_by trips before later (write sent) joined one_counted write-says puts

pub read_back : {P : Type 0} (trips : Trips P) (before later : P) (station ado : ℕ) (bytes : List ℕ)
    (joined : Result (List DatagramRecord) MasterFault)
    → IsPut trips before (holds station ado bytes).sent joined later
    → IsAsked trips before (holds station ado bytes) (done (held_by bytes joined)) later
read_back trips before later station ado bytes joined puts =
    asked_by trips before later (holds station ado bytes) joined (held_by bytes) (holds-says bytes) puts
