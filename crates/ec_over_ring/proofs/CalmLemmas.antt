-- A trip of which nothing is lost: its answer is the slave's own pass, which leaves the slave.
use Rattle.std.proofs.Common.{◌≡◌, ℕ, ◌≤◌, Bool, true, false, cond, [], ◌∷◌}
use Rattle.std.proofs.Common.{None, Some, Result, Ok, Err, refl, sym, ap, ◌∙◌, subst, inl, inr}
use Rattle.std.specs.Prelude.{not}
use Rattle.ec_wire.specs.Datagram.{DatagramRecord}
use Rattle.ec_esc.specs.Pass.{Passed, PassedFrame, frame_pass, pass}
use Rattle.ec_esc.specs.State.{ControllerState}
use Rattle.ec_app.specs.Lending.{with_controller}
use Rattle.ec_ring.specs.declared.port.PortFault.{PortFault}
use Rattle.ec_ring.specs.declared.weather.Came.{Came}
use Rattle.ec_master.specs.Ports.{came_or}
use Rattle.ec_services.specs.Ask.{Answer, Asks, Brings}
use Rattle.ec_over_ring.specs.Question.{IsByStation, Tells}
use Rattle.ec_over_ring.specs.Recovery.{CalmTrips, ComesSo, Fared, Fate, History, IsCalm, SlaveTrips, fared}
use Rattle.ec_over_ring.specs.Recovery.{steps_of}
use Rattle.ec_over_ring.proofs.FateLemmas.{behind, comes_as}
use Rattle.ec_over_ring.proofs.LineLemmas.{IsPassed, passed_datagram}
use Rattle.ec_over_ring.proofs.QuestionLemmas.{told, underway_of}
use Rattle.ec_over_ring.proofs.TripLemmas.{OneBrings}

-- ---- both copies

record Calm (d e : DatagramRecord) (left : ControllerState) (f : Fared) : Type 0 where
  brings : OneBrings d e (came_or f.came.a (d ∷ [])) (came_or f.came.b (d ∷ []))
  state : f.state ≡ left

-- copy A passes the slave
by_a : (lost_b turned : Bool) (d e : DatagramRecord) (left : ControllerState)
    → Calm d e left (record {
      came = record { a = Some (e ∷ []); b = cond lost_b None (Some (comes_as turned d)) };
      state = left;
    })
by_a true b d e left =
    record { brings = inl (record { bit = d.circulating; first = refl; second = refl }); state = refl }
by_a false true d e left =
    record { brings = inl (record { bit = true; first = refl; second = refl }); state = refl }
by_a false false d e left =
    record { brings = inl (record { bit = d.circulating; first = refl; second = refl }); state = refl }

-- copy B does
by_b : (lost_a turned : Bool) (d e : DatagramRecord) (left : ControllerState)
    → Calm d e left (record {
      came = record { a = cond lost_a None (Some (d ∷ [])); b = Some (comes_as turned e) };
      state = left;
    })
by_b true true d e left =
    record { brings = inr (record { bit = true; first = refl; second = refl }); state = refl }
by_b true false d e left =
    record { brings = inr (record { bit = e.circulating; first = refl; second = refl }); state = refl }
by_b false true d e left =
    record { brings = inr (record { bit = true; first = refl; second = refl }); state = refl }
by_b false false d e left =
    record { brings = inr (record { bit = e.circulating; first = refl; second = refl }); state = refl }

calm_by : (passes_a b_first turned lost_a lost_b : Bool) (steps : ℕ) (c left : ControllerState)
    (d e : DatagramRecord) → cond passes_a lost_a lost_b ≡ false
    → pass c d ≡ record { datagram = e; state = left }
    → Calm d e left
    (fared (record {
      passes_a = passes_a;
      passes_b = not passes_a;
      b_first = b_first;
      turned = turned;
      lost_a = lost_a;
      lost_b = lost_b;
      steps = steps;
    }) c (d ∷ []))
calm_by true true b lost_a lost_b steps c left d e back is =
    subst (λ (l : Bool). Calm d e left (record {
      came = record {
        a = cond l None (Some (frame_pass c (d ∷ [])).frame);
        b = cond lost_b None (Some (comes_as b d));
      };
      state = (frame_pass c (d ∷ [])).state;
    })) (sym back)
    (subst (λ (p : PassedFrame). Calm d e left (record {
      came = record { a = Some p.frame; b = cond lost_b None (Some (comes_as b d)) };
      state = p.state;
    })) (sym (behind false c left d e is)) (by_a lost_b b d e left))
calm_by true false b lost_a lost_b steps c left d e back is =
    subst (λ (l : Bool). Calm d e left (record {
      came = record {
        a = cond l None (Some (frame_pass c (d ∷ [])).frame);
        b = cond lost_b None (Some (comes_as b d));
      };
      state = (frame_pass c (d ∷ [])).state;
    })) (sym back)
    (subst (λ (p : PassedFrame). Calm d e left (record {
      came = record { a = Some p.frame; b = cond lost_b None (Some (comes_as b d)) };
      state = p.state;
    })) (sym (behind false c left d e is)) (by_a lost_b b d e left))
calm_by false true b lost_a lost_b steps c left d e back is =
    subst (λ (l : Bool). Calm d e left (record {
      came = record {
        a = cond lost_a None (Some (d ∷ []));
        b = cond l None (Some (frame_pass c (comes_as b d)).frame);
      };
      state = (frame_pass c (comes_as b d)).state;
    })) (sym back)
    (subst (λ (p : PassedFrame). Calm d e left (record {
      came = record { a = cond lost_a None (Some (d ∷ [])); b = Some p.frame };
      state = p.state;
    })) (sym (behind b c left d e is)) (by_b lost_a b d e left))
calm_by false false b lost_a lost_b steps c left d e back is =
    subst (λ (l : Bool). Calm d e left (record {
      came = record {
        a = cond lost_a None (Some (d ∷ []));
        b = cond l None (Some (frame_pass c (comes_as b d)).frame);
      };
      state = (frame_pass c (comes_as b d)).state;
    })) (sym back)
    (subst (λ (p : PassedFrame). Calm d e left (record {
      came = record { a = cond lost_a None (Some (d ∷ [])); b = Some p.frame };
      state = p.state;
    })) (sym (behind b c left d e is)) (by_b lost_a b d e left))

calm_fate : (f : Fate) (c left : ControllerState) (d e : DatagramRecord) → IsCalm f
    → pass c d ≡ record { datagram = e; state = left } → Calm d e left (fared f c (d ∷ []))
calm_fate f c left d e calm is =
    subst (λ (b : Bool). Calm d e left (fared (record f { passes_b = b }) c (d ∷ []))) (sym calm.one)
    (calm_by f.passes_a f.b_first f.turned f.lost_a f.lost_b f.steps c left d e calm.back is)

-- ---- the trip

-- it tells the pass, and leaves the slave as that does and some steps
pub record IsCalmTrip (h later : History) (e : DatagramRecord) (left : ControllerState) (answer : Answer)
    : Type 0 where
  pub tells : Tells e answer
  pub steps : ℕ
  pub some : 1 ≤ steps
  pub now : later.now ≡ steps_of steps (with_controller h.now left)

tells_pass : (d e : DatagramRecord) (c left : ControllerState) (f : Fared) (came : Result Came PortFault)
    (answer : Answer) → IsByStation d → pass c d ≡ record { datagram = e; state = left } → Calm d e left f
    → came ≡ Ok f.came → Brings d came answer → Tells e answer
tells_pass d e c left f came answer asked is calm comes brings =
    told d e f.came answer
    (subst (λ (p : Passed). IsPassed d p.datagram) is (passed_datagram c d (underway_of d asked)))
    asked.counter calm.brings
    (subst (λ (x : Result Came PortFault). Brings d x answer) comes brings)

pub calm_trip : (h later : History) (d e : DatagramRecord) (left : ControllerState) (answer : Answer)
    → IsByStation d → Asks CalmTrips h d answer later
    → pass h.now.controller d ≡ record { datagram = e; state = left } → IsCalmTrip h later e left answer
calm_trip h later d e left answer asked asks is =
    let fate : Fate = asks.made.fate in
    let c : ControllerState = h.now.controller in
    let f : Fared = fared fate c (d ∷ []) in
    let calm : Calm d e left f = calm_fate fate c left d e asks.made.calm is in
    record {
      tells = tells_pass d e c left f asks.came answer asked is calm asks.made.comes asks.brings;
      steps = fate.steps;
      some = asks.made.calm.some;
      now = ap (λ (y : History). y.now) asks.made.later_is
          ∙ ap (λ (x : ControllerState). steps_of fate.steps (with_controller h.now x)) calm.state;
    }

-- and is a trip with some fate
comes_calmly : (came : Result Came PortFault) (x : Came) → came ≡ Ok x → ComesSo came x
comes_calmly (Err failed) x is = absurd (cc)
comes_calmly (Ok came) x is = cc

pub calm_asks : (h later : History) (d : DatagramRecord) (answer : Answer) → Asks CalmTrips h d answer later
    → Asks SlaveTrips h d answer later
calm_asks h later d answer asks = record {
  came = asks.came;
  made = record {
    fate = asks.made.fate;
    comes = comes_calmly asks.came (fared asks.made.fate h.now.controller (d ∷ [])).came asks.made.comes;
    later_is = asks.made.later_is;
  };
  brings = asks.brings;
}
