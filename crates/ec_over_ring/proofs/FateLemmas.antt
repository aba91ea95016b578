-- However both copies of a datagram fare at a slave, each comes back as it was sent or as a pass left it; and
-- where both joined count 1, they bring what that pass told.
use Rattle.std.proofs.Common.{◌≡◌, ℕ, ◌≤◌, Bool, true, false, cond, List, [], ◌∷◌, length}
use Rattle.std.proofs.Common.{None, Some, Result, Ok, Err, refl, sym, ap, ◌∙◌, arith, subst, inl, inr}
use Rattle.std.specs.Prelude.{◌⊎◌}
use Rattle.ec_wire.specs.Datagram.{DatagramRecord, nth}
use Rattle.ec_esc.specs.Pass.{Passed, PassedFrame, frame_pass, pass}
use Rattle.ec_esc.specs.State.{ControllerState}
use Rattle.ec_line.specs.Trip.{circulated}
use Rattle.ec_merge.specs.Bytes.{joined_bytes}
use Rattle.ec_merge.specs.Frames.{joined_frame, joined_record}
use Rattle.ec_ring.specs.declared.port.PortFault.{PortFault}
use Rattle.ec_ring.specs.declared.weather.Came.{Came}
use Rattle.ec_master.specs.Ports.{came_or}
use Rattle.ec_services.specs.Ask.{Answer, Brings, told_by}
use Rattle.ec_over_ring.specs.Recovery.{ComesSo, Fared, Fate, fared, passed_if}
use Rattle.ec_merge.proofs.Laws.{joined_unit, joined_unit_first}
use Rattle.ec_over_ring.proofs.LineLemmas.{turned, turned_pass}

-- ---- a datagram that passes a slave, and passes it again

-- the first pass leaves it so, and the slave too; another pass leaves the slave as it is then, and the
-- datagram as it was sent or as the first one did
pub record IsTwice (c : ControllerState) (d e : DatagramRecord) (left : ControllerState) : Type 0 where
  pub first : pass c d ≡ record { datagram = e; state = left }
  pub again : (pass left d ≡ record { datagram = d; state = left })
      ⊎ (pass left d ≡ record { datagram = e; state = left })

-- the data and the counter of one datagram are those of another
pub record SameTold (x e : DatagramRecord) : Type 0 where
  pub payload : x.payload ≡ e.payload
  pub counter : x.counter ≡ e.counter

-- a frame of one datagram, which tells what one of two does
pub record TellsOne (d e : DatagramRecord) (frame : List DatagramRecord) : Type 0 where
  pub x : DatagramRecord
  pub is : frame ≡ x ∷ []
  pub told : SameTold x d ⊎ SameTold x e

-- a copy behind the slave
record IsCopy (d e : DatagramRecord) (c left : ControllerState) (p : PassedFrame) : Type 0 where
  frame : TellsOne d e p.frame
  state : (p.state ≡ c) ⊎ (p.state ≡ left)

-- the frame that comes to it
abbrev pub comes_as : Bool → DatagramRecord → List DatagramRecord
comes_as circulates d = cond circulates (circulated (d ∷ [])) (d ∷ [])

-- ---- one copy

pub behind : (b : Bool) (c left : ControllerState) (d e : DatagramRecord)
    → pass c d ≡ record { datagram = e; state = left }
    → frame_pass c (comes_as b d) ≡ record { frame = comes_as b e; state = left }
unfolding frame_pass
behind false c left d e is =
    ap (λ (p : Passed). record { frame = p.datagram ∷ []; state = p.state }) is
behind true c left d e is =
    ap (λ (p : Passed). record { frame = p.datagram ∷ []; state = p.state }) (turned_pass true c d)
    ∙ ap (λ (p : Passed). record { frame = turned true p.datagram ∷ []; state = p.state }) is

tells_first : (b : Bool) (d e : DatagramRecord) → TellsOne d e (comes_as b d)
tells_first false d e = record { x = d; is = refl; told = inl (record { payload = refl; counter = refl }) }
tells_first true d e =
    record { x = turned true d; is = refl; told = inl (record { payload = refl; counter = refl }) }

tells_second : (b : Bool) (d e : DatagramRecord) → TellsOne d e (comes_as b e)
tells_second false d e = record { x = e; is = refl; told = inr (record { payload = refl; counter = refl }) }
tells_second true d e =
    record { x = turned true e; is = refl; told = inr (record { payload = refl; counter = refl }) }

-- a copy that passes
passes_first : (b : Bool) (c left : ControllerState) (d e : DatagramRecord) → IsTwice c d e left
    → IsCopy d e c left (frame_pass c (comes_as b d))
passes_first b c left d e twice =
    subst (λ (p : PassedFrame). IsCopy d e c left p) (sym (behind b c left d e twice.first))
    (record { frame = tells_second b d e; state = inr refl })

passes_again : (b : Bool) (c left : ControllerState) (d e : DatagramRecord) → IsTwice c d e left
    → (pass left d ≡ record { datagram = d; state = left })
    ⊎ (pass left d ≡ record { datagram = e; state = left })
    → IsCopy d e c left (frame_pass left (comes_as b d))
passes_again b c left d e twice (inl as_sent) =
    subst (λ (p : PassedFrame). IsCopy d e c left p) (sym (behind b left left d d as_sent))
    (record { frame = tells_first b d e; state = inr refl })
passes_again b c left d e twice (inr as_before) =
    subst (λ (p : PassedFrame). IsCopy d e c left p) (sym (behind b left left d e as_before))
    (record { frame = tells_second b d e; state = inr refl })

-- or does not
one_copy : (p b : Bool) (c left now : ControllerState) (d e : DatagramRecord) → IsTwice c d e left
    → (now ≡ c) ⊎ (now ≡ left) → IsCopy d e c left (passed_if p now (comes_as b d))
one_copy false b c left now d e twice at = record { frame = tells_first b d e; state = at }
one_copy true b c left now d e twice (inl is) =
    subst (λ (x : ControllerState). IsCopy d e c left (frame_pass x (comes_as b d))) (sym is)
    (passes_first b c left d e twice)
one_copy true b c left now d e twice (inr is) =
    subst (λ (x : ControllerState). IsCopy d e c left (frame_pass x (comes_as b d))) (sym is)
    (passes_again b c left d e twice twice.again)

-- ---- both

pub record Fares (d e : DatagramRecord) (c left : ControllerState) (f : Fared) : Type 0 where
  pub a : TellsOne d e (came_or f.came.a (d ∷ []))
  pub b : TellsOne d e (came_or f.came.b (d ∷ []))
  pub state : (f.state ≡ c) ⊎ (f.state ≡ left)

-- one that is lost changes nothing
kept_or_lost : (lost : Bool) (d e : DatagramRecord) (frame : List DatagramRecord) → TellsOne d e frame
    → TellsOne d e (came_or (cond lost None (Some frame)) (d ∷ []))
kept_or_lost true d e frame tells = tells_first false d e
kept_or_lost false d e frame tells = tells

fares_by : (passes_a passes_b b_first turned lost_a lost_b : Bool) (steps : ℕ) (c left : ControllerState)
    (d e : DatagramRecord) → IsTwice c d e left
    → Fares d e c left
    (fared (record {
      passes_a = passes_a;
      passes_b = passes_b;
      b_first = b_first;
      turned = turned;
      lost_a = lost_a;
      lost_b = lost_b;
      steps = steps;
    }) c (d ∷ []))
fares_by passes_a passes_b false turned lost_a lost_b steps c left d e twice =
    let a : IsCopy d e c left (passed_if passes_a c (d ∷ [])) =
    one_copy passes_a false c left c d e twice (inl refl) in
    let b : IsCopy d e c left
    (passed_if passes_b (passed_if passes_a c (d ∷ [])).state (comes_as turned d)) =
    one_copy passes_b turned c left _ d e twice a.state in
    record {
      a = kept_or_lost lost_a d e _ a.frame;
      b = kept_or_lost lost_b d e _ b.frame;
      state = b.state;
    }
fares_by passes_a passes_b true turned lost_a lost_b steps c left d e twice =
    let b : IsCopy d e c left (passed_if passes_b c (comes_as turned d)) =
    one_copy passes_b turned c left c d e twice (inl refl) in
    let a : IsCopy d e c left
    (passed_if passes_a (passed_if passes_b c (comes_as turned d)).state (d ∷ [])) =
    one_copy passes_a false c left _ d e twice b.state in
    record {
      a = kept_or_lost lost_a d e _ a.frame;
      b = kept_or_lost lost_b d e _ b.frame;
      state = a.state;
    }

pub fares : (f : Fate) (c left : ControllerState) (d e : DatagramRecord) → IsTwice c d e left
    → Fares d e c left (fared f c (d ∷ []))
fares f c left d e twice =
    fares_by f.passes_a f.passes_b f.b_first f.turned f.lost_a f.lost_b f.steps c left d e twice

-- ---- the answer

-- what counts 1 is one pass
pub record IsCounted (d e : DatagramRecord) : Type 0 where
  pub sent : d.counter ≡ 0
  pub once : e.counter ≤ 1
  pub size : length e.payload ≡ length d.payload

pub record IsTold (e x : DatagramRecord) : Type 0 where
  pub payload : x.payload ≡ e.payload
  pub counter : e.counter ≡ 1

joined_told : (d e x y : DatagramRecord) → SameTold x d ⊎ SameTold x e → SameTold y d ⊎ SameTold y e
    → IsCounted d e → (joined_record d x y).counter ≡ 1 → IsTold e (joined_record d x y)
joined_told d e x y (inl first) (inl second) counted one =
    let none = counted.sent in
    let a : x.counter ≡ d.counter = first.counter in
    let b : y.counter ≡ d.counter = second.counter in
    absurd (omega (arith, none, a, b, one))
joined_told d e x y (inr first) (inl second) counted one =
    let none = counted.sent in
    let once = counted.once in
    let a : x.counter ≡ e.counter = first.counter in
    let b : y.counter ≡ d.counter = second.counter in
    record {
      payload = ap (λ (bytes : List ℕ). joined_bytes d.payload bytes y.payload) first.payload
          ∙ ap (λ (bytes : List ℕ). joined_bytes d.payload e.payload bytes) second.payload
          ∙ joined_unit d.payload e.payload counted.size;
      counter = omega (arith, none, once, a, b, one);
    }
joined_told d e x y (inl first) (inr second) counted one =
    let none = counted.sent in
    let once = counted.once in
    let a : x.counter ≡ d.counter = first.counter in
    let b : y.counter ≡ e.counter = second.counter in
    record {
      payload = ap (λ (bytes : List ℕ). joined_bytes d.payload bytes y.payload) first.payload
          ∙ ap (λ (bytes : List ℕ). joined_bytes d.payload d.payload bytes) second.payload
          ∙ joined_unit_first d.payload e.payload counted.size;
      counter = omega (arith, none, once, a, b, one);
    }
joined_told d e x y (inr first) (inr second) counted one =
    let none = counted.sent in
    let once = counted.once in
    let a : x.counter ≡ e.counter = first.counter in
    let b : y.counter ≡ e.counter = second.counter in
    absurd (omega (arith, none, once, a, b, one))

frame_told : (d e : DatagramRecord) (a b joined : List DatagramRecord) → TellsOne d e a → TellsOne d e b
    → IsCounted d e → joined ≡ joined_frame (d ∷ []) a b → (nth joined 0).counter ≡ 1
    → IsTold e (nth joined 0)
frame_told d e a b joined first second counted is one =
    let same : joined ≡ joined_record d first.x second.x ∷ [] =
    is
    ∙ ap (λ (f : List DatagramRecord). joined_frame (d ∷ []) f b) first.is
    ∙ ap (λ (f : List DatagramRecord). joined_frame (d ∷ []) (first.x ∷ []) f) second.is in
    let now : nth joined 0 ≡ joined_record d first.x second.x =
    ap (λ (f : List DatagramRecord). nth f 0) same in
    subst (λ (x : DatagramRecord). IsTold e x) (sym now)
    (joined_told d e first.x second.x first.told second.told counted
    (sym (ap (λ (x : DatagramRecord). x.counter) now) ∙ one))

-- an answer that counted 1, and what it tells then
abbrev pub CountsOne : Answer → Type 0
CountsOne (Err fault) = ⊥
CountsOne (Ok back) = (told_by back).counter ≡ 1

abbrev pub TellsPass : DatagramRecord → Answer → Type 0
TellsPass e (Err fault) = ⊥
TellsPass e (Ok back) = IsTold e (told_by back)

pub told_once : (d e : DatagramRecord) (c left : ControllerState) (f : Fared)
    (came : Result Came PortFault) (answer : Answer) → Fares d e c left f → IsCounted d e
    → ComesSo came f.came → Brings d came answer → CountsOne answer → TellsPass e answer
told_once d e c left f came (Err fault) fares counted comes brings one = absurd one
told_once d e c left f (Err failed) (Ok back) fares counted comes brings one = absurd (cc)
told_once d e c left f (Ok came) (Ok back) fares counted comes brings one =
    frame_told d e (came_or came.a (d ∷ [])) (came_or came.b (d ∷ [])) back.joined
    (subst (λ (x : Came). TellsOne d e (came_or x.a (d ∷ []))) (sym comes) fares.a)
    (subst (λ (x : Came). TellsOne d e (came_or x.b (d ∷ []))) (sym comes) fares.b)
    counted brings.1.2 one
