-- Turns that are told to be good by their packets are turns by what ports give of these.
use Rattle.std.proofs.Common.{◌≡◌, ◌∙◌, ◌++◌, ℕ, sym, ap, refl, inl, inr, None, Some, Option, unwrap_or, subst}
use Rattle.std.proofs.Common.{List, [], ◌∷◌, length, map}
use Rattle.ec_wire.specs.Datagram.{DatagramRecord}
use Rattle.ec_wire.specs.Spelling.{IsFrameValue, spelling}
use Rattle.ec_wire.specs.declared.fault.Form.{Form}
use Rattle.ec_merge.specs.Frames.{IsOwn, joined_frame}
use Rattle.ec_line.specs.Answered.{sent_of}
use Rattle.ec_ring.specs.declared.weather.Came.{Came as CameBack}
use Rattle.ec_master.specs.Cut.{frame_at}
use Rattle.ec_master.specs.declared.verdict.Verdict.TheVariants.{Good}
use Rattle.rummymaple.specs.Answers.{verdict_on}
use Rattle.rummymaple.specs.Copies.{IsCopy, IsGiven, Packets, AreGiven}
use Rattle.rummymaple.specs.Cycle.{IsJoinOf}
use Rattle.rummymaple.specs.Items.{asked, AreTaken}
use Rattle.rummymaple.specs.Numbers.{form_of}
use Rattle.rummymaple.specs.Turn.{Held, judged, IsTurn, IsFormTurn, AreTurned, EndsCopies}
use Rattle.rummymaple.specs.Turns.{IsGoodTurn, AreGoodTurns, AreTurns}
use Rattle.rummymaple.specs.declared.cycle.Turn.{Turn}
use Rattle.rummymaple.specs.declared.cycle.TurnEnd.{TurnEnd}
use Rattle.rummymaple.specs.declared.cycle.TurnEnd.TheVariants.{Judged}
use Rattle.rummymaple.specs.declared.numbers.Copy.{Copy}
use Rattle.rummymaple.specs.declared.numbers.Copy.TheVariants.{Lost, Came, NoFrame}
use Rattle.rummymaple.proofs.NumberLemmas.{one-value}

-- what a port gives by a packet, which is the copy or stands for the sent frame
pub record Given (form : Form) (packet : List ℕ) (sent copy : List DatagramRecord) : Type 0 where
  pub frame : Option (List DatagramRecord)
  pub is : IsGiven form packet frame
  pub same : unwrap_or frame sent ≡ copy

pub given : (form : Form) (packet : List ℕ) (sent : List DatagramRecord) (told : Copy)
    (copy : List DatagramRecord) → IsCopy form packet sent told copy → Given form packet sent copy
given form packet sent Lost copy is = record { frame = None; is = inl is.0; same = sym is.1 }
given form packet sent Came copy is = record { frame = Some copy; is = is; same = refl }
given form packet sent NoFrame copy is = record { frame = None; is = inr is.1; same = sym is.2 }

-- ---- one turn

-- of a form, packets were looked at
turned-form : (form : Form) (sent a b : List ℕ) (h : Held) (turn : Turn) (later : Held)
    → turn.end ≡ Judged Good → IsFormTurn (Some form) sent a b h turn later
    → AreTurned form sent a b h turn later
turned-form form sent a b h turn later good (inl are) = are
turned-form form sent a b h turn later good (inr (f, fault, refused)) =
    let end = sym good ∙ ap (λ (t : Turn). t.end) refused.turn_is in
    absurd (cc)

turned : (form : Form) (sent a b : List ℕ) (h : Held) (turn : Turn) (later : Held)
    → form_of h.cycle.form ≡ Some form → turn.end ≡ Judged Good → IsTurn sent a b h turn later
    → AreTurned form sent a b h turn later
turned form sent a b h turn later form_is good (inr (state, refused)) =
    let end = sym good ∙ ap (λ (t : Turn). t.end) refused.turn_is in
    absurd (cc)
turned form sent a b h turn later form_is good (inl (state, inl (size, refused))) =
    let end = sym good ∙ ap (λ (t : Turn). t.end) refused.turn_is in
    absurd (cc)
turned form sent a b h turn later form_is good (inl (state, inr (size, inl (r, first, refused)))) =
    let end = sym good ∙ ap (λ (t : Turn). t.end) refused.turn_is in
    absurd (cc)
turned form sent a b h turn later form_is good (inl (state, inr (size, inr (taken, is)))) =
    turned-form form sent a b h turn later good
    (subst (λ f. IsFormTurn f sent a b h turn later) form_is is)

-- what a turn is made of that is told to be good: items that are taken, and a room of the image's size
pub record Ready (h : Held) : Type 0 where
  pub taken : AreTaken (length h.image) h.items
  pub waits : length h.waiting ≡ length h.image

ready-turn : (sent a b : List ℕ) (h : Held) (turn : Turn) (later : Held) → turn.end ≡ Judged Good
    → IsTurn sent a b h turn later → Ready h
ready-turn sent a b h turn later good (inr (state, refused)) =
    let end = sym good ∙ ap (λ (t : Turn). t.end) refused.turn_is in
    absurd (cc)
ready-turn sent a b h turn later good (inl (state, inl (size, refused))) =
    let end = sym good ∙ ap (λ (t : Turn). t.end) refused.turn_is in
    absurd (cc)
ready-turn sent a b h turn later good (inl (state, inr (size, inl (r, first, refused)))) =
    let end = sym good ∙ ap (λ (t : Turn). t.end) refused.turn_is in
    absurd (cc)
ready-turn sent a b h turn later good (inl (state, inr (size, inr (taken, is)))) =
    record { taken = taken; waits = size }

pub ready : (form : Form) (h : Held) (packets : Packets) (later : Held) → IsGoodTurn form h packets later
    → Ready h
ready form h packets later turn =
    ready-turn turn.sent packets.a packets.b h turn.turn later turn.good turn.turn_is

-- what a good turn joins
record Joined (s x y : List DatagramRecord) (h later : Held) : Type 0 where
  own_x : IsOwn s x
  own_y : IsOwn s y
  good : verdict_on h.items h.cycle.first (joined_frame s x y) ≡ Good
  is : later ≡ judged h (joined_frame s x y) Good

joined-good : (s x y : List DatagramRecord) (h later : Held) → EndsCopies s x y h (Judged Good) later
    → Joined s x y h later
joined-good s x y h later (inl (own_x, own_y, ends)) =
    record { own_x = own_x; own_y = own_y; good = sym ends.1; is = ends.2 }
joined-good s x y h later (inr (fault, is, end, kept)) = absurd (cc)

-- a turn that is told to be good is one
record Step (form : Form) (h : Held) (packets : Packets) (later : Held) : Type 0 where
  came : CameBack
  joined : List DatagramRecord
  given_a : IsGiven form packets.a came.a
  given_b : IsGiven form packets.b came.b
  join : IsJoinOf (sent_of (frame_at h.cycle.first (map (asked h.image) h.items))) came joined
  good : verdict_on h.items h.cycle.first joined ≡ Good
  is : later ≡ judged h joined Good

step-of : (form : Form) (h : Held) (packets : Packets) (later : Held)
    → ((rs ss : List DatagramRecord) (x y : List ℕ) → IsFrameValue rs → IsFrameValue ss
    → spelling rs ++ x ≡ spelling ss ++ y → (rs ≡ ss) × (x ≡ y))
    → form_of h.cycle.form ≡ Some form → IsGoodTurn form h packets later → Step form h packets later
step-of form h packets later one form_is turn =
    let s : List DatagramRecord = sent_of (frame_at h.cycle.first (map (asked h.image) h.items)) in
    let are : AreTurned form turn.sent packets.a packets.b h turn.turn later =
    turned form turn.sent packets.a packets.b h turn.turn later form_is turn.good turn.turn_is in
    let same : are.frame ≡ s = one-value form turn.sent are.frame s one are.sent_is turn.sent_is in
    let a : Given form packets.a s are.copy_a =
    given form packets.a s turn.turn.a are.copy_a
    (subst (λ (sent : List DatagramRecord). IsCopy form packets.a sent turn.turn.a are.copy_a) same are.a_is) in
    let b : Given form packets.b s are.copy_b =
    given form packets.b s turn.turn.b are.copy_b
    (subst (λ (sent : List DatagramRecord). IsCopy form packets.b sent turn.turn.b are.copy_b) same are.b_is) in
    let ends : EndsCopies s are.copy_a are.copy_b h (Judged Good) later =
    subst (λ (sent : List DatagramRecord). EndsCopies sent are.copy_a are.copy_b h (Judged Good) later) same
    (subst (λ (end : TurnEnd). EndsCopies are.frame are.copy_a are.copy_b h end later) turn.good are.ends) in
    let joined : Joined s are.copy_a are.copy_b h later = joined-good s are.copy_a are.copy_b h later ends in
    record {
      came = record { a = a.frame; b = b.frame };
      joined = joined_frame s are.copy_a are.copy_b;
      given_a = a.is;
      given_b = b.is;
      join = record {
        own_a = subst (IsOwn s) (sym a.same) joined.own_x;
        own_b = subst (IsOwn s) (sym b.same) joined.own_y;
        joined_is = λ t. joined_frame s (sym a.same t) (sym b.same t);
      };
      good = joined.good;
      is = joined.is;
    }

-- ---- all of them

pub packets-turns : (form : Form) (h later : Held) (packets : List Packets)
    → ((rs ss : List DatagramRecord) (x y : List ℕ) → IsFrameValue rs → IsFrameValue ss
    → spelling rs ++ x ≡ spelling ss ++ y → (rs ≡ ss) × (x ≡ y))
    → form_of h.cycle.form ≡ Some form → AreGoodTurns form h packets later
    → (came : List CameBack) × (joined : List (List DatagramRecord)) × AreGiven form packets came
    × AreTurns h came joined later
unfolding AreGoodTurns AreTurns
packets-turns form h later [] one form_is turns = ([], [], tt, turns)
packets-turns form h later (p ∷ ps) one form_is turns =
    let step : Step form h p turns.1 = step-of form h p turns.1 one form_is turns.2 in
    let next : Held = judged h step.joined Good in
    let rest : AreGoodTurns form next ps later =
    subst (λ (h : Held). AreGoodTurns form h ps later) step.is turns.3 in
    let more = packets-turns form next later ps one form_is rest in (
      step.came ∷ more.0,
      step.joined ∷ more.1,
      (step.given_a, step.given_b, more.2),
      (turns.0, step.join, step.good, more.3),
    )
