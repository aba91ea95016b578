-- Frames that are told to be joined and good, by their bytes, are calls by what ports give of the packets.
use Rattle.std.proofs.Common.{◌≡◌, ◌∙◌, ◌++◌, ◌+◌, ℕ, sym, ap, refl, inl, inr, Some, subst, arith}
use Rattle.std.proofs.Common.{List, [], ◌∷◌, length, map, take, drop}
use Rattle.std.proofs.Math.Seq.{take-append_seam}
use Rattle.std.proofs.lemmas.List.{append-nil, length-map}
use Rattle.ec_wire.specs.Datagram.{DatagramRecord}
use Rattle.ec_wire.specs.Fault.{IsSpelt}
use Rattle.ec_wire.specs.Spelling.{IsFrameValue, spelling}
use Rattle.ec_wire.specs.declared.fault.Form.{Form}
use Rattle.ec_wire.specs.declared.fault.Form.TheVariants.{Udp}
use Rattle.ec_merge.specs.Frames.{IsOwn, joined_frame}
use Rattle.ec_line.specs.After.{Entry}
use Rattle.ec_line.specs.Answered.{sent_of}
use Rattle.ec_map.specs.Item.{ItemRecord}
use Rattle.ec_ring.specs.declared.weather.Came.{Came}
use Rattle.ec_master.specs.Cut.{frame_at}
use Rattle.ec_master.specs.declared.verdict.Verdict.TheVariants.{Good}
use Rattle.rummymaple.specs.Answers.{verdict_on, with_counts_at}
use Rattle.rummymaple.specs.Calls.{IsGoodCall, AreGoodCalls, AreJoinedBytes, AreStoredBytes}
use Rattle.rummymaple.specs.Copies.{IsCopy, IsGiven, Packets, AreGiven}
use Rattle.rummymaple.specs.Cycle.{IsJoinOf, AreCalls, AreGood}
use Rattle.rummymaple.specs.Image.{AreStored}
use Rattle.rummymaple.specs.Items.{asked}
use Rattle.rummymaple.specs.Join.{IsPut, EndsIn, AreJoined, IsJoin}
use Rattle.rummymaple.specs.Judge.{IsJudged, IsJudgedFrame, IsStored, IsStoredFrame}
use Rattle.rummymaple.specs.declared.item.Item.{Item}
use Rattle.rummymaple.specs.declared.join.Join.{Join}
use Rattle.rummymaple.specs.declared.join.JoinEnd.{JoinEnd}
use Rattle.rummymaple.specs.declared.join.JoinEnd.TheVariants.{Joined}
use Rattle.rummymaple.specs.declared.judge.JudgeEnd.TheVariants.{Judged}
use Rattle.rummymaple.specs.declared.store.StoreEnd.TheVariants.{Stored}
use Rattle.rummymaple.proofs.CycleLemmas.{length-joined_frame}
use Rattle.rummymaple.proofs.PacketLemmas.{Given, given}
use Rattle.rummymaple.proofs.NumberLemmas.{one-value}
use Rattle.rummymaple.proofs.TurnLemmas.{asked-with_counts_at, expected-with_counts_at, good-same}

-- no two frames have one spelling
abbrev pub OneSpelling : Type 0
OneSpelling = (rs ss : List DatagramRecord) (x y : List ℕ) → IsFrameValue rs → IsFrameValue ss
    → spelling rs ++ x ≡ spelling ss ++ y → (rs ≡ ss) × (x ≡ y)

-- ---- one frame

joins : (form : Form) (sent a b before : List ℕ) (join : Join) (after : List ℕ) (count : ℕ)
    → join.end ≡ Joined count → IsJoin (Some form) sent a b before join after
    → AreJoined form sent a b before join after
joins form sent a b before join after count end (inl are) = are
joins form sent a b before join after count end (inr (f, fault, none, kept)) =
    let other = sym end ∙ ap (λ (j : Join). j.end) none in
    absurd (cc)

judges : (items : List Item) (first : ℕ) (bytes : List ℕ) (joined : List DatagramRecord) (later : List Item)
    → OneSpelling → IsSpelt Udp bytes joined → IsJudged items first bytes (Judged Good) later
    → IsJudgedFrame items first joined (Judged Good) later
judges items first bytes joined later one spelt (inl (frame, is, judged)) =
    subst (λ (frame : List DatagramRecord). IsJudgedFrame items first frame (Judged Good) later)
    (one-value Udp bytes frame joined one is spelt) judged
judges items first bytes joined later one spelt (inr (f, fault, end, same)) = absurd (cc)

-- the front of the room spells the frame that was put there
spelt-front : (frame : List DatagramRecord) (before bytes after : List ℕ) → IsFrameValue frame
    → IsPut (spelling frame) before (length bytes) after → bytes ≡ take (length bytes) after
    → IsSpelt Udp bytes frame
spelt-front frame before bytes after value put front =
    let same : bytes ≡ spelling frame =
    front ∙ ap (λ (n : ℕ). take n after) put.count_is
    ∙ ap (λ (xs : List ℕ). take (length (spelling frame)) xs) put.bytes_are
    ∙ take-append_seam (spelling frame) (drop (length (spelling frame)) before) in
    ([], record { value = value; split = same ∙ sym (append-nil (spelling frame)) }, refl)

record Call (form : Form) (image : List ℕ) (items : List Item) (first : ℕ) (packets : Packets)
    (bytes : List ℕ) (later : List Item) : Type 0 where
  came : Came
  joined : List DatagramRecord
  given_a : IsGiven form packets.a came.a
  given_b : IsGiven form packets.b came.b
  spelt : IsSpelt Udp bytes joined
  join : IsJoinOf (sent_of (frame_at first (map (asked image) items))) came joined
  count : length joined ≡ length (frame_at first (map (asked image) items))
  good : verdict_on items first joined ≡ Good
  is : later ≡ with_counts_at first items joined

call-of : (form : Form) (image : List ℕ) (items : List Item) (first : ℕ) (packets : Packets)
    (bytes : List ℕ) (later : List Item) → OneSpelling
    → IsGoodCall form image items first packets bytes later
    → Call form image items first packets bytes later
call-of form image items first packets bytes later one call =
    let frame : List Entry = frame_at first (map (asked image) items) in
    let s : List DatagramRecord = sent_of frame in
    let are : AreJoined form call.sent packets.a packets.b call.before call.join call.after =
    joins form call.sent packets.a packets.b call.before call.join call.after (length bytes) call.joined
    call.join_is in
    let same : are.frame ≡ s = one-value form call.sent are.frame s one are.sent_is call.sent_is in
    let a : Given form packets.a s are.copy_a =
    given form packets.a s call.join.a are.copy_a
    (subst (λ (sent : List DatagramRecord). IsCopy form packets.a sent call.join.a are.copy_a) same are.a_is) in
    let b : Given form packets.b s are.copy_b =
    given form packets.b s call.join.b are.copy_b
    (subst (λ (sent : List DatagramRecord). IsCopy form packets.b sent call.join.b are.copy_b) same are.b_is) in
    let ends : EndsIn s are.copy_a are.copy_b call.before (Joined (length bytes)) call.after =
    subst (λ (sent : List DatagramRecord).
    EndsIn sent are.copy_a are.copy_b call.before (Joined (length bytes)) call.after) same
    (subst (λ (end : JoinEnd). EndsIn are.frame are.copy_a are.copy_b call.before end call.after) call.joined
    are.ends) in
    let joined : List DatagramRecord = joined_frame s are.copy_a are.copy_b in
    let spelt : IsSpelt Udp bytes joined =
    spelt-front joined call.before bytes call.after ends.2 ends.3 call.bytes_are in
    let judged : IsJudgedFrame items first joined (Judged Good) later =
    judges items first bytes joined later one spelt call.judged in
    record {
      came = record { a = a.frame; b = b.frame };
      joined = joined;
      given_a = a.is;
      given_b = b.is;
      spelt = spelt;
      join = record {
        own_a = subst (IsOwn s) (sym a.same) ends.0;
        own_b = subst (IsOwn s) (sym b.same) ends.1;
        joined_is = λ t. joined_frame s (sym a.same t) (sym b.same t);
      };
      count =
          length-joined_frame s are.copy_a are.copy_b ends.0.count ends.1.count
          ∙ length-map frame (λ (e : Entry). e.sent);
      good = sym judged.1;
      is = judged.2;
    }

-- ---- all of them

pub record Told (form : Form) (image : List ℕ) (items : List Item) (first : ℕ) (packets : List Packets)
    (bytes : List (List ℕ)) (later : List Item) : Type 0 where
  pub came : List Came
  pub joined : List (List DatagramRecord)
  pub given : AreGiven form packets came
  pub spelt : AreJoinedBytes bytes joined
  pub calls : AreCalls (map (asked image) items) first came joined
  pub good : AreGood items first joined
  pub asks : map (asked image) later ≡ map (asked image) items

pub calls-told : (form : Form) (image : List ℕ) (items : List Item) (first : ℕ) (packets : List Packets)
    (bytes : List (List ℕ)) (later : List Item) → OneSpelling
    → AreGoodCalls form image items first packets bytes later
    → Told form image items first packets bytes later
unfolding AreGoodCalls AreCalls AreGood
calls-told form image items first [] [] later one calls = record {
  came = [];
  joined = [];
  given = tt;
  spelt = tt;
  calls = omega (arith, calls.0, length-map items (asked image));
  good = tt;
  asks = ap (λ (is : List Item). map (asked image) is) calls.1;
}
calls-told form image items first [] (bytes ∷ more) later one calls = absurd calls
calls-told form image items first (p ∷ ps) [] later one calls = absurd calls
calls-told form image items first (p ∷ ps) (bytes ∷ more) later one calls =
    let next : List Item = calls.1 in
    let here : Call form image items first p bytes next =
    call-of form image items first p bytes next one calls.2 in
    let asks : List ItemRecord = map (asked image) items in
    let k : ℕ = first + length here.joined in
    let same : map (asked image) next ≡ asks =
    ap (λ (is : List Item). map (asked image) is) here.is
    ∙ asked-with_counts_at image first items here.joined in
    let rest : Told form image next (first + length (frame_at first asks)) ps more later =
    calls-told form image next (first + length (frame_at first asks)) ps more later one calls.3 in
    let onward : first + length (frame_at first asks) ≡ k = omega (arith, here.count) in
    record {
      came = here.came ∷ rest.came;
      joined = here.joined ∷ rest.joined;
      given = (here.given_a, here.given_b, rest.given);
      spelt = (here.spelt, rest.spelt);
      calls = (
        omega (arith, calls.0, length-map items (asked image)),
        here.join,
        subst (λ (rs : List ItemRecord). AreCalls rs k rest.came rest.joined) same
            (subst (λ n. AreCalls (map (asked image) next) n rest.came rest.joined) onward rest.calls),
      );
      good = (
        here.good,
        good-same next items k rest.joined
            (ap (λ (is : List Item). map (asked []) is) here.is
            ∙ asked-with_counts_at [] first items here.joined)
            (ap (λ (is : List Item). map (λ i. i.expected) is) here.is
            ∙ expected-with_counts_at first items here.joined)
            (subst (λ n. AreGood next n rest.joined) onward rest.good),
      );
      asks = rest.asks ∙ same;
    }

-- ---- stored bytes

stores : (items : List Item) (first : ℕ) (bytes : List ℕ) (joined : List DatagramRecord)
    (before later : List ℕ) → OneSpelling → IsSpelt Udp bytes joined
    → IsStored items first bytes before Stored later
    → IsStoredFrame items first joined before Stored later
stores items first bytes joined before later one spelt (inl (frame, is, stored)) =
    subst (λ (frame : List DatagramRecord). IsStoredFrame items first frame before Stored later)
    (one-value Udp bytes frame joined one is spelt) stored
stores items first bytes joined before later one spelt (inr (f, fault, end, same)) = absurd (cc)

pub stored-frames : (items : List Item) (first : ℕ) (bytes : List (List ℕ))
    (joined : List (List DatagramRecord)) (before later : List ℕ) → OneSpelling → AreJoinedBytes bytes joined
    → AreStoredBytes items first bytes joined before later → AreStored items first joined before later
unfolding AreStoredBytes AreStored
stored-frames items first [] [] before later one spelt are = are
stored-frames items first [] (j ∷ js) before later one spelt are = absurd are
stored-frames items first (b ∷ bs) [] before later one spelt are = absurd are
stored-frames items first (b ∷ bs) (j ∷ js) before later one spelt are = (
  are.0,
  stores items first b j before are.0 one spelt.0 are.1,
  stored-frames items (first + length j) bs js are.0 later one spelt.1 are.2,
)
