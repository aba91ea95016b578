-- Two copies that were answered, joined, are the answer of both sets.
use Rattle.std.proofs.Common.{◌≡◌, ℕ, ◌+◌, ◌/◌, ◌%◌, List, []}
use Rattle.std.proofs.Common.{◌∷◌, ◌++◌, length, get_or}
use Rattle.std.proofs.Common.{sym, subst, ◌∙◌, ap, refl, arith}
use Rattle.std.specs.List.{AllByRecursion, sum_by}
use Rattle.std.specs.Int.{bit_at}
use Rattle.std.proofs.lemmas.List.Sums.{sum_by-append}
use Rattle.std.proofs.lemmas.List.{length-append}
use Rattle.ec_regs.specs.Bits.{bit}
use Rattle.ec_regs.proofs.Laws.{bit-lt}
use Rattle.ec_wire.specs.Datagram.{DatagramRecord}
use Rattle.ec_wire.specs.declared.command.Command.{Command}
use Rattle.ec_merge.specs.Rule.{joined_bits}
use Rattle.ec_merge.specs.Laws.{bit_at_joined, joined_bits_unit}
use Rattle.ec_merge.specs.Bytes.{joined_bytes}
use Rattle.ec_merge.specs.Frames.{joined_address, joined_record, joined_frame}
use Rattle.ec_merge.proofs.Laws.{length-joined, get_or-joined}
use Rattle.ec_esc.specs.State.{ControllerState}
use Rattle.ec_line.specs.After.{Entry}
use Rattle.ec_line.specs.Answered.{moved_address, Answered, AnsweredFrame, sent_of}
use Rattle.ec_line.specs.Answers.{AllAgree}
use Rattle.ec_line.specs.Claims.{claim, gain}
use Rattle.ec_line.specs.Request.{Request, SameAddress, OnWay}
use Rattle.ec_wire.specs.Kind.{command_of}
use Rattle.ec_wire.specs.declared.kind.Kind.{Kind}
use Rattle.ec_wire.specs.declared.kind.Kind.TheVariants.{Lrd, Lwr, Lrw, Brd, Fprd, Fpwr}
use Rattle.ec_line.proofs.AnswersLemmas.{joined_at, answers_joined, answers_nobody}
use Rattle.ec_line.proofs.StepLemmas.{moved_none}

-- ---- the address

joined_address_by : (x y : Command) (s a b : ℕ) → x ≡ y → joined_address x s a b ≡ joined_address y s a b
joined_address_by x y s a b e = ap (λ (z : Command). joined_address z s a b) e

joined_moved_kind : (k : Kind) (m n s : ℕ)
    → joined_address (command_of k) s (moved_address k m s) (moved_address k n s) ≡ moved_address k (m + n) s
joined_moved_kind Lrd m n s = refl
joined_moved_kind Lwr m n s = refl
joined_moved_kind Lrw m n s = refl
joined_moved_kind Brd m n s = omega arith
joined_moved_kind Fprd m n s = refl
joined_moved_kind Fpwr m n s = refl

same_moved_kind : (k : Kind) (n s wanted : ℕ) → SameAddress k s wanted
    → SameAddress k (moved_address k n s) wanted
same_moved_kind Lrd n s wanted same = same
same_moved_kind Lwr n s wanted same = same
same_moved_kind Lrw n s wanted same = same
same_moved_kind Brd n s wanted same = omega arith
same_moved_kind Fprd n s wanted same = same
same_moved_kind Fpwr n s wanted same = same

-- ---- the data

joined_bit : (s a b : List ℕ) (i : ℕ) → length a ≡ length s → length b ≡ length s
    → bit (joined_bytes s a b) i ≡ joined_at (bit s i) (bit a i) (bit b i)
joined_bit s a b i a_size b_size =
    ap (λ x. bit_at x (i % 8)) (get_or-joined s a b (i / 8) a_size b_size)
    ∙ bit_at_joined (get_or s (i / 8) 0) (get_or a (i / 8) 0) (get_or b (i / 8) 0) (i % 8)

-- ---- a datagram

pub answered_joined : (r : Request) (xs ys : List ControllerState) (s a b : DatagramRecord) → OnWay r s
    → AllAgree (claim r) xs ys
    → AllAgree (claim r) ys xs → Answered r xs s a → Answered r ys s b
    → Answered r (xs ++ ys) s (joined_record s a b)
answered_joined r xs ys s a b way agree back first second =
    let a_size : length a.payload ≡ length s.payload = first.way.size ∙ sym way.size in
    let b_size : length b.payload ≡ length s.payload = second.way.size ∙ sym way.size in
    let size : length (joined_bytes s.payload a.payload b.payload) ≡ length s.payload =
    length-joined s.payload a.payload b.payload a_size b_size in
    let a_count = first.counter in
    let b_count = second.counter in
    let small = way.counter in
    let sum : sum_by (gain r) (xs ++ ys) ≡ sum_by (gain r) xs + sum_by (gain r) ys =
    sum_by-append (gain r) xs ys in
    let address : joined_address s.command s.address a.address b.address
    ≡ moved_address r.kind (length (xs ++ ys)) s.address =
    joined_address_by s.command (command_of r.kind) s.address a.address b.address way.command
    ∙ ap (λ x. joined_address (command_of r.kind) s.address x b.address) first.address
    ∙ ap (joined_address (command_of r.kind) s.address (moved_address r.kind (length xs) s.address))
    second.address
    ∙ joined_moved_kind r.kind (length xs) (length ys) s.address
    ∙ ap (λ n. moved_address r.kind n s.address) (sym (length-append xs ys)) in
    record {
      way = record {
        command = way.command;
        size = size ∙ way.size;
        address = let P : ℕ → Type 0 = λ x. SameAddress r.kind x r.address in
            subst P (sym address)
            (same_moved_kind r.kind (length (xs ++ ys)) s.address r.address way.address);
        counter = omega arith;
      };
      index = refl;
      irq = ap (λ x. joined_bits s.irq x b.irq) first.irq ∙ ap (joined_bits s.irq s.irq) second.irq
          ∙ joined_bits_unit s.irq s.irq;
      bits = answers_joined (claim r) xs ys (bit s.payload) (bit a.payload) (bit b.payload)
          (bit (joined_bytes s.payload a.payload b.payload))
          agree back (bit-lt s.payload) (bit-lt a.payload) (bit-lt b.payload)
          (λ i. joined_bit s.payload a.payload b.payload i a_size b_size) first.bits second.bits;
      counter = omega arith;
      address = address;
    }

-- ---- a frame

-- an entry's datagram is one of its request, as it is sent
unfoldable pub IsEntry : Entry → Type 0
IsEntry e = OnWay e.request e.sent

-- two sets agree about each entry
unfoldable pub AgreeAll : List Entry → List ControllerState → List ControllerState → Type 0
AgreeAll es xs ys =
    AllByRecursion (λ e. AllAgree (claim e.request) xs ys × AllAgree (claim e.request) ys xs) es

pub frame_joined : (es : List Entry) (xs ys : List ControllerState) (a b : List DatagramRecord)
    → AllByRecursion IsEntry es → AgreeAll es xs ys
    → AnsweredFrame es xs a → AnsweredFrame es ys b
    → AnsweredFrame es (xs ++ ys) (joined_frame (sent_of es) a b)
unfolding IsEntry AgreeAll
frame_joined [] xs ys a b entries agrees first second = tt
frame_joined (e ∷ es) xs ys [] b entries agrees first second = absurd first
frame_joined (e ∷ es) xs ys (x ∷ a) [] entries agrees first second = absurd second
frame_joined (e ∷ es) xs ys (x ∷ a) (y ∷ b) entries agrees first second = (
  answered_joined e.request xs ys e.sent x y entries.0 agrees.0.0 agrees.0.1 first.0 second.0,
  frame_joined es xs ys a b entries.1 agrees.1 first.1 second.1,
)

-- nobody answers a frame with what was sent
pub answered_nobody : (r : Request) (s d : DatagramRecord) → OnWay r s
    → d ≡ record s { circulating = d.circulating } → Answered r [] s d
answered_nobody r s d way same =
    let small = way.counter in
    let made : DatagramRecord = record s { circulating = d.circulating } in
    let answer : Answered r [] s made = record {
      way = record { command = way.command; size = way.size; address = way.address; counter = way.counter };
      index = refl;
      irq = refl;
      bits = answers_nobody (claim r) (bit s.payload);
      counter = omega arith;
      address = sym (moved_none r.kind s.address);
    } in
    subst (λ (x : DatagramRecord). Answered r [] s x) (sym same) answer

pub frame_nobody : (es : List Entry) → AllByRecursion IsEntry es → AnsweredFrame es [] (sent_of es)
unfolding IsEntry
frame_nobody [] entries = tt
frame_nobody (e ∷ es) entries =
    (answered_nobody e.request e.sent e.sent entries.0 refl, frame_nobody es entries.1)
