-- Frames of which some datagrams are joined.
use Rattle.std.proofs.Common.{◌≡◌, inl, inr, ℕ, zero, suc, ◌+◌, ◌*◌, ◌/◌, ◌%◌, ◌<◌, ◌&&◌, eqb, cond}
use Rattle.std.proofs.Common.{Bool, true, false, Option, None, Some, unwrap_or, Bor, All, List, [], ◌∷◌}
use Rattle.std.proofs.Common.{length, set, refl, sym, ap, ◌∙◌, arith}
use Rattle.std.specs.Option.{option_copied}
use Rattle.std.proofs.lemmas.Bool.{and_parts, eqb-true, true≢false, cases_lt}
use Rattle.std.proofs.lemmas.List.{set-set, get_or-set_same}
use Rattle.ec_wire.specs.Datagram.{DatagramRecord, nth, blank, code_of, command_of, Fits}
use Rattle.ec_wire.specs.declared.command.Command.{Command}
use Rattle.ec_merge.specs.declared.frames.JoinFault.{JoinFault}
use Rattle.ec_merge.specs.declared.frames.JoinFault.TheVariants.{StrangerA, StrangerB}
use Rattle.ec_merge.specs.Rule.{joined_count, joined_bits, joined_flag}
use Rattle.ec_merge.specs.Laws.{joined_count_symmetric, joined_count_unit, joined_bits_symmetric}
use Rattle.ec_merge.specs.Laws.{joined_bits_unit, joined_flag_symmetric, joined_flag_unit}
use Rattle.ec_merge.specs.Bytes.{joined_bytes}
use Rattle.ec_wire.specs.Command.{counts_adp}
use Rattle.ec_wire.proofs.Laws.{command_of-code_of}
use Rattle.ec_merge.specs.Frames.{fixed_address, belongs, IsOwn, IsStranger, IsFault, joined_address}
use Rattle.ec_merge.specs.Frames.{with_joined_address, with_joined_fields, joined_record}
use Rattle.ec_merge.specs.Frames.{joined_frame}

-- ---- datagrams that belong together

-- commands with one code are one
same_from_code : (c d : Command) → code_of c ≡ code_of d → c ≡ d
same_from_code c d e = sym (command_of-code_of c) ∙ ap command_of e ∙ command_of-code_of d

-- what belongs says
pub record Shares (sent copy : DatagramRecord) : Type 0 where
  pub command : copy.command ≡ sent.command
  pub index : copy.index ≡ sent.index
  pub size : length copy.payload ≡ length sent.payload
  pub address : fixed_address sent.command copy.address ≡ fixed_address sent.command sent.address

pub Shares-from_belongs : (s c : DatagramRecord) → belongs s c ≡ true → Shares s c
Shares-from_belongs s c h =
    let same_command = eqb (code_of c.command) (code_of s.command) in
    let same_index = eqb c.index s.index in
    let same_size = eqb (length c.payload) (length s.payload) in
    let last = and_parts (same_command && same_index && same_size)
    (eqb (fixed_address s.command c.address) (fixed_address s.command s.address)) h in
    let third = and_parts (same_command && same_index) same_size last.0 in
    let second = and_parts same_command same_index third.0 in
    record {
      command = same_from_code c.command s.command (eqb-true _ _ second.0);
      index = eqb-true _ _ second.1;
      size = eqb-true _ _ third.1;
      address = eqb-true _ _ last.1;
    }

-- both make the joined datagram
pub joined_fields_over : (s a b : DatagramRecord) → Shares s a
    → with_joined_fields s (with_joined_address s a b) b ≡ joined_record s a b
joined_fields_over s a b shared = λ t. record {
  command = shared.command t;
  index = shared.index t;
  address = joined_address s.command s.address a.address b.address;
  circulating = joined_flag s.circulating a.circulating b.circulating;
  irq = joined_bits s.irq a.irq b.irq;
  payload = joined_bytes s.payload a.payload b.payload;
  counter = joined_count s.counter a.counter b.counter;
}

-- where the ADP is counted up, the joined one stands below the ADO that both have
pub joined_address-counted : (s a b : DatagramRecord) (place : ℕ) → Shares s a → counts_adp s.command ≡ true
    → place ≡ joined_count (s.address % 65536) (a.address % 65536) (b.address % 65536)
    → place + 65536 * (a.address / 65536) ≡ joined_address s.command s.address a.address b.address
joined_address-counted s a b place shared counted e =
    let high : cond (counts_adp s.command) (a.address / 65536) a.address
    ≡ cond (counts_adp s.command) (s.address / 65536) s.address = shared.address in
    let ado : a.address / 65536 ≡ s.address / 65536 = rw counted at high in
    rw (e, ado, counted) refl

-- else the address is the sent one
pub joined_address-other : (s a b : DatagramRecord) → Shares s a → counts_adp s.command ≡ false
    → a.address ≡ joined_address s.command s.address a.address b.address
joined_address-other s a b shared other =
    let high : cond (counts_adp s.command) (a.address / 65536) a.address
    ≡ cond (counts_adp s.command) (s.address / 65536) s.address = shared.address in
    let same : a.address ≡ s.address = rw other at high in
    rw other same

-- a datagram that was set is set anew
pub set_again : (w : DatagramRecord → DatagramRecord) (rs f g : List DatagramRecord) (k : ℕ)
    (u : DatagramRecord) → k < length rs → f ≡ set rs k u → g ≡ set f k (w (nth f k)) → g ≡ set rs k (w u)
set_again w rs f g k u inside was now =
    now ∙ ap (λ (l : List DatagramRecord). set l k (w (nth l k))) was
    ∙ ap (λ (r : DatagramRecord). set (set rs k u) k (w r)) (get_or-set_same rs k u blank inside)
    ∙ set-set rs k u (w u)

-- the fields but the address are set one after the other
pub fields_joined : (rs f1 f2 f3 f4 : List DatagramRecord) (k : ℕ) (s b : DatagramRecord) (flag : Bool)
    (irq count : ℕ) → k < length rs
    → flag ≡ joined_flag s.circulating (nth rs k).circulating b.circulating
    → irq ≡ joined_bits s.irq (nth rs k).irq b.irq
    → count ≡ joined_count s.counter (nth rs k).counter b.counter
    → f1 ≡ set rs k (record (nth rs k) { payload = joined_bytes s.payload (nth rs k).payload b.payload })
    → f2 ≡ set f1 k (record (nth f1 k) { circulating = flag })
    → f3 ≡ set f2 k (record (nth f2 k) { irq = irq }) → f4 ≡ set f3 k (record (nth f3 k) { counter = count })
    → f4 ≡ set rs k (with_joined_fields s (nth rs k) b)
fields_joined rs f1 f2 f3 f4 k s b flag irq count inside flag_is irq_is count_is e1 e2 e3 e4 =
    let a = nth rs k in
    let bytes = joined_bytes s.payload a.payload b.payload in
    let flagged =
    set_again (λ r. record r { circulating = flag }) rs f1 f2 k (record a { payload = bytes }) inside e1 e2 in
    let requested =
    set_again (λ r. record r { irq = irq }) rs f2 f3 k (record a { payload = bytes; circulating = flag })
    inside flagged e3 in
    let counted =
    set_again (λ r. record r { counter = count }) rs f3 f4 k
    (record a { payload = bytes; circulating = flag; irq = irq }) inside requested e4 in
    counted ∙ (λ t.
    set rs k (record a { payload = bytes; circulating = flag_is t; irq = irq_is t; counter = count_is t }))

-- ---- strangers

-- a frame without a stranger has none
pub own_no_stranger : (s c : List DatagramRecord) (k : ℕ) → IsOwn s c → IsStranger s c k → ⊥
own_no_stranger s c k own stranger = elim (cases_lt k (length s)) [
  | inl inside ↦ let copied : k < length c = omega (arith, own.count) in
      true≢false (sym (own.each k inside) ∙ stranger.here inside copied)
  | inr past ↦ let there = stranger.in_sent in let ends : k ≡ length s = omega arith in
      stranger.one_goes_on ends (ends ∙ sym own.count)
]

-- so there is no fault
pub own_no_fault : (s a b : List DatagramRecord) → IsOwn s a → IsOwn s b → (f : JoinFault) → IsFault s a b f
    → ⊥
own_no_fault s a b ha hb (StrangerA k) h = own_no_stranger s a k ha h
own_no_fault s a b ha hb (StrangerB k) h = own_no_stranger s b k hb h.1

-- a stranger has one first difference
stranger_not_before : (s c : List DatagramRecord) (j k : ℕ) → IsStranger s c j → IsStranger s c k → j < k → ⊥
stranger_not_before s c j k hj hk less =
    let in_sent = hk.in_sent in
    let in_copy = hk.in_copy in
    true≢false (sym (hk.before j less) ∙ hj.here (omega arith) (omega arith))

pub stranger_one : (s c : List DatagramRecord) (j k : ℕ) → IsStranger s c j → IsStranger s c k → j ≡ k
stranger_one s c j k hj hk = elim (cases_lt j k) [
  | inl less ↦ absurd (stranger_not_before s c j k hj hk less)
  | inr more ↦ elim (cases_lt k j)
      [ inl less ↦ absurd (stranger_not_before s c k j hk hj less) | inr same ↦ omega arith ]
]

-- one fault alone is named
pub fault_one : (s a b : List DatagramRecord) (f g : JoinFault) → IsFault s a b f → IsFault s a b g → f ≡ g
fault_one s a b (StrangerA j) (StrangerA k) h i = ap StrangerA (stranger_one s a j k h i)
fault_one s a b (StrangerA j) (StrangerB k) h i = absurd (own_no_stranger s a j i.0 h)
fault_one s a b (StrangerB j) (StrangerA k) h i = absurd (own_no_stranger s a k h.0 i)
fault_one s a b (StrangerB j) (StrangerB k) h i = ap StrangerB (stranger_one s b j k h.1 i.1)

-- the frame behind a copy, or the sent one
pub copy_is : {X : Type 0} (o : Option (Bor X)) (d r : Bor X) → r ≡ unwrap_or o d
    → r.now ≡ unwrap_or (option_copied o) d.now
copy_is None d r e = ap (λ x. x.now) e
copy_is (Some y) d r e = ap (λ x. x.now) e

-- ---- frames

-- the first n datagrams of a are joined with those of b
abbrev pub joined_part : ℕ → List DatagramRecord → List DatagramRecord → List DatagramRecord
    → List DatagramRecord
joined_part zero ss xs ys = xs
joined_part (suc n) [] xs ys = xs
joined_part (suc n) (s ∷ ss) [] ys = []
joined_part (suc n) (s ∷ ss) (x ∷ xs) [] = x ∷ xs
joined_part (suc n) (s ∷ ss) (x ∷ xs) (y ∷ ys) = joined_record s x y ∷ joined_part n ss xs ys

-- it keeps its length
pub length-joined_part : (n : ℕ) (ss xs ys : List DatagramRecord)
    → length (joined_part n ss xs ys) ≡ length xs
length-joined_part zero ss xs ys = refl
length-joined_part (suc n) [] xs ys = refl
length-joined_part (suc n) (s ∷ ss) [] ys = refl
length-joined_part (suc n) (s ∷ ss) (x ∷ xs) [] = refl
length-joined_part (suc n) (s ∷ ss) (x ∷ xs) (y ∷ ys) = ap suc (length-joined_part n ss xs ys)

-- the next datagram is as it came
pub nth-joined_part : (n : ℕ) (ss xs ys : List DatagramRecord) → nth (joined_part n ss xs ys) n ≡ nth xs n
nth-joined_part zero ss xs ys = refl
nth-joined_part (suc n) [] xs ys = refl
nth-joined_part (suc n) (s ∷ ss) [] ys = refl
nth-joined_part (suc n) (s ∷ ss) (x ∷ xs) [] = refl
nth-joined_part (suc n) (s ∷ ss) (x ∷ xs) (y ∷ ys) = nth-joined_part n ss xs ys

-- once it is joined, one more is
pub set-joined_part : (n : ℕ) (ss xs ys : List DatagramRecord) → n < length ss → n < length xs → n < length ys
    → set (joined_part n ss xs ys) n (joined_record (nth ss n) (nth xs n) (nth ys n))
    ≡ joined_part (suc n) ss xs ys
set-joined_part n [] xs ys hs hx hy = absurd (omega arith)
set-joined_part n (s ∷ ss) [] ys hs hx hy = absurd (omega arith)
set-joined_part n (s ∷ ss) (x ∷ xs) [] hs hx hy = absurd (omega arith)
set-joined_part zero (s ∷ ss) (x ∷ xs) (y ∷ ys) hs hx hy = refl
set-joined_part (suc n) (s ∷ ss) (x ∷ xs) (y ∷ ys) hs hx hy =
    ap (λ rest. joined_record s x y ∷ rest)
    (set-joined_part n ss xs ys (omega arith) (omega arith) (omega arith))

-- once all are joined, the frame is
pub joined_part-all : (ss xs ys : List DatagramRecord) → length xs ≡ length ss → length ys ≡ length ss
    → joined_part (length ss) ss xs ys ≡ joined_frame ss xs ys
joined_part-all [] [] ys hx hy = refl
joined_part-all [] (x ∷ xs) ys hx hy = absurd (omega arith)
joined_part-all (s ∷ ss) [] ys hx hy = absurd (omega arith)
joined_part-all (s ∷ ss) (x ∷ xs) [] hx hy = absurd (omega arith)
joined_part-all (s ∷ ss) (x ∷ xs) (y ∷ ys) hx hy =
    ap (λ rest. joined_record s x y ∷ rest) (joined_part-all ss xs ys (omega arith) (omega arith))

-- ---- laws of joined frames

joined_bytes_symmetric : (s a b : List ℕ) → joined_bytes s a b ≡ joined_bytes s b a
joined_bytes_symmetric [] a b = refl
joined_bytes_symmetric (s ∷ ss) [] [] = refl
joined_bytes_symmetric (s ∷ ss) [] (y ∷ ys) = refl
joined_bytes_symmetric (s ∷ ss) (x ∷ xs) [] = refl
joined_bytes_symmetric (s ∷ ss) (x ∷ xs) (y ∷ ys) =
    λ t. joined_bits_symmetric s x y t ∷ joined_bytes_symmetric ss xs ys t

joined_record_symmetric : (s a b : DatagramRecord) → joined_record s a b ≡ joined_record s b a
joined_record_symmetric s a b = λ t. record {
  command = s.command;
  index = s.index;
  address = cond (counts_adp s.command)
      (joined_count_symmetric (s.address % 65536) (a.address % 65536) (b.address % 65536) t
      + 65536 * (s.address / 65536)) s.address;
  circulating = joined_flag_symmetric s.circulating a.circulating b.circulating t;
  irq = joined_bits_symmetric s.irq a.irq b.irq t;
  payload = joined_bytes_symmetric s.payload a.payload b.payload t;
  counter = joined_count_symmetric s.counter a.counter b.counter t;
}

-- the order of the copies does not matter
pub joined_frame_symmetric : (s a b : List DatagramRecord) → joined_frame s a b ≡ joined_frame s b a
joined_frame_symmetric [] a b = refl
joined_frame_symmetric (s ∷ ss) [] [] = refl
joined_frame_symmetric (s ∷ ss) [] (y ∷ ys) = refl
joined_frame_symmetric (s ∷ ss) (x ∷ xs) [] = refl
joined_frame_symmetric (s ∷ ss) (x ∷ xs) (y ∷ ys) =
    λ t. joined_record_symmetric s x y t ∷ joined_frame_symmetric ss xs ys t

joined_bytes_unit : (s a : List ℕ) → length a ≡ length s → joined_bytes s a s ≡ a
joined_bytes_unit [] [] h = refl
joined_bytes_unit [] (x ∷ xs) h = absurd (omega arith)
joined_bytes_unit (s ∷ ss) [] h = absurd (omega arith)
joined_bytes_unit (s ∷ ss) (x ∷ xs) h = λ t. joined_bits_unit s x t ∷ joined_bytes_unit ss xs (omega arith) t

-- an ADP below the sent ADO, of the same ADO
adp_unit : (s a : ℕ) → a / 65536 ≡ s / 65536
    → joined_count (s % 65536) (a % 65536) (s % 65536) + 65536 * (s / 65536) ≡ a
adp_unit s a e =
    let low : joined_count (s % 65536) (a % 65536) (s % 65536) ≡ a % 65536 =
    joined_count_unit (s % 65536) (a % 65536) (omega arith) (omega arith) in
    rw (low, sym e) (omega arith)

joined_address_unit : (counted : Bool) (s a : ℕ) → cond counted (a / 65536) a ≡ cond counted (s / 65536) s
    → cond counted (joined_count (s % 65536) (a % 65536) (s % 65536) + 65536 * (s / 65536)) s ≡ a
joined_address_unit true s a e = adp_unit s a e
joined_address_unit false s a e = sym e

joined_record_unit : (s a : DatagramRecord) → Fits s → Fits a → belongs s a ≡ true → joined_record s a s ≡ a
joined_record_unit s a hs ha h =
    let shared = Shares-from_belongs s a h in
    let command = sym shared.command in
    let index = sym shared.index in
    let address = joined_address_unit (counts_adp s.command) s.address a.address shared.address in
    let circulating = joined_flag_unit s.circulating a.circulating in
    let irq = joined_bits_unit s.irq a.irq in
    let payload = joined_bytes_unit s.payload a.payload shared.size in
    let counter = joined_count_unit s.counter a.counter hs.counter ha.counter in
    λ t. record {
      command = command t;
      index = index t;
      address = address t;
      circulating = circulating t;
      irq = irq t;
      payload = payload t;
      counter = counter t;
    }

-- a copy that is as it was sent adds nothing
pub joined_frame_unit : (s a : List DatagramRecord) → All Fits s → All Fits a → IsOwn s a
    → joined_frame s a s ≡ a
joined_frame_unit [] [] hs ha own = refl
joined_frame_unit [] (x ∷ xs) hs ha own = absurd (omega (arith, own.count))
joined_frame_unit (s ∷ ss) [] hs ha own = absurd (omega (arith, own.count))
joined_frame_unit (s ∷ ss) (x ∷ xs) hs ha own =
    let rest : IsOwn ss xs =
    record { count = omega (arith, own.count); each = λ k inside. own.each (suc k) (omega arith) } in
    let first = joined_record_unit s x (hs 0 s (omega arith)) (ha 0 x (omega arith))
    (own.each 0 (omega arith)) in
    let others = joined_frame_unit ss xs (λ k d inside. hs (suc k) d (omega arith))
    (λ k d inside. ha (suc k) d (omega arith)) rest in
    λ t. first t ∷ others t
