-- What an answer leaves in the registers: bytes, and no command.
use Rattle.std.proofs.Common.{◌≡◌, ⊎_elim, ℕ, zero, suc, ◌+◌, ◌%◌, ◌<◌, Bool, true, false}
use Rattle.std.proofs.Common.{cond, eqb, ltb, List, [], ◌∷◌, length, refl, sym, ◌∙◌, ap, subst, arith}
use Rattle.std.specs.Prelude.{not}
use Rattle.std.proofs.lemmas.Bool.{cases_Bool, eqb-true}
use Rattle.ec_regs.specs.Bits.{AreBytes}
use Rattle.ec_sii.specs.Eeprom.{asked, byte_at, eight_at, is_enabled, place, done, sii_answer, registers_after}
use Rattle.ec_sii.specs.Registers.{registers_of, registers_bytes}
use Rattle.ec_sii.specs.declared.eeprom.SiiAnswer.{SiiAnswer}
use Rattle.ec_sii.specs.declared.eeprom.SiiAnswer.TheVariants.{Idle, Given, Reloaded, Stored, Unserved}
use Rattle.ec_sii.specs.declared.eeprom.SiiAnswer.TheVariants.{NotEnabled}
use Rattle.ec_sii.specs.declared.registers.SiiRegisters.{SiiRegisters}

-- ---- bytes

-- eight bytes
bytes_eight : (a b c d e f g h : ℕ) → a < 256 → b < 256 → c < 256 → d < 256
    → e < 256 → f < 256 → g < 256 → h < 256 → AreBytes (a ∷ b ∷ c ∷ d ∷ e ∷ f ∷ g ∷ h ∷ [])
bytes_eight a b c d e f g h pa pb pc pd pe pf pg ph zero = pa
bytes_eight a b c d e f g h pa pb pc pd pe pf pg ph (suc zero) = pb
bytes_eight a b c d e f g h pa pb pc pd pe pf pg ph (suc (suc zero)) = pc
bytes_eight a b c d e f g h pa pb pc pd pe pf pg ph (suc (suc (suc zero))) = pd
bytes_eight a b c d e f g h pa pb pc pd pe pf pg ph (suc (suc (suc (suc zero)))) = pe
bytes_eight a b c d e f g h pa pb pc pd pe pf pg ph (suc (suc (suc (suc (suc zero))))) = pf
bytes_eight a b c d e f g h pa pb pc pd pe pf pg ph (suc (suc (suc (suc (suc (suc zero)))))) = pg
bytes_eight a b c d e f g h pa pb pc pd pe pf pg ph (suc (suc (suc (suc (suc (suc (suc zero))))))) = ph
bytes_eight a b c d e f g h pa pb pc pd pe pf pg ph (suc (suc (suc (suc (suc (suc (suc (suc k)))))))) =
    omega arith

byte_small : (contents : List ℕ) (at : ℕ) → AreBytes contents → byte_at contents at < 256
byte_small contents at are =
    ⊎_elim
    (λ (inside : ltb at (length contents) ≡ true). rw inside (are at))
    (λ (behind : ltb at (length contents) ≡ false). rw behind (omega arith))
    (cases_Bool (ltb at (length contents)))

-- the registers of bytes, with words of bytes and a small command, are spelt by bytes
spelt_small : (r : SiiRegisters) → r.access < 256 → r.pdi < 256 → r.control < 256 → r.command < 256
    → AreBytes r.words → AreBytes (registers_bytes r)
spelt_small r access pdi control command words zero = access
spelt_small r access pdi control command words (suc zero) = pdi
spelt_small r access pdi control command words (suc (suc zero)) = control
spelt_small r access pdi control command words (suc (suc (suc zero))) = command
spelt_small r access pdi control command words (suc (suc (suc (suc zero)))) = omega arith
spelt_small r access pdi control command words (suc (suc (suc (suc (suc zero))))) = omega arith
spelt_small r access pdi control command words (suc (suc (suc (suc (suc (suc zero)))))) = omega arith
spelt_small r access pdi control command words (suc (suc (suc (suc (suc (suc (suc zero))))))) = omega arith
spelt_small r access pdi control command words (suc (suc (suc (suc (suc (suc (suc (suc k)))))))) =
    bytes_eight _ _ _ _ _ _ _ _ (words 0) (words 1) (words 2) (words 3) (words 4) (words 5) (words 6)
    (words 7) k

eight_small : (contents : List ℕ) (at : ℕ) → AreBytes contents → AreBytes (eight_at contents at)
eight_small contents at are =
    let small : (i : ℕ) → byte_at contents i < 256 = λ i. byte_small contents i are in
    bytes_eight _ _ _ _ _ _ _ _ (small at) (small (at + 1)) (small (at + 2)) (small (at + 3)) (small (at + 4))
    (small (at + 5)) (small (at + 6)) (small (at + 7))

-- what an answer leaves is spelt by bytes
after_small : (contents : List ℕ) (r : SiiRegisters) (answer : SiiAnswer) → AreBytes contents
    → r.access < 256 → AreBytes r.words → AreBytes (registers_bytes (registers_after contents r answer))
after_small contents r Idle are access words =
    spelt_small (done r (r.command % 128)) access (omega arith) (omega arith) (omega arith) words
after_small contents r Given are access words =
    spelt_small (record (done r 0) { words = eight_at contents (place r) }) access (omega arith) (omega arith)
    (omega arith) (eight_small contents (place r) are)
after_small contents r Reloaded are access words =
    spelt_small (done r 0) access (omega arith) (omega arith) (omega arith) words
after_small contents r Stored are access words =
    spelt_small (done r 0) access (omega arith) (omega arith) (omega arith) words
after_small contents r Unserved are access words =
    spelt_small (done r 32) access (omega arith) (omega arith) (omega arith) words
after_small contents r NotEnabled are access words =
    spelt_small (done r 64) access (omega arith) (omega arith) (omega arith) words

pub answered_small : (contents bytes : List ℕ) → AreBytes contents → AreBytes bytes
    → AreBytes (registers_bytes (registers_after contents (registers_of bytes)
    (sii_answer contents (registers_of bytes))))
answered_small contents bytes are given =
    let r : SiiRegisters = registers_of bytes in
    let words : AreBytes r.words =
    bytes_eight _ _ _ _ _ _ _ _ (given 8) (given 9) (given 10) (given 11) (given 12) (given 13) (given 14)
    (given 15) in
    after_small contents r (sii_answer contents r) are (given 0) words

-- ---- an answer is given once

-- the table by its tests
abbrev table : Bool → Bool → Bool → Bool → Bool → Bool → SiiAnswer
table a b c d e f =
    cond a Idle
    (cond b Given (cond c Reloaded (cond d Unserved (cond e NotEnabled (cond f Unserved Stored)))))

-- registers without a command, whose errors are no command and below the busy bit, stay
settled : (contents : List ℕ) (r : SiiRegisters) → r.pdi ≡ 0 → r.control ≡ 64 → r.command % 8 ≡ 0
    → r.command < 128 → registers_after contents r (sii_answer contents r) ≡ r
unfolding sii_answer
settled contents r pdi control idle small =
    let none : eqb (r.command % 8) 0 ≡ true = rw idle refl in
    let low : r.command % 128 ≡ r.command = omega arith in
    ap (λ (b : Bool). registers_after contents r (table b (eqb (asked r) 1) (eqb (asked r) 4)
    (not (eqb (asked r) 2)) (not (is_enabled r)) (ltb (length contents) (place r + 2)))) none
    ∙ (λ i. record r { pdi = sym pdi i; control = sym control i; command = low i })

-- what an answer leaves is so
left_idle : (contents : List ℕ) (r : SiiRegisters) (answer : SiiAnswer) → (answer ≡ Idle → r.command % 8 ≡ 0)
    → ((registers_after contents r answer).pdi ≡ 0) × ((registers_after contents r answer).control ≡ 64)
    × ((registers_after contents r answer).command % 8 ≡ 0)
    × ((registers_after contents r answer).command < 128)
left_idle contents r Idle none = let idle = none refl in (refl, refl, omega (arith, idle), omega arith)
left_idle contents r Given none = (refl, refl, refl, omega arith)
left_idle contents r Reloaded none = (refl, refl, refl, omega arith)
left_idle contents r Stored none = (refl, refl, refl, omega arith)
left_idle contents r Unserved none = (refl, refl, refl, omega arith)
left_idle contents r NotEnabled none = (refl, refl, refl, omega arith)

-- the table answers nothing but where no command is asked for
table_idle : (a b c d e f : Bool) → table a b c d e f ≡ Idle → a ≡ true
table_idle true b c d e f idle = refl
table_idle false true c d e f idle = absurd (cc)
table_idle false false true d e f idle = absurd (cc)
table_idle false false false true e f idle = absurd (cc)
table_idle false false false false true f idle = absurd (cc)
table_idle false false false false false true idle = absurd (cc)
table_idle false false false false false false idle = absurd (cc)

idle_asked : (contents : List ℕ) (r : SiiRegisters) → sii_answer contents r ≡ Idle → r.command % 8 ≡ 0
unfolding sii_answer
idle_asked contents r idle =
    eqb-true (asked r) 0 (table_idle (eqb (asked r) 0) (eqb (asked r) 1) (eqb (asked r) 4)
    (not (eqb (asked r) 2)) (not (is_enabled r)) (ltb (length contents) (place r + 2)) idle)

pub answered_once : (first later : List ℕ) (r a : SiiRegisters)
    → a ≡ registers_after first r (sii_answer first r) → registers_after later a (sii_answer later a) ≡ a
answered_once first later r a is =
    let b : SiiRegisters = registers_after first r (sii_answer first r) in
    let left = left_idle first r (sii_answer first r) (idle_asked first r) in
    subst (λ (x : SiiRegisters). registers_after later x (sii_answer later x) ≡ x) (sym is)
    (settled later b left.0 left.1 left.2 left.3)

-- ---- a read

read_answer : (contents : List ℕ) (r : SiiRegisters) → asked r ≡ 1 → sii_answer contents r ≡ Given
unfolding sii_answer
read_answer contents r read = rw read refl

pub read_words : (contents : List ℕ) (r : SiiRegisters) → asked r ≡ 1
    → (registers_after contents r (sii_answer contents r)).words ≡ eight_at contents (place r)
read_words contents r read =
    ap (λ (answer : SiiAnswer). (registers_after contents r answer).words) (read_answer contents r read)

pub read_command : (contents : List ℕ) (r : SiiRegisters) → asked r ≡ 1
    → (registers_after contents r (sii_answer contents r)).command ≡ 0
read_command contents r read =
    ap (λ (answer : SiiAnswer). (registers_after contents r answer).command) (read_answer contents r read)
