-- What is written of a thing is read as this thing.
use Rattle.std.proofs.Common.{◌≡◌, ◌<◌, ℕ, false, cond, eqb, List, Ok, Err, refl, ap, arith}
use Rattle.std.proofs.Common.{◌∙◌, length, lit<}
use Rattle.std.proofs.lemmas.Bool.Decides.{nat_tests}
use Rattle.std.specs.Fmt.{decimal}
use Rattle.hex.proofs.HexLemmas.{decode_of-encode_lower, length-encode_with}
use Rattle.hex.specs.Hex.{encode_lower, IsBytes, lower_digits}
use Rattle.ec_regs.specs.Al.{code_of}
use Rattle.ec_regs.specs.declared.al.AlState.{AlState}
use Rattle.ec_regs.specs.declared.al.AlState.TheVariants.{Init, PreOp, SafeOp, Op}
use Rattle.ec_app.specs.declared.value.Rights.{Rights}
use Rattle.ec_app.specs.declared.value.Rights.TheVariants.{ReadOnly, WriteOnly, Both}
use Rattle.ecat_scene.specs.declared.fault.LineFault.TheVariants.{BadNumber}
use Rattle.ecat_scene.specs.declared.written.AreaKind.{AreaKind}
use Rattle.ecat_scene.specs.declared.written.AreaKind.TheVariants.{MailboxWrite, MailboxRead, Write, Read}
use Rattle.ecat_scene.specs.declared.written.Through.{Through}
use Rattle.ecat_scene.specs.declared.written.Through.TheVariants.{Reads, Writes, ReadsAndWrites}
use Rattle.ecat_scene.specs.Lines.{area_word, rights_word, through_word}
use Rattle.ecat_scene.specs.Words.{area_of, bytes_of, decoded, rights_of, row_of, state_of}
use Rattle.ecat_scene.specs.Words.{through_of}
use Rattle.ecat_scene.proofs.NumberLemmas.{decimal-back}

pub area-back : (k : AreaKind) → area_of (area_word k) ≡ Ok k
area-back MailboxWrite = refl
area-back MailboxRead = refl
area-back Write = refl
area-back Read = refl

pub through-back : (t : Through) → through_of (through_word t) ≡ Ok t
through-back Reads = refl
through-back Writes = refl
through-back ReadsAndWrites = refl

pub rights-back : (r : Rights) → rights_of (rights_word r) ≡ Ok r
rights-back ReadOnly = refl
rights-back WriteOnly = refl
rights-back Both = refl

pub state-back : (s : AlState) → state_of (decimal (code_of s)) ≡ Ok s
unfolding state_of
state-back Init = rw (decimal-back 1 (lit< tt)) refl
state-back PreOp = rw (decimal-back 2 (lit< tt)) refl
state-back SafeOp = rw (decimal-back 4 (lit< tt)) refl
state-back Op = rw (decimal-back 8 (lit< tt)) refl

pub row-back : (bytes : List ℕ) → IsBytes bytes → 0 < length bytes → row_of (encode_lower bytes) ≡ Ok bytes
row-back bytes are some =
    let size = length-encode_with lower_digits bytes in
    let filled : eqb (length (encode_lower bytes)) 0 ≡ false = grind (arith, nat_tests) in
    ap (λ t. cond t (Err BadNumber) (bytes_of (encode_lower bytes))) filled
    ∙ ap decoded (decode_of-encode_lower bytes are)
