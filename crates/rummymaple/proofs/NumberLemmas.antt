-- What is known of a packet that was opened under a number.
use Rattle.std.proofs.Common.{◌≡◌, ◌∙◌, ◌++◌, ℕ, List, inl, inr, sym}
use Rattle.std.specs.Prelude.{Some}
use Rattle.ec_wire.specs.Datagram.{DatagramRecord}
use Rattle.ec_wire.specs.Fault.{IsSpelt}
use Rattle.ec_wire.specs.Spelling.{IsFrameValue, spelling}
use Rattle.ec_wire.specs.declared.fault.Form.{Form}
use Rattle.ec_number.specs.Number.{CameUnder, opened}
use Rattle.rummymaple.specs.Join.{IsPut}
use Rattle.rummymaple.specs.Numbered.{IsOpened, IsOpenedUnder}
use Rattle.rummymaple.specs.declared.open.OpenEnd.TheVariants.{Opened}

-- a packet that was opened: it and the sent bytes spell frames, it came of the numbered one, and without the
-- number it is put
pub record IsTaken (form : Form) (number : ℕ) (sent packet before : List ℕ) (count : ℕ) (later : List ℕ)
    : Type 0 where
  pub frame : List DatagramRecord
  pub copy : List DatagramRecord
  pub sent_is : IsSpelt form sent frame
  pub packet_is : IsSpelt form packet copy
  pub came : CameUnder number frame copy
  pub put : IsPut (spelling (opened copy)) before count later

taken-by : (form : Form) (number : ℕ) (sent packet before later : List ℕ) (count : ℕ)
    (frame : List DatagramRecord) → IsSpelt form sent frame
    → IsOpenedUnder form number frame packet before (Opened count) later
    → IsTaken form number sent packet before count later
taken-by form number sent packet before later count frame sent_is (inl (place, inl is)) = record {
  frame = frame;
  copy = is.copy;
  sent_is = sent_is;
  packet_is = is.packet_is;
  came = is.ends.0;
  put = is.ends.1;
}
taken-by form number sent packet before later count frame sent_is (inl (place, inr none)) = absurd (cc)
taken-by form number sent packet before later count frame sent_is (inr none) = absurd (cc)

pub taken : (form : Form) (number : ℕ) (sent packet before later : List ℕ) (count : ℕ)
    → IsOpened (Some form) number sent packet before (Opened count) later
    → IsTaken form number sent packet before count later
taken form number sent packet before later count (inl is) =
    taken-by form number sent packet before later count is.frame is.sent_is is.ends
taken form number sent packet before later count (inr none) = absurd (cc)

-- where no two frames have one spelling, bytes spell one frame
pub one-value : (form : Form) (bytes : List ℕ) (rs ss : List DatagramRecord)
    → ((rs ss : List DatagramRecord) (x y : List ℕ) → IsFrameValue rs → IsFrameValue ss
    → spelling rs ++ x ≡ spelling ss ++ y → (rs ≡ ss) × (x ≡ y))
    → IsSpelt form bytes rs → IsSpelt form bytes ss → rs ≡ ss
one-value form bytes rs ss one a b =
    (one rs ss a.0 b.0 a.1.value b.1.value (sym a.1.split ∙ b.1.split)).0
