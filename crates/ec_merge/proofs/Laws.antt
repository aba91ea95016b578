-- The laws that crates above cite: on joined bytes, on joined frames and on strangers.
use Rattle.std.proofs.Common.{◌≡◌, true, ℕ, List, length, get_or, arith}
use Rattle.std.proofs.lemmas.Bool.Decides.{nat_tests}
use Rattle.ec_wire.specs.Datagram.{DatagramRecord}
use Rattle.ec_merge.specs.Rule.{joined_bits}
use Rattle.ec_merge.specs.Bytes.{joined_bytes}
use Rattle.ec_merge.specs.declared.frames.JoinFault.{JoinFault}
use Rattle.ec_merge.specs.Frames.{belongs, IsOwn, IsFault, joined_frame}
use Rattle.ec_merge.proofs.BytesLemmas as bytes
use Rattle.ec_merge.proofs.FrameLemmas as frames

-- joined bytes are as many as the sent ones
pub length-joined : (s a b : List ℕ) → length a ≡ length s → length b ≡ length s
    → length (joined_bytes s a b) ≡ length s
length-joined = bytes.length-joined

-- each joined byte is the join of the bytes at its place
pub get_or-joined : (s a b : List ℕ) (k : ℕ) → length a ≡ length s → length b ≡ length s
    → get_or (joined_bytes s a b) k 0 ≡ joined_bits (get_or s k 0) (get_or a k 0) (get_or b k 0)
get_or-joined = bytes.get_or-joined

-- a copy of the data as they were sent changes nothing
pub joined_unit : (ss xs : List ℕ) → length xs ≡ length ss → joined_bytes ss xs ss ≡ xs
joined_unit = bytes.joined_unit

-- whichever of the two it is
pub joined_unit_first : (ss xs : List ℕ) → length xs ≡ length ss → joined_bytes ss ss xs ≡ xs
joined_unit_first = bytes.joined_unit_first

-- the order of two copies does not matter
pub joined_frame_symmetric : (s a b : List DatagramRecord) → joined_frame s a b ≡ joined_frame s b a
joined_frame_symmetric = frames.joined_frame_symmetric

-- of two copies that are no strangers no fault is named
pub own_no_fault : (s a b : List DatagramRecord) → IsOwn s a → IsOwn s b → (f : JoinFault) → IsFault s a b f
    → ⊥
own_no_fault = frames.own_no_fault

-- a datagram that may have come of another has as many data
pub same_size : (s c : DatagramRecord) → belongs s c ≡ true → length c.payload ≡ length s.payload
same_size s c own = grind (arith, nat_tests)
