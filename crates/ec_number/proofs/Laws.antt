-- The laws that crates above cite: that a number comes off again, is borne, and keeps copies apart.
use Rattle.std.specs.Prelude.{◌≡◌, ◌<◌, ℕ, ◌+◌, ◌^◌, Bool, false, List, length}
use Rattle.ec_wire.specs.Datagram.{DatagramRecord, datagram_length}
use Rattle.ec_merge.specs.Frames.{IsOwn}
use Rattle.ec_number.specs.Number.{carrying, with_number, opened, Bears, CameUnder}
use Rattle.ec_number.proofs.NumberLemmas as numbers
use Rattle.ec_number.proofs.UnderLemmas as under

-- the datagram that carries a number takes twenty bytes
pub twenty : (n : ℕ) → datagram_length (carrying false n) ≡ 20
twenty = numbers.twenty

-- a frame with a number has one datagram more
pub length-with_number : (b : Bool) (n : ℕ) (ds : List DatagramRecord)
    → length (with_number b n ds) ≡ length ds + 1
length-with_number = numbers.length-with_number

-- a number that is behind a frame comes off
pub opened-with_number : (b : Bool) (n : ℕ) (ds : List DatagramRecord) → opened (with_number b n ds) ≡ ds
opened-with_number = numbers.opened-with_number

-- a frame bears the number behind it
pub with_number-bears : (b : Bool) (n : ℕ) (ds : List DatagramRecord) → n < 2 ^ 64
    → Bears n (with_number b n ds)
with_number-bears = numbers.with_number-bears

-- a frame bears one number
pub one_borne : (m n : ℕ) (copy : List DatagramRecord) → Bears m copy → Bears n copy → m ≡ n
one_borne = under.one_borne

-- what came under a number bears it
pub under-bears : (n : ℕ) (ds copy : List DatagramRecord) → n < 2 ^ 64 → CameUnder n ds copy → Bears n copy
under-bears = under.under-bears

-- a copy came under one number
pub apart-number : (m n : ℕ) (f g copy : List DatagramRecord) → m < 2 ^ 64 → n < 2 ^ 64 → CameUnder m f copy
    → CameUnder n g copy → m ≡ n
apart-number = under.apart-number

-- a frame that is no stranger, with the number behind it, came under the number
pub own_under : (b : Bool) (n : ℕ) (ds xs : List DatagramRecord) → IsOwn ds xs
    → CameUnder n ds (with_number b n xs)
own_under = under.own_under

-- a copy that came under a number, without it, is no stranger to the frame
pub opened-own : (n : ℕ) (ds copy : List DatagramRecord) → CameUnder n ds copy → IsOwn ds (opened copy)
opened-own = under.opened-own
