-- A copy came of a frame under one number alone, bears it, and without it is no stranger to the frame.
use Rattle.std.specs.Prelude.{◌≡◌, ◌≤◌, ◌<◌, ℕ, zero, suc, ◌+◌, ◌-◌, ◌^◌, Bool, true, false}
use Rattle.std.specs.Prelude.{List, [], ◌∷◌, length, take, Some, refl}
use Rattle.std.specs.Int.{w64, to_le_bytes, from_le_bytes}
use Rattle.std.proofs.Common.{arith, ap, sym, ◌∙◌, ⊎_elim}
use Rattle.std.proofs.lemmas.Bool.{cases_lt}
use Rattle.std.proofs.lemmas.Bool.Decides.{nat_tests}
use Rattle.std.proofs.lemmas.List.{get_or-take}
use Rattle.std.proofs.lemmas.Nat.{from_le_bytes-to_le_bytes_8}
use Rattle.ec_wire.specs.Datagram.{DatagramRecord, nth, blank}
use Rattle.ec_merge.specs.Frames.{belongs, IsOwn}
use Rattle.ec_number.specs.Number.{carrying, with_number, numbered, opened, last_of, carries, carried_by}
use Rattle.ec_number.specs.Number.{Bears, CameUnder}
use Rattle.ec_number.proofs.NumberLemmas.{length-with_number, nth-front, nth-number, last-with_number}

-- ---- the number that came

payload_of : (b : Bool) (n : ℕ) → (carrying b n).payload ≡ to_le_bytes w64 n
unfolding carrying
payload_of b n = refl

-- what may have come of the datagram that carries a number is a NOP of eight bytes
belongs-carries : (n : ℕ) (d : DatagramRecord) → belongs (carrying false n) d ≡ true → carries d ≡ true
unfolding carrying
belongs-carries n d own = grind (arith, nat_tests)

carries-carried : (d : DatagramRecord) (n : ℕ) → n < 2 ^ 64 → carries d ≡ true → d.payload ≡ to_le_bytes w64 n
    → carried_by d ≡ Some n
carries-carried d n small does is =
    rw does (ap (λ (bytes : List ℕ). Some (from_le_bytes w64 bytes)) is ∙ ap Some (from_le_bytes-to_le_bytes_8 n small))

-- the place of a copy's last datagram
place-last : (n : ℕ) (ds copy : List DatagramRecord) → CameUnder n ds copy → length copy - 1 ≡ length ds
place-last n ds copy came = omega (arith, came.own.count, length-with_number false n ds)

last-belongs : (n : ℕ) (ds copy : List DatagramRecord) → CameUnder n ds copy
    → belongs (carrying false n) (last_of copy) ≡ true
last-belongs n ds copy came =
    let at : length copy - 1 ≡ length ds = place-last n ds copy came in
    ap (λ (d : DatagramRecord). belongs d (last_of copy)) (sym (nth-number false n ds (length copy - 1) at))
    ∙ came.own.each (length copy - 1) (omega (arith, at, length-with_number false n ds))

pub under-bears : (n : ℕ) (ds copy : List DatagramRecord) → n < 2 ^ 64 → CameUnder n ds copy → Bears n copy
under-bears n ds copy small came =
    carries-carried (last_of copy) n small
    (belongs-carries n (last_of copy) (last-belongs n ds copy came))
    (came.number ∙ ap (λ (d : DatagramRecord). d.payload) (last-with_number false n ds) ∙ payload_of false n)

-- ---- one number a copy

some-is : (m n : ℕ) → Some m ≡ Some n → m ≡ n
some-is m n is = cc

pub one_borne : (m n : ℕ) (copy : List DatagramRecord) → Bears m copy → Bears n copy → m ≡ n
one_borne m n copy is_m is_n = some-is m n (sym is_m ∙ is_n)

pub apart-number : (m n : ℕ) (f g copy : List DatagramRecord) → m < 2 ^ 64 → n < 2 ^ 64 → CameUnder m f copy
    → CameUnder n g copy → m ≡ n
apart-number m n f g copy in_m in_n of_f of_g =
    one_borne m n copy (under-bears m f copy in_m of_f) (under-bears n g copy in_n of_g)

-- ---- what came

carrying_belongs : (b : Bool) (n : ℕ) → belongs (carrying false n) (carrying b n) ≡ true
unfolding carrying
carrying_belongs b n = refl

-- a frame that is no stranger, with the number behind it, came under the number
pub own_under : (b : Bool) (n : ℕ) (ds xs : List DatagramRecord) → IsOwn ds xs
    → CameUnder n ds (with_number b n xs)
own_under b n ds xs own =
    let same : length xs ≡ length ds = own.count in
    record {
      own = record {
        count = length-with_number b n xs ∙ ap (λ (k : ℕ). k + 1) same
            ∙ sym (length-with_number false n ds);
        each = λ k inside.
            ⊎_elim
            (λ (front : k < length ds).
            rw (nth-front false n ds k front, nth-front b n xs k (omega (arith, front, same))) (own.each k front))
            (λ (last : length ds ≤ k).
            let here : k ≡ length ds = omega (arith, inside, length-with_number false n ds, last) in
            rw (nth-number false n ds k here, nth-number b n xs k (here ∙ sym same)) (carrying_belongs b n))
            (cases_lt k (length ds));
      };
      number = ap (λ (d : DatagramRecord). d.payload) (last-with_number b n xs) ∙ payload_of b n
          ∙ sym (ap (λ (d : DatagramRecord). d.payload) (last-with_number false n ds) ∙ payload_of false n);
    }

length-taken : (k : ℕ) (xs : List DatagramRecord) → k ≤ length xs → length (take k xs) ≡ k
length-taken zero xs room = refl
length-taken (suc k) [] room = absurd (omega (arith, room))
length-taken (suc k) (x ∷ xs) room = ap suc (length-taken k xs (omega (arith, room)))

-- a copy that came under a number, without it, is no stranger to the frame
pub opened-own : (n : ℕ) (ds copy : List DatagramRecord) → CameUnder n ds copy → IsOwn ds (opened copy)
opened-own n ds copy came =
    let less : length copy - 1 ≡ length ds = place-last n ds copy came in
    record {
      count = ap (λ (k : ℕ). length (take k copy)) less
          ∙ length-taken (length ds) copy (omega (arith, less));
      each = λ k inside.
          let at : nth (opened copy) k ≡ nth copy k =
          get_or-take (length copy - 1) copy k blank (omega (arith, less, inside)) in
          let is : belongs (nth (numbered n ds) k) (nth copy k) ≡ true =
          came.own.each k (omega (arith, inside, length-with_number false n ds)) in
          ap (λ (d : DatagramRecord). belongs (nth ds k) d) at
          ∙ ap (λ (d : DatagramRecord). belongs d (nth copy k)) (sym (nth-front false n ds k inside)) ∙ is;
    }
